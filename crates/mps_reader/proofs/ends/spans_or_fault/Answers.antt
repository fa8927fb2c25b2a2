use Rattle.std.proofs.Common.{◌≡◌, false, ℕ, List, Result, Ok, Err, is_ok, is_err, cond, refl, sym, ap, subst, ◌∙◌, ◌+◌}
use Rattle.problem_box.specs.declared.span.Span.{Span}
use Rattle.mps_reader.proofs.Ended.{AreFineBefore, column_stops, fine_more}
use Rattle.mps_reader.specs.BoundTables.{summary_in}
use Rattle.mps_reader.specs.Meaning.{column_end_fault, spans_of, span, unless_fault}
use Rattle.mps_reader.specs.Tables.{table}
use Rattle.mps_reader.specs.declared.kinds.Column.{Column}
use Rattle.mps_reader.proofs.ends.spans_or_fault.Goals as goal

pushed : {A E X : Type 0} (r : Result A E) (x y : List X) → false ≡ is_err r → cond (is_ok r) x y ≡ x
pushed (Ok a) x y h = refl
pushed (Err e) x y h = cc

pub returns-in-Err-clause-fault : goal.returns-in-Err-clause-fault
returns-in-Err-clause-fault g c =
    let bounds = summary_in (table c.args.bounds.now.limits.entries) in
    let columns = table c.args.columns.now.entries in
    let column : List ℕ × Column = (c.column_at.result.0.now, c.column_at.result.1) in
    ap (λ o. unless_fault o (spans_of c.args.upper bounds columns))
    (column_stops c.args.upper bounds columns c.loop-index.spans.items c.loop-index.index c.loop-index.invariant column c.column_at.ensures c.in-Err.kind
    (ap (column_end_fault c.args.upper column.1.is_marked) (sym c.limits_of.ensures) ∙ c.in-Err.ensures.fault))

pub loop-index-preserved : goal.loop-index-preserved
loop-index-preserved g c =
    let bounds = summary_in (table c.args.bounds.now.limits.entries) in
    let columns = table c.args.columns.now.entries in
    let column : List ℕ × Column = (c.column_at.result.0.now, c.column_at.result.1) in
    subst (λ (ss : List Span). AreFineBefore c.args.upper bounds columns ss (c.loop-index.index + 1)) (sym (c.push.ensures.items ∙ pushed c.push.result _ _ c.if-is_err.ensures.value))
    (fine_more c.args.upper bounds columns c.loop-index.spans.items c.loop-index.index c.loop-index.invariant column c.column_at.ensures c.in-Ok.span
    (ap (column_end_fault c.args.upper column.1.is_marked) (sym c.limits_of.ensures) ∙ c.in-Ok.ensures.fine)
    (c.in-Ok.ensures.span ∙ ap (span c.args.upper) c.limits_of.ensures))
