use Rattle.std.proofs.Common.{◌≡◌, ◌∷◌, Err, sym, ap, subst, refl, ◌∙◌}
use Rattle.mps_lines.specs.Left.{left, seen, with_first}
use Rattle.mps_reader.specs.TextTables.{IsFaultOf}
use Rattle.mps_reader.proofs.TextTables.{follow_end, follow_fault, follow_last}
use Rattle.mps_reader.specs.declared.kinds.Kind.TheVariants as kind
use Rattle.mps_reader.specs.declared.reading.ReadFault.{ReadFault}
use Rattle.mps_reader.proofs.reading.read_sections.Goals as goal
use Rattle.mps_reader.specs.Reading.{sections_in}

pub returns-in-Ok-true-clause-read : goal.returns-in-Ok-true-clause-read
returns-in-Ok-true-clause-read g c =
    let old = c.loop-line.lines in
    let rest = c.next.new.self in
    let line = seen c.in-Ok-Some.line in
    let h = c.loop-line.invariant.followed in
    let e : left old ≡ line ∷ left rest = c.in-Ok-Some.ensures.lines ∙ ap (λ o. with_first o (left rest)) c.in-Ok-Some.field-0-is in
    let k = (c.in-Ok-true.ensures.line h.s h.tables).0 in
    follow_last c.args.text.now c.loop-line.tables c.step.new.tables old rest line h e (k.0, sym c.in-Ok-true.field-0-test ∙ k.1, k.2)

pub returns-in-Err-step-clause-refused : goal.returns-in-Err-step-clause-refused
returns-in-Err-step-clause-refused g c =
    let old = c.loop-line.lines in
    let rest = c.next.new.self in
    let line = seen c.in-Ok-Some.line in
    let h = c.loop-line.invariant.followed in
    let e : left old ≡ line ∷ left rest = c.in-Ok-Some.ensures.lines ∙ ap (λ o. with_first o (left rest)) c.in-Ok-Some.field-0-is in
    subst (λ (f : ReadFault). IsFaultOf f (sections_in c.args.text.now)) (sym c.fault_at.ensures)
    (follow_fault c.args.text.now c.loop-line.tables c.step.new.tables old rest line h e c.in-Err-step.stop (c.in-Err-step.ensures.line h.s h.tables).1)

pub returns-in-Ok-None-clause-refused : goal.returns-in-Ok-None-clause-refused
returns-in-Ok-None-clause-refused g c =
    let e = rw c.in-Ok-None.field-0-is at c.in-Ok-None.ensures.end in
    follow_end c.args.text.now c.loop-line.tables c.loop-line.lines c.loop-line.invariant.followed (e refl) ∙ ap (λ n. Err (n, kind.NoEnd)) (sym c.line_count.ensures)
