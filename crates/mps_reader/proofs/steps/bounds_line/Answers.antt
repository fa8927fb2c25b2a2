use Rattle.std.proofs.Common.{◌≡◌, sym, ap, subst, refl, ◌∙◌}
use Rattle.std.proofs.lemmas.Result.{on_ok_weaker, IfErr-weaker}
use Rattle.mps_lines.specs.Left.{seen}
use Rattle.mps_reader.specs.BoundTables.{HasBounds}
use Rattle.mps_reader.specs.Faults.{bound_line_fault}
use Rattle.mps_reader.proofs.SectionTables.{bounds_hold}
use Rattle.mps_reader.specs.Sections.{bound_at, bounds_of, entries_of, with_bound}
use Rattle.mps_reader.proofs.Stopping.{stops_same}
use Rattle.mps_reader.specs.Tables.{Stops, texts}
use Rattle.mps_reader.proofs.steps.bounds_line.Goals as goal

pub returns-clause-line : goal.returns-clause-line
returns-clause-line g c s h l =
    let st = c.args.tables.now in
    let line = seen c.args.line.now in
    let fields = texts c.as_slice-fields.result.now in
    let entries = entries_of s.columns in
    let bounds = bounds_of s.bounds in
    let v : fields ≡ line.fields = ap texts c.as_slice-fields.ensures.value in
    let e : bound_line_fault entries bounds (bound_at fields) ≡ bound_line_fault entries bounds (bound_at line.fields) = ap (λ fs. bound_line_fault entries bounds (bound_at fs)) v in (
      on_ok_weaker c.take_line.result
          (λ t. (sym e ∙ t.0, bounds_hold st (record st { bounds = c.take_line.new.self }) s line h refl (subst (λ fs. HasBounds c.take_line.new.self (with_bound (bound_at fs) bounds)) v t.1)))
          (c.take_line.ensures.ok entries bounds h.entries.columns h.bounds),
      IfErr-weaker c.take_line.result (λ t. Stops t (bound_line_fault entries bounds (bound_at fields))) (λ t. Stops t (bound_line_fault entries bounds (bound_at line.fields)))
          (λ t k. stops_same t (bound_line_fault entries bounds (bound_at fields)) (bound_line_fault entries bounds (bound_at line.fields)) e k)
          (c.take_line.ensures.err entries bounds h.entries.columns h.bounds),
    )
