use Rattle.std.proofs.Common.{refl, sym, ◌∙◌}
use Rattle.mps_lines.specs.Left.{seen}
use Rattle.mps_reader.specs.Faults.{line_fault, section_fault}
use Rattle.mps_reader.proofs.SectionTables.{bad_field, data_holds, fault_by_section}
use Rattle.mps_reader.proofs.Stopping.{stops_same}
use Rattle.mps_reader.proofs.steps.data_line.Goals as goal

pub returns-then-has_bad_field-clause-line : goal.returns-then-has_bad_field-clause-line
returns-then-has_bad_field-clause-line g c d s h =
    let st = c.args.tables.now in
    (tt, bad_field s (seen c.args.line.now) d st.order.last h.order.last (sym c.has_bad_field.ensures ∙ c.if-has_bad_field.true))

pub returns-in-Ok-clause-line : goal.returns-in-Ok-clause-line
returns-in-Ok-clause-line g c d s h =
    let st = c.args.tables.now in
    (data_holds st c.section_line.new.tables s (seen c.args.line.now) h d (sym c.has_bad_field.ensures ∙ c.if-has_bad_field.false) (c.in-Ok.ensures.line s h refl).0, tt)

pub returns-in-Err-clause-line : goal.returns-in-Err-clause-line
returns-in-Err-clause-line g c d s h =
    let st = c.args.tables.now in
    let line = seen c.args.line.now in
    let e = fault_by_section s line d st.order.last h.order.last (sym c.has_bad_field.ensures ∙ c.if-has_bad_field.false) in
    (tt, stops_same c.in-Err.stop (section_fault st.order.last s line) (line_fault s line) (sym e) (c.in-Err.ensures.line s h refl).1)
