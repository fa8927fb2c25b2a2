use Rattle.std.proofs.Common.{rules, sym}
use Rattle.mps_lines.proofs.ValueLemmas.{finite_value}
use Rattle.mps_lines.proofs.values.value_of.Goals as goal

pub returns-in-Ok : goal.returns-in-Ok
returns-in-Ok c = finite_value c.args.field.now c.in-Ok.number (search rules) (sym c.in-Ok.ensures)
