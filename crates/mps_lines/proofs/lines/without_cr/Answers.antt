use Rattle.std.proofs.Common.{◌-◌, length, arith, sym, ne_eqb}
use Rattle.mps_lines.proofs.Ends.{cr_cut, cr_kept}
use Rattle.mps_lines.proofs.lines.without_cr.Goals as goal

pub returns-then-line-last-eq13 : goal.returns-then-line-last-eq13
returns-then-line-last-eq13 c = sym (cr_cut c.args.line.now (length c.args.line.now - 1) (grind arith) c.if-line-last-eq13.true)

pub returns-else-line-last-eq13 : goal.returns-else-line-last-eq13
returns-else-line-last-eq13 c = sym (cr_kept c.args.line.now (length c.args.line.now - 1) (grind arith) (ne_eqb _ 13 c.if-line-last-eq13.false))
