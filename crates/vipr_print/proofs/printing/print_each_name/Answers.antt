use Rattle.std.proofs.Common.{◌<◌, length, arith}
use Rattle.vipr_print.specs.Spelling.{name_line}
use Rattle.vipr_print.proofs.Sequence.{printed-more, printed-broken, handed_on, element_is}
use Rattle.vipr_print.proofs.printing.print_each_name.Goals as goal

pub returns-in_err-print_name : goal.returns-in_err-print_name
returns-in_err-print_name g c = rw (handed_on _ _ c.from_residual.ensures.1)
    (printed-broken _ _ _ _ _ _ _ name_line c.args.names.now c.loop-j.j c.name.result.now _ (let l : c.loop-j.j < length c.args.names.now = omega (arith, c.len-j-end.ensures) in l) (element_is c.args.names.now c.loop-j.j c.name.result.now c.name.ensures) c.loop-j.invariant c.in_err-print_name.ensures)

pub loop-j-preserved : goal.loop-j-preserved
loop-j-preserved g c =
    printed-more _ _ _ _ _ _ _ name_line c.args.names.now c.loop-j.j c.name.result.now (let l : c.loop-j.j < length c.args.names.now = omega (arith, c.len-j-end.ensures) in l) (element_is c.args.names.now c.loop-j.j c.name.result.now c.name.ensures) c.loop-j.invariant c.in_ok-print_name.ensures
