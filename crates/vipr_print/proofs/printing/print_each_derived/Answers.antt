use Rattle.std.proofs.Common.{◌<◌, length, arith}
use Rattle.vipr_print.specs.Spelling.{derived_line}
use Rattle.vipr_print.proofs.Sequence.{printed-more, printed-broken, handed_on}
use Rattle.vipr_print.proofs.printing.print_each_derived.Goals as goal

pub returns-in_err-print_derived : goal.returns-in_err-print_derived
returns-in_err-print_derived g c = rw (handed_on _ _ c.from_residual.ensures.1)
    (printed-broken _ _ _ _ _ _ _ derived_line c.args.derived.now c.loop-one.one-index c.one-item.result _ (let l : c.loop-one.one-index < length c.args.derived.now = omega arith in l) c.one-item.is c.loop-one.invariant c.in_err-print_derived.ensures)

pub loop-one-preserved : goal.loop-one-preserved
loop-one-preserved g c =
    printed-more _ _ _ _ _ _ _ derived_line c.args.derived.now c.loop-one.one-index c.one-item.result (let l : c.loop-one.one-index < length c.args.derived.now = omega arith in l) c.one-item.is c.loop-one.invariant c.in_ok-print_derived.ensures
