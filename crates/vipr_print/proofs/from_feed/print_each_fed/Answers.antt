use Rattle.vipr_print.proofs.Feeding.{came, fed-more, fed-broken}
use Rattle.vipr_print.proofs.Sequence.{handed_on}
use Rattle.vipr_print.proofs.from_feed.print_each_fed.Goals as goal

pub lines-preserved : goal.lines-preserved
lines-preserved g c =
    fed-more _ _ _ _ _ _ _ _ _ c.lines.invariant c.in-Ok-Some.derived _ (came _ _ _ _ c.in-Ok-Some.ensures c.in-Ok-Some.field-0-is) c.in_ok-print_and_drop-in-Ok-Some.ensures.short c.in_ok-print_and_drop-in-Ok-Some.ensures.printed

pub returns-in_err-print_and_drop-in-Ok-Some-clause-printed : goal.returns-in_err-print_and_drop-in-Ok-Some-clause-printed
returns-in_err-print_and_drop-in-Ok-Some-clause-printed g c = rw (handed_on _ _ c.from_residual.ensures.1)
    (fed-broken _ _ _ _ _ _ _ _ _ c.lines.invariant c.in-Ok-Some.derived _ _ (came _ _ _ _ c.in-Ok-Some.ensures c.in-Ok-Some.field-0-is) c.in_err-print_and_drop-in-Ok-Some.ensures.printed)
