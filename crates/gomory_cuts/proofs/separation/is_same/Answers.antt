use Rattle.std.proofs.Common.{sym, ◌∙◌}
use Rattle.gomory_cuts.proofs.Steps.{same_end}
use Rattle.gomory_cuts.proofs.separation.is_same.Goals as goal

pub returns : goal.returns
returns c = sym (same_end c.args.a.now c.args.b.now c.loop-i.i c.loop-i-test.false c.loop-i.invariant.below c.loop-i.invariant.within) ∙ c.loop-i.invariant.rest
