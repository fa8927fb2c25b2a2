use Rattle.std.proofs.Common.{subst}
use Rattle.turn_lock.specs.Lists.{list_in}
use Rattle.turn_lock.specs.SeatSteps.{Takes}
use Rattle.turn_lock.proofs.enter.wait_for_turn.Goals as goal

pub returns-then-look-clause-told : goal.returns-then-look-clause-told
returns-then-look-clause-told g c = subst (λ m. Takes (list_in g.V.Kept.list) g.V.Kept.name m c.look.new.place.me) c.loop.invariant.1 c.if-look.ensures.told
