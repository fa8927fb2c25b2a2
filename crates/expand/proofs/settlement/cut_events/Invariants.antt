use Rattle.std.proofs.Common.{◌≡◌, ◌++◌, map}
use Rattle.std.specs.Vec.Iter.{into_iter_items}
use Rattle.node_events.specs.declared.event.Event.TheVariants.{Cut}
use Rattle.expand.proofs.settlement.cut_events.Given as goal

abbrev pub invariant-loop-mult : goal.invariant-loop-mult
invariant-loop-mult l = l.events.items ++ map Cut (into_iter_items l.mult-iterator) ≡ map Cut l.fn.mults
