use Rattle.std.proofs.Common.{◌≡◌, drop}
use Rattle.node_pool.specs.Halting.{spends}
use Rattle.node_pool.proofs.commit.spends.Given as goal

abbrev pub invariant-loop-event : goal.invariant-loop-event
invariant-loop-event l = spends l.budget l.nodes (drop l.event-index l.events) ≡ spends l.budget l.nodes l.events
