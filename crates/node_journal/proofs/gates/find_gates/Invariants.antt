use Rattle.std.proofs.Common.{◌-◌, length}
use Rattle.node_journal.specs.Index.{IsIndexed}
use Rattle.node_journal.proofs.gates.find_gates.Given as goal

abbrev pub invariant-loop-size : goal.invariant-loop-size
invariant-loop-size l = IsIndexed l.file l.places.items l.gate

abbrev pub decreases-loop-size : goal.decreases-loop-size
decreases-loop-size l = length l.file - l.gate
