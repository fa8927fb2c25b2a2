use Rattle.std.proofs.Common.{◌≡◌, ◌*◌, ◌≤◌, sum, take}
use Rattle.drill_instance.proofs.instance.Row.capacity.Given as goal

abbrev pub invariant-loop-weight : goal.invariant-loop-weight
invariant-loop-weight l = (l.sum ≤ 255 * l.weight-index) × (l.sum ≡ sum (take l.weight-index l.weight-items))
