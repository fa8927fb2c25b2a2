use Rattle.std.proofs.Common.{◌≡◌, take, false}
use Rattle.outside.specs.Images.{is_in_ranges}
use Rattle.outside.proofs.replayed.is_covered.Given as goal

abbrev pub invariant-loop-range : goal.invariant-loop-range
invariant-loop-range l = is_in_ranges (take l.range-index l.ranges) l.place ≡ false
