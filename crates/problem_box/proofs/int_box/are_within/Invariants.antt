use Rattle.std.proofs.Common.{◌≡◌, drop}
use Rattle.problem_box.specs.Boxes.{is_in_box}
use Rattle.problem_box.proofs.int_box.are_within.Given as goal

abbrev pub invariant-loop-j : goal.invariant-loop-j
invariant-loop-j l = is_in_box (drop l.j l.spans) (drop l.j l.point) ≡ is_in_box l.spans l.point
