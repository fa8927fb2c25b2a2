use Rattle.std.proofs.Common.{ℕ, ◌<◌, ◌≤◌, ◌-◌, nat_abs}
use Rattle.integer_tableau.specs.Numbers.{number_at}
use Rattle.integer_tableau.specs.Range.{size_limit}
use Rattle.integer_tableau.proofs.combined_sizes.are_small.Given as goal

abbrev pub invariant-loop-number : goal.invariant-loop-number
invariant-loop-number l = (k : ℕ) → k < l.number-index → nat_abs (number_at l.numbers k) ≤ size_limit - 1
