use Rattle.std.proofs.Common.{ℕ, ◌<◌, ◌≤◌, nat_abs, get_or}
use Rattle.integer_tableau.specs.Combined.{value_numerator}
use Rattle.integer_tableau.specs.Numbers.{number_at}
use Rattle.integer_tableau.specs.declared.position.Position.TheVariants.{InBasis}
use Rattle.integer_tableau.proofs.denominator.greatest_numerator.Given as goal

abbrev pub invariant-loop-j : goal.invariant-loop-j
invariant-loop-j l = (u : ℕ) → u < l.j → nat_abs (value_numerator l.denominator (get_or l.positions u InBasis) (number_at l.nonbasic_values u) (number_at l.values u)) ≤ l.greatest
