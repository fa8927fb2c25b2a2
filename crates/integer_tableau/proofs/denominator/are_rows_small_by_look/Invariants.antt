use Rattle.std.proofs.Common.{ℕ, ◌+◌, ◌<◌, ◌≤◌, [], length, nat_abs, get_or}
use Rattle.integer_tableau.specs.Combined.{combined_value, value_numerator}
use Rattle.integer_tableau.specs.Numbers.{number_at}
use Rattle.integer_tableau.specs.Range.{size_limit}
use Rattle.integer_tableau.specs.declared.position.Position.TheVariants.{InBasis}
use Rattle.integer_tableau.proofs.denominator.are_rows_small_by_look.Given as goal

abbrev pub invariant-loop-i : goal.invariant-loop-i
invariant-loop-i l = (j : ℕ) → j < l.i → nat_abs (value_numerator l.denominator (get_or l.positions (length l.values + j) InBasis) (number_at l.nonbasic_values (length l.values + j))
    (combined_value l.denominator (get_or l.program_rows j []) l.positions l.nonbasic_values l.values)) ≤ size_limit
