use Rattle.std.proofs.Common.{◌≡◌, ℕ, ◌+◌, ◌<◌, ◌-◌, [], length, get_or, nat_abs}
use Rattle.integer_tableau.specs.Combined.{combined_row}
use Rattle.integer_tableau.specs.Numbers.{IsWithin}
use Rattle.integer_tableau.specs.Range.{size_limit}
use Rattle.integer_tableau.specs.declared.position.Position.TheVariants.{InBasis}
use Rattle.integer_tableau.proofs.combined_sizes.are_small_by_look.Given as goal

abbrev pub invariant-loop-i : goal.invariant-loop-i
invariant-loop-i l = (j : ℕ) → j < l.i → get_or l.positions (length l.rows + j) InBasis ≡ InBasis → IsWithin (size_limit - 1) (combined_row (nat_abs l.denominator) l.positions l.rows (get_or l.program_rows j []))
