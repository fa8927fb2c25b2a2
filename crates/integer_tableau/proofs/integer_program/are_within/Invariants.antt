use Rattle.std.proofs.Common.{◌-◌, ℕ, ◌<◌, [], get_or}
use Rattle.integer_tableau.specs.Numbers.{IsWithin}
use Rattle.integer_tableau.specs.Range.{size_limit}
use Rattle.integer_tableau.proofs.integer_program.are_within.Given as goal

abbrev pub invariant-loop-row : goal.invariant-loop-row
invariant-loop-row l = (v : ℕ) → v < l.row-index → IsWithin (size_limit - 1) (get_or l.rows v [])
