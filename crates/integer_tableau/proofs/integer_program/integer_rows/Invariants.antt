use Rattle.std.proofs.Common.{◌≡◌, ℕ, ◌<◌, [], length, map, take, get_or}
use Rattle.fraction.specs.Rational.{whole}
use Rattle.integer_tableau.proofs.integer_program.integer_rows.Given as goal

abbrev pub invariant-loop-i : goal.invariant-loop-i
invariant-loop-i l = record {
  value : map (map whole) l.rows.items ≡ take l.i l.program.rows;
  width : (j : ℕ) → j < length l.rows.items → length (get_or l.rows.items j []) ≡ length l.program.costs;
}
