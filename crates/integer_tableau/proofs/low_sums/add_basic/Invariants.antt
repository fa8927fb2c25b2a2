use Rattle.std.proofs.Common.{◌≡◌, ℕ, ◌<◌, length, ◌+ℤ◌, drop}
use Rattle.std.specs.Int.{w64, int_wrap}
use Rattle.integer_tableau.specs.Arena.{basic_sum}
use Rattle.integer_tableau.specs.Numbers.{number_at}
use Rattle.integer_tableau.proofs.low_sums.add_basic.Given as goal

abbrev pub invariant-loop-index : goal.invariant-loop-index
invariant-loop-index l = (k : ℕ) → k < length l.initial.sums →
    int_wrap w64 (number_at l.sums k +ℤ basic_sum (length l.initial.sums) l.coefficients l.rows k l.index (drop l.index l.basic_columns))
    ≡ int_wrap w64 (number_at l.initial.sums k +ℤ basic_sum (length l.initial.sums) l.coefficients l.rows k 0 l.basic_columns)
