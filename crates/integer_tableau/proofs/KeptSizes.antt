-- The combinations of a dictionary's rows are small where its numbers are.
use Rattle.std.proofs.Common.{◌≡◌, ℕ, ◌+◌, ◌*◌, ◌<◌, ◌≤◌, arith, sym, subst, List, [], length, get_or, Option, None, Some}
use Rattle.std.specs.Prelude.{ℤ, nat_abs, nat_eq, slice_range}
use Rattle.std.specs.List.{position}
use Rattle.integer_tableau.proofs.Arenas.{row_at, rows_many, within_piece, within_weaker}
use Rattle.integer_tableau.proofs.Behind.{rows_within}
use Rattle.integer_tableau.proofs.Combining.{combination_small}
use Rattle.integer_tableau.specs.Arena.{flat_row_if_there, positions_by, rows_by}
use Rattle.integer_tableau.specs.Kept.{AreCombinationsSmall, IsInLists, KeptDictionary, kept_in, rows_of}
use Rattle.integer_tableau.specs.Numbers.{IsWithin, total_size}
use Rattle.integer_tableau.specs.Range.{size_limit}
use Rattle.integer_tableau.specs.declared.dictionary.Dictionary.{Dictionary}

row_if_there : (most width : ℕ) (numbers : List ℤ) → IsWithin most numbers → (o : Option ℕ) → IsWithin most (flat_row_if_there width numbers o)
row_if_there most width numbers w None = λ k. omega arith
row_if_there most width numbers w (Some p) = within_piece most (p * width) (p * width + width) numbers w

-- each row is within what all numbers are
pub rows_each : (most width : ℕ) (js : List ℕ) (numbers : List ℤ) → IsWithin most numbers → (v : ℕ) → v < length (rows_by width js numbers) → IsWithin most (get_or (rows_by width js numbers) v [])
rows_each most width js numbers w v l =
    subst (IsWithin most) (sym (row_at width js numbers v (omega (arith, l, rows_many width js numbers)))) (row_if_there most width numbers w (position (nat_eq v) js))

pub small_by_size : (ps : List (List ℤ)) (weight variables width : ℕ) (ns : List ℤ) (bs vs : List ℕ) (own : Dictionary) (k : KeptDictionary) → k ≡ kept_in variables width ns bs vs own → IsInLists width ns bs vs own
    → ((i : ℕ) → i < length ps → total_size (get_or ps i []) ≤ weight) → (size : ℕ) → own.size ≤ size → nat_abs own.divisor.number ≤ size → weight * size < size_limit → AreCombinationsSmall ps k
small_by_size ps weight variables width ns bs vs own k e there weights size own_small denominator_small fits = subst (AreCombinationsSmall ps) (sym e) (λ i l basic.
    combination_small (nat_abs own.divisor.number) weight (get_or ps i []) (positions_by variables (slice_range vs own.nonbasic (own.nonbasic + width)))
    (rows_by width (slice_range bs own.basic_columns (own.basic_columns + own.count)) (rows_of width ns own)) (weights i l) (
      size,
      denominator_small,
      rows_each size width (slice_range bs own.basic_columns (own.basic_columns + own.count)) (rows_of width ns own) (within_weaker own.size size (rows_of width ns own) own_small (rows_within width ns own there.within)),
      fits,
    ))
