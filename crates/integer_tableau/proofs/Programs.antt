-- Linear programs of whole numbers.
use Rattle.std.proofs.Common.{◌≡◌, ℕ, refl, ap, sym, ◌∙◌, Option, Some, None, List, [], ◌∷◌, ◌++◌, length, drop}
use Rattle.std.specs.Prelude.{ℤ, map, All, IfSome}
use Rattle.std.specs.Option.{option_map}
use Rattle.std.proofs.lemmas.List.{length-map, map-append, drop-map}
use Rattle.std.proofs.lemmas.List.Elements.{All-nil, All-cons}
use Rattle.fraction.specs.Rational.{whole}
use Rattle.fraction.specs.Whole.{IsWhole}
use Rattle.fraction.specs.Lemmas.Bounds.{whole_parts}
use Rattle.problem_box.specs.declared.span.Span.{Span}
use Rattle.tableau.specs.LinearProgram.{over, span_bounds}
use Rattle.tableau.specs.WellFormed.{HasWholeBounds, IsIntegral}
use Rattle.integer_tableau.specs.IntegerProgram.{column_bounds, fraction_program}
use Rattle.integer_tableau.specs.IntegerTableau.{fraction_bounds}
use Rattle.integer_tableau.specs.declared.integer_bounds.IntegerBounds.{IntegerBounds}

-- ---- all numbers are whole
is_whole : (z : ℤ) → IsWhole (whole z)
is_whole z = (whole_parts z).1

all_whole : (zs : List ℤ) → All IsWhole (map whole zs)
all_whole [] = All-nil IsWhole
all_whole (z ∷ zs) = All-cons IsWhole (whole z) (map whole zs) (is_whole z) (all_whole zs)

all_rows_whole : (rows : List (List ℤ)) → All (All IsWhole) (map (map whole) rows)
all_rows_whole [] = All-nil (All IsWhole)
all_rows_whole (row ∷ rows) = All-cons (All IsWhole) (map whole row) (map (map whole) rows) (all_whole row) (all_rows_whole rows)

all_bounds_whole : (bounds : List IntegerBounds) → All HasWholeBounds (map fraction_bounds bounds)
all_bounds_whole [] = All-nil HasWholeBounds
all_bounds_whole (b ∷ bounds) = All-cons HasWholeBounds (fraction_bounds b) (map fraction_bounds bounds) (record { lower = end b.lower; upper = end b.upper }) (all_bounds_whole bounds)
  where
    end : (o : Option ℤ) → IfSome (option_map whole o) IsWhole
    end None = tt
    end (Some z) = is_whole z

pub program_is_integral : (rows : List (List ℤ)) (costs : List ℤ) (bounds : List IntegerBounds) (numbers : List ℕ) → IsIntegral (fraction_program rows costs bounds numbers)
program_is_integral rows costs bounds numbers = record { rows = all_rows_whole rows; costs = all_whole costs; bounds = all_bounds_whole bounds }

-- ---- over another box
columns_are : (area : List Span) → map fraction_bounds (map column_bounds area) ≡ map span_bounds area
columns_are [] = refl
columns_are (s ∷ area) = ap (λ bs. span_bounds s ∷ bs) (columns_are area)

pub program_over : (rows : List (List ℤ)) (costs : List ℤ) (bounds : List IntegerBounds) (numbers : List ℕ) (area : List Span)
    → over (fraction_program rows costs bounds numbers) area ≡ fraction_program rows costs (map column_bounds area ++ drop (length costs) bounds) numbers
program_over rows costs bounds numbers area = λ i. record {
  rows = map (map whole) rows;
  costs = map whole costs;
  bounds = bounds_are i;
  numbers = numbers;
}
  where
    bounds_are : map span_bounds area ++ drop (length (map whole costs)) (map fraction_bounds bounds) ≡ map fraction_bounds (map column_bounds area ++ drop (length costs) bounds)
    bounds_are =
        (λ i. sym (columns_are area) i ++ (ap (λ n. drop n (map fraction_bounds bounds)) (length-map costs whole) ∙ drop-map fraction_bounds (length costs) bounds) i)
        ∙ sym (map-append fraction_bounds (map column_bounds area) (drop (length costs) bounds))
