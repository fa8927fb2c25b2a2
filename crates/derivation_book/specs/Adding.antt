-- A multiple of one row more, over all columns.
use Rattle.std.specs.Prelude.{ℕ, ◌+◌, List, [], ◌∷◌, Option, Some, option_map}
use Rattle.std.specs.Option.{option_and_then}
use Rattle.fraction.specs.Rational.{ℚ}
use Rattle.problem.specs.declared.row.Row.{Row}
use Rattle.problem.specs.Linear.{Terms, coefficient}
use Rattle.derivation_book.specs.Sums.{with_product, Sums, sums_of}

-- sums of the columns from j on, each with the multiple of the terms' coefficient there
abbrev pub columns_added : List ℚ → ℕ → ℚ → Terms → Option (List ℚ)
columns_added [] j m ts = Some []
columns_added (s ∷ ss) j m ts = option_and_then (λ t. option_map (λ us. t ∷ us) (columns_added ss (j + 1) m ts)) (with_product s m (coefficient ts j))

-- the sums with m times a row more; none where a step is cramped
abbrev pub row_added : Sums → ℚ → Row → Option Sums
row_added q m r = option_and_then (λ cs. option_map (sums_of cs) (with_product q.side m r.rhs)) (columns_added q.coefficients 0 m r.terms)
