-- What whole numbers promise: within these sizes no operation of fractions is cramped, and each gives what the numerators say.
use Rattle.std.specs.Prelude.{◌≡◌, ◌≢◌, ℕ, ◌-◌, ◌^◌, ◌<◌, ℤ, pos, ◌+ℤ◌, ◌*ℤ◌, nat_abs, List, map, Some}
use Rattle.fraction.specs.Rational.{frac, whole}
use Rattle.fraction.specs.Checked.{abs_ℚ, div_checked, dot_checked}
use Rattle.tableau.specs.declared.place.Place.TheVariants.{Cramped}
use Rattle.tableau.specs.Elimination.{add_multiple, negative_quotient}
use Rattle.tableau.specs.Place.{place}
use Rattle.integer_tableau.specs.Numbers.{IsWithin, total_size}
use Rattle.integer_tableau.specs.Range.{size_limit}
use Rattle.integer_tableau.specs.Substitution.{quotient_numerator}
use Rattle.integer_tableau.specs.Positions.{coefficients, sum_over}
use Rattle.integer_tableau.specs.IntegerTableau.{IntegerTableau, tableau_of}
use Rattle.integer_tableau.specs.Consistent.{IsConsistent}
use Rattle.integer_tableau.specs.declared.position.Position.{Position}

-- a coefficient after a substitution, where the division by the old denominator is exact
abbrev pub SubstitutionsAreExact : Type 0
SubstitutionsAreExact = (q a s t : ℤ) (d e : ℕ) → 0 < d → 0 < e → d < 2 ^ 63 → e < 2 ^ 63 → nat_abs q < 2 ^ 63 → nat_abs a < 2 ^ 63 → nat_abs s < 2 ^ 63
    → t *ℤ pos d ≡ a *ℤ pos e +ℤ q *ℤ s → add_multiple (frac q d) (frac a d) (frac s e) ≡ Some (frac t e)

-- a coefficient of the solved row
abbrev pub SolutionsAreExact : Type 0
SolutionsAreExact = (p a : ℤ) (d : ℕ) → 0 < d → d < 2 ^ 63 → 0 < nat_abs p → nat_abs p < 2 ^ 63 → nat_abs a < 2 ^ 63
    → negative_quotient (frac p d) (frac a d) ≡ Some (frac (quotient_numerator p a) (nat_abs p))

-- a ratio
abbrev pub RatiosAreExact : Type 0
RatiosAreExact = (a t : ℤ) (d : ℕ) → 0 < d → d < 2 ^ 63 → nat_abs a < 2 ^ 63 → nat_abs t < 2 ^ 63 → 0 < nat_abs t
    → div_checked (abs_ℚ (frac a d)) (abs_ℚ (frac t d)) ≡ Some (frac (pos (nat_abs a)) (nat_abs t))

-- the value of a basic variable
abbrev pub ValuesAreExact : Type 0
ValuesAreExact = (d : ℕ) (positions : List Position) (row xs : List ℤ) → 0 < d → d < size_limit → IsWithin (size_limit - 1) row → total_size xs < size_limit
    → dot_checked (coefficients d positions row) (map whole xs) ≡ Some (frac (sum_over positions row xs) d)

-- the place
abbrev pub PlacesAreNotCramped : Type 0
PlacesAreNotCramped = (columns : ℕ) (numbers : List ℕ) (t : IntegerTableau) → IsConsistent t → place (tableau_of columns numbers t) ≢ Cramped
