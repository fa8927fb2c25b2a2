-- The multipliers of a Chvátal-Gomory cut, from one row of a tableau.
use Rattle.std.specs.Prelude.{ℕ, ◌+◌, ◌*◌, Bool, true, false, nat_eq, if◌then◌else◌, List, [], ◌∷◌, ◌++◌, length, map, Option, Some}
use Rattle.std.specs.Option.{option_and_then, option_map}
use Rattle.fraction.specs.Rational.{ℚ, whole, floor, ceil, neg_ℚ}
use Rattle.fraction.specs.Checked.{sub_checked}
use Rattle.problem.specs.declared.row.Sense.{Sense}
use Rattle.problem.specs.declared.row.Sense.TheVariants.{G, L, E}
use Rattle.problem.specs.Linear.{Multipliers}
use Rattle.problem.specs.Rows.{Rows}
use Rattle.problem.specs.Problem.{Problem}
use Rattle.derivation_book.specs.declared.cut.Cut.{Cut}
use Rattle.derivation_book.specs.Known.{known_lines, first_cut}
use Rattle.derivation_book.specs.Sums.{combined_columns}
use Rattle.tableau.specs.declared.status.BasisStatus.{BasisStatus}
use Rattle.tableau.specs.declared.status.BasisStatus.TheVariants.{Basic, AtLower, AtUpper}
use Rattle.tableau.specs.Elimination.{Coefficients, entry, zero_ℚ}
use Rattle.tableau.specs.Multipliers.{with_multiplier}
use Rattle.tableau.specs.Tableau.{Tableau, row_of, status_of}
use Rattle.gomory_cuts.specs.declared.sign.Sign.{Sign}
use Rattle.gomory_cuts.specs.declared.sign.Sign.TheVariants.{Plus, Minus}

-- ---- rows
-- a row of the tableau is taken as it is, or times -1
abbrev pub signed : Sign → ℚ → ℚ
signed Plus t = t
signed Minus t = neg_ℚ t

-- the fractional part
abbrev pub above_floor : ℚ → Option ℚ
above_floor x = sub_checked x (whole (floor x))

-- what is missing to the next whole number, with the sign -
abbrev pub below_ceiling : ℚ → Option ℚ
below_ceiling x = sub_checked x (whole (ceil x))

-- the multiplier of a row whose variable has the coefficient t
abbrev pub multiplier : Sign → Sense → ℚ → Option ℚ
multiplier s G t = above_floor (signed s t)
multiplier s L t = below_ceiling (signed s t)
multiplier s E t = option_map (signed s) (above_floor t)

-- of rows that are numbered from k on, whose variables are numbered from v on; a basic variable has the coefficient 0, and so its row the multiplier 0
abbrev pub row_multipliers : Sign → Coefficients → ℕ → ℕ → Rows → Option Multipliers
row_multipliers s row v k [] = Some []
row_multipliers s row v k (r ∷ rs) = option_and_then (λ u. option_map (with_multiplier k u) (row_multipliers s row (v + 1) (k + 1) rs)) (multiplier s r.sense (entry row v))

-- ---- bound rows
-- whether a variable is at its upper bound
abbrev pub is_at_upper : BasisStatus → Bool
is_at_upper Basic = false
is_at_upper AtLower = false
is_at_upper AtUpper = true

-- the multiplier of a bound row that makes a coefficient whole: down to the next whole number where the column is at its upper bound, else up
abbrev pub filling : BasisStatus → ℚ → Option ℚ
filling b c = if nat_eq c.den 1 then Some zero_ℚ else sub_checked (whole (if is_at_upper b then floor c else ceil c)) c

-- that bound row's number: the upper one where the column is at its upper bound, else the lower one; the first one of column 0 has the number k
abbrev pub bound_number : ℕ → ℕ → BasisStatus → ℕ
bound_number k j b = k + 2 * j + (if is_at_upper b then 1 else 0)

-- for the coefficients of the columns from j on
abbrev pub fillings : ℕ → Tableau → ℕ → List ℚ → Option Multipliers
fillings k t j [] = Some []
fillings k t j (c ∷ cs) = option_and_then (λ f. option_map (with_multiplier (bound_number k j (status_of t j)) f) (fillings k t (j + 1) cs)) (filling (status_of t j) c)

-- ---- all of them, by their numbers
-- the multipliers of rows and of cuts, with the fillings between them that make the coefficients whole
abbrev pub filled : Problem → List Cut → Tableau → Multipliers → Multipliers → Option Multipliers
filled p cuts t us vs =
    option_and_then (λ cs. option_map (λ fs. us ++ fs ++ vs) (fillings (length p.rows) t 0 cs)) (combined_columns (known_lines p cuts) (us ++ vs) 0 (length p.spans))

-- from the row of column j
abbrev pub gomory_multipliers : Problem → List Cut → Tableau → Sign → ℕ → Option Multipliers
gomory_multipliers p cuts t s j =
    let row = row_of t j in
    let n = length p.spans in
    option_and_then (λ us. option_and_then (λ vs. filled p cuts t us vs) (row_multipliers s row (n + length p.rows) (first_cut p) (map (λ (c : Cut). c.row) cuts))) (row_multipliers s row n 0 p.rows)
