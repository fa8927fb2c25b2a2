-- The separation of a point from the whole points: cuts that it violates.
use Rattle.std.specs.Prelude.{ℕ, zero, suc, ◌+◌, nat_eq, Bool, true, false, not, ◌&&◌, ◌||◌, if◌then◌else◌, List, [], ◌∷◌, ◌++◌, length, take, Option, Some, None}
use Rattle.std.specs.Option.{option_and_then}
use Rattle.std.specs.Ordering.{int_eq, is_lt}
use Rattle.fraction.specs.Rational.{ℚ}
use Rattle.fraction.specs.Checked.{compare}
use Rattle.problem.specs.declared.row.Row.{Row}
use Rattle.problem.specs.Linear.{Multipliers}
use Rattle.problem.specs.Problem.{Problem}
use Rattle.derivation_book.specs.declared.cut.Cut.{Cut}
use Rattle.derivation_book.specs.Rounded.{rounded_row}
use Rattle.tableau.specs.declared.status.BasisStatus.{BasisStatus}
use Rattle.tableau.specs.declared.status.BasisStatus.TheVariants.{Basic, AtLower, AtUpper}
use Rattle.tableau.specs.Tableau.{Tableau, status_of}
use Rattle.dual_simplex.specs.Relaxation.{RationalPoint, rational_at}
use Rattle.dual_simplex.specs.PointSums.{checked_sum}
use Rattle.gomory_cuts.specs.declared.sign.Sign.{Sign}
use Rattle.gomory_cuts.specs.declared.sign.Sign.TheVariants.{Plus, Minus}
use Rattle.gomory_cuts.specs.Multipliers.{gomory_multipliers}

-- ---- one cut
-- there is a value, and it is below the other
abbrev pub is_below : Option ℚ → ℚ → Bool
is_below None b = false
is_below (Some v) b = is_lt (compare v b)

-- of a G row: its sum at the point is there, and less than its right side
abbrev pub is_violated : RationalPoint → Row → Bool
is_violated x r = is_below (checked_sum r.terms x) r.rhs

-- multipliers whose rounded row is there and violated
abbrev pub if_violated : Problem → List Cut → RationalPoint → Multipliers → Option Multipliers
if_violated p cuts x mult = option_and_then (λ r. if is_violated x r then Some mult else None) (rounded_row p cuts mult)

-- the multipliers of the cut of column j's row with this sign, where the point violates it
abbrev pub cut_at : Problem → List Cut → Tableau → RationalPoint → ℕ → Sign → Option Multipliers
cut_at p cuts t x j s = option_and_then (if_violated p cuts x) (gomory_multipliers p cuts t s j)

-- ---- one column
-- whether a variable is in the basis
abbrev pub is_basic : BasisStatus → Bool
is_basic Basic = true
is_basic AtLower = false
is_basic AtUpper = false

-- a basic column whose number at the point isn't whole
abbrev pub is_fractional : Tableau → RationalPoint → ℕ → Bool
is_fractional t x j = is_basic (status_of t j) && not (nat_eq (rational_at x j).den 1)

-- the cuts of column j's row, with both signs, where its value is no whole number
abbrev pub cuts_at : Problem → List Cut → Tableau → RationalPoint → ℕ → List (Option Multipliers)
cuts_at p cuts t x j = if is_fractional t x j then cut_at p cuts t x j Plus ∷ cut_at p cuts t x j Minus ∷ [] else []

-- of k columns from j on
abbrev pub cuts_from : Problem → List Cut → Tableau → RationalPoint → ℕ → ℕ → List (Option Multipliers)
cuts_from p cuts t x j zero = []
cuts_from p cuts t x j (suc k) = cuts_at p cuts t x j ++ cuts_from p cuts t x (j + 1) k

-- ---- repetitions
-- both are the same multipliers
abbrev pub is_same : Multipliers → Multipliers → Bool
is_same [] [] = true
is_same [] (k ∷ ks) = false
is_same (m ∷ ms) [] = false
is_same (m ∷ ms) (k ∷ ks) = nat_eq m.0 k.0 && int_eq m.1.num k.1.num && nat_eq m.1.den k.1.den && is_same ms ks

-- the multipliers are among those found
abbrev pub is_found : Multipliers → List Multipliers → Bool
is_found m [] = false
is_found m (k ∷ ks) = is_same m k || is_found m ks

-- a cut that is there, unless it is found already
abbrev pub with_cut : List Multipliers → Option Multipliers → List Multipliers
with_cut found None = found
with_cut found (Some m) = if is_found m found then found else found ++ m ∷ []

-- those found, and behind them those of a list that are there and new
abbrev pub with_cuts : List Multipliers → List (Option Multipliers) → List Multipliers
with_cuts found [] = found
with_cuts found (c ∷ cs) = with_cuts (with_cut found c) cs

-- ---- all columns
-- the most cuts that are separated from a point
abbrev pub most_separated : ℕ
most_separated = 4

-- the multipliers of the first of them
abbrev pub separation : Problem → List Cut → Tableau → RationalPoint → List Multipliers
separation p cuts t x = take most_separated (with_cuts [] (cuts_from p cuts t x 0 (length p.spans)))
