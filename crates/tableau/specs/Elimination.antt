-- Elimination of a variable from rows: another row, solved for it, is substituted. A row is the list of the coefficients of all variables.
use Rattle.std.specs.Prelude.{ℕ, pos, negsuc, ◌+◌, slice_index_or, slice_set, List, [], ◌∷◌, ◌++◌, take, drop, Option, Some, None, if◌then◌else◌}
use Rattle.std.specs.Ordering.{int_eq}
use Rattle.std.specs.Option.{option_and_then, option_map}
use Rattle.fraction.specs.Rational.{ℚ, whole, neg_ℚ}
use Rattle.fraction.specs.Checked.{add_checked, mul_checked, div_checked}

-- a row of the tableau: what it says of a basic variable, as a sum over all variables
abbrev pub Coefficients : Type 0
Coefficients = List ℚ

-- the fraction 0
abbrev pub zero_ℚ : ℚ
zero_ℚ = whole (pos 0)

-- the coefficient of a variable, 0 past the row's end
abbrev pub entry : Coefficients → ℕ → ℚ
entry row j = slice_index_or row j zero_ℚ

-- t + q * s
abbrev pub add_multiple : ℚ → ℚ → ℚ → Option ℚ
add_multiple q t s = option_and_then (λ p. add_checked t p) (mul_checked q s)

-- q times the second row is added to the first
abbrev pub add_multiple_of_row : ℚ → Coefficients → Coefficients → Option Coefficients
add_multiple_of_row q [] ss = Some []
add_multiple_of_row q (t ∷ ts) [] = Some (t ∷ ts)
add_multiple_of_row q (t ∷ ts) (s ∷ ss) = option_and_then (λ d. option_map (λ ds. d ∷ ds) (add_multiple_of_row q ts ss)) (add_multiple q t s)

-- variable c is substituted: its coefficient, times what `new` says of c, is added to the rest of the row
abbrev pub substituted : ℕ → Coefficients → Coefficients → Option Coefficients
substituted c new row = add_multiple_of_row (entry row c) (slice_set row c zero_ℚ) new

-- each row, with the entering column replaced by its solution
abbrev pub all_substituted : ℕ → Coefficients → List Coefficients → Option (List Coefficients)
all_substituted c new [] = Some []
all_substituted c new (row ∷ rows) = option_and_then (λ r. option_map (λ rs. r ∷ rs) (all_substituted c new rows)) (substituted c new row)

-- variable c is substituted in each row but row r, by row r
abbrev pub others_substituted : ℕ → ℕ → List Coefficients → Option (List Coefficients)
others_substituted r c rows =
    let new = slice_index_or rows r [] in
    option_and_then (λ front. option_map (λ back. front ++ (new ∷ back)) (all_substituted c new (drop (r + 1) rows))) (all_substituted c new (take r rows))

-- -t / p
abbrev pub negative_quotient : ℚ → ℚ → Option ℚ
negative_quotient p t = div_checked (neg_ℚ t) p

-- the numbers, each divided by the pivot, with the other sign
abbrev pub negative_quotients : ℚ → Coefficients → Option Coefficients
negative_quotients p [] = Some []
negative_quotients p (t ∷ ts) = option_and_then (λ d. option_map (λ ds. d ∷ ds) (negative_quotients p ts)) (negative_quotient p t)

-- the row of variable r, solved for variable c whose coefficient p isn't 0: 1/p for r, and -t/p for each other coefficient t
abbrev pub solved_for : ℕ → ℕ → Coefficients → Option Coefficients
solved_for r c row =
    let p = entry row c in
    if int_eq p.num (pos 0) then None else negative_quotients p (slice_set (slice_set row r (whole (negsuc 0))) c zero_ℚ)
