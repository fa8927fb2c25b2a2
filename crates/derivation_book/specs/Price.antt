-- The price of a combination: what it shows that a target is at least, over a box.
use Rattle.std.specs.Prelude.{◌≡◌, ℕ, ◌+◌, ℤ, pos, int_lt, if◌then◌else◌, List, [], ◌∷◌, length, Option, Some}
use Rattle.std.specs.Option.{option_and_then}
use Rattle.fraction.specs.Rational.{ℚ, whole, ◌+ℚ◌, ◌*ℚ◌, neg_ℚ}
use Rattle.fraction.specs.Checked.{sub_checked}
use Rattle.problem_box.specs.declared.span.Span.{Span}
use Rattle.problem.specs.Linear.{Terms, Multipliers, coefficient}
use Rattle.problem.specs.Problem.{Problem}
use Rattle.cert_rows.specs.Lines.{CertLine}
use Rattle.cert_rows.specs.Combination.{combined_terms, combined_rhs}
use Rattle.derivation_book.specs.declared.cut.Cut.{Cut}
use Rattle.derivation_book.specs.Known.{known_lines}
use Rattle.derivation_book.specs.Sums.{with_product, combined}
use Rattle.derivation_book.specs.Rounded.{is_zero}

-- the bound of a column that a number left over takes: the lower one where it is above 0, else the upper one
abbrev pub bound_for : ℚ → Span → ℤ
bound_for r s = if int_lt (pos 0) r.num then s.lo else s.hi

-- ---- as it is computed
-- a sum with what is left of a column times its bound, and the same sum where nothing is left
abbrev pub with_bound : ℚ → ℚ → Span → Option ℚ
with_bound total r s = if is_zero r then Some total else with_product total r (whole (bound_for r s))

-- a sum with what a combination's coefficient c leaves of a target's coefficient a
abbrev pub with_reduced_cost : ℚ → ℚ → ℚ → Span → Option ℚ
with_reduced_cost total a c s = option_and_then (λ r. with_bound total r s) (sub_checked a c)

-- for the columns from j on
abbrev pub with_columns : ℚ → Terms → ℕ → List ℚ → List Span → Option ℚ
with_columns total target j [] ss = Some total
with_columns total target j (c ∷ cs) [] = Some total
with_columns total target j (c ∷ cs) (s ∷ ss) = option_and_then (λ t. with_columns t target (j + 1) cs ss) (with_reduced_cost total (coefficient target j) c s)

-- the combination's right side, and what it leaves of the target's columns, in their order; none where one of these operations is cramped
abbrev pub price : Problem → List Cut → List Span → Terms → Multipliers → Option ℚ
price p cs box target mult =
    option_and_then (λ q. with_columns q.side target 0 q.coefficients box) (combined (known_lines p cs) mult (length p.spans))

-- over some box the combination has a price
pub record HasPrice (p : Problem) (cs : List Cut) (target : Terms) (mult : Multipliers) : Type 0 where
  pub box : List Span
  pub columns : length box ≡ length p.spans
  pub value : ℚ
  pub priced : price p cs box target mult ≡ Some value

-- ---- as an exact sum
-- what a combination leaves of a column of the target
abbrev pub reduced_cost : Terms → Terms → ℕ → ℚ
reduced_cost target terms j = coefficient target j +ℚ neg_ℚ (coefficient terms j)

-- the sum of what is left times the bound that it takes, of the columns from j on
abbrev pub bounds_price : (ℕ → ℚ) → ℕ → List Span → ℚ
bounds_price r j [] = whole (pos 0)
bounds_price r j (s ∷ ss) = r j *ℚ whole (bound_for (r j) s) +ℚ bounds_price r (j + 1) ss

-- the price of a combination for a target over a box, computed without rounding: its right side, and what is left of each column times its bound
abbrev pub exact_price : List CertLine → Terms → Multipliers → List Span → ℚ
exact_price ls target mult ss = combined_rhs ls mult +ℚ bounds_price (reduced_cost target (combined_terms ls mult)) 0 ss
