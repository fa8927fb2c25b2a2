-- Lemmas: multipliers of all variables that come to a target at each point with the values of its rows.
use Rattle.std.proofs.Common.{◌≡◌, ℕ, zero, suc, ◌+◌, ◌<◌, arith, ap, sym, ◌∙◌, List, [], ◌++◌, length, get_or, map}
use Rattle.std.proofs.lemmas.List.{length-map, get_or-map, get_or_append_left, get_or-append-add}
use Rattle.fraction.specs.Lemmas.Bounds.{dot_value}
use Rattle.fraction.specs.Rational.{ℚ}
use Rattle.problem.specs.Rows.{Rows}
use Rattle.problem.specs.Linear.{coefficient, Terms}
use Rattle.problem_box.specs.declared.span.Span.{Span}
use Rattle.tableau.specs.Lemmas.Leaning.{Leans}
use Rattle.tableau.specs.Elimination.{entry}
use Rattle.tableau.specs.Leaving.{unbounded}
use Rattle.tableau.specs.Lemmas.Started.{no_row, no_span}
use Rattle.tableau.specs.LinearProgram.{LinearProgram, coefficients_from, program_of, row_bounds, span_bounds}

-- ---- columns
coefficient_at : (i k : ℕ) (ts : Terms) (j : ℕ) → j < k → entry (coefficients_from i k ts) j ≡ coefficient ts (i + j)
coefficient_at i zero ts j l = absurd (omega arith)
coefficient_at i (suc k) ts zero l = ap (coefficient ts) (omega arith)
coefficient_at i (suc k) ts (suc j) l = coefficient_at (i + 1) k ts j (omega arith) ∙ ap (coefficient ts) (let e : i + 1 + j ≡ i + suc j = omega arith in e)

pub coefficient_in : (n : ℕ) (ts : Terms) (j : ℕ) → j < n → entry (coefficients_from 0 n ts) j ≡ coefficient ts j
coefficient_in n ts j l = coefficient_at 0 n ts j l ∙ ap (coefficient ts) (let e : 0 + j ≡ j = omega arith in e)

-- ---- balanced multipliers
-- a point with the values of rows behind it
abbrev pub with_rows : List (List ℚ) → List ℚ → List ℚ
with_rows rows z = z ++ map (λ row. dot_value row z) rows

-- at each point with the values of its rows, the multipliers come to the target's value
abbrev pub Balances : LinearProgram → ℕ → Terms → List ℚ → Type 0
Balances p n target g = (z : List ℚ) → length z ≡ n → dot_value g (with_rows p.rows z) ≡ dot_value (coefficients_from 0 n target) z

-- multipliers of all variables that balance a target, each with the bound that it goes with
pub record IsBalanced (rows : Rows) (spans : List Span) (objective target : Terms) (g u : List ℚ) : Type 0 where
  pub factors : length g ≡ length spans + length rows
  pub bounds : length u ≡ length spans + length rows
  pub balances : Balances (program_of objective rows [] spans) (length spans) target g
  pub leans : (k : ℕ) → k < length spans + length rows → Leans (get_or (program_of objective rows [] spans).bounds k unbounded) (entry g k) (entry u k)

pub column_bounds : (objective : Terms) (rows : Rows) (numbers : List ℕ) (spans : List Span) (j : ℕ) → j < length spans → get_or (program_of objective rows numbers spans).bounds j unbounded ≡ span_bounds (get_or spans j no_span)
column_bounds objective rows numbers spans j l = get_or_append_left (map span_bounds spans) (map row_bounds rows) unbounded j (rw length-map l) ∙ get_or-map span_bounds spans j no_span unbounded l

pub row_bounds_at : (objective : Terms) (rows : Rows) (numbers : List ℕ) (spans : List Span) (i : ℕ) → i < length rows → get_or (program_of objective rows numbers spans).bounds (length spans + i) unbounded ≡ row_bounds (get_or rows i no_row)
row_bounds_at objective rows numbers spans i l =
    ap (λ k. get_or (map span_bounds spans ++ map row_bounds rows) (k + i) unbounded) (sym (length-map spans span_bounds))
    ∙ get_or-append-add (map span_bounds spans) (map row_bounds rows) i unbounded ∙ get_or-map row_bounds rows i no_row unbounded l
