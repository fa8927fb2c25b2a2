-- Lemmas: the places of known rows.
use Rattle.std.specs.Prelude.{◌≡◌, ℕ, zero, suc, ◌+◌, ◌*◌, ◌<◌, List, [], ◌∷◌, ◌++◌, map, length, slice_index_or, refl}
use Rattle.std.proofs.Common.{sym, ap, ◌∙◌, arith}
use Rattle.std.proofs.lemmas.List.{length-map, length-append}
use Rattle.problem_box.specs.declared.span.Span.{Span}
use Rattle.problem.specs.declared.row.Row.{Row}
use Rattle.problem.specs.Problem.{Problem}
use Rattle.cert_rows.specs.Lines.{row_at, no_cert_line}
use Rattle.cert_rows.specs.Validity.{lower_row, upper_row, bound_rows}
use Rattle.cert_rows.specs.Lemmas.Soundness.{length-bounds}
use Rattle.derivation_book.specs.declared.cut.Cut.{Cut}
use Rattle.derivation_book.specs.Known.{known_rows, known_lines, first_cut}
use Rattle.derivation_book.specs.Places.{no_span}

-- ---- lists one behind another
pub in_prefix : {A : Type 0} (xs ys : List A) (i : ℕ) (d : A) → i < length xs → slice_index_or (xs ++ ys) i d ≡ slice_index_or xs i d
in_prefix [] ys i d l = absurd (omega arith)
in_prefix (x ∷ xs) ys zero d l = refl
in_prefix (x ∷ xs) ys (suc i) d l = in_prefix xs ys i d (omega (arith, l))

pub behind : {A : Type 0} (xs ys : List A) (i : ℕ) (d : A) → slice_index_or (xs ++ ys) (length xs + i) d ≡ slice_index_or ys i d
behind [] ys i d = ap (λ n. slice_index_or ys n d) (let e : 0 + i ≡ i = omega arith in e)
behind (x ∷ xs) ys i d = ap (λ n. slice_index_or (x ∷ xs ++ ys) n d) (let e : suc (length xs) + i ≡ suc (length xs + i) = omega arith in e) ∙ behind xs ys i d

-- ---- bound rows
pub lower_bound : (j : ℕ) (ss : List Span) (k : ℕ) (d : Row) → k < length ss → slice_index_or (bound_rows j ss) (2 * k) d ≡ lower_row (j + k) (slice_index_or ss k no_span)
lower_bound j [] k d l = absurd (omega arith)
lower_bound j (s ∷ ss) zero d l = ap (λ n. lower_row n s) (let e : j ≡ j + 0 = omega arith in e)
lower_bound j (s ∷ ss) (suc k) d l =
    ap (λ n. slice_index_or (bound_rows j (s ∷ ss)) n d) (let e : 2 * suc k ≡ suc (suc (2 * k)) = omega arith in e)
    ∙ lower_bound (j + 1) ss k d (omega (arith, l))
    ∙ ap (λ n. lower_row n (slice_index_or ss k no_span)) (let e : j + 1 + k ≡ j + suc k = omega arith in e)

pub upper_bound : (j : ℕ) (ss : List Span) (k : ℕ) (d : Row) → k < length ss → slice_index_or (bound_rows j ss) (2 * k + 1) d ≡ upper_row (j + k) (slice_index_or ss k no_span)
upper_bound j [] k d l = absurd (omega arith)
upper_bound j (s ∷ ss) zero d l = ap (λ n. upper_row n s) (let e : j ≡ j + 0 = omega arith in e)
upper_bound j (s ∷ ss) (suc k) d l =
    ap (λ n. slice_index_or (bound_rows j (s ∷ ss)) n d) (let e : 2 * suc k + 1 ≡ suc (suc (2 * k + 1)) = omega arith in e)
    ∙ upper_bound (j + 1) ss k d (omega (arith, l))
    ∙ ap (λ n. upper_row n (slice_index_or ss k no_span)) (let e : j + 1 + k ≡ j + suc k = omega arith in e)

-- ---- all known rows
abbrev row_of_cut : Cut → Row
row_of_cut c = c.row

line_row : (rs : List Row) (i : ℕ) → row_at (map (λ r. record { row = r; assumes = [] }) rs) i ≡ slice_index_or rs i no_cert_line.row
line_row [] i = refl
line_row (r ∷ rs) zero = refl
line_row (r ∷ rs) (suc i) = line_row rs i

module _ (p : Problem) (cs : List Cut) where
  prefix : List Row
  prefix = p.rows ++ bound_rows 0 p.spans

  prefix_length : length (p.rows ++ bound_rows 0 p.spans) ≡ first_cut p
  prefix_length = omega (arith, length-append p.rows (bound_rows 0 p.spans), length-bounds 0 p.spans)

  pub known_length : length (known_lines p cs) ≡ length p.rows + 2 * length p.spans + length cs
  known_length =
      length-map (known_rows p cs) (λ r. record { row = r; assumes = [] })
      ∙ length-append (p.rows ++ bound_rows 0 p.spans) (map row_of_cut cs)
      ∙ (λ i. prefix_length i + length-map cs row_of_cut i)

  in_bounds : (i : ℕ) → i < 2 * length p.spans → row_at (known_lines p cs) (length p.rows + i) ≡ slice_index_or (bound_rows 0 p.spans) i no_cert_line.row
  in_bounds i l =
      line_row (known_rows p cs) (length p.rows + i)
      ∙ in_prefix (p.rows ++ bound_rows 0 p.spans) (map row_of_cut cs) (length p.rows + i) no_cert_line.row (omega (arith, l, prefix_length))
      ∙ behind p.rows (bound_rows 0 p.spans) i no_cert_line.row

  pub given_place : (i : ℕ) → i < length p.rows → slice_index_or p.rows i no_cert_line.row ≡ row_at (known_lines p cs) i
  given_place i l =
      sym (line_row (known_rows p cs) i
      ∙ in_prefix (p.rows ++ bound_rows 0 p.spans) (map row_of_cut cs) i no_cert_line.row (omega (arith, l, prefix_length))
      ∙ in_prefix p.rows (bound_rows 0 p.spans) i no_cert_line.row l)

  pub lower_place : (i k : ℕ) → i ≡ length p.rows + 2 * k → k < length p.spans → lower_row k (slice_index_or p.spans k no_span) ≡ row_at (known_lines p cs) i
  lower_place i k e l =
      sym (ap (row_at (known_lines p cs)) e ∙ in_bounds (2 * k) (omega (arith, l)) ∙ lower_bound 0 p.spans k no_cert_line.row l
      ∙ ap (λ n. lower_row n (slice_index_or p.spans k no_span)) (let z : 0 + k ≡ k = omega arith in z))

  pub upper_place : (i k : ℕ) → i ≡ length p.rows + (2 * k + 1) → k < length p.spans → upper_row k (slice_index_or p.spans k no_span) ≡ row_at (known_lines p cs) i
  upper_place i k e l =
      sym (ap (row_at (known_lines p cs)) e ∙ in_bounds (2 * k + 1) (omega (arith, l)) ∙ upper_bound 0 p.spans k no_cert_line.row l
      ∙ ap (λ n. upper_row n (slice_index_or p.spans k no_span)) (let z : 0 + k ≡ k = omega arith in z))

  pub cut_place : (i k : ℕ) → i ≡ first_cut p + k → slice_index_or (map row_of_cut cs) k no_cert_line.row ≡ row_at (known_lines p cs) i
  cut_place i k e =
      sym (ap (row_at (known_lines p cs)) (e ∙ ap (λ n. n + k) (sym prefix_length))
      ∙ line_row (known_rows p cs) (length (p.rows ++ bound_rows 0 p.spans) + k)
      ∙ behind (p.rows ++ bound_rows 0 p.spans) (map row_of_cut cs) k no_cert_line.row)
