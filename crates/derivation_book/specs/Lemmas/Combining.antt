-- Lemmas: a combination, line by line over all columns at once.
use Rattle.std.specs.Prelude.{◌≡◌, ℕ, zero, suc, ◌+◌, ◌<◌, ◌≤◌, pos, List, [], ◌∷◌, length, drop, slice_index_or, replicate, Option, Some, None, option_map, refl}
use Rattle.std.specs.Option.{option_and_then}
use Rattle.std.proofs.Common.{sym, ap, ◌∙◌, subst, arith}
use Rattle.std.proofs.lemmas.List.{drop_all}
use Rattle.fraction.specs.Rational.{ℚ, whole}
use Rattle.cert_rows.specs.Lines.{CertLine, row_at}
use Rattle.derivation_book.specs.Sums.{with_product, sum_from, coefficient_at, side_at, combined_at, combined_side, combined_columns, Sums, sums_of, combined}
use Rattle.derivation_book.specs.Adding.{columns_added, row_added}
use Rattle.fraction.specs.Lemmas.Bounds.{was_some, was_mapped}
use Rattle.derivation_book.specs.Lemmas.OptionChains.{in_two_steps, nothing_left, next_item}

-- sums of the columns from j on, with the multiples of all lines
abbrev pub columns_from : List CertLine → List (ℕ × ℚ) → ℕ → List ℚ → Option (List ℚ)
columns_from ls mult j [] = Some []
columns_from ls mult j (s ∷ ss) = option_and_then (λ c. option_map (λ cs. c ∷ cs) (columns_from ls mult (j + 1) ss)) (sum_from (coefficient_at ls j) s mult)

abbrev pub combined_from : List CertLine → List (ℕ × ℚ) → Sums → Option Sums
combined_from ls mult q = option_and_then (λ cs. option_map (sums_of cs) (sum_from (side_at ls) q.side mult)) (columns_from ls mult 0 q.coefficients)

pub columns_step : (ls : List CertLine) (m : ℕ × ℚ) (ms : List (ℕ × ℚ)) (j : ℕ) (ss : List ℚ)
    → columns_from ls (m ∷ ms) j ss ≡ option_and_then (columns_from ls ms j) (columns_added ss j m.1 (row_at ls m.0).terms)
columns_step ls m ms j [] = refl
columns_step ls m ms j (s ∷ ss) =
    (λ i. option_and_then (λ v. option_map (λ vs. v ∷ vs) (columns_step ls m ms (j + 1) ss i)) (sum_from (coefficient_at ls j) s (m ∷ ms)))
    ∙ in_two_steps (with_product s m.1 (coefficient_at ls j m.0)) (λ u. sum_from (coefficient_at ls j) u ms) (columns_added ss (j + 1) m.1 (row_at ls m.0).terms)
    (columns_from ls ms (j + 1)) (columns_from ls ms j) (λ u us. refl)

crossed : (cs : Option (List ℚ)) (t : Option ℚ) (f : List ℚ → Option (List ℚ)) (g : ℚ → Option ℚ)
    → option_and_then (λ us. option_map (sums_of us) (option_and_then g t)) (option_and_then f cs)
    ≡ option_and_then (λ (q : Sums). option_and_then (λ us. option_map (sums_of us) (g q.side)) (f q.coefficients)) (option_and_then (λ us. option_map (sums_of us) t) cs)
crossed None t f g = refl
crossed (Some us) None f g = nothing_left (f us)
crossed (Some us) (Some u) f g = refl

-- the first line, and then the others
pub combined_step : (ls : List CertLine) (m : ℕ × ℚ) (ms : List (ℕ × ℚ)) (q : Sums)
    → combined_from ls (m ∷ ms) q ≡ option_and_then (combined_from ls ms) (row_added q m.1 (row_at ls m.0))
combined_step ls m ms q =
    ap (option_and_then (λ cs. option_map (sums_of cs) (sum_from (side_at ls) q.side (m ∷ ms)))) (columns_step ls m ms 0 q.coefficients)
    ∙ crossed (columns_added q.coefficients 0 m.1 (row_at ls m.0).terms) (with_product q.side m.1 (side_at ls m.0)) (columns_from ls ms 0) (λ u. sum_from (side_at ls) u ms)

-- no lines
pub columns_done : (ls : List CertLine) (j : ℕ) (ss : List ℚ) → columns_from ls [] j ss ≡ Some ss
columns_done ls j [] = refl
columns_done ls j (s ∷ ss) = ap (option_map (λ vs. s ∷ vs)) (columns_done ls (j + 1) ss)

pub combined_done : (ls : List CertLine) (q : Sums) → combined_from ls [] q ≡ Some q
combined_done ls q = ap (option_and_then (λ cs. option_map (sums_of cs) (Some q.side))) (columns_done ls 0 q.coefficients)

-- from zeros
pub columns_begun : (ls : List CertLine) (mult : List (ℕ × ℚ)) (j n : ℕ) → columns_from ls mult j (replicate n (whole (pos 0))) ≡ combined_columns ls mult j n
columns_begun ls mult j zero = refl
columns_begun ls mult j (suc n) =
    ap (λ o. option_and_then (λ c. option_map (λ cs. c ∷ cs) o) (combined_at ls mult j)) (columns_begun ls mult (j + 1) n)

pub combined_begun : (ls : List CertLine) (mult : List (ℕ × ℚ)) (n : ℕ) → combined_from ls mult (sums_of (replicate n (whole (pos 0))) (whole (pos 0))) ≡ combined ls mult n
combined_begun ls mult n = ap (option_and_then (λ cs. option_map (sums_of cs) (combined_side ls mult))) (columns_begun ls mult 0 n)

-- a coefficient for each column
pub columns_length : (ls : List CertLine) (mult : List (ℕ × ℚ)) (j n : ℕ) (cs : List ℚ) → combined_columns ls mult j n ≡ Some cs → length cs ≡ n
columns_length ls mult j zero cs e = let f : [] ≡ cs = (cc) in subst (λ (vs : List ℚ). length vs ≡ 0) f refl
columns_length ls mult j (suc n) cs e =
    let w = was_some (λ c. option_map (λ cs. c ∷ cs) (combined_columns ls mult (j + 1) n)) (combined_at ls mult j) cs e in
    let r = was_mapped (λ vs. w.0 ∷ vs) (combined_columns ls mult (j + 1) n) cs w.2 in
    let k = columns_length ls mult (j + 1) n r.0 r.1 in
    subst (λ (vs : List ℚ). length vs ≡ suc n) r.2 (omega (arith, k))

pub combined_length : (ls : List CertLine) (mult : List (ℕ × ℚ)) (n : ℕ) (q : Sums) → combined ls mult n ≡ Some q → length q.coefficients ≡ n
combined_length ls mult n q e =
    let w = was_some (λ cs. option_map (sums_of cs) (combined_side ls mult)) (combined_columns ls mult 0 n) q e in
    let r = was_mapped (sums_of w.0) (combined_side ls mult) q w.2 in
    subst (λ (p : Sums). length p.coefficients ≡ n) r.2 (columns_length ls mult 0 n w.0 w.1)

-- ---- line by line
pub first_combined : (ls : List CertLine) (mult : List (ℕ × ℚ)) (n k : ℕ) → k ≡ n → (q : Sums) → q ≡ sums_of (replicate k (whole (pos 0))) (whole (pos 0)) → combined_from ls (drop 0 mult) q ≡ combined ls mult n
first_combined ls mult n k e q f = ap (combined_from ls mult) (f ∙ ap (λ i. sums_of (replicate i (whole (pos 0))) (whole (pos 0))) e) ∙ combined_begun ls mult n

module _ (ls : List CertLine) (mult : List (ℕ × ℚ)) (i : ℕ) (m : ℕ × ℚ) (there : i < length mult) (is : m ≡ slice_index_or mult i m) (p : ℕ × ℚ) (same : p ≡ m) (q : Sums) where
  split : combined_from ls (drop i mult) q ≡ option_and_then (combined_from ls (drop (i + 1) mult)) (row_added q p.1 (row_at ls p.0))
  split =
      ap (λ ms. combined_from ls ms q) (next_item mult i m there is) ∙ combined_step ls m (drop (i + 1) mult) q
      ∙ ap (λ (r : ℕ × ℚ). option_and_then (combined_from ls (drop (i + 1) mult)) (row_added q r.1 (row_at ls r.0))) (sym same)

  pub next_combined : (u : Sums) → row_added q p.1 (row_at ls p.0) ≡ Some u → combined_from ls (drop (i + 1) mult) u ≡ combined_from ls (drop i mult) q
  next_combined u e = sym (split ∙ ap (option_and_then (combined_from ls (drop (i + 1) mult))) e)

  pub next_cramped : row_added q p.1 (row_at ls p.0) ≡ None → combined_from ls (drop i mult) q ≡ None
  next_cramped e = split ∙ ap (option_and_then (combined_from ls (drop (i + 1) mult))) e

pub all_combined : (ls : List CertLine) (mult : List (ℕ × ℚ)) (i : ℕ) (q : Sums) → length mult ≤ i → combined_from ls (drop i mult) q ≡ Some q
all_combined ls mult i q l = ap (λ ms. combined_from ls ms q) (drop_all i mult l) ∙ combined_done ls q
