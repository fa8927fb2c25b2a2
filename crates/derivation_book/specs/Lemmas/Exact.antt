-- Lemmas: what isn't cramped is exact.
use Rattle.std.specs.Prelude.{◌≡◌, ◌<◌, ◌+◌, ℕ, zero, suc, ℤ, pos, ◌*ℤ◌, Bool, true, false, cond, List, [], ◌∷◌, length, All, slice_index_or, Some, option_map, refl}
use Rattle.std.proofs.Common.{sym, ap, ◌∙◌, subst, arith}
use Rattle.std.proofs.lemmas.Int.{ints}
use Rattle.std.proofs.lemmas.List.Elements.{All-nil, All-cons, All-head, All-tail, All-append}
use Rattle.std.proofs.lemmas.Bool.Decides.{Decides-int_eq}
use Rattle.fraction.specs.Rational.{ℚ, whole, ◌+ℚ◌, ◌*ℚ◌, neg_ℚ}
use Rattle.fraction.specs.Lemmas.Rational.{ℚ_same, +ℚ_assoc, zero-+ℚ, zero-*ℚ}
use Rattle.fraction.specs.Lemmas.Ring.{+ℚ-zero}
use Rattle.fraction.specs.Checked.{add_checked, mul_checked, sub_checked}
use Rattle.fraction.specs.Lemmas.Bounds.{value_from_mul, value_from_add, whole_parts, was_some, was_mapped}
use Rattle.problem_box.specs.declared.span.Span.{Span}
use Rattle.problem.specs.Linear.{coefficient, scaled}
use Rattle.problem.specs.Lemmas.Linear.{coefficient-append, past_first, coefficient-scaled}
use Rattle.problem.specs.Lemmas.Rising.{rise_lower, before_first, at_first}
use Rattle.problem.specs.Problem.{Problem}
use Rattle.cert_rows.specs.Lines.{CertLine, row_at}
use Rattle.cert_rows.specs.Combination.{combined_terms, combined_rhs}
use Rattle.derivation_book.specs.declared.cut.Cut.{Cut}
use Rattle.derivation_book.specs.Known.{known_lines}
use Rattle.derivation_book.specs.Sums.{with_product, sum_from, coefficient_at, side_at, combined_at, combined_columns, Sums, combined}
use Rattle.derivation_book.specs.Rounded.{is_zero, nonzero_terms}
use Rattle.derivation_book.specs.Price.{bound_for, with_bound, with_reduced_cost, with_columns, price, reduced_cost, bounds_price, exact_price}
use Rattle.derivation_book.specs.Lemmas.Rounded.{terms_rise, IsBelow}
use Rattle.derivation_book.specs.Lemmas.Price.{has_sums}
use Rattle.derivation_book.specs.Lemmas.Combining.{combined_length}

-- ---- sums
pub product_exact : (s m a t : ℚ) → with_product s m a ≡ Some t → t ≡ s +ℚ m *ℚ a
product_exact s m a t e =
    let w = was_some (λ v. add_checked s v) (mul_checked m a) t e in
    sym (value_from_add s w.0 t w.2) ∙ ap (λ v. s +ℚ v) (sym (value_from_mul m a w.0 w.1))

pub side_exact : (ls : List CertLine) (s : ℚ) (mult : List (ℕ × ℚ)) (t : ℚ) → sum_from (side_at ls) s mult ≡ Some t → t ≡ s +ℚ combined_rhs ls mult
side_exact ls s [] t e = let k : s ≡ t = (cc) in sym k ∙ sym (+ℚ-zero s)
side_exact ls s (m ∷ ms) t e =
    let w = was_some (λ u. sum_from (side_at ls) u ms) (with_product s m.1 (side_at ls m.0)) t e in
    side_exact ls w.0 ms t w.2 ∙ ap (λ u. u +ℚ combined_rhs ls ms) (product_exact s m.1 (side_at ls m.0) w.0 w.1) ∙ +ℚ_assoc _ _ _

pub coefficient_exact : (ls : List CertLine) (j : ℕ) (s : ℚ) (mult : List (ℕ × ℚ)) (t : ℚ) → sum_from (coefficient_at ls j) s mult ≡ Some t → t ≡ s +ℚ coefficient (combined_terms ls mult) j
coefficient_exact ls j s [] t e = let k : s ≡ t = (cc) in sym k ∙ sym (+ℚ-zero s)
coefficient_exact ls j s (m ∷ ms) t e =
    let w = was_some (λ u. sum_from (coefficient_at ls j) u ms) (with_product s m.1 (coefficient_at ls j m.0)) t e in
    coefficient_exact ls j w.0 ms t w.2
    ∙ ap (λ u. u +ℚ coefficient (combined_terms ls ms) j) (product_exact s m.1 (coefficient_at ls j m.0) w.0 w.1)
    ∙ +ℚ_assoc _ _ _
    ∙ ap (λ u. s +ℚ u) (sym (coefficient-append (scaled m.1 (row_at ls m.0).terms) (combined_terms ls ms) j ∙ ap (λ u. u +ℚ coefficient (combined_terms ls ms) j) (coefficient-scaled m.1 (row_at ls m.0).terms j)))

-- coefficients of columns from j on
abbrev pub AreCoefficients : List ℚ → ℕ → List (ℕ × ℚ) → Type 0
AreCoefficients cs j ts = (i : ℕ) → i < length cs → slice_index_or cs i (whole (pos 0)) ≡ coefficient ts (j + i)

next_at : (c : ℚ) (cs : List ℚ) (j : ℕ) (ts : List (ℕ × ℚ)) → c ≡ coefficient ts j → AreCoefficients cs (j + 1) ts → AreCoefficients (c ∷ cs) j ts
next_at c cs j ts e h zero l = e ∙ ap (coefficient ts) (omega arith)
next_at c cs j ts e h (suc i) l = h i (omega (arith, l)) ∙ ap (coefficient ts) (omega arith)

pub columns_exact : (ls : List CertLine) (mult : List (ℕ × ℚ)) (j n : ℕ) (cs : List ℚ) → combined_columns ls mult j n ≡ Some cs → AreCoefficients cs j (combined_terms ls mult)
columns_exact ls mult j zero cs e = let f : [] ≡ cs = (cc) in subst (λ (vs : List ℚ). AreCoefficients vs j (combined_terms ls mult)) f (λ i l. absurd (omega (arith, l)))
columns_exact ls mult j (suc n) cs e =
    let w = was_some (λ c. option_map (λ cs. c ∷ cs) (combined_columns ls mult (j + 1) n)) (combined_at ls mult j) cs e in
    let r = was_mapped (λ vs. w.0 ∷ vs) (combined_columns ls mult (j + 1) n) cs w.2 in
    subst (λ (vs : List ℚ). AreCoefficients vs j (combined_terms ls mult)) r.2
    (next_at w.0 r.0 j (combined_terms ls mult) (coefficient_exact ls j (whole (pos 0)) mult w.0 w.1 ∙ zero-+ℚ _) (columns_exact ls mult (j + 1) n r.0 r.1))

-- ---- the terms that aren't 0
zero_is : (a : ℚ) → is_zero a ≡ true → a ≡ whole (pos 0)
zero_is a e =
    let w = whole_parts (pos 0) in
    ℚ_same a (whole (pos 0)) (rw (w.0, w.1) (product a.num a.den ((Decides-int_eq a.num (pos 0)).0 e)))
  where
    product : (z : ℤ) (d : ℕ) → z ≡ pos 0 → z *ℤ pos 1 ≡ pos 0 *ℤ pos d
    product z d e = omega (arith, ints)

pub nonzero_coefficient : (j : ℕ) (cs : List ℚ) (i : ℕ) → coefficient (nonzero_terms j cs) (j + i) ≡ slice_index_or cs i (whole (pos 0))
nonzero_coefficient j [] i = refl
nonzero_coefficient j (a ∷ cs) zero = step (is_zero a) refl
  where
    none : coefficient (nonzero_terms (j + 1) cs) (j + 0) ≡ whole (pos 0)
    none = before_first (j + 1) (nonzero_terms (j + 1) cs) (j + 0) (terms_rise (j + 1) cs) (omega arith)

    step : (b : Bool) → is_zero a ≡ b → coefficient (cond b (nonzero_terms (j + 1) cs) ((j, a) ∷ nonzero_terms (j + 1) cs)) (j + 0) ≡ a
    step true e = none ∙ sym (zero_is a e)
    step false e = at_first (j, a) (nonzero_terms (j + 1) cs) (j + 0) (rise_lower (suc j) (j + 1) (nonzero_terms (j + 1) cs) (omega arith) (terms_rise (j + 1) cs)) (omega arith)
nonzero_coefficient j (a ∷ cs) (suc i) = step (is_zero a) (nonzero_terms (j + 1) cs) (nonzero_coefficient (j + 1) cs i)
  where
    moved : (ts : List (ℕ × ℚ)) → coefficient ts (j + 1 + i) ≡ coefficient ts (j + suc i)
    moved ts = ap (coefficient ts) (omega arith)

    step : (b : Bool) (ts : List (ℕ × ℚ)) → coefficient ts (j + 1 + i) ≡ slice_index_or cs i (whole (pos 0))
        → coefficient (cond b ts ((j, a) ∷ ts)) (j + suc i) ≡ slice_index_or cs i (whole (pos 0))
    step true ts h = sym (moved ts) ∙ h
    step false ts h = past_first (j, a) ts (j + suc i) (λ e. omega (arith, e)) ∙ sym (moved ts) ∙ h

-- ---- columns that no line has
scaled_below : (n : ℕ) (m : ℚ) (ts : List (ℕ × ℚ)) → All (IsBelow n) ts → All (IsBelow n) (scaled m ts)
scaled_below n m [] h = h
scaled_below n m (t ∷ ts) h = All-cons (IsBelow n) (t.0, m *ℚ t.1) (scaled m ts) (All-head (IsBelow n) t ts h) (scaled_below n m ts (All-tail (IsBelow n) t ts h))

pub combined_below : (n : ℕ) (ls : List CertLine) (mult : List (ℕ × ℚ)) → ((i : ℕ) → All (IsBelow n) (row_at ls i).terms) → All (IsBelow n) (combined_terms ls mult)
combined_below n ls [] h = All-nil (IsBelow n)
combined_below n ls (m ∷ ms) h =
    All-append (IsBelow n) (scaled m.1 (row_at ls m.0).terms) (combined_terms ls ms) (scaled_below n m.1 (row_at ls m.0).terms (h m.0)) (combined_below n ls ms h)

-- ---- prices
bound_exact : (total r : ℚ) (s : Span) (t : ℚ) → with_bound total r s ≡ Some t → t ≡ total +ℚ r *ℚ whole (bound_for r s)
bound_exact total r s t e = step (is_zero r) refl e
  where
    step : (b : Bool) → is_zero r ≡ b → cond b (Some total) (with_product total r (whole (bound_for r s))) ≡ Some t → t ≡ total +ℚ r *ℚ whole (bound_for r s)
    step true z e =
        let k : total ≡ t = (cc) in
        sym k ∙ sym (+ℚ-zero total) ∙ ap (λ v. total +ℚ v) (sym (ap (λ v. v *ℚ whole (bound_for r s)) (zero_is r z) ∙ zero-*ℚ _))
    step false z e = product_exact total r (whole (bound_for r s)) t e

pub left_exact : (total : ℚ) (target terms : List (ℕ × ℚ)) (j : ℕ) (cs : List ℚ) (ss : List Span) (v : ℚ) → length ss ≡ length cs → AreCoefficients cs j terms
    → with_columns total target j cs ss ≡ Some v → v ≡ total +ℚ bounds_price (reduced_cost target terms) j ss
left_exact total target terms j [] [] v l h e = let k : total ≡ v = (cc) in sym k ∙ sym (+ℚ-zero total)
left_exact total target terms j [] (s ∷ ss) v l h e = absurd (omega (arith, l))
left_exact total target terms j (c ∷ cs) [] v l h e = absurd (omega (arith, l))
left_exact total target terms j (c ∷ cs) (s ∷ ss) v l h e =
    let w = was_some (λ t. with_columns t target (j + 1) cs ss) (with_reduced_cost total (coefficient target j) c s) v e in
    let b = was_some (λ r. with_bound total r s) (sub_checked (coefficient target j) c) w.0 w.1 in
    let here : c ≡ coefficient terms j = h 0 (omega arith) ∙ ap (coefficient terms) (omega arith) in
    let left : b.0 ≡ reduced_cost target terms j = sym (value_from_add (coefficient target j) (neg_ℚ c) b.0 b.1) ∙ ap (λ x. coefficient target j +ℚ neg_ℚ x) here in
    left_exact w.0 target terms (j + 1) cs ss v (omega (arith, l)) (λ i k. h (suc i) (omega (arith, k)) ∙ ap (coefficient terms) (omega arith)) w.2
    ∙ ap (λ u. u +ℚ bounds_price (reduced_cost target terms) (j + 1) ss) (bound_exact total b.0 s w.0 b.2 ∙ ap (λ r. total +ℚ r *ℚ whole (bound_for r s)) left)
    ∙ +ℚ_assoc _ _ _

pub price_exact : (p : Problem) (cs : List Cut) (box : List Span) (target mult : List (ℕ × ℚ)) (v : ℚ) → length box ≡ length p.spans → price p cs box target mult ≡ Some v
    → v ≡ exact_price (known_lines p cs) target mult box
price_exact p cs box target mult v l e =
    let ls = known_lines p cs in
    let w = was_some (λ (q : Sums). with_columns q.side target 0 q.coefficients box) (combined ls mult (length p.spans)) v e in
    let h = has_sums ls mult (length p.spans) w.0 w.1 in
    left_exact w.0.side target (combined_terms ls mult) 0 w.0.coefficients box v (l ∙ sym (combined_length ls mult (length p.spans) w.0 w.1))
    (columns_exact ls mult 0 (length p.spans) w.0.coefficients h.coefficients) w.2
    ∙ ap (λ u. u +ℚ bounds_price (reduced_cost target (combined_terms ls mult)) 0 box) (side_exact ls (whole (pos 0)) mult w.0.side h.side ∙ zero-+ℚ _)
