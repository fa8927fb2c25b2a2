-- What a combination that has a price leaves of each column.
use Rattle.std.specs.Prelude.{◌≡◌, ◌<◌, ◌+◌, ℕ, zero, suc, pos, List, [], ◌∷◌, ◌++◌, length, slice_index_or, Some, is_some, IsSome}
use Rattle.std.proofs.Common.{sym, ap, ◌∙◌, subst, inl, inr, arith}
use Rattle.std.proofs.lemmas.Bool.{cases_lt}
use Rattle.std.proofs.lemmas.List.{get_or_append_left, get_or_push}
use Rattle.fraction.specs.Rational.{ℚ, whole, ◌+ℚ◌, neg_ℚ}
use Rattle.fraction.specs.Checked.{sub_checked}
use Rattle.fraction.specs.Lemmas.Bounds.{value_from_add}
use Rattle.problem_box.specs.declared.span.Span.{Span}
use Rattle.problem.specs.Linear.{coefficient}
use Rattle.problem.specs.Problem.{Problem}
use Rattle.cert_rows.specs.Combination.{combined_terms}
use Rattle.derivation_book.specs.declared.cut.Cut.{Cut}
use Rattle.derivation_book.specs.Known.{known_lines}
use Rattle.derivation_book.specs.Sums.{Sums, combined}
use Rattle.derivation_book.specs.Price.{with_bound, with_reduced_cost, with_columns, HasPrice}
use Rattle.fraction.specs.Lemmas.Bounds.{was_some}
use Rattle.derivation_book.specs.Lemmas.Combining.{combined_length}
use Rattle.derivation_book.specs.Lemmas.Price.{has_sums}
use Rattle.derivation_book.specs.Lemmas.Exact.{columns_exact}

-- ---- nothing is cramped
fits_from : (total : ℚ) (target : List (ℕ × ℚ)) (j : ℕ) (cs : List ℚ) (ss : List Span) (v : ℚ) → length ss ≡ length cs → with_columns total target j cs ss ≡ Some v
    → (i : ℕ) → i < length cs → IsSome (sub_checked (coefficient target (j + i)) (slice_index_or cs i (whole (pos 0))))
fits_from total target j [] ss v l e i h = absurd (omega (arith, h))
fits_from total target j (c ∷ cs) [] v l e i h = absurd (omega (arith, l))
fits_from total target j (c ∷ cs) (s ∷ ss) v l e zero h =
    let w = was_some (λ t. with_columns t target (j + 1) cs ss) (with_reduced_cost total (coefficient target j) c s) v e in
    let b = was_some (λ r. with_bound total r s) (sub_checked (coefficient target j) c) w.0 w.1 in
    let z : j ≡ j + 0 = omega arith in
    subst (λ k. IsSome (sub_checked (coefficient target k) c)) z (ap is_some b.1)
fits_from total target j (c ∷ cs) (s ∷ ss) v l e (suc i) h =
    let w = was_some (λ t. with_columns t target (j + 1) cs ss) (with_reduced_cost total (coefficient target j) c s) v e in
    let z : j + 1 + i ≡ j + suc i = omega arith in
    subst (λ k. IsSome (sub_checked (coefficient target k) (slice_index_or cs i (whole (pos 0))))) z (fits_from w.0 target (j + 1) cs ss v (omega (arith, l)) w.2 i (omega (arith, h)))

-- the sums that a price was made from
pub record ArePricedSums (p : Problem) (cs : List Cut) (target mult : List (ℕ × ℚ)) (q : Sums) : Type 0 where
  pub combined : combined (known_lines p cs) mult (length p.spans) ≡ Some q
  pub long : length q.coefficients ≡ length p.spans
  pub fits : (j : ℕ) → j < length q.coefficients → IsSome (sub_checked (coefficient target j) (slice_index_or q.coefficients j (whole (pos 0))))
  pub exact : (j : ℕ) → j < length q.coefficients → slice_index_or q.coefficients j (whole (pos 0)) ≡ coefficient (combined_terms (known_lines p cs) mult) j

priced_sums : (p : Problem) (cs : List Cut) (target mult : List (ℕ × ℚ)) → HasPrice p cs target mult → (q : Sums) × ArePricedSums p cs target mult q
priced_sums p cs target mult h =
    let ls = known_lines p cs in
    let w = was_some (λ (q : Sums). with_columns q.side target 0 q.coefficients h.box) (combined ls mult (length p.spans)) h.value h.priced in
    let long = combined_length ls mult (length p.spans) w.0 w.1 in
    let sums = has_sums ls mult (length p.spans) w.0 w.1 in (
      w.0,
      record {
        combined = w.1;
        long = long;
        fits = λ j l. subst (λ k. IsSome (sub_checked (coefficient target k) (slice_index_or w.0.coefficients j (whole (pos 0))))) (let z : 0 + j ≡ j = omega arith in z)
            (fits_from w.0.side target 0 w.0.coefficients h.box h.value (h.columns ∙ sym long) w.2 j l);
        exact = λ j l. columns_exact ls mult 0 (length p.spans) w.0.coefficients sums.coefficients j l ∙ ap (coefficient (combined_terms ls mult)) (let z : 0 + j ≡ j = omega arith in z);
      },
    )

-- the same of the sums that are at hand
pub sums_priced : (p : Problem) (cs : List Cut) (target mult : List (ℕ × ℚ)) → HasPrice p cs target mult → (q : Sums) → Some q ≡ combined (known_lines p cs) mult (length p.spans) → ArePricedSums p cs target mult q
sums_priced p cs target mult h q e =
    let r = priced_sums p cs target mult h in
    let same : Some r.0 ≡ Some q = sym r.1.combined ∙ sym e in
    let z : r.0 ≡ q = cc in
    subst (ArePricedSums p cs target mult) z r.1

-- ---- one more column
pub left_is : (a b a' b' x : ℚ) → Some x ≡ sub_checked a b → a ≡ a' → b ≡ b' → x ≡ a' +ℚ neg_ℚ b'
left_is a b a' b' x e p q = sym (value_from_add a (neg_ℚ b) x (sym e)) ∙ (λ i. p i +ℚ neg_ℚ (q i))

pub one_more : (F : ℕ → ℚ) (xs ys : List ℚ) (n : ℕ) (x : ℚ) → ys ≡ xs ++ x ∷ [] → length xs ≡ n → x ≡ F n → ((j : ℕ) → j < n → slice_index_or xs j (whole (pos 0)) ≡ F j)
    → (j : ℕ) → j < n + 1 → slice_index_or ys j (whole (pos 0)) ≡ F j
one_more F xs ys n x e l q h j m = elim (cases_lt j n) [
  | inl g ↦ ap (λ zs. slice_index_or zs j (whole (pos 0))) e ∙ get_or_append_left xs (x ∷ []) (whole (pos 0)) j (omega (arith, g, l)) ∙ h j g
  | inr g ↦
      (let k : j ≡ n = omega (arith, g, m) in
      ap (λ zs. slice_index_or zs j (whole (pos 0))) e ∙ get_or_push xs x (whole (pos 0)) j (l ∙ sym k) ∙ q ∙ ap F (sym k))
]
