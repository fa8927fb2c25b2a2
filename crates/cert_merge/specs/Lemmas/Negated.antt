-- Lemmas: combinations with negated multipliers, for L rows where those with the multipliers themselves are for G rows.
use Rattle.std.specs.Prelude.{◌≡◌, ◌<◌, ℕ, ℤ, pos, negsuc, neg_ℤ, ◌*ℤ◌, ◌≤ℤ◌, List, [], ◌∷◌, length, refl}
use Rattle.std.proofs.Common.{sym, ap, ◌∙◌, subst, arith}
use Rattle.std.proofs.lemmas.Int.{ints}
use Rattle.std.proofs.lemmas.List.Elements.{All-map, All-weaker}
use Rattle.fraction.specs.Rational.{ℚ, whole, floor, ceil, neg_ℚ, ◌+ℚ◌, ◌*ℚ◌, ◌≤ℚ◌}
use Rattle.fraction.specs.Whole.{IsWhole}
use Rattle.fraction.specs.Lemmas.Rational.{*ℚ_assoc, mul-+ℚ, floor-≤ℚ, ceil_least}
use Rattle.fraction.specs.Lemmas.Bounds.{whole_parts}
use Rattle.fraction.specs.Lemmas.Checked.{neg-zero}
use Rattle.fraction.specs.Lemmas.Order.{along, whole-≤ℚ, nonneg-neg}
use Rattle.fraction.specs.Lemmas.Whole.{integer_from_whole, whole-*}
use Rattle.problem.specs.declared.objective_sense.ObjectiveSense.{ObjectiveSense}
use Rattle.problem.specs.declared.objective_sense.ObjectiveSense.TheVariants.{Minimise, Maximise}
use Rattle.problem.specs.declared.row.Sense.{Sense}
use Rattle.problem.specs.declared.row.Sense.TheVariants.{G, L, E}
use Rattle.problem.specs.Linear.{coefficient, scaled, SameCoefficients}
use Rattle.problem.specs.Lemmas.Linear.{coefficient-append, coefficient-scaled}
use Rattle.problem.specs.Directions.{negated, directed}
use Rattle.problem.specs.Lemmas.Directions.{neg-is, neg-neg, neg-≤ℚ, coefficient-negated, rise-negated}
use Rattle.cert_rows.specs.Lines.{CertLine, row_at, assumed_by}
use Rattle.cert_rows.specs.Combination.{HasRightSign, combined_terms, combined_rhs}
use Rattle.cert_rows.specs.Assumptions.{union, assumed_by_all}
use Rattle.cert_rows.specs.Validity.{IsCombination}
use Rattle.cert_merge.specs.Laws.{Closes, AreOrdered}

-- ---- numbers
neg-whole : (z : ℤ) → neg_ℚ (whole z) ≡ whole (neg_ℤ z)
neg-whole z = neg-is (whole z) ∙ whole-* (negsuc 0) z ∙ ap whole (let e : negsuc 0 *ℤ z ≡ neg_ℤ z = omega (arith, ints) in e)

neg-+ℚ-both : (x y : ℚ) → neg_ℚ (x +ℚ y) ≡ neg_ℚ x +ℚ neg_ℚ y
neg-+ℚ-both x y = neg-is (x +ℚ y) ∙ mul-+ℚ (whole (negsuc 0)) x y ∙ (λ i. sym (neg-is x) i +ℚ sym (neg-is y) i)

neg-*ℚ : (m x : ℚ) → neg_ℚ m *ℚ x ≡ neg_ℚ (m *ℚ x)
neg-*ℚ m x = ap (λ k. k *ℚ x) (neg-is m) ∙ *ℚ_assoc (whole (negsuc 0)) m x ∙ sym (neg-is (m *ℚ x))

pub whole_negated : (x : ℚ) → IsWhole x → IsWhole (neg_ℚ x)
whole_negated x h =
    let i = integer_from_whole x h in
    subst IsWhole (sym (ap neg_ℚ i.1 ∙ neg-whole i.0)) (whole_parts (neg_ℤ i.0)).1

-- a negated number rounded down is the number rounded up, negated
pub floor-neg : (x : ℚ) → whole (floor (neg_ℚ x)) ≤ℚ neg_ℚ (whole (ceil x))
floor-neg x =
    let z = floor (neg_ℚ x) in
    let above : x ≤ℚ whole (neg_ℤ z) = along _ _ _ _ (neg-neg x) (neg-whole z) (neg-≤ℚ (whole z) (neg_ℚ x) (floor-≤ℚ (neg_ℚ x))) in
    let least = ceil_least x (neg_ℤ z) above in
    along _ _ _ _ refl (sym (neg-whole (ceil x))) (whole-≤ℚ z (neg_ℤ (ceil x)) (turned z (ceil x) least))
  where
    turned : (z c : ℤ) → c ≤ℤ neg_ℤ z → z ≤ℤ neg_ℤ c
    turned z c h = omega (arith, ints)

-- ---- combinations
pub terms_negated : (ls : List CertLine) (ms : List (ℕ × ℚ)) (j : ℕ) → coefficient (combined_terms ls (negated ms)) j ≡ neg_ℚ (coefficient (combined_terms ls ms) j)
terms_negated ls [] j = sym neg-zero
terms_negated ls (m ∷ ms) j =
    let r = (row_at ls m.0).terms in
    coefficient-append (scaled (neg_ℚ m.1) r) (combined_terms ls (negated ms)) j
    ∙ (λ i. (coefficient-scaled (neg_ℚ m.1) r j ∙ neg-*ℚ m.1 (coefficient r j)) i +ℚ terms_negated ls ms j i)
    ∙ sym (neg-+ℚ-both (m.1 *ℚ coefficient r j) (coefficient (combined_terms ls ms) j))
    ∙ ap neg_ℚ (sym (coefficient-append (scaled m.1 r) (combined_terms ls ms) j ∙ ap (λ v. v +ℚ coefficient (combined_terms ls ms) j) (coefficient-scaled m.1 r j)))

pub rhs_negated : (ls : List CertLine) (ms : List (ℕ × ℚ)) → combined_rhs ls (negated ms) ≡ neg_ℚ (combined_rhs ls ms)
rhs_negated ls [] = sym neg-zero
rhs_negated ls (m ∷ ms) =
    (λ i. neg-*ℚ m.1 (row_at ls m.0).rhs i +ℚ rhs_negated ls ms i) ∙ sym (neg-+ℚ-both (m.1 *ℚ (row_at ls m.0).rhs) (combined_rhs ls ms))

sign_negated : (s : Sense) (m : ℚ) → HasRightSign G s m → HasRightSign L s (neg_ℚ m)
sign_negated G m h = along _ _ _ _ refl neg-zero (neg-≤ℚ (whole (pos 0)) m h)
sign_negated L m h = nonneg-neg m h
sign_negated E m h = tt

pub combination_negated : (ls : List CertLine) (ms : List (ℕ × ℚ)) → IsCombination ls G ms → IsCombination ls L (negated ms)
combination_negated ls ms c = record {
  earlier = All-map (λ (m : ℕ × ℚ). m.0 < length ls) (λ (m : ℕ × ℚ). (m.0, neg_ℚ m.1)) ms c.earlier;
  signs = All-map (λ (m : ℕ × ℚ). HasRightSign L (row_at ls m.0).sense m.1) (λ (m : ℕ × ℚ). (m.0, neg_ℚ m.1)) ms
      (All-weaker (λ (m : ℕ × ℚ). HasRightSign G (row_at ls m.0).sense m.1) (λ (m : ℕ × ℚ). HasRightSign L (row_at ls m.0).sense (neg_ℚ m.1)) (λ m h. sign_negated (row_at ls m.0).sense m.1 h) ms c.signs);
}

-- the multipliers of a closed node, negated, give the own objective where it is maximised
pub own_terms : (ls : List CertLine) (terms : List (ℕ × ℚ)) (p : ℚ) (ms : List (ℕ × ℚ)) → Closes ls (negated terms) p ms → SameCoefficients (combined_terms ls (negated ms)) terms
own_terms ls terms p ms c j = terms_negated ls ms j ∙ ap neg_ℚ (c.terms j ∙ coefficient-negated terms j) ∙ neg-neg (coefficient terms j)

-- ---- what is the same in both directions
pub assumed_directed : (s : ObjectiveSense) (ls : List CertLine) (ms : List (ℕ × ℚ)) → assumed_by_all ls (directed s ms) ≡ assumed_by_all ls ms
assumed_directed Minimise ls ms = refl
assumed_directed Maximise ls ms = each ms
  where
    each : (ms : List (ℕ × ℚ)) → assumed_by_all ls (negated ms) ≡ assumed_by_all ls ms
    each [] = refl
    each (m ∷ ms) = ap (union (assumed_by ls m.0)) (each ms)

pub ordered_directed : (s : ObjectiveSense) (ms : List (ℕ × ℚ)) → AreOrdered ms → AreOrdered (directed s ms)
ordered_directed Minimise ms h = h
ordered_directed Maximise ms h = (
  rise-negated 0 ms h.0,
  All-map (λ (m : ℕ × ℚ). m.1 ≡ whole (pos 0) → ⊥) (λ (m : ℕ × ℚ). (m.0, neg_ℚ m.1)) ms
      (All-weaker (λ (m : ℕ × ℚ). m.1 ≡ whole (pos 0) → ⊥) (λ (m : ℕ × ℚ). neg_ℚ m.1 ≡ whole (pos 0) → ⊥) (λ m k e. k (sym (neg-neg m.1) ∙ ap neg_ℚ e ∙ neg-zero)) ms h.1),
)
