-- Lemmas: negated terms, and the objective that a search minimises.
use Rattle.std.specs.Prelude.{◌≡◌, ◌<◌, ◌*◌, ℕ, suc, ℤ, pos, negsuc, neg_ℤ, ◌*ℤ◌, List, [], ◌∷◌, Some, length, refl}
use Rattle.std.proofs.Common.{sym, ap, ◌∙◌, subst, arith}
use Rattle.std.proofs.lemmas.Int.{ints}
use Rattle.std.proofs.lemmas.List.Elements.{All-map, All-weaker}
use Rattle.fraction.specs.Rational.{ℚ, frac, whole, neg_ℚ, ◌*ℚ◌, ◌≤ℚ◌}
use Rattle.fraction.specs.Bounds.{Within}
use Rattle.fraction.specs.Lemmas.Rational.{lit_one, ℚ_is, frac-*ℚ, neg_ℚ_is, one-*ℚ, *ℚ_assoc, *ℚ_comm}
use Rattle.fraction.specs.Lemmas.Whole.{whole-*}
use Rattle.fraction.specs.Lemmas.Checked.{neg-zero}
use Rattle.fraction.specs.Lemmas.Bounds.{Within-*ℚ}
use Rattle.fraction.specs.Lemmas.Order.{along, whole-≤ℚ, *ℚ-≥ℚ}
use Rattle.problem.specs.declared.objective_sense.ObjectiveSense.{ObjectiveSense}
use Rattle.problem.specs.declared.objective_sense.ObjectiveSense.TheVariants.{Minimise, Maximise}
use Rattle.problem.specs.Linear.{value, coefficient, scaled}
use Rattle.problem.specs.Lemmas.Linear.{value-scaled, coefficient-scaled}
use Rattle.problem.specs.Rising.{RiseFrom}
use Rattle.problem.specs.Modest.{IsModest}
use Rattle.problem.specs.Limits.{largest_bound, finest}
use Rattle.problem.specs.Limited.{AreLimited, IsLimited}
use Rattle.problem.specs.Problem.{Problem}
use Rattle.problem.specs.Directions.{negated, negated_if, directed, directed_value, aim}

-- ---- numbers
-- a negated number is the product with -1
pub neg-is : (q : ℚ) → neg_ℚ q ≡ whole (negsuc 0) *ℚ q
neg-is q =
    neg_ℚ_is q ∙ (λ i. frac (let e : neg_ℤ q.num ≡ negsuc 0 *ℤ q.num = omega (arith, ints) in e i) (let e : q.den ≡ 1 * q.den = omega arith in e i))
    ∙ sym (frac-*ℚ (negsuc 0) q.num 1 q.den lit_one q.lowest.0) ∙ ap (λ r. whole (negsuc 0) *ℚ r) (sym (ℚ_is q))

pub neg-neg : (q : ℚ) → neg_ℚ (neg_ℚ q) ≡ q
neg-neg q =
    neg-is (neg_ℚ q) ∙ ap (λ r. whole (negsuc 0) *ℚ r) (neg-is q) ∙ sym (*ℚ_assoc (whole (negsuc 0)) (whole (negsuc 0)) q)
    ∙ ap (λ m. m *ℚ q) (whole-* (negsuc 0) (negsuc 0)) ∙ one-*ℚ q

-- negated numbers stand the other way round
pub neg-≤ℚ : (a b : ℚ) → a ≤ℚ b → neg_ℚ b ≤ℚ neg_ℚ a
neg-≤ℚ a b h = along _ _ _ _ (sym (neg-is b)) (sym (neg-is a)) (*ℚ-≥ℚ (whole (negsuc 0)) a b (whole-≤ℚ (negsuc 0) (pos 0) (omega (arith, ints))) h)

nonzero-neg : (q : ℚ) → (q ≡ whole (pos 0) → ⊥) → neg_ℚ q ≡ whole (pos 0) → ⊥
nonzero-neg q h e = h (sym (neg-neg q) ∙ ap neg_ℚ e ∙ neg-zero)

modest-neg : (q : ℚ) → IsModest q → IsModest (neg_ℚ q)
modest-neg q h =
    subst (λ r. Within finest (largest_bound * finest) r) (*ℚ_comm q (whole (negsuc 0)) ∙ sym (neg-is q))
    (subst (λ a. Within finest a (q *ℚ whole (negsuc 0))) (omega arith) (Within-*ℚ q (negsuc 0) finest (largest_bound * finest) 1 (omega arith) h (omega (arith, ints))))

-- ---- terms
negated_is : (ts : List (ℕ × ℚ)) → negated ts ≡ scaled (whole (negsuc 0)) ts
negated_is [] = refl
negated_is (t ∷ ts) = λ i. (t.0, neg-is t.1 i) ∷ negated_is ts i

pub value-negated : (ts : List (ℕ × ℚ)) (x : List ℤ) → value (negated ts) x ≡ neg_ℚ (value ts x)
value-negated ts x = ap (λ us. value us x) (negated_is ts) ∙ value-scaled (whole (negsuc 0)) ts x ∙ sym (neg-is (value ts x))

pub coefficient-negated : (ts : List (ℕ × ℚ)) (j : ℕ) → coefficient (negated ts) j ≡ neg_ℚ (coefficient ts j)
coefficient-negated ts j = ap (λ us. coefficient us j) (negated_is ts) ∙ coefficient-scaled (whole (negsuc 0)) ts j ∙ sym (neg-is (coefficient ts j))

pub rise-negated : (k : ℕ) (ts : List (ℕ × ℚ)) → RiseFrom k ts → RiseFrom k (negated ts)
rise-negated k [] h = tt
rise-negated k (t ∷ ts) h = (h.0, rise-negated (suc t.0) ts h.1)

limited-negated : (n : ℕ) (ts : List (ℕ × ℚ)) → AreLimited n ts → AreLimited n (negated ts)
limited-negated n ts h = record {
  below = All-map (λ (t : ℕ × ℚ). t.0 < n) (λ (t : ℕ × ℚ). (t.0, neg_ℚ t.1)) ts h.below;
  rising = rise-negated 0 ts h.rising;
  nonzero = All-map (λ (t : ℕ × ℚ). t.1 ≡ whole (pos 0) → ⊥) (λ (t : ℕ × ℚ). (t.0, neg_ℚ t.1)) ts
      (All-weaker (λ (t : ℕ × ℚ). t.1 ≡ whole (pos 0) → ⊥) (λ (t : ℕ × ℚ). neg_ℚ t.1 ≡ whole (pos 0) → ⊥) (λ t k. nonzero-neg t.1 k) ts h.nonzero);
  modest = All-map (λ (t : ℕ × ℚ). IsModest t.1) (λ (t : ℕ × ℚ). (t.0, neg_ℚ t.1)) ts
      (All-weaker (λ (t : ℕ × ℚ). IsModest t.1) (λ (t : ℕ × ℚ). IsModest (neg_ℚ t.1)) (λ t k. modest-neg t.1 k) ts h.modest);
}

-- ---- the aim
pub limited-directed : (s : ObjectiveSense) (n : ℕ) (ts : List (ℕ × ℚ)) → AreLimited n ts → AreLimited n (directed s ts)
limited-directed Minimise n ts h = h
limited-directed Maximise n ts h = limited-negated n ts h

pub limited_aim : (p : Problem) → IsLimited p → AreLimited (length p.spans) (aim p)
limited_aim p h = limited-directed p.sense (length p.spans) p.objective h.objective

-- the terms are kept a second time exactly where the objective is maximised
pub kept_negated : (s : ObjectiveSense) (ts us : List (ℕ × ℚ)) → Some us ≡ negated_if s ts → us ≡ directed s ts
kept_negated Minimise ts us e = cc
kept_negated Maximise ts us e = cc

pub value-directed : (s : ObjectiveSense) (ts : List (ℕ × ℚ)) (x : List ℤ) → value (directed s ts) x ≡ directed_value s (value ts x)
value-directed Minimise ts x = refl
value-directed Maximise ts x = value-negated ts x
