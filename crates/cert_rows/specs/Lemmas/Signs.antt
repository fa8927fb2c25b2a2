-- Combinations of rows that hold, and rows that a row dominates.
use Rattle.std.specs.Prelude.{◌⊎◌, ℕ, ℤ, pos, ◌+ℤ◌, ◌≤ℤ◌, List, [], ◌∷◌, All, refl}
use Rattle.std.proofs.Common.{sym, ap, ◌∙◌, subst, inl, inr, arith}
use Rattle.std.proofs.lemmas.Int.{ints}
use Rattle.std.proofs.lemmas.List.Elements.{All-head, All-tail}
use Rattle.fraction.specs.Rational.{ℚ, whole, ◌+ℚ◌, ◌*ℚ◌}
use Rattle.fraction.specs.Lemmas.Rational.{*ℚ-≤ℚ, ≤ℚ_refl, ≤ℚ_trans, ceil_least}
use Rattle.fraction.specs.Lemmas.Order.{not_both, floor_greatest, whole-≤ℚ, along, same_le, +ℚ-≤ℚ-both, *ℚ-≥ℚ}
use Rattle.problem.specs.declared.row.Sense.{Sense}
use Rattle.problem.specs.declared.row.Sense.TheVariants.{G, L, E}
use Rattle.problem.specs.declared.row.Row.{Row}
use Rattle.problem.specs.Linear.{value, scaled}
use Rattle.problem.specs.Lemmas.Linear.{integer-value, value-scaled, value-append, value-same, value-none}
use Rattle.problem.specs.Rows.{Compares, Satisfies}
use Rattle.cert_rows.specs.Lines.{CertLine, row_at}
use Rattle.cert_rows.specs.Combination.{HasRightSign, AllSigned, combination, combined_terms, combined_rhs}
use Rattle.cert_rows.specs.Domination.{ExcludesZero, IsAbsurd, IsAsTight, Dominates}
use Rattle.cert_rows.specs.Validity.{HasWholeCoefficients, rounded, rounded_rhs, IsSplit}
use Rattle.fraction.specs.Lemmas.Whole.{integer_from_whole, whole-+}

pub Compares-scaled : (s t : Sense) (m rhs v : ℚ) → HasRightSign s t m → Compares t rhs v → Compares s (m *ℚ rhs) (m *ℚ v)
Compares-scaled G G m rhs v h k = *ℚ-≤ℚ m rhs v h k
Compares-scaled G L m rhs v h k = *ℚ-≥ℚ m v rhs h k
Compares-scaled G E m rhs v h k = same_le _ _ (ap (λ w. m *ℚ w) (sym k))
Compares-scaled L L m rhs v h k = *ℚ-≤ℚ m v rhs h k
Compares-scaled L G m rhs v h k = *ℚ-≥ℚ m rhs v h k
Compares-scaled L E m rhs v h k = same_le _ _ (ap (λ w. m *ℚ w) k)
Compares-scaled E E m rhs v h k = ap (λ w. m *ℚ w) k
Compares-scaled E G m rhs v h k = absurd h
Compares-scaled E L m rhs v h k = absurd h

pub Compares-added : (s : Sense) (a b v w : ℚ) → Compares s a v → Compares s b w → Compares s (a +ℚ b) (v +ℚ w)
Compares-added G a b v w h k = +ℚ-≤ℚ-both a v b w h k
Compares-added L a b v w h k = +ℚ-≤ℚ-both v a w b h k
Compares-added E a b v w h k = λ i. h i +ℚ k i

Compares-zero : (s : Sense) → Compares s (whole (pos 0)) (whole (pos 0))
Compares-zero G = ≤ℚ_refl _
Compares-zero L = ≤ℚ_refl _
Compares-zero E = refl

-- a combination of rows that the point satisfies
pub Satisfies-combination : (x : List ℤ) (s : Sense) (ls : List CertLine) (mult : List (ℕ × ℚ))
    → AllSigned s ls mult → All (λ m. Satisfies x (row_at ls m.0)) mult → Satisfies x (combination s ls mult)
Satisfies-combination x s ls [] h k = Compares-zero s
Satisfies-combination x s ls (m ∷ ms) h k =
    let r = row_at ls m.0 in
    subst (λ v. Compares s (combined_rhs ls (m ∷ ms)) v)
    (sym (value-append (scaled m.1 r.terms) (combined_terms ls ms) x ∙ ap (λ v. v +ℚ value (combined_terms ls ms) x) (value-scaled m.1 r.terms x)))
    (Compares-added s _ _ _ _
    (Compares-scaled s r.sense m.1 r.rhs (value r.terms x)
    (All-head (λ (m : ℕ × ℚ). HasRightSign s (row_at ls m.0).sense m.1) m ms h) (All-head (λ (m : ℕ × ℚ). Satisfies x (row_at ls m.0)) m ms k))
    (Satisfies-combination x s ls ms
    (All-tail (λ (m : ℕ × ℚ). HasRightSign s (row_at ls m.0).sense m.1) m ms h) (All-tail (λ (m : ℕ × ℚ). Satisfies x (row_at ls m.0)) m ms k)))

-- ---- domination
excluded : (s : Sense) (rhs : ℚ) → ExcludesZero s rhs → Compares s rhs (whole (pos 0)) → ⊥
excluded G rhs h k = not_both _ _ k h
excluded L rhs h k = not_both _ _ k h
excluded E rhs h k = absurd h

pub none-absurd : (x : List ℤ) (r : Row) → IsAbsurd r → Satisfies x r → ⊥
none-absurd x r h k = excluded r.sense r.rhs h.excludes (subst (λ v. Compares r.sense r.rhs v) (value-none r.terms x h.no_terms) k)

Compares-weaker : (s : Sense) (a b v : ℚ) → IsAsTight s a b → Compares s a v → Compares s b v
Compares-weaker G a b v h k = ≤ℚ_trans _ _ _ h k
Compares-weaker L a b v h k = ≤ℚ_trans _ _ _ k h
Compares-weaker E a b v h k = absurd h

pub Satisfies-dominated : (x : List ℤ) (a b : Row) → Dominates a b → Satisfies x a → Satisfies x b
Satisfies-dominated x a b (inl h) k = absurd (none-absurd x a h k)
Satisfies-dominated x a b (inr h) k =
    Compares-weaker b.sense a.rhs b.rhs _ h.rhs
    (subst (λ s. Compares s a.rhs (value b.terms x)) h.sense (subst (λ v. Compares a.sense a.rhs v) (value-same a.terms b.terms x h.terms) k))

-- ---- rounding
Compares-rounded : (s : Sense) (rhs : ℚ) (z : ℤ) → Compares s rhs (whole z) → Compares s (rounded_rhs s rhs) (whole z)
Compares-rounded G rhs z h = whole-≤ℚ _ _ (ceil_least rhs z h)
Compares-rounded L rhs z h = whole-≤ℚ _ _ (floor_greatest rhs z h)
Compares-rounded E rhs z h = h

pub Satisfies-rounded : (x : List ℤ) (r : Row) → HasWholeCoefficients r → Satisfies x r → Satisfies x (rounded r)
Satisfies-rounded x r h k =
    let i = integer-value r.terms x h in
    subst (λ v. Compares r.sense (rounded_rhs r.sense r.rhs) v) (sym i.1) (Compares-rounded r.sense r.rhs i.0 (subst (λ v. Compares r.sense r.rhs v) i.1 k))

-- ---- splits
either : (b z : ℤ) → (z ≤ℤ b) ⊎ ((b +ℤ pos 1) ≤ℤ z)
either b z = grind (arith, ints)

-- a point satisfies one side of a split
pub Satisfies-split : (x : List ℤ) (low high : Row) → IsSplit low high → Satisfies x low ⊎ Satisfies x high
Satisfies-split x low high h =
    let i = integer-value low.terms x h.whole_terms in
    let b = integer_from_whole low.rhs h.whole_rhs in
    elim (either b.0 i.0) [
      | inl k ↦ inl (subst (λ s. Compares s low.rhs (value low.terms x)) (sym h.at_most) (along _ _ _ _ (sym i.1) (sym b.1) (whole-≤ℚ _ _ k)))
      | inr k ↦ inr (subst (λ s. Compares s high.rhs (value high.terms x)) (sym h.at_least)
          (along _ _ _ _ (sym (h.next_rhs ∙ ap (λ v. v +ℚ whole (pos 1)) b.1 ∙ whole-+ b.0 (pos 1) ∙ ap whole (omega (arith, ints)))) (sym i.1 ∙ value-same low.terms high.terms x h.terms) (whole-≤ℚ _ _ k)))
    ]
