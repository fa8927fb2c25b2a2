-- Lemmas: the tests say what they mean.
use Rattle.std.specs.Prelude.{◌≡◌, ◌⊎◌, ◌<◌, ℕ, ℤ, pos, ◌*ℤ◌, ◌≤ℤ◌, ◌<ℤ◌, int_le, int_lt, Bool, true, false, IsTrue, ◌&&◌, ◌↔◌, nat_lt, nat_le, nat_eq, List, [], length, slice_get, Option, Some, None, refl}
use Rattle.std.specs.Bool.{Decides, one_answer}
use Rattle.std.specs.List.{list_all}
use Rattle.std.specs.Ordering.{is_le}
use Rattle.std.specs.declared.cmp.Ordering.{Ordering}
use Rattle.std.specs.declared.cmp.Ordering.TheVariants.{Less, Equal, Greater}
use Rattle.std.proofs.Common.{sym, ◌∙◌, subst, inl, inr, arith}
use Rattle.std.proofs.lemmas.Int.{ints}
use Rattle.std.proofs.lemmas.Bool.{false≢true, leb-true, le-leb}
use Rattle.std.proofs.lemmas.Bool.Decides.{Decides-like, Decides-and, Decides-or, Decides-eqb, Decides-ltb}
use Rattle.fraction.specs.Rational.{ℚ, whole, ◌≤ℚ◌}
use Rattle.fraction.specs.Lemmas.Rational.{lit_one, ℚ_is, ≤ℚ_frac}
use Rattle.fraction.specs.Order.{◌<ℚ◌}
use Rattle.fraction.specs.Lemmas.Order.{at_least_zero, at_most_zero, at_most, not_at_most, not_both, either_order}
use Rattle.fraction.specs.Checked.{compare}
use Rattle.problem_box.specs.declared.span.Span.{Span}
use Rattle.problem_box.specs.Lemmas.Boxes.{Decides-int_le}
use Rattle.problem.specs.declared.row.Sense.{Sense}
use Rattle.problem.specs.declared.row.Sense.TheVariants.{G, L, E}
use Rattle.problem.specs.Problem.{Problem}
use Rattle.problem.specs.Feasible.{HasWholeObjective}
use Rattle.cert_rows.specs.Lines.{CertLine, row_at}
use Rattle.cert_rows.specs.Combination.{HasRightSign}
use Rattle.cert_rows.specs.Validity.{IsCombination}
use Rattle.cert_rows.specs.Lemmas.Decider.{never, always, decides-all}
use Rattle.node_events.specs.declared.proof.Proof.{Proof}
use Rattle.node_events.specs.declared.proof.Proof.TheVariants.{Empty, Refute, Bound}
use Rattle.derivation_book.specs.declared.cut.Cut.{Cut}
use Rattle.derivation_book.specs.Known.{known_lines, first_cut}
use Rattle.derivation_book.specs.Rounded.{has_right_sign, is_usable}
use Rattle.derivation_book.specs.Price.{price}
use Rattle.derivation_book.specs.Legal.{NamesRowOrCut, AreProofMultipliers, IsRefuting, rounded_if, IsBounding, IsCrossed, IsLegalProof, names_row_or_cut, is_proof_multiplier, is_above_zero, is_refuting, has_whole_objective, may_round, reaches, is_bounding, has_crossed, is_legal_proof}
use Rattle.fraction.specs.Whole.{IsWhole}
use Rattle.problem.specs.Directions.{aim}

-- ---- numbers
decides-int_lt : (a b : ℤ) → Decides (int_lt a b) (a <ℤ b)
decides-int_lt a b = step (int_lt a b) refl
  where
    step : (t : Bool) → int_lt a b ≡ t → Decides t (a <ℤ b)
    step true e = (λ _. grind (arith, ints), λ _. refl)
    step false e = (λ f. absurd (false≢true f), λ h. absurd (grind (arith, ints)))

from_times : (z : ℤ) (d : ℕ) → (pos 0 *ℤ pos d) ≤ℤ (z *ℤ pos 1) → pos 0 ≤ℤ z
from_times z d h = omega (arith, ints)

times_from : (z : ℤ) (d : ℕ) → (z *ℤ pos 1) ≤ℤ (pos 0 *ℤ pos d) → z ≤ℤ pos 0
times_from z d h = omega (arith, ints)

pub decides-at_least_zero : (m : ℚ) → Decides (int_le (pos 0) m.num) (whole (pos 0) ≤ℚ m)
decides-at_least_zero m = Decides-like _
    (at_least_zero m)
    (λ h. from_times m.num m.den (≤ℚ_frac (pos 0) m.num 1 m.den lit_one m.lowest.0 (subst (λ x. whole (pos 0) ≤ℚ x) (ℚ_is m) h)))
    (Decides-int_le (pos 0) m.num)

pub decides-at_most_zero : (m : ℚ) → Decides (int_le m.num (pos 0)) (m ≤ℚ whole (pos 0))
decides-at_most_zero m = Decides-like _
    (at_most_zero m)
    (λ h. times_from m.num m.den (≤ℚ_frac m.num (pos 0) m.den 1 m.lowest.0 lit_one (subst (λ x. x ≤ℚ whole (pos 0)) (ℚ_is m) h)))
    (Decides-int_le m.num (pos 0))

either : (z : ℤ) → (z ≤ℤ pos 0) ⊎ (pos 0 <ℤ z)
either z = grind (arith, ints)

apart : (z : ℤ) → pos 0 <ℤ z → z ≤ℤ pos 0 → ⊥
apart z h k = omega (arith, ints)

pub decides-above_zero : (v : ℚ) → Decides (int_lt (pos 0) v.num) (whole (pos 0) <ℚ v)
decides-above_zero v = Decides-like _ forth back (decides-int_lt (pos 0) v.num)
  where
    forth : pos 0 <ℤ v.num → whole (pos 0) <ℚ v
    forth h = elim (either_order v (whole (pos 0))) [ inl l ↦ absurd (apart v.num h ((Decides-int_le v.num (pos 0)).0 ((decides-at_most_zero v).1 l))) | inr l ↦ l ]

    back : whole (pos 0) <ℚ v → pos 0 <ℤ v.num
    back h = elim (either v.num) [ inl l ↦ absurd (not_both v (whole (pos 0)) ((decides-at_most_zero v).0 ((Decides-int_le v.num (pos 0)).1 l)) h) | inr l ↦ l ]

pub decides-at_most : (x y : ℚ) → Decides (is_le (compare x y)) (x ≤ℚ y)
decides-at_most x y = step (compare x y) refl
  where
    step : (o : Ordering) → compare x y ≡ o → Decides (is_le o) (x ≤ℚ y)
    step Less e = always (at_most x y (λ f. absurd (cc)))
    step Equal e = always (at_most x y (λ f. absurd (cc)))
    step Greater e = never (not_at_most x y (sym e))

-- ---- signs and numbers
pub decides-sign : (s : Sense) (m : ℚ) → Decides (has_right_sign s m) (HasRightSign G s m)
decides-sign G m = decides-at_least_zero m
decides-sign L m = decides-at_most_zero m
decides-sign E m = always tt

pub decides-usable : (ls : List CertLine) (mult : List (ℕ × ℚ)) → Decides (list_all (is_usable ls) mult) (IsCombination ls G mult)
decides-usable ls mult =
    Decides-like _ (λ h. record { earlier = λ k d l. (h k d l).0; signs = λ k d l. (h k d l).1 }) (λ h k d l. (h.earlier k d l, h.signs k d l))
    (decides-all (is_usable ls) (λ (m : ℕ × ℚ). (m.0 < length ls) × HasRightSign G (row_at ls m.0).sense m.1)
    (λ m. Decides-and (nat_lt m.0 (length ls)) (has_right_sign (row_at ls m.0).sense m.1) (Decides-ltb _ _) (decides-sign (row_at ls m.0).sense m.1)) mult)

-- ---- the objective
pub decides-whole : (p : Problem) → Decides (has_whole_objective p) (HasWholeObjective p)
decides-whole p = decides-all (λ (t : ℕ × ℚ). nat_eq t.1.den 1) (λ (t : ℕ × ℚ). IsWhole t.1) (λ t. Decides-eqb t.1.den 1) (aim p)

pub whole_answer : (p : Problem) (b : Bool) → IsTrue b ↔ HasWholeObjective p → b ≡ has_whole_objective p
whole_answer p b h = one_answer _ _ h (decides-whole p)

-- ---- proofs
decides-names : (p : Problem) (i : ℕ) → Decides (names_row_or_cut p i) (NamesRowOrCut p i)
decides-names p i = Decides-or (nat_lt i (length p.rows)) (nat_le (first_cut p) i) (Decides-ltb _ _) (leb-true (first_cut p) i, le-leb (first_cut p) i)

decides-multipliers : (p : Problem) (cs : List Cut) (mult : List (ℕ × ℚ)) → Decides (list_all (is_proof_multiplier p cs) mult) (AreProofMultipliers p cs mult)
decides-multipliers p cs mult =
    let ls = known_lines p cs in
    Decides-like _
    (λ h. record { names = λ k d l. (h k d l).0; combined = record { earlier = λ k d l. (h k d l).1.0; signs = λ k d l. (h k d l).1.1 } })
    (λ h k d l. (h.names k d l, (h.combined.earlier k d l, h.combined.signs k d l)))
    (decides-all (is_proof_multiplier p cs) (λ (m : ℕ × ℚ). NamesRowOrCut p m.0 × ((m.0 < length ls) × HasRightSign G (row_at ls m.0).sense m.1))
    (λ m. Decides-and (names_row_or_cut p m.0) (is_usable ls m) (decides-names p m.0)
    (Decides-and (nat_lt m.0 (length ls)) (has_right_sign (row_at ls m.0).sense m.1) (Decides-ltb _ _) (decides-sign (row_at ls m.0).sense m.1))) mult)

abbrev IsAbove : Option ℚ → Type 0
IsAbove o = (v : ℚ) × (o ≡ Some v) × (whole (pos 0) <ℚ v)

decides-above : (o : Option ℚ) → Decides (is_above_zero o) (IsAbove o)
decides-above None = never (λ h. absurd (impossible h.0 h.1))
  where
    impossible : (v : ℚ) → ◌≡◌ {A = Option ℚ} None (Some v) → ⊥
    impossible v e = cc
decides-above (Some v) = Decides-like _ (λ h. (v, refl, h)) (λ h. let k : v ≡ h.0 = same v h.0 h.1 in subst (λ x. whole (pos 0) <ℚ x) (sym k) h.2) (decides-above_zero v)
  where
    same : (v w : ℚ) → Some v ≡ Some w → v ≡ w
    same v w e = cc

decides-refuting : (p : Problem) (cs : List Cut) (box : List Span) (mult : List (ℕ × ℚ)) → Decides (is_refuting p cs box mult) (IsRefuting p cs box mult)
decides-refuting p cs box mult =
    Decides-like _ (λ h. record { multipliers = h.0; value = h.1.0; priced = h.1.1; above = h.1.2 }) (λ h. (h.multipliers, (h.value, h.priced, h.above)))
    (Decides-and (list_all (is_proof_multiplier p cs) mult) (is_above_zero (price p cs box [] mult)) (decides-multipliers p cs mult) (decides-above (price p cs box [] mult)))

abbrev Reaches : Option ℚ → Bool → Option ℚ → Type 0
Reaches cutoff rounded o = (z : ℚ) × (cutoff ≡ Some z) × ((v : ℚ) × (o ≡ Some v) × (z ≤ℚ rounded_if rounded v))

decides-reaches : (cutoff : Option ℚ) (rounded : Bool) (o : Option ℚ) → Decides (reaches cutoff rounded o) (Reaches cutoff rounded o)
decides-reaches None rounded o = never (λ h. impossible h.0 h.1)
  where
    impossible : (v : ℚ) → ◌≡◌ {A = Option ℚ} None (Some v) → ⊥
    impossible v e = cc
decides-reaches (Some z) rounded None = never (λ h. impossible h.2.0 h.2.1)
  where
    impossible : (v : ℚ) → ◌≡◌ {A = Option ℚ} None (Some v) → ⊥
    impossible v e = cc
decides-reaches (Some z) rounded (Some v) =
    Decides-like _ (λ h. (z, refl, (v, refl, h)))
    (λ h. subst (λ x. z ≤ℚ rounded_if rounded x) (sym (same v h.2.0 h.2.1)) (subst (λ y. y ≤ℚ rounded_if rounded h.2.0) (sym (same z h.0 h.1)) h.2.2))
    (decides-at_most z (rounded_if rounded v))
  where
    same : (v w : ℚ) → Some v ≡ Some w → v ≡ w
    same v w e = cc

decides-round : (p : Problem) (rounded : Bool) → Decides (may_round p rounded) (IsTrue rounded → HasWholeObjective p)
decides-round p true = Decides-like _ (λ h _. h) (λ h. h refl) (decides-whole p)
decides-round p false = always (λ e. absurd (false≢true e))

decides-bounding : (p : Problem) (cs : List Cut) (box : List Span) (cutoff : Option ℚ) (mult : List (ℕ × ℚ)) (rounded : Bool)
    → Decides (is_bounding p cs box cutoff mult rounded) (IsBounding p cs box cutoff mult rounded)
decides-bounding p cs box cutoff mult rounded =
    Decides-like _
    (λ h. record { multipliers = h.0.0; whole_objective = h.0.1; limit = h.1.0; limited = h.1.1; value = h.1.2.0; priced = h.1.2.1; reached = h.1.2.2 })
    (λ h. ((h.multipliers, h.whole_objective), (h.limit, h.limited, (h.value, h.priced, h.reached))))
    (Decides-and (list_all (is_proof_multiplier p cs) mult && may_round p rounded) (reaches cutoff rounded (price p cs box (aim p) mult))
    (Decides-and (list_all (is_proof_multiplier p cs) mult) (may_round p rounded) (decides-multipliers p cs mult) (decides-round p rounded))
    (decides-reaches cutoff rounded (price p cs box (aim p) mult)))

decides-crossed : (box : List Span) (j : ℕ) → Decides (has_crossed (slice_get box j)) (IsCrossed box j)
decides-crossed box j = step (slice_get box j) refl
  where
    impossible : (s : Span) → ◌≡◌ {A = Option Span} None (Some s) → ⊥
    impossible s e = cc

    same : (r s : Span) → Some r ≡ Some s → r ≡ s
    same r s e = cc

    step : (o : Option Span) → slice_get box j ≡ o → Decides (has_crossed o) (IsCrossed box j)
    step None e = never (λ h. impossible h.span (sym e ∙ h.there))
    step (Some s) e =
        Decides-like _ (λ h. record { span = s; there = e; crossed = h }) (λ h. subst (λ (r : Span). r.hi <ℤ r.lo) (sym (same s h.span (sym e ∙ h.there))) h.crossed)
        (decides-int_lt s.hi s.lo)

pub decides-legal : (p : Problem) (cs : List Cut) (box : List Span) (cutoff : Option ℚ) (proof : Proof) → Decides (is_legal_proof p cs box cutoff proof) (IsLegalProof p cs box cutoff proof)
decides-legal p cs box cutoff (Empty column) = decides-crossed box column
decides-legal p cs box cutoff (Refute mult) = decides-refuting p cs box mult
decides-legal p cs box cutoff (Bound mult rounded) = decides-bounding p cs box cutoff mult rounded
