-- Lemmas: the coefficients of rising terms, and sums of columns to which they are added one by one.
use Rattle.std.specs.Prelude.{◌≡◌, ℕ, zero, suc, ◌+◌, ◌<◌, ◌≤◌, pos, Bool, true, false, eqb, List, [], ◌∷◌, length, All, drop, slice_index_or, slice_set, Option, Some, None, option_map, refl}
use Rattle.std.specs.Option.{option_and_then}
use Rattle.std.proofs.Common.{sym, ap, ◌∙◌, subst, arith}
use Rattle.std.proofs.lemmas.Bool.{eqb-true, eqb-false}
use Rattle.std.proofs.lemmas.List.Elements.{All-nil, All-cons, All-head, All-tail}
use Rattle.std.proofs.lemmas.List.{drop_all}
use Rattle.fraction.specs.Rational.{ℚ, whole}
use Rattle.problem.specs.Linear.{coefficient}
use Rattle.problem.specs.Lemmas.Linear.{past_first}
use Rattle.problem.specs.Lemmas.Rising.{rise_lower, before_first, at_first}
use Rattle.problem.specs.Rising.{RiseFrom, AreRising}
use Rattle.derivation_book.specs.Sums.{with_product}
use Rattle.fraction.specs.Fits.{FitsFraction}
use Rattle.derivation_book.specs.Adding.{columns_added}
use Rattle.fraction.specs.Lemmas.Bounds.{was_some, was_mapped}
use Rattle.derivation_book.specs.Lemmas.OptionChains.{in_two_steps, nothing_left, next_item}
use Rattle.derivation_book.specs.Lemmas.Held.{held_product, with_zero}

-- ---- coefficients
-- the coefficient of a column at which terms begin, by their first term
module _ (ts : List (ℕ × ℚ)) (i : ℕ) (t : ℕ × ℚ) (there : i < length ts) (is : t ≡ slice_index_or ts i t) (k : ℕ) (rising : RiseFrom k (drop i ts)) where
  first_is : drop i ts ≡ t ∷ drop (i + 1) ts
  first_is = next_item ts i t there is

  rising_is : RiseFrom k (t ∷ drop (i + 1) ts)
  rising_is = subst (RiseFrom k) first_is rising

  pub stands_first : t.0 ≡ k → coefficient (drop i ts) k ≡ t.1
  stands_first e = ap (λ us. coefficient us k) first_is ∙ at_first t (drop (i + 1) ts) k rising_is.1 e

  pub stands_later : t.0 ≡ k → (j : ℕ) → k < j → coefficient (drop (i + 1) ts) j ≡ coefficient (drop i ts) j
  stands_later e j l = sym (ap (λ us. coefficient us j) first_is ∙ past_first t (drop (i + 1) ts) j (λ f. omega (arith, e, l, f)))

  pub stands_nowhere : (t.0 ≡ k → ⊥) → coefficient (drop i ts) k ≡ whole (pos 0)
  stands_nowhere h =
      ap (λ us. coefficient us k) first_is ∙ before_first (suc k) (t ∷ drop (i + 1) ts) k (above t.0 k rising_is.0 h, rising_is.1) (omega arith)
    where
      above : (n k : ℕ) → k ≤ n → (n ≡ k → ⊥) → suc k ≤ n
      above n k l h = grind arith

-- ---- one term more
-- at one column
term_step : (s m : ℚ) (t : ℕ × ℚ) (ts : List (ℕ × ℚ)) (j : ℕ) → FitsFraction s → RiseFrom (suc t.0) ts
    → with_product s m (coefficient (t ∷ ts) j) ≡ option_and_then (λ u. with_product u m (coefficient ts j)) (with_product s m (coefficient (t ∷ []) j))
term_step s m t ts j h r = step (eqb t.0 j) refl
  where
    unchanged : (o : Option ℚ) → ((u : ℚ) → o ≡ Some u → FitsFraction u) → coefficient ts j ≡ whole (pos 0) → o ≡ option_and_then (λ u. with_product u m (coefficient ts j)) o
    unchanged None k e = refl
    unchanged (Some u) k e = sym (with_zero u m (coefficient ts j) e (k u refl))

    step : (b : Bool) → eqb t.0 j ≡ b
        → with_product s m (coefficient (t ∷ ts) j) ≡ option_and_then (λ u. with_product u m (coefficient ts j)) (with_product s m (coefficient (t ∷ []) j))
    step true e =
        let k = eqb-true t.0 j e in
        ap (with_product s m) (at_first t ts j r k ∙ sym (at_first t [] j tt k))
        ∙ unchanged (with_product s m (coefficient (t ∷ []) j)) (λ u w. held_product s m (coefficient (t ∷ []) j) u w) (before_first (suc t.0) ts j r (omega (arith, k)))
    step false e =
        let k = eqb-false t.0 j e in
        ap (with_product s m) (past_first t ts j k)
        ∙ ap (option_and_then (λ u. with_product u m (coefficient ts j))) (sym (with_zero s m (coefficient (t ∷ []) j) (past_first t [] j k) h))

-- at all columns
pub term_by_term : (ss : List ℚ) (j : ℕ) (m : ℚ) (t : ℕ × ℚ) (ts : List (ℕ × ℚ)) → All FitsFraction ss → RiseFrom (suc t.0) ts
    → columns_added ss j m (t ∷ ts) ≡ option_and_then (λ us. columns_added us j m ts) (columns_added ss j m (t ∷ []))
term_by_term [] j m t ts h r = refl
term_by_term (s ∷ ss) j m t ts h r =
    (λ i. option_and_then (λ v. option_map (λ vs. v ∷ vs) (term_by_term ss (j + 1) m t ts (All-tail FitsFraction s ss h) r i)) (term_step s m t ts j (All-head FitsFraction s ss h) r i))
    ∙ in_two_steps (with_product s m (coefficient (t ∷ []) j)) (λ u. with_product u m (coefficient ts j)) (columns_added ss (j + 1) m (t ∷ []))
    (λ us. columns_added us (j + 1) m ts) (λ us. columns_added us j m ts) (λ u us. refl)

-- no terms
pub none_added : (ss : List ℚ) (j : ℕ) (m : ℚ) → All FitsFraction ss → columns_added ss j m [] ≡ Some ss
none_added [] j m h = refl
none_added (s ∷ ss) j m h =
    (λ i. option_and_then (λ v. option_map (λ vs. v ∷ vs) (none_added ss (j + 1) m (All-tail FitsFraction s ss h) i)) (with_zero s m (whole (pos 0)) refl (All-head FitsFraction s ss h) i))

-- one term: a column that isn't there, a sum, no sum
elsewhere_added : (ss : List ℚ) (j : ℕ) (m : ℚ) (k : ℕ) (a : ℚ) → All FitsFraction ss → ((i : ℕ) → j ≤ i → i < j + length ss → k ≡ i → ⊥) → columns_added ss j m ((k, a) ∷ []) ≡ Some ss
elsewhere_added [] j m k a h l = refl
elsewhere_added (s ∷ ss) j m k a h l =
    (λ i. option_and_then (λ v. option_map (λ vs. v ∷ vs) (elsewhere_added ss (j + 1) m k a (All-tail FitsFraction s ss h) (λ n p q. l n (omega (arith, p)) (omega (arith, q))) i))
    (with_zero s m (coefficient ((k, a) ∷ []) j) (past_first (k, a) [] j (l j (omega arith) (omega arith))) (All-head FitsFraction s ss h) i))

pub past_added : (ss : List ℚ) (j : ℕ) (m : ℚ) (k : ℕ) (a : ℚ) → All FitsFraction ss → j + length ss ≤ k → columns_added ss j m ((k, a) ∷ []) ≡ Some ss
past_added ss j m k a h l = elsewhere_added ss j m k a h (λ i p q e. omega (arith, l, q, e))

pub one_added : (ss : List ℚ) (j n : ℕ) (m : ℚ) (k : ℕ) (a s u : ℚ) → All FitsFraction ss → k ≡ j + n → n < length ss → s ≡ slice_index_or ss n s → with_product s m a ≡ Some u
    → columns_added ss j m ((k, a) ∷ []) ≡ Some (slice_set ss n u)
one_added [] j n m k a s u h e l q w = absurd (omega (arith, l))
one_added (x ∷ ss) j zero m k a s u h e l q w =
    (λ i. option_and_then (λ v. option_map (λ vs. v ∷ vs) (elsewhere_added ss (j + 1) m k a (All-tail FitsFraction x ss h) (λ n p r f. omega (arith, e, p, f)) i)) (here i))
  where
    here : with_product x m (coefficient ((k, a) ∷ []) j) ≡ Some u
    here = ap (with_product x m) (at_first (k, a) [] j tt (omega (arith, e))) ∙ ap (λ y. with_product y m a) (sym q) ∙ w
one_added (x ∷ ss) j (suc n) m k a s u h e l q w =
    (λ i. option_and_then (λ v. option_map (λ vs. v ∷ vs) (one_added ss (j + 1) n m k a s u (All-tail FitsFraction x ss h) (omega (arith, e)) (omega (arith, l)) q w i))
    (with_zero x m (coefficient ((k, a) ∷ []) j) (past_first (k, a) [] j (λ f. omega (arith, e, f))) (All-head FitsFraction x ss h) i))

pub one_cramped : (ss : List ℚ) (j n : ℕ) (m : ℚ) (k : ℕ) (a s : ℚ) → k ≡ j + n → n < length ss → s ≡ slice_index_or ss n s → with_product s m a ≡ None
    → columns_added ss j m ((k, a) ∷ []) ≡ None
one_cramped [] j n m k a s e l q w = absurd (omega (arith, l))
one_cramped (x ∷ ss) j zero m k a s e l q w =
    ap (option_and_then (λ v. option_map (λ vs. v ∷ vs) (columns_added ss (j + 1) m ((k, a) ∷ [])))) here
  where
    here : with_product x m (coefficient ((k, a) ∷ []) j) ≡ None
    here = ap (with_product x m) (at_first (k, a) [] j tt (omega (arith, e))) ∙ ap (λ y. with_product y m a) (sym q) ∙ w
one_cramped (x ∷ ss) j (suc n) m k a s e l q w =
    (λ i. option_and_then (λ v. option_map (λ vs. v ∷ vs) (one_cramped ss (j + 1) n m k a s (omega (arith, e)) (omega (arith, l)) q w i)) (with_product x m (coefficient ((k, a) ∷ []) j)))
    ∙ nothing_left _

-- ---- terms one by one
module _ (ss : List ℚ) (m : ℚ) (ts : List (ℕ × ℚ)) (i : ℕ) (t : ℕ × ℚ) (there : i < length ts) (is : t ≡ slice_index_or ts i t)
    (held : All FitsFraction ss) (rising : AreRising (drop i ts)) where
  next : drop i ts ≡ t ∷ drop (i + 1) ts
  next = next_item ts i t there is

  behind : RiseFrom (suc t.0) (drop (i + 1) ts)
  behind = (subst AreRising next rising).1

  split : columns_added ss 0 m (drop i ts) ≡ option_and_then (λ us. columns_added us 0 m (drop (i + 1) ts)) (columns_added ss 0 m (t ∷ []))
  split = ap (columns_added ss 0 m) next ∙ term_by_term ss 0 m t (drop (i + 1) ts) held behind

  pub still_rising : AreRising (drop (i + 1) ts)
  still_rising = rise_lower 0 (suc t.0) (drop (i + 1) ts) (omega arith) behind

  pub next_added : (p : ℕ × ℚ) (us : List ℚ) → p ≡ t → columns_added ss 0 m (p ∷ []) ≡ Some us → columns_added us 0 m (drop (i + 1) ts) ≡ columns_added ss 0 m (drop i ts)
  next_added p us e w =
      sym (split ∙ ap (option_and_then (λ us. columns_added us 0 m (drop (i + 1) ts))) (ap (λ (q : ℕ × ℚ). columns_added ss 0 m (q ∷ [])) (sym e) ∙ w))

  pub next_cramped : (p : ℕ × ℚ) → p ≡ t → columns_added ss 0 m (p ∷ []) ≡ None → columns_added ss 0 m (drop i ts) ≡ None
  next_cramped p e w =
      split ∙ ap (option_and_then (λ us. columns_added us 0 m (drop (i + 1) ts))) (ap (λ (q : ℕ × ℚ). columns_added ss 0 m (q ∷ [])) (sym e) ∙ w)

pub all_added : (ss : List ℚ) (m : ℚ) (ts : List (ℕ × ℚ)) (i : ℕ) → length ts ≤ i → All FitsFraction ss → columns_added ss 0 m (drop i ts) ≡ Some ss
all_added ss m ts i l h = ap (columns_added ss 0 m) (drop_all i ts l) ∙ none_added ss 0 m h

-- ---- what sums keep
pub held_columns : (ss : List ℚ) (j : ℕ) (m : ℚ) (ts : List (ℕ × ℚ)) (us : List ℚ) → columns_added ss j m ts ≡ Some us → All FitsFraction us × (length us ≡ length ss)
held_columns [] j m ts us e = let f : [] ≡ us = (cc) in subst (λ (vs : List ℚ). All FitsFraction vs × (length vs ≡ 0)) f (All-nil FitsFraction, refl)
held_columns (s ∷ ss) j m ts us e =
    let w = was_some (λ v. option_map (λ vs. v ∷ vs) (columns_added ss (j + 1) m ts)) (with_product s m (coefficient ts j)) us e in
    let r = was_mapped (λ vs. w.0 ∷ vs) (columns_added ss (j + 1) m ts) us w.2 in
    let k = held_columns ss (j + 1) m ts r.0 r.1 in
    subst (λ (vs : List ℚ). All FitsFraction vs × (length vs ≡ length (s ∷ ss))) r.2 (All-cons FitsFraction w.0 r.0 (held_product s m (coefficient ts j) w.0 w.1) k.0, omega (arith, k.1))
