-- A seat's view is cut in two.
use Rattle.std.proofs.Common.{◌≡◌, ◌≢◌, ◌⊎◌, inl, inr, ⊎_elim, ℕ, zero, suc, ◌+◌, ◌≤◌, true, false, List, [], ◌∷◌, ◌++◌, length, set, Option, Some, None, refl, sym, ◌∙◌, ap, subst, arith}
use Rattle.std.specs.Prelude.{Contains, sum_by, is_some}
use Rattle.std.proofs.lemmas.List.Sums.{sum_by-append, sum_by-cons}
use mathlib.Core.Logic.{dite}
use mathlib.Core.Option.{some, some-injective, some-ne-none}
use native.Mathlib.Decide.{ℕ_discrete}
use lib.ListN.{get_elem?}
use Rattle.atomic_table.specs.Table.{State, Splits}
use Rattle.atomic_table.proofs.Lists.{at_set, set_else, at_longer, set_here}
use Rattle.turn_lock.specs.Names.{greatest, without_first}
use Rattle.turn_lock.specs.SeatSteps.{others_of, greatest_of}
use Rattle.turn_lock.specs.Turns.{TakesTurns, Seated, one_if, tickets_in, weight_in, Known}
use Rattle.turn_lock.specs.declared.board.View.{View}
use Rattle.turn_lock.specs.Lemmas.Names.{nothing, only_in}
use Rattle.turn_lock.proofs.NameLists.{greatest_in, without_in, length_without, distinct_without, not_without}
use Rattle.turn_lock.proofs.Seats.{sum_by_set_at, inside}
use Rattle.turn_lock.proofs.Settled.{AreSettled, is_other, turns_go_on}

-- an element of a list that was made longer by one
pub at_end : {A : Type 0} (l : List A) (a b : A) (j : ℕ) → get_elem? (l ++ a ∷ []) j ≡ some b → (get_elem? l j ≡ some b) ⊎ ((j ≡ length l) × (a ≡ b))
at_end [] a b zero e = inr (refl, some-injective a b e)
at_end [] a b (suc j) e = absurd (some-ne-none b (sym e))
at_end (x ∷ xs) a b zero e = inl e
at_end (x ∷ xs) a b (suc j) e = ⊎_elim (λ h. inl h) (λ h. inr (ap suc h.0, h.1)) (at_end xs a b j e)

module _ {V E : Type 0} (list : V → List E) (name : E → Option ℕ) (weight : ℕ) (s : State (Option V) (View E)) (r : TakesTurns list name weight s) (id : ℕ) (v : View E) (at : get_elem? s.views id ≡ some v) (idle : v.ticket ≡ None) (in_ : v.out ≡ false) (several : 2 ≤ length v.names) where
  g : ℕ
  g = greatest v.names

  has_g : Contains v.names (greatest v.names)
  has_g = greatest_in v.names (omega (arith, several))

  -- three kinds of seat after the step
  module _ (views : List (View E)) (are : views ≡ set s.views id (others_of v) ++ greatest_of v ∷ []) where
    kinds : (by : ℕ) (u : View E) → get_elem? views by ≡ some u → (((by ≡ id) × (others_of v ≡ u)) ⊎ ((by ≢ id) × (get_elem? s.views by ≡ some u))) ⊎ ((by ≡ length (set s.views id (others_of v))) × (greatest_of v ≡ u))
    kinds by u e = ⊎_elim
        (λ (h : get_elem? (set s.views id (others_of v)) by ≡ some u). inl (at_set s.views id by (others_of v) u h))
        (λ h. inr h)
        (at_end (set s.views id (others_of v)) (greatest_of v) u by (ap (λ (l : List (View E)). get_elem? l by) (sym are) ∙ e))

    others : Seated name r.issued r.served r.noted (others_of v)
    others = let o = r.each id v at in record {
      behind = o.behind;
      prefix = o.prefix;
      not_own = λ e n c is has. o.not_own e n c is (without_in (greatest v.names) v.names n has);
      distinct = distinct_without (greatest v.names) v.names o.distinct;
      part = o.part;
      ticket = λ t e. let bad : None ≡ Some t = sym idle ∙ e in cc;
      out = λ e. let bad : true ≡ false = sym e ∙ in_ in cc;
    }

    one : Seated name r.issued r.served r.noted (greatest_of v)
    one = let o = r.each id v at in record {
      behind = o.behind;
      prefix = o.prefix;
      not_own = λ e n c is has. o.not_own e n c is (subst (Contains v.names) (sym (only_in (greatest v.names) n has)) has_g);
      distinct = ((λ c. nothing (greatest v.names) c), tt);
      part = o.part;
      ticket = λ t e. let bad : None ≡ Some t = e in cc;
      out = λ e. let bad : false ≡ true = e in cc;
    }

    each' : (by : ℕ) (u : View E) → get_elem? views by ≡ some u → Seated name r.issued r.served r.noted u
    each' by u e = ⊎_elim
        (λ old. ⊎_elim
        (λ (p : (by ≡ id) × (others_of v ≡ u)). subst (Seated name r.issued r.served r.noted) p.1 others)
        (λ (p : (by ≢ id) × (get_elem? s.views by ≡ some u)). r.each by u p.1)
        old)
        (λ (p : (by ≡ length (set s.views id (others_of v))) × (greatest_of v ≡ u)). subst (Seated name r.issued r.served r.noted) p.1 one)
        (kinds by u e)

    -- an old seat's names are those that it had, and not the greatest of this one
    old_names : (by : ℕ) (u : View E) (n : ℕ) → ((by ≡ id) × (others_of v ≡ u)) ⊎ ((by ≢ id) × (get_elem? s.views by ≡ some u)) → Contains u.names n → (x : View E) × (get_elem? s.views by ≡ some x) × Contains x.names n × (n ≢ greatest v.names)
    old_names by u n old has = ⊎_elim
        (λ (p : (by ≡ id) × (others_of v ≡ u)). let here : Contains (without_first (greatest v.names) v.names) n = subst (λ (l : List ℕ). Contains l n) (sym (ap (λ (x : View E). x.names) p.1)) has in
        (v, ap (λ k. get_elem? s.views k) p.0 ∙ at, without_in (greatest v.names) v.names n here, λ same. not_without (greatest v.names) v.names (r.each id v at).distinct (subst (Contains (without_first (greatest v.names) v.names)) same here)))
        (λ (p : (by ≢ id) × (get_elem? s.views by ≡ some u)). (u, p.1, has, λ same. p.0 (r.names by id u v n p.1 at has (subst (Contains v.names) (sym same) has_g))))
        old

    new_names : (by : ℕ) (u : View E) (n : ℕ) → (by ≡ length (set s.views id (others_of v))) × (greatest_of v ≡ u) → Contains u.names n → n ≡ greatest v.names
    new_names by u n p has = only_in (greatest v.names) n (subst (λ (l : List ℕ). Contains l n) (sym (ap (λ (x : View E). x.names) p.1)) has)

    names' : (a b : ℕ) (u x : View E) (n : ℕ) → get_elem? views a ≡ some u → get_elem? views b ≡ some x → Contains u.names n → Contains x.names n → a ≡ b
    names' a b u x n ea eb na nb = elim (kinds a u ea) [
      | inl p ↦ let had = old_names a u n p na in elim (kinds b x eb) [
        | inl q ↦ let has = old_names b x n q nb in r.names a b had.0 has.0 n had.1 has.1 had.2 has.2
        | inr q ↦ absurd (had.3 (new_names b x n q nb))
      ]
      | inr p ↦ elim (kinds b x eb) [
        | inl q ↦ let has = old_names b x n q nb in absurd (has.3 (new_names a u n p na))
        | inr q ↦ p.0 ∙ sym q.0
      ]
    ]

    sums : (f : View E → ℕ) → sum_by f views + f v ≡ sum_by f s.views + f (others_of v) + f (greatest_of v)
    sums f = omega (arith, ap (λ (l : List (View E)). sum_by f l) are, sum_by-append f (set s.views id (others_of v)) (greatest_of v ∷ []), sum_by-cons f (greatest_of v) [], sum_by_set_at f s.views id v (others_of v) at)

    tickets' : r.served + tickets_in views ≡ r.issued
    tickets' = omega (arith, r.tickets, sums (λ (u : View E). one_if (is_some u.ticket)))

    weights' : weight_in views ≡ weight
    weights' = omega (arith, r.weights, sums (λ (u : View E). length u.names), length_without (greatest v.names) v.names has_g)

    settled : AreSettled s.views views
    settled = record {
      came = λ by u e. elim (kinds by u e) [
        | inl old ↦ elim old [
          | inl p ↦ inl (sym (ap (λ (x : View E). x.ticket) p.1) ∙ idle, sym (ap (λ (x : View E). x.out) p.1) ∙ in_)
          | inr p ↦ inr p.1
        ]
        | inr p ↦ inl (sym (ap (λ (x : View E). x.ticket) p.1), sym (ap (λ (x : View E). x.out) p.1))
      ];
      still_out = λ by u e out. ap (λ (l : List (View E)). get_elem? l by) are
          ∙ at_longer (set s.views id (others_of v)) (greatest_of v ∷ []) by u (set_else s.views id by (others_of v) (is_other s.views id v at in_ by u e out) ∙ e);
    }

    known : Known r.noted views
    known = let l = r.longest in dite (ℕ_discrete l.0 id)
        (λ (here : l.0 ≡ id). let one : some l.1 ≡ some v = sym l.2 ∙ (ap (λ k. get_elem? s.views k) here ∙ at) in
        (id, others_of v, there id (others_of v) (set_here s.views id (others_of v) (inside s.views id v at)), omega (arith, several, length_without (greatest v.names) v.names has_g), sym (ap (λ (x : View E). x.seen) (some-injective l.1 v one)) ∙ l.4))
        (λ (ne : l.0 ≢ id). (l.0, l.1, there l.0 l.1 (set_else s.views id l.0 (others_of v) ne ∙ l.2), l.3, l.4))
      where
        there : (by : ℕ) (u : View E) → get_elem? (set s.views id (others_of v)) by ≡ some u → get_elem? views by ≡ some u
        there by u e = ap (λ (l : List (View E)). get_elem? l by) are ∙ at_longer (set s.views id (others_of v)) (greatest_of v ∷ []) by u e

    kept : TakesTurns list name weight record { words = s.words; homes = s.homes; views = views }
    kept = turns_go_on list name weight s r views settled tickets' each' names' weights' known

module _ {V E : Type 0} (list : V → List E) (name : E → Option ℕ) (weight : ℕ) where
  pub splits : (id : ℕ) (v : View E) → v.ticket ≡ None → v.out ≡ false → 2 ≤ length v.names → Splits (TakesTurns list name weight) id v (others_of v) (greatest_of v)
  splits id v idle in_ several s r at = kept list name weight s r id v at idle in_ several (set s.views id (others_of v) ++ greatest_of v ∷ []) refl

pub several_left : (xs : List ℕ) → 2 ≤ length xs → length (without_first (greatest xs) xs) + 1 ≡ length xs
several_left xs several = length_without (greatest xs) xs (greatest_in xs (omega (arith, several)))
