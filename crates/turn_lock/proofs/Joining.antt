-- A seat takes in the view of another.
use Rattle.std.proofs.Common.{◌≡◌, ◌≢◌, ◌⊎◌, inl, inr, ⊎_elim, ℕ, ◌+◌, ◌≤◌, Bool, true, false, List, [], ◌∷◌, ◌++◌, length, set, Option, Some, None, leb, refl, sym, ◌∙◌, ap, subst, arith, ◌<◌}
use Rattle.std.specs.Prelude.{Contains, sum_by, is_some, if◌then◌else◌}
use Rattle.std.proofs.lemmas.Bool.{leb-true, leb-false}
use Rattle.std.proofs.lemmas.List.{length-append, append-nil, nil_from_length}
use Rattle.std.proofs.lemmas.List.Elements.{Contains-append_cases, Contains-append_left, Contains-append_right}
use mathlib.Core.Logic.{dite}
use mathlib.Core.Option.{some, some-injective}
use native.Mathlib.Decide.{ℕ_discrete}
use lib.ListN.{get_elem?}
use Rattle.atomic_table.specs.Table.{State, Joins}
use Rattle.atomic_table.proofs.Lists.{at_set, set_else, set_here}
use Rattle.turn_lock.specs.Lists.{NoneOf, GoesOn, longer, shorter, shorter_has}
use Rattle.turn_lock.specs.SeatSteps.{joined, spent}
use Rattle.turn_lock.specs.Turns.{TakesTurns, Seated, one_if, tickets_in, weight_in, Known}
use Rattle.turn_lock.specs.declared.board.View.{View}
use Rattle.turn_lock.specs.Lemmas.Names.{nothing}
use Rattle.turn_lock.proofs.NameLists.{distinct_append, from_nothing}
use Rattle.turn_lock.proofs.Seats.{sum_by_set_at, inside}
use Rattle.turn_lock.proofs.Settled.{AreSettled, is_other, turns_go_on}

abbrev tail_of : {E : Type 0} → List E → List E
tail_of [] = []
tail_of (_ ∷ xs) = xs

-- of two ways to cut a list, the longer prefix goes on from the shorter one
between : {E : Type 0} (a x b y : List E) → a ++ x ≡ b ++ y → length a ≤ length b → (c : List E) × (b ≡ a ++ c) × (x ≡ c ++ y)
between [] x b y same le = (b, refl, same)
between (k ∷ ks) x [] y same le = absurd (omega (arith, le))
between {E = E} (k ∷ ks) x (l ∷ ls) y same le =
    let deeper = between ks x ls y (ap tail_of same) (omega (arith, le)) in
    let heads : k ≡ l = cc in
    (deeper.0, ap (λ (m : List E). l ∷ m) deeper.1 ∙ ap (λ (m : E). m ∷ (ks ++ deeper.0)) (sym heads), deeper.2)

-- what stands behind the longer prefix stands behind the shorter one too
shorter_behind : {E : Type 0} (a x b y : List E) → a ++ x ≡ b ++ y → length a ≤ length b → (e : E) → Contains y e → Contains x e
shorter_behind {E = E} a x b y same le e c =
    let q = between a x b y same le in
    subst (λ (l : List E). Contains l e) (sym q.2) (Contains-append_right q.0 y e c)

-- a prefix that is no shorter than the whole is the whole
whole_prefix : {E : Type 0} (prefix rest all : List E) → all ≡ prefix ++ rest → length all ≤ length prefix → prefix ≡ all
whole_prefix prefix rest all is le =
    let empty : rest ≡ [] = nil_from_length rest (omega (arith, le, ap (λ l. length l) is, length-append prefix rest)) in
    sym (is ∙ (ap (λ l. prefix ++ l) empty ∙ append-nil prefix))

module _ {V E : Type 0} (list : V → List E) (name : E → Option ℕ) (weight : ℕ) (s : State (Option V) (View E)) (r : TakesTurns list name weight s) (id : ℕ) (v : View E) (at : get_elem? s.views id ≡ some v) (idle : v.ticket ≡ None) (in_ : v.out ≡ false)
    (two : ℕ) (w : View E) (ne : two ≢ id) (at_two : get_elem? s.views two ≡ some w) (idle_two : w.ticket ≡ None) (in_two : w.out ≡ false) where
  -- the list that is kept, and what stands behind it
  pub kept_list : (c : List E) × (r.noted ≡ longer v.seen w.seen ++ c) × NoneOf name v.names c × NoneOf name w.names c
  kept_list = go (leb (length v.seen) (length w.seen)) refl
    where
      go : (b : Bool) → leb (length v.seen) (length w.seen) ≡ b → (c : List E) × (r.noted ≡ (if b then w.seen else v.seen) ++ c) × NoneOf name v.names c × NoneOf name w.names c
      go true is = let o = r.each id v at in let q = r.each two w at_two in (
        q.behind,
        q.prefix,
        (λ e n c. o.not_own e n (shorter_behind v.seen o.behind w.seen q.behind (sym o.prefix ∙ q.prefix) (leb-true (length v.seen) (length w.seen) is) e c)),
        q.not_own,
      )
      go false is = let o = r.each id v at in let q = r.each two w at_two in (
        o.behind,
        o.prefix,
        o.not_own,
        (λ e n c. q.not_own e n (shorter_behind w.seen q.behind v.seen o.behind (sym q.prefix ∙ o.prefix) (omega (arith, leb-false (length v.seen) (length w.seen) is)) e c)),
      )

  -- the longer list goes on from the shorter one, with nothing of the part that had seen less
  parts_go_on : GoesOn name (shorter_has v.seen w.seen v.names w.names) (shorter v.seen w.seen) (longer v.seen w.seen)
  parts_go_on = go (leb (length v.seen) (length w.seen)) refl
    where
      go : (b : Bool) → leb (length v.seen) (length w.seen) ≡ b → GoesOn name (if b then v.names else w.names) (if b then v.seen else w.seen) (if b then w.seen else v.seen)
      go true is = let o = r.each id v at in let q = r.each two w at_two in let c = between v.seen o.behind w.seen q.behind (sym o.prefix ∙ q.prefix) (leb-true (length v.seen) (length w.seen) is) in
          (c.0, c.1, λ e n in_c. o.not_own e n (subst (λ (l : List E). Contains l e) (sym c.2) (Contains-append_left c.0 q.behind e in_c)))
      go false is = let o = r.each id v at in let q = r.each two w at_two in let c = between w.seen q.behind v.seen o.behind (sym q.prefix ∙ o.prefix) (omega (arith, leb-false (length v.seen) (length w.seen) is)) in
          (c.0, c.1, λ e n in_c. q.not_own e n (subst (λ (l : List E). Contains l e) (sym c.2) (Contains-append_left c.0 o.behind e in_c)))

  -- of two lists that begin the noted one, of which one is all of it, the longer is all of it
  all_kept : (v.seen ≡ r.noted) ⊎ (w.seen ≡ r.noted) → longer v.seen w.seen ≡ r.noted
  all_kept either = whole_prefix (longer v.seen w.seen) kept_list.0 r.noted kept_list.1 (⊎_elim
      (λ (e : v.seen ≡ r.noted). omega (arith, ap (λ (l : List E). length l) e, no_shorter (leb (length v.seen) (length w.seen)) refl))
      (λ (e : w.seen ≡ r.noted). omega (arith, ap (λ (l : List E). length l) e, no_shorter_two (leb (length v.seen) (length w.seen)) refl))
      either)
    where
      no_shorter : (b : Bool) → leb (length v.seen) (length w.seen) ≡ b → length v.seen ≤ length (if b then w.seen else v.seen)
      no_shorter true is = leb-true (length v.seen) (length w.seen) is
      no_shorter false is = omega arith

      no_shorter_two : (b : Bool) → leb (length v.seen) (length w.seen) ≡ b → length w.seen ≤ length (if b then w.seen else v.seen)
      no_shorter_two true is = omega arith
      no_shorter_two false is = omega (arith, leb-false (length v.seen) (length w.seen) is)

  module _ (views : List (View E)) (are : views ≡ set (set s.views id (joined v w)) two spent) where
    kinds : (by : ℕ) (u : View E) → get_elem? views by ≡ some u → ((by ≡ two) × (spent ≡ u)) ⊎ (((by ≡ id) × (joined v w ≡ u)) ⊎ ((by ≢ id) × (by ≢ two) × (get_elem? s.views by ≡ some u)))
    kinds by u e = ⊎_elim
        (λ (p : (by ≡ two) × (spent ≡ u)). inl p)
        (λ (p : (by ≢ two) × (get_elem? (set s.views id (joined v w)) by ≡ some u)). ⊎_elim
        (λ (q : (by ≡ id) × (joined v w ≡ u)). inr (inl q))
        (λ (q : (by ≢ id) × (get_elem? s.views by ≡ some u)). inr (inr (q.0, p.0, q.1)))
        (at_set s.views id by (joined v w) u p.1))
        (at_set (set s.views id (joined v w)) two by spent u (ap (λ (l : List (View E)). get_elem? l by) (sym are) ∙ e))

    both : Seated name r.issued r.served r.noted (joined v w)
    both = record {
      behind = kept_list.0;
      prefix = kept_list.1;
      not_own = λ e n c is has. ⊎_elim (λ (h : Contains v.names n). kept_list.2 e n c is h) (λ (h : Contains w.names n). kept_list.3 e n c is h) (Contains-append_cases v.names w.names n has);
      part = parts_go_on;
      distinct = distinct_append v.names w.names (r.each id v at).distinct (r.each two w at_two).distinct (λ n a b. ne (r.names two id w v n at_two at b a));
      ticket = λ t e. let bad : None ≡ Some t = e in cc;
      out = λ e. let bad : false ≡ true = e in cc;
    }

    none_left : Seated name r.issued r.served r.noted spent
    none_left = record {
      behind = r.noted;
      prefix = refl;
      not_own = λ e n c is has. nothing n has;
      distinct = tt;
      part = from_nothing name [];
      ticket = λ t e. let bad : None ≡ Some t = e in cc;
      out = λ e. let bad : false ≡ true = e in cc;
    }

    each' : (by : ℕ) (u : View E) → get_elem? views by ≡ some u → Seated name r.issued r.served r.noted u
    each' by u e = elim (kinds by u e) [
      | inl p ↦ subst (Seated name r.issued r.served r.noted) p.1 none_left
      | inr q ↦ elim q [
        | inl p ↦ subst (Seated name r.issued r.served r.noted) p.1 both
        | inr p ↦ r.each by u p.2
      ]
    ]

    -- whose name it is now, and whose it was
    owner : (by : ℕ) (u : View E) (n : ℕ) → get_elem? views by ≡ some u → Contains u.names n → (k : ℕ) × (x : View E) × (get_elem? s.views k ≡ some x) × Contains x.names n × (((by ≡ id) × ((k ≡ id) ⊎ (k ≡ two))) ⊎ ((by ≡ k) × (k ≢ id) × (k ≢ two)))
    owner by u n e has = elim (kinds by u e) [
      | inl p ↦ absurd (nothing n (subst (λ (l : List ℕ). Contains l n) (sym (ap (λ (x : View E). x.names) p.1)) has))
      | inr q ↦ elim q [
        | inl p ↦ ⊎_elim
            (λ (h : Contains v.names n). (id, v, at, h, inl (p.0, inl refl)))
            (λ (h : Contains w.names n). (two, w, at_two, h, inl (p.0, inr refl)))
            (Contains-append_cases v.names w.names n (subst (λ (l : List ℕ). Contains l n) (sym (ap (λ (x : View E). x.names) p.1)) has))
        | inr p ↦ (by, u, p.2, has, inr (refl, p.0, p.1))
      ]
    ]

    names' : (a b : ℕ) (u x : View E) (n : ℕ) → get_elem? views a ≡ some u → get_elem? views b ≡ some x → Contains u.names n → Contains x.names n → a ≡ b
    names' a b u x n ea eb na nb = let p = owner a u n ea na in let q = owner b x n eb nb in let same = r.names p.0 q.0 p.1 q.1 n p.2 q.2 p.3 q.3 in elim p.4 [
      | inl here ↦ elim q.4 [
        | inl there ↦ here.0 ∙ sym there.0
        | inr there ↦ elim here.1 [
          | inl k ↦ absurd (there.1 (sym same ∙ k))
          | inr k ↦ absurd (there.2 (sym same ∙ k))
        ]
      ]
      | inr here ↦ elim q.4 [
        | inl there ↦ elim there.1 [
          | inl k ↦ absurd (here.1 (same ∙ k))
          | inr k ↦ absurd (here.2 (same ∙ k))
        ]
        | inr there ↦ here.0 ∙ (same ∙ sym there.0)
      ]
    ]

    sums : (f : View E → ℕ) → sum_by f views + f v + f w ≡ sum_by f s.views + f (joined v w) + f spent
    sums f = omega (arith, ap (λ (l : List (View E)). sum_by f l) are, sum_by_set_at f (set s.views id (joined v w)) two w spent (set_else s.views id two (joined v w) ne ∙ at_two), sum_by_set_at f s.views id v (joined v w) at)

    tickets' : r.served + tickets_in views ≡ r.issued
    tickets' = omega (arith, r.tickets, sums (λ (u : View E). one_if (is_some u.ticket)), ap (λ (o : Option ℕ). one_if (is_some o)) idle, ap (λ (o : Option ℕ). one_if (is_some o)) idle_two)

    weights' : weight_in views ≡ weight
    weights' = omega (arith, r.weights, sums (λ (u : View E). length u.names), length-append v.names w.names)

    settled : AreSettled s.views views
    settled = record {
      came = λ by u e. elim (kinds by u e) [
        | inl p ↦ inl (sym (ap (λ (x : View E). x.ticket) p.1), sym (ap (λ (x : View E). x.out) p.1))
        | inr q ↦ elim q [
          | inl p ↦ inl (sym (ap (λ (x : View E). x.ticket) p.1), sym (ap (λ (x : View E). x.out) p.1))
          | inr p ↦ inr p.2
        ]
      ];
      still_out = λ by u e out. ap (λ (l : List (View E)). get_elem? l by) are
          ∙ (set_else (set s.views id (joined v w)) two by spent (is_other s.views two w at_two in_two by u e out) ∙ (set_else s.views id by (joined v w) (is_other s.views id v at in_ by u e out) ∙ e));
    }

    known : Known r.noted views
    known = let l = r.longest in dite (ℕ_discrete l.0 id)
        (λ (here : l.0 ≡ id). let one : some l.1 ≡ some v = sym l.2 ∙ (ap (λ k. get_elem? s.views k) here ∙ at) in
        at_both (ap (λ (x : View E). length x.names) (some-injective l.1 v one)) l.3 (inl (sym (ap (λ (x : View E). x.seen) (some-injective l.1 v one)) ∙ l.4)))
        (λ (ne_id : l.0 ≢ id). dite (ℕ_discrete l.0 two)
        (λ (here : l.0 ≡ two). let one : some l.1 ≡ some w = sym l.2 ∙ (ap (λ k. get_elem? s.views k) here ∙ at_two) in
        at_both_two (ap (λ (x : View E). length x.names) (some-injective l.1 w one)) l.3 (inr (sym (ap (λ (x : View E). x.seen) (some-injective l.1 w one)) ∙ l.4)))
        (λ (ne_two : l.0 ≢ two). (l.0, l.1, there l.0 l.1 ne_two (set_else s.views id l.0 (joined v w) ne_id ∙ l.2), l.3, l.4)))
      where
        there : (by : ℕ) (u : View E) → by ≢ two → get_elem? (set s.views id (joined v w)) by ≡ some u → get_elem? views by ≡ some u
        there by u other e = ap (λ (l : List (View E)). get_elem? l by) are ∙ (set_else (set s.views id (joined v w)) two by spent other ∙ e)

        sits : get_elem? views id ≡ some (joined v w)
        sits = there id (joined v w) (λ same. ne (sym same)) (set_here s.views id (joined v w) (inside s.views id v at))

        at_both : {k : ℕ} → k ≡ length v.names → 0 < k → (v.seen ≡ r.noted) ⊎ (w.seen ≡ r.noted) → Known r.noted views
        at_both e some_names either = (id, joined v w, sits, omega (arith, e, some_names, length-append v.names w.names), all_kept either)

        at_both_two : {k : ℕ} → k ≡ length w.names → 0 < k → (v.seen ≡ r.noted) ⊎ (w.seen ≡ r.noted) → Known r.noted views
        at_both_two e some_names either = (id, joined v w, sits, omega (arith, e, some_names, length-append v.names w.names), all_kept either)

    kept : TakesTurns list name weight record { words = s.words; homes = s.homes; views = views }
    kept = turns_go_on list name weight s r views settled tickets' each' names' weights' known

module _ {V E : Type 0} (list : V → List E) (name : E → Option ℕ) (weight : ℕ) where
  pub joins : (id : ℕ) (v : View E) (two : ℕ) (w : View E) → v.ticket ≡ None → v.out ≡ false → w.ticket ≡ None → w.out ≡ false → Joins (TakesTurns list name weight) id v two w (joined v w) spent
  joins id v two w idle in_ idle_two in_two s r at ne at_two = kept list name weight s r id v at idle in_ two w ne (sym (set_else s.views id two (joined v w) ne) ∙ at_two) idle_two in_two (set (set s.views id (joined v w)) two spent) refl

-- what a joined view tells is of both of its parts
pub of_both : {E : Type 0} (name : E → Option ℕ) (a b : List E) (na nb : List ℕ) → GoesOn name (shorter_has a b na nb) (shorter a b) (longer a b) → GoesOn name na a (longer a b) × GoesOn name nb b (longer a b)
of_both {E = E} name a b na nb = go (leb (length a) (length b))
  where
    itself : (ns : List ℕ) (l : List E) → GoesOn name ns l l
    itself ns l = ([], sym (append-nil l), λ e n c is has. nothing e c)

    go : (t : Bool) → GoesOn name (if t then na else nb) (if t then a else b) (if t then b else a) → GoesOn name na a (if t then b else a) × GoesOn name nb b (if t then b else a)
    go true told = (told, itself nb b)
    go false told = (itself na a, told)
