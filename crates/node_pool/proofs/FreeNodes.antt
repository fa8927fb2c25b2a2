-- The list of the free nodes, event by event.
use Rattle.std.specs.Prelude.{◌≡◌, ◌<◌, ◌+◌, ◌*◌, ℕ, ℤ, Bool, true, false, not, ◌&&◌, ◌||◌, nat_eq, List, [], ◌∷◌, ◌++◌, length, Option, Some, None, slice_index_or, slice_set, refl, cond, pos}
use Rattle.std.specs.List.{list_any}
use Rattle.std.proofs.Common.{sym, ap, ◌∙◌, subst, inl, inr, arith}
use Rattle.std.proofs.lemmas.Bool.{false_from_ne_true, or_cases, cases_lt, eqb-true, eq-eqb}
use Rattle.std.proofs.lemmas.List.{append-nil, append_assoc, length-set}
use Rattle.std.proofs.lemmas.List.Folds.{list_any-append, list_any_at}
use Rattle.node_events.specs.declared.event.Event.{Event}
use Rattle.event_core.specs.declared.entry.Holder.{Holder}
use Rattle.event_core.specs.declared.admit.Admit.TheVariants.{Yes}
use Rattle.problem.specs.Problem.{Problem}
use Rattle.event_core.specs.declared.entry.Entry.{Entry}
use Rattle.event_core.specs.States.{State, is_open, first_state}
use Rattle.event_core.specs.Holds.{is_held, holds_node}
use Rattle.event_core.specs.Judging.{judged}
use Rattle.event_core.specs.After.{after, after_claim, after_release, after_split, after_close}
use Rattle.event_core.specs.Histories.{is_journaled, IsLegal, AreLegal, AreLegalFrom, state_of, state_from, entries_by}
use Rattle.event_core.specs.Rooms.{split_count}
use Rattle.event_core.specs.Lemmas.Counting.{splits_are}
use Rattle.event_core.specs.Sound.{IsSound}
use Rattle.event_core.specs.Lemmas.Ended.{is_left, left_within}
use Rattle.event_core.specs.Lemmas.Running.{state_from-append, legal_more}
use Rattle.event_core.specs.Lemmas.Sounding.{legal_sound}
use Rattle.node_pool.specs.Free.{has_node, AreRising, AreFreeNodes, children_of, children_of_all}
use Rattle.node_pool.specs.Answers.{IsGreatestFree}
use Rattle.node_pool.proofs.Spelling.{AreJournaledEvents}
use Rattle.node_pool.proofs.RisingLists.{or_end, has-push, AreBelow, missing, rising-push, below-push, rising-front, below-last, greatest_last, has_last, fewer, below_has}
use Rattle.node_pool.proofs.OpenAndHeld.{and_no, and_yes, or_no, left-set, left-two, is_of_two, held-push, held-without, held_by, held_open, given, given_back, split_off}
use Rattle.event_core.specs.Frames.{is_split, ended_by, opened_by, with_ended, without_holds, KeepsFrame}
use Rattle.event_core.specs.Lemmas.Frames.{keeps_frame, journaled_claims, journaled_frees, freed_yours, splits_end, freed_holds}

-- ---- what is free
open_if : (o h : Bool) → (o && not h) ≡ true → o ≡ true
open_if true h e = refl
open_if false h e = cc

-- a listed node is one of the tree's
pub listed_below : (s : State) (ns : List ℕ) → length s.ended ≡ length s.nodes → AreFreeNodes s ns → AreBelow ns (length s.nodes)
listed_below s ns size h k d l =
    let i = slice_index_or ns k d in
    let has = list_any_at (λ m. nat_eq m i) ns k d l (eq-eqb i i refl) in
    let w = left_within s.ended i (open_if (is_open s i) (is_held s i) (sym (h.listed i) ∙ has)) in
    omega (arith, w, size)

-- a held node isn't listed
pub held_missing : (s : State) (ns : List ℕ) (n : ℕ) → AreFreeNodes s ns → is_held s n ≡ true → has_node ns n ≡ false
held_missing s ns n h held = h.listed n ∙ ap (λ b. is_open s n && not b) held ∙ sym (and_no (is_open s n))

-- ---- a claim
module _ (s : State) (w n : ℕ) (ns : List ℕ) (h : AreFreeNodes s (ns ++ n ∷ [])) where
  pub claimed_nodes : AreFreeNodes (after_claim s (Some w) n) ns
  claimed_nodes = record {
    rising = rising-front ns n h.rising;
    listed = λ i.
        given (has_node ns i) (is_open s i) (is_held s i) (nat_eq n i) (sym (has-push ns n i) ∙ h.listed i)
        (λ e. subst (λ m. has_node ns m ≡ false) (eqb-true n i e) (missing ns n (below-last ns n h.rising)))
        ∙ ap (λ b. is_open s i && not b) (sym (held-push s.holds (record { worker = w; node = n }) i));
  }

  pub claimed_greatest : IsGreatestFree s n
  claimed_greatest = record {
    free = sym (h.listed n) ∙ has_last ns n h.rising;
    greatest = λ i e. greatest_last ns n h.rising i (h.listed i ∙ e);
  }

-- ---- a release
module _ (s : State) (w n : ℕ) (sound : IsSound s) (held : holds_node s w n ≡ true) where
  pub is_held_by : is_held s n ≡ true
  is_held_by = held_by w n s.holds held

  pub is_open_held : is_open s n ≡ true
  is_open_held = held_open s.ended s.holds n sound.holds_open is_held_by

  pub is_there : n < length s.nodes
  is_there = let l = left_within s.ended n is_open_held in omega (arith, l, sound.lengths)

  pub fewer_free : (ns : List ℕ) → AreFreeNodes s ns → length ns < length s.nodes
  fewer_free ns h = fewer ns n (length s.nodes) h.rising (listed_below s ns sound.lengths h) (held_missing s ns n h is_held_by) is_there

  pub released_nodes : (ns ms : List ℕ) → AreFreeNodes s ns → AreRising ms → ((i : ℕ) → has_node ms i ≡ (has_node ns i || nat_eq n i)) → AreFreeNodes (after_release s n) ms
  released_nodes ns ms h rising has = record {
    rising = rising;
    listed = λ i.
        has i
        ∙ given_back (has_node ns i) (is_open s i) (is_held s i) (nat_eq n i) (h.listed i) (λ e. subst (λ m. is_open s m ≡ true) (eqb-true n i e) is_open_held)
        ∙ ap (λ b. is_open s i && not b) (sym (held-without n i s.holds));
  }

  -- ---- a split and a close
  ended_held : (i : ℕ) → nat_eq n i ≡ true → is_held s i ≡ true
  ended_held i e = subst (λ m. is_held s m ≡ true) (eqb-true n i e) is_held_by

  pub closed_nodes : (ns : List ℕ) → AreFreeNodes s ns → AreFreeNodes (after_close s n) ns
  closed_nodes ns h = record {
    rising = h.rising;
    listed = λ i.
        or_no (has_node ns i) false refl
        ∙ split_off (has_node ns i) (is_open s i) (is_held s i) (nat_eq n i) false (h.listed i) (ended_held i) (λ e. cc)
        ∙ ap (λ b. b && not (is_held s i && not (nat_eq n i))) (sym (or_no (is_open s i && not (nat_eq n i)) false refl))
        ∙ ap (λ b. b && not (is_held s i && not (nat_eq n i))) (sym (left-set s.ended n i))
        ∙ ap (λ b. is_left (slice_set s.ended n true) i && not b) (sym (held-without n i s.holds));
  }

  size : length (slice_set s.ended n true) ≡ length s.nodes
  size = length-set s.ended n true ∙ sound.lengths

  new_unheld : (i : ℕ) → is_of_two (length s.nodes) i ≡ true → is_held s i ≡ false
  new_unheld i e = false_from_ne_true (is_held s i) (λ q. let l = left_within s.ended i (held_open s.ended s.holds i sound.holds_open q) in
      elim (or_cases (nat_eq (length s.nodes) i) (nat_eq (length s.nodes + 1) i) e) [
        | inl a ↦ (let m = eqb-true (length s.nodes) i a in omega (arith, l, m, sound.lengths))
        | inr a ↦ (let m = eqb-true (length s.nodes + 1) i a in omega (arith, l, m, sound.lengths))
      ])

  pub split_nodes : (j : ℕ) (b : ℤ) (ns : List ℕ) → AreFreeNodes s ns → AreFreeNodes (after_split s n j b) (ns ++ length s.nodes ∷ (length s.nodes + 1) ∷ [])
  split_nodes j b ns h = record {
    rising =
        subst AreRising (append_assoc ns (length s.nodes ∷ []) ((length s.nodes + 1) ∷ []))
        (rising-push (ns ++ length s.nodes ∷ []) (length s.nodes + 1) (rising-push ns (length s.nodes) h.rising below) (below-push ns (length s.nodes) (length s.nodes + 1) below (omega arith)));
    listed = λ i.
        list_any-append (λ m. nat_eq m i) ns (length s.nodes ∷ (length s.nodes + 1) ∷ [])
        ∙ ap (λ c. has_node ns i || c) (or_end (nat_eq (length s.nodes) i) (nat_eq (length s.nodes + 1) i))
        ∙ split_off (has_node ns i) (is_open s i) (is_held s i) (nat_eq n i) (is_of_two (length s.nodes) i) (h.listed i) (ended_held i) (new_unheld i)
        ∙ ap (λ c. c && not (is_held s i && not (nat_eq n i))) (sym (opened i))
        ∙ ap (λ c. is_left (slice_set s.ended n true ++ false ∷ false ∷ []) i && not c) (sym (held-without n i s.holds));
  }
    where
      below : AreBelow ns (length s.nodes)
      below = listed_below s ns sound.lengths h

      opened : (i : ℕ) → is_left (slice_set s.ended n true ++ false ∷ false ∷ []) i ≡ ((is_open s i && not (nat_eq n i)) || is_of_two (length s.nodes) i)
      opened i =
          left-two (slice_set s.ended n true) i
          ∙ ap (λ m. is_left (slice_set s.ended n true) i || is_of_two m i) size
          ∙ ap (λ c. c || is_of_two (length s.nodes) i) (left-set s.ended n i)

-- ---- any event that a journal has
-- what is free is told by the nodes that have ended and by the holds
same_parts : (s t : State) (ns : List ℕ) → t.ended ≡ s.ended → t.holds ≡ s.holds → AreFreeNodes s ns → AreFreeNodes t ns
same_parts s t ns e h a = record {
  rising = a.rising;
  listed = λ i. a.listed i ∙ sym (λ k. not (slice_index_or (e k) i true) && not (list_any (λ (held : Holder). nat_eq held.node i) (h k)));
}

none_made : (b : Bool) (n : ℕ) → b ≡ false → cond b (n ∷ (n + 1) ∷ []) [] ≡ []
none_made true n e = cc
none_made false n e = refl

module _ (s : State) (w : ℕ) (e : Event) (ns : List ℕ) (sound : IsSound s) (admitted : judged s (Some w) e ≡ Yes) (journaled : is_journaled e ≡ true) (h : AreFreeNodes s ns) where
  abbrev t : State
  t = after s (Some w) e

  abbrev frame : KeepsFrame s (Some w) e
  frame = keeps_frame s (Some w) e

  freed : (o : Option ℕ) → ended_by e ≡ o → t.holds ≡ without_holds o s.holds
  freed o n = freed_holds s (Some w) e (journaled_claims e journaled) ∙ ap (λ (k : Option ℕ). without_holds k s.holds) (journaled_frees e journaled ∙ n)

  ended : (o : Option ℕ) → ended_by e ≡ o → t.ended ≡ with_ended o s.ended ++ opened_by e
  ended o n = frame.ended ∙ ap (λ (k : Option ℕ). with_ended k s.ended ++ opened_by e) n

  opened : (b : Bool) → is_split e ≡ b → opened_by e ≡ cond b (false ∷ false ∷ []) []
  opened b q = ap (λ (c : Bool). cond c (false ∷ false ∷ []) []) q

  made : (b : Bool) → is_split e ≡ b → children_of e (length s.nodes) ≡ cond b (length s.nodes ∷ (length s.nodes + 1) ∷ []) []
  made b q = ap (λ (c : Bool). cond c (length s.nodes ∷ (length s.nodes + 1) ∷ []) []) q

  yours : (i : ℕ) → ended_by e ≡ Some i → holds_node s w i ≡ true
  yours i n = freed_yours s (Some w) e i admitted (journaled_frees e journaled ∙ n)

  pub added_nodes : AreFreeNodes t (ns ++ children_of e (length s.nodes))
  added_nodes = step (ended_by e) refl (is_split e) refl
    where
      step : (o : Option ℕ) → ended_by e ≡ o → (b : Bool) → is_split e ≡ b → AreFreeNodes t (ns ++ children_of e (length s.nodes))
      step None n b q =
          let still : is_split e ≡ false = splits_end e n in
          subst (AreFreeNodes t) (sym (ap (λ (ms : List ℕ). ns ++ ms) (made false still) ∙ append-nil ns))
          (same_parts s t ns (ended None n ∙ (ap (λ (bs : List Bool). s.ended ++ bs) (opened false still) ∙ append-nil s.ended)) (freed None n) h)
      step (Some i) n false q =
          subst (AreFreeNodes t) (sym (ap (λ (ms : List ℕ). ns ++ ms) (made false q) ∙ append-nil ns))
          (same_parts (after_close s i) t ns (ended (Some i) n ∙ (ap (λ (bs : List Bool). slice_set s.ended i true ++ bs) (opened false q) ∙ append-nil (slice_set s.ended i true))) (freed (Some i) n)
          (closed_nodes s w i sound (yours i n) ns h))
      step (Some i) n true q =
          subst (λ (ms : List ℕ). AreFreeNodes t (ns ++ ms)) (sym (made true q))
          (same_parts (after_split s i 0 (pos 0)) t (ns ++ length s.nodes ∷ (length s.nodes + 1) ∷ []) (ended (Some i) n ∙ ap (λ (bs : List Bool). slice_set s.ended i true ++ bs) (opened true q)) (freed (Some i) n)
          (split_nodes s w i sound (yours i n) 0 (pos 0) ns h))

-- ---- states of the same nodes and holds
pub moved_nodes : (s t : State) (ns ms : List ℕ) → t ≡ s → ms ≡ ns → AreFreeNodes s ns → AreFreeNodes t ms
moved_nodes s t ns ms e f h = subst (λ (u : State). AreFreeNodes u ms) (sym e) (subst (AreFreeNodes s) (sym f) h)

-- ---- a list of events
pub added_all : (p : Problem) (before : List Entry) (s : State) (w : ℕ) (es : List Event) (ns : List ℕ) → s ≡ state_of p before → AreLegal p before → AreLegalFrom s (entries_by (Some w) es) → AreJournaledEvents es
    → AreFreeNodes s ns → AreFreeNodes (state_from s (entries_by (Some w) es)) (ns ++ children_of_all es (length s.nodes))
added_all p before s w [] ns is legal more all h = subst (AreFreeNodes s) (sym (append-nil ns)) h
added_all p before s w (e ∷ es) ns is legal more all h =
    let t = after s (Some w) e in
    let entry : Entry = record { worker = Some w; event = e } in
    let one = added_nodes s w e ns (subst IsSound (sym is) (legal_sound p before legal)) more.0.admitted all.0 h in
    let here : IsLegal (state_of p before) (Some w) e = subst (λ (u : State). IsLegal u (Some w) e) is more.0 in
    let then : t ≡ state_of p (before ++ entry ∷ []) = ap (λ (u : State). after u (Some w) e) is ∙ sym (state_from-append (first_state p) before (entry ∷ [])) in
    let rest = added_all p (before ++ entry ∷ []) t w es (ns ++ children_of e (length s.nodes)) then (legal_more (first_state p) before entry legal here) more.1 all.1 one in
    subst (AreFreeNodes (state_from t (entries_by (Some w) es)))
    (append_assoc ns (children_of e (length s.nodes)) (children_of_all es (length t.nodes)) ∙ ap (λ (n : ℕ). ns ++ (children_of e (length s.nodes) ++ children_of_all es n)) (keeps_frame s (Some w) e).node_count)
    rest

pub added_listed : (p : Problem) (before : List Entry) (s t : State) (w : ℕ) (es : List Event) (ns ms : List ℕ) (n : ℕ) → s ≡ state_of p before → AreLegal p before → AreLegalFrom s (entries_by (Some w) es)
    → AreJournaledEvents es → AreFreeNodes s ns → t ≡ state_from s (entries_by (Some w) es) → n ≡ length s.nodes → ms ≡ ns ++ children_of_all es n → AreFreeNodes t ms
added_listed p before s t w es ns ms n is legal more all h state number items =
    moved_nodes (state_from s (entries_by (Some w) es)) t (ns ++ children_of_all es (length s.nodes)) ms state (items ∙ ap (λ k. ns ++ children_of_all es k) number) (added_all p before s w es ns is legal more all h)

-- the nodes of a tree after these events
pub nodes_added : (s : State) (w : Option ℕ) (es : List Event) → length (state_from s (entries_by w es)).nodes ≡ length s.nodes + 2 * split_count es
nodes_added s w [] = omega arith
nodes_added s w (e ∷ es) = omega (arith, nodes_added (after s w e) w es, (keeps_frame s w e).node_count, one (is_split e), splits_are e es)
  where
    one : (b : Bool) → cond b 2 0 ≡ 2 * cond b 1 0
    one true = refl
    one false = refl

-- ---- the list is made
-- the open nodes below n, where nobody holds a node
pub record AreOpenBelow (s : State) (n : ℕ) (ns : List ℕ) : Type 0 where
  pub rising : AreRising ns
  pub below : AreBelow ns n
  pub listed : (i : ℕ) → i < n → has_node ns i ≡ is_open s i

test_below : (n i : ℕ) → i < n → nat_eq n i ≡ false
test_below n i lt = false_from_ne_true (nat_eq n i) (λ e. let q = eqb-true n i e in omega (arith, q, lt))

pub open_more : (s : State) (n : ℕ) (ns : List ℕ) → is_open s n ≡ true → AreOpenBelow s n ns → AreOpenBelow s (n + 1) (ns ++ n ∷ [])
open_more s n ns opened h = record {
  rising = rising-push ns n h.rising h.below;
  below = below-push ns n (n + 1) h.below (omega arith);
  listed = λ i lt. elim (cases_lt i n) [
    | inl less ↦ has-push ns n i ∙ ap (λ b. has_node ns i || b) (test_below n i less) ∙ sym (or_no (has_node ns i) false refl) ∙ h.listed i less
    | inr ge ↦ (let e : n ≡ i = omega (arith, lt, ge) in subst (λ k. has_node (ns ++ n ∷ []) k ≡ is_open s k) e (has_last ns n (rising-push ns n h.rising h.below) ∙ sym opened))
  ];
}

pub open_passed : (s : State) (n : ℕ) (ns : List ℕ) → is_open s n ≡ false → AreOpenBelow s n ns → AreOpenBelow s (n + 1) ns
open_passed s n ns ended h = record {
  rising = h.rising;
  below = λ k d l. (let b = h.below k d l in omega (arith, b));
  listed = λ i lt. elim (cases_lt i n) [
    | inl less ↦ h.listed i less
    | inr ge ↦ (let e : n ≡ i = omega (arith, lt, ge) in subst (λ k. has_node ns k ≡ is_open s k) e (missing ns n h.below ∙ sym ended))
  ];
}

pub all_open : (s : State) (n : ℕ) (ns : List ℕ) → s.holds ≡ [] → length s.ended ≡ length s.nodes → n ≡ length s.nodes → AreOpenBelow s n ns → AreFreeNodes s ns
all_open s n ns unheld size all h = record { rising = h.rising; listed = λ i. here i ∙ and_yes (is_open s i) ∙ ap (λ b. is_open s i && not b) (sym (free i)) }
  where
    free : (i : ℕ) → is_held s i ≡ false
    free i = ap (λ (hs : List Holder). list_any (λ (k : Holder). nat_eq k.node i) hs) unheld

    here : (i : ℕ) → has_node ns i ≡ is_open s i
    here i = elim (cases_lt i n) [
      | inl lt ↦ h.listed i lt
      | inr ge ↦
          false_from_ne_true (has_node ns i) (λ e. let b = below_has ns n i h.below e in omega (arith, b, ge))
          ∙ sym (false_from_ne_true (is_open s i) (λ e. let l = left_within s.ended i e in omega (arith, l, ge, size, all)))
    ]
