-- Lemmas: what an event changes of a state, and what it leaves alone, and so what a list of events does.
use Rattle.std.specs.Prelude.{◌≡◌, ◌<◌, ◌≤◌, ◌+◌, ℕ, ℤ, Bool, true, false, not, nat_eq, cond, List, [], ◌∷◌, ◌++◌, length, All, Option, Some, None, refl}
use Rattle.std.proofs.Common.{sym, ap, ◌∙◌, subst, arith}
use Rattle.std.proofs.lemmas.List.{append-nil, append_assoc, length-append}
use Rattle.std.proofs.lemmas.List.Elements.{All-nil, All-cons, All-head, All-tail, All-append}
use Rattle.std.proofs.lemmas.Option.{same_Some}
use Rattle.problem.specs.declared.row.Row.{Row}
use Rattle.problem.specs.Linear.{Multipliers}
use Rattle.node_tree.specs.Limits.{most_nodes}
use Rattle.node_tree.specs.Lemmas.Splitting.{length-split}
use Rattle.node_events.specs.declared.event.Event.{Event}
use Rattle.node_events.specs.declared.event.Event.TheVariants.{Claim, Release, Cut, Offer, Split, Close}
use Rattle.node_events.specs.declared.proof.Proof.{Proof}
use Rattle.node_events.specs.declared.reason.Reason.{Reason}
use Rattle.derivation_book.specs.declared.cut.Cut.{Cut as MadeCut}
use Rattle.derivation_book.specs.Rounded.{rounded_row}
use Rattle.event_core.specs.declared.admit.Admit.TheVariants.{Yes}
use Rattle.event_core.specs.declared.entry.Entry.{Entry}
use Rattle.event_core.specs.declared.entry.Holder.{Holder}
use Rattle.event_core.specs.States.{State, tree_of, is_open, open_count}
use Rattle.event_core.specs.Holds.{is_yours, hold_of, without_hold}
use Rattle.event_core.specs.Judging.{judged}
use Rattle.event_core.specs.After.{after, after_cut}
use Rattle.event_core.specs.Histories.{is_journaled, state_from, AreLegalFrom}
use Rattle.event_core.specs.Laws.{unheld}
use Rattle.event_core.specs.Rooms.{HasNumbers}
use Rattle.event_core.specs.Frames.{is_split, closed_by, claimed_by, freed_by, ended_by, cut_by, opened_by, with_ended, cut_of_row, cuts_of, without_holds, holds_of, KeepsFrame}
use Rattle.event_core.specs.Lemmas.Ended.{count, count-ended}
use Rattle.event_core.specs.Lemmas.Passing.{split_passed, close_passed, release_passed}

-- ---- one event
cut_frame : (s : State) (w : Option ℕ) (mult : Multipliers) (o : Option Row) → rounded_row s.problem s.cuts mult ≡ o → KeepsFrame s w (Cut mult)
cut_frame s w mult None e =
    let same : after s w (Cut mult) ≡ s = ap (after_cut s mult) e in
    let none : cuts_of s (Some mult) ≡ [] = ap (cut_of_row mult) e in
    record {
      problem = ap (λ (t : State). t.problem) same;
      nodes = λ h. ap (λ (t : State). t.nodes) same;
      node_count = ap (λ (t : State). length t.nodes) same ∙ omega arith;
      ended = ap (λ (t : State). t.ended) same ∙ sym (append-nil s.ended);
      cuts = ap (λ (t : State). t.cuts) same ∙ sym (append-nil s.cuts) ∙ ap (λ (cs : List MadeCut). s.cuts ++ cs) (sym none);
      one_cut = let n : length (cuts_of s (Some mult)) ≡ 0 = ap (λ (cs : List MadeCut). length cs) none in omega (arith, n);
      incumbent = ap (λ (t : State). t.incumbent) same;
      holds = ap (λ (t : State). t.holds) same ∙ sym (append-nil s.holds);
    }
cut_frame s w mult (Some r) e =
    let made : after s w (Cut mult) ≡ after_cut s mult (Some r) = ap (after_cut s mult) e in
    let one : cuts_of s (Some mult) ≡ record { row = r; mult = mult } ∷ [] = ap (cut_of_row mult) e in
    record {
      problem = ap (λ (t : State). t.problem) made;
      nodes = λ h. ap (λ (t : State). t.nodes) made;
      node_count = ap (λ (t : State). length t.nodes) made ∙ omega arith;
      ended = ap (λ (t : State). t.ended) made ∙ sym (append-nil s.ended);
      cuts = ap (λ (t : State). t.cuts) made ∙ ap (λ (cs : List MadeCut). s.cuts ++ cs) (sym one);
      one_cut = let n : length (cuts_of s (Some mult)) ≡ 1 = ap (λ (cs : List MadeCut). length cs) one in omega (arith, n);
      incumbent = ap (λ (t : State). t.incumbent) made;
      holds = ap (λ (t : State). t.holds) made ∙ sym (append-nil s.holds);
    }

pub keeps_frame : (s : State) (w : Option ℕ) (e : Event) → KeepsFrame s w e
keeps_frame s w (Claim i) = record {
  problem = refl;
  nodes = λ h. refl;
  node_count = omega arith;
  ended = sym (append-nil s.ended);
  cuts = sym (append-nil s.cuts);
  one_cut = omega arith;
  incumbent = refl;
  holds = refl;
}
keeps_frame s w (Release i) = record {
  problem = refl;
  nodes = λ h. refl;
  node_count = omega arith;
  ended = sym (append-nil s.ended);
  cuts = sym (append-nil s.cuts);
  one_cut = omega arith;
  incumbent = refl;
  holds = sym (append-nil (without_hold i s.holds));
}
keeps_frame s w (Cut mult) = cut_frame s w mult (rounded_row s.problem s.cuts mult) refl
keeps_frame s w (Offer x) = record {
  problem = refl;
  nodes = λ h. refl;
  node_count = omega arith;
  ended = sym (append-nil s.ended);
  cuts = sym (append-nil s.cuts);
  one_cut = omega arith;
  incumbent = refl;
  holds = sym (append-nil s.holds);
}
keeps_frame s w (Split i j b r) = record {
  problem = refl;
  nodes = λ h. cc;
  node_count = length-split (tree_of s) i j b;
  ended = refl;
  cuts = sym (append-nil s.cuts);
  one_cut = omega arith;
  incumbent = refl;
  holds = sym (append-nil (without_hold i s.holds));
}
keeps_frame s w (Close i proof) = record {
  problem = refl;
  nodes = λ h. refl;
  node_count = omega arith;
  ended = sym (append-nil (with_ended (Some i) s.ended));
  cuts = sym (append-nil s.cuts);
  one_cut = omega arith;
  incumbent = refl;
  holds = sym (append-nil (without_hold i s.holds));
}

-- a journal has the events that give no hold and are no release: these may end a node
pub journaled_claims : (e : Event) → is_journaled e ≡ true → claimed_by e ≡ None
journaled_claims (Claim i) j = cc
journaled_claims (Release i) j = cc
journaled_claims (Cut mult) j = refl
journaled_claims (Offer x) j = refl
journaled_claims (Split i k b r) j = refl
journaled_claims (Close i proof) j = refl

-- of those it frees no node but the one that it ends
pub journaled_frees : (e : Event) → is_journaled e ≡ true → freed_by e ≡ ended_by e
journaled_frees (Claim i) j = cc
journaled_frees (Release i) j = cc
journaled_frees (Cut mult) j = refl
journaled_frees (Offer x) j = refl
journaled_frees (Split i k b r) j = refl
journaled_frees (Close i proof) j = refl

-- the others change only who holds which node
pub unheld_other : (s : State) (w : Option ℕ) (e : Event) → is_journaled e ≡ false → unheld (after s w e) ≡ unheld s
unheld_other s w (Claim i) j = refl
unheld_other s w (Release i) j = refl
unheld_other s w (Cut mult) j = cc
unheld_other s w (Offer x) j = cc
unheld_other s w (Split i k b r) j = cc
unheld_other s w (Close i proof) j = cc

-- an admitted event ends a node that is open
pub ended_open : (s : State) (w : Option ℕ) (e : Event) (i : ℕ) → judged s w e ≡ Yes → ended_by e ≡ Some i → is_open s i ≡ true
ended_open s w (Claim k) i a n = cc
ended_open s w (Release k) i a n = cc
ended_open s w (Cut mult) i a n = cc
ended_open s w (Offer x) i a n = cc
ended_open s w (Split k j b r) i a n = let same : k ≡ i = cc in subst (λ m. is_open s m ≡ true) same (split_passed s w k j b r a).opened
ended_open s w (Close k proof) i a n = let same : k ≡ i = cc in subst (λ m. is_open s m ≡ true) same (close_passed s w k proof a).opened

-- and frees a node that the worker holds, if it has one
pub freed_yours : (s : State) (w : Option ℕ) (e : Event) (i : ℕ) → judged s w e ≡ Yes → freed_by e ≡ Some i → is_yours s w i ≡ true
freed_yours s w (Claim k) i a n = cc
freed_yours s w (Release k) i a n = let same : k ≡ i = cc in subst (λ m. is_yours s w m ≡ true) same (release_passed s w k a).yours
freed_yours s w (Cut mult) i a n = cc
freed_yours s w (Offer x) i a n = cc
freed_yours s w (Split k j b r) i a n = let same : k ≡ i = cc in subst (λ m. is_yours s w m ≡ true) same (split_passed s w k j b r a).yours
freed_yours s w (Close k proof) i a n = let same : k ≡ i = cc in subst (λ m. is_yours s w m ≡ true) same (close_passed s w k proof a).yours

-- a split ends a node
pub splits_end : (e : Event) → ended_by e ≡ None → is_split e ≡ false
splits_end (Claim i) n = refl
splits_end (Release i) n = refl
splits_end (Cut mult) n = refl
splits_end (Offer x) n = refl
splits_end (Split i j b r) n = cc
splits_end (Close i proof) n = refl

-- what is told of an event by its name
pub split_is : (e : Event) → is_split e ≡ true → (i : ℕ) × (j : ℕ) × (b : ℤ) × (r : Reason) × (e ≡ Split i j b r)
split_is (Claim i) h = cc
split_is (Release i) h = cc
split_is (Cut mult) h = cc
split_is (Offer x) h = cc
split_is (Split i j b r) h = (i, j, b, r, refl)
split_is (Close i proof) h = cc

pub closed_is : (e : Event) (c : ℕ × Proof) → closed_by e ≡ Some c → e ≡ Close c.0 c.1
closed_is (Claim i) c h = cc
closed_is (Release i) c h = cc
closed_is (Cut mult) c h = cc
closed_is (Offer x) c h = cc
closed_is (Split i j b r) c h = cc
closed_is (Close i proof) c h = let same : (i, proof) ≡ c = same_Some (i, proof) c h in ap (λ (d : ℕ × Proof). Close d.0 d.1) same

-- the nodes of a split are few enough where the tree has room for two more
pub numbers_if : (s : State) (e : Event) → (is_split e ≡ true → length s.nodes + 2 ≤ most_nodes) → HasNumbers s e
numbers_if s (Claim i) h = tt
numbers_if s (Release i) h = tt
numbers_if s (Cut mult) h = tt
numbers_if s (Offer x) h = tt
numbers_if s (Split i j b r) h = h refl
numbers_if s (Close i proof) h = tt

pub numbers_of : (s : State) (e : Event) → HasNumbers s e → is_split e ≡ true → length s.nodes + 2 ≤ most_nodes
numbers_of s (Claim i) n h = cc
numbers_of s (Release i) n h = cc
numbers_of s (Cut mult) n h = cc
numbers_of s (Offer x) n h = cc
numbers_of s (Split i j b r) n h = n
numbers_of s (Close i proof) n h = cc

-- ---- what only grows
made_most : (b : Bool) → cond b 2 0 ≤ 2
made_most true = omega arith
made_most false = omega arith

-- the nodes stay, or are two more
pub two_more : (s : State) (w : Option ℕ) (e : Event) → length (after s w e).nodes ≤ length s.nodes + 2
two_more s w e = omega (arith, (keeps_frame s w e).node_count, made_most (is_split e))

pub nodes_after : (s : State) (w : Option ℕ) (e : Event) → length s.nodes ≤ length (after s w e).nodes
nodes_after s w e = omega (arith, (keeps_frame s w e).node_count)

pub nodes_from : (s : State) (es : List Entry) → length s.nodes ≤ length (state_from s es).nodes
nodes_from s [] = omega arith
nodes_from s (e ∷ es) = omega (arith, nodes_after s e.worker e.event, nodes_from (after s e.worker e.event) es)

-- the cuts stay, and others may come behind them
pub cuts_from : (s : State) (es : List Entry) → (more : List MadeCut) × ((state_from s es).cuts ≡ s.cuts ++ more)
cuts_from s [] = ([], sym (append-nil s.cuts))
cuts_from s (e ∷ es) =
    let first : List MadeCut = cuts_of s (cut_by e.event) in
    let rest = cuts_from (after s e.worker e.event) es in
    (first ++ rest.0, rest.1 ∙ (ap (λ (cs : List MadeCut). cs ++ rest.0) (keeps_frame s e.worker e.event).cuts ∙ append_assoc s.cuts first rest.0))

-- an event adds one cut at most
pub cuts_after : (s : State) (w : Option ℕ) (e : Event) → (length s.cuts ≤ length (after s w e).cuts) × (length (after s w e).cuts ≤ length s.cuts + 1)
cuts_after s w e =
    let f = keeps_frame s w e in
    let n : length (after s w e).cuts ≡ length s.cuts + length (cuts_of s (cut_by e)) = ap (λ (cs : List MadeCut). length cs) f.cuts ∙ length-append s.cuts (cuts_of s (cut_by e)) in
    (omega (arith, n), omega (arith, n, f.one_cut))

pub cut_count_from : (s : State) (es : List Entry) → length s.cuts ≤ length (state_from s es).cuts
cut_count_from s [] = omega arith
cut_count_from s (e ∷ es) = omega (arith, (cuts_after s e.worker e.event).0, cut_count_from (after s e.worker e.event) es)

-- ---- holds
-- what frees no node and gives none leaves the holds
pub quiet_holds : (s : State) (w : Option ℕ) (e : Event) → freed_by e ≡ None → claimed_by e ≡ None → (after s w e).holds ≡ s.holds
quiet_holds s w e f c =
    (keeps_frame s w e).holds
    ∙ (ap (λ (o : Option ℕ). without_holds o s.holds ++ holds_of w (claimed_by e)) f ∙ (ap (λ (o : Option ℕ). s.holds ++ holds_of w o) c ∙ append-nil s.holds))

-- what gives none takes one away at most
pub freed_holds : (s : State) (w : Option ℕ) (e : Event) → claimed_by e ≡ None → (after s w e).holds ≡ without_holds (freed_by e) s.holds
freed_holds s w e c =
    (keeps_frame s w e).holds
    ∙ (ap (λ (o : Option ℕ). without_holds (freed_by e) s.holds ++ holds_of w o) c ∙ append-nil (without_holds (freed_by e) s.holds))

-- a property of all holds stays where that of the new one holds
all_without : (P : Holder → Type 0) (i : ℕ) (hs : List Holder) → All P hs → All P (without_hold i hs)
all_without P i [] a = All-nil P
all_without P i (h ∷ hs) a = step (not_here h) (all_without P i hs (All-tail P h hs a))
  where
    not_here : Holder → Bool
    not_here h = not (nat_eq h.node i)

    step : (b : Bool) → All P (without_hold i hs) → All P (cond b (h ∷ without_hold i hs) (without_hold i hs))
    step true r = All-cons P h (without_hold i hs) (All-head P h hs a) r
    step false r = r

pub all_holds : (P : Holder → Type 0) (s : State) (w : Option ℕ) (e : Event) → ((i : ℕ) → All P (hold_of w i)) → All P s.holds → All P (after s w e).holds
all_holds P s w e new a = subst (All P) (sym (keeps_frame s w e).holds) (All-append P (without_holds (freed_by e) s.holds) (holds_of w (claimed_by e)) (left (freed_by e)) (given (claimed_by e)))
  where
    left : (o : Option ℕ) → All P (without_holds o s.holds)
    left None = a
    left (Some i) = all_without P i s.holds a

    given : (o : Option ℕ) → All P (holds_of w o)
    given None = All-nil P
    given (Some i) = new i

-- ---- open nodes
-- where a node is open, some are
pub some_open : (s : State) (i : ℕ) → is_open s i ≡ true → 0 < open_count s
some_open s i o = let n = count-ended s.ended i o in omega (arith, n)

-- where no node is open, none is after an admitted event
pub none_open_after : (s : State) (w : Option ℕ) (e : Event) → judged s w e ≡ Yes → open_count s ≡ 0 → open_count (after s w e) ≡ 0
none_open_after s w e a z = step (ended_by e) refl
  where
    step : (o : Option ℕ) → ended_by e ≡ o → open_count (after s w e) ≡ 0
    step None n =
        ap count
        ((keeps_frame s w e).ended
        ∙ (ap (λ (o : Option ℕ). with_ended o s.ended ++ opened_by e) n ∙ (ap (λ (b : Bool). s.ended ++ cond b (false ∷ false ∷ []) []) (splits_end e n) ∙ append-nil s.ended)))
        ∙ z
    step (Some i) n = let o = some_open s i (ended_open s w e i a n) in absurd (omega (arith, o, z))

pub none_open_from : (s : State) (es : List Entry) → AreLegalFrom s es → open_count s ≡ 0 → open_count (state_from s es) ≡ 0
none_open_from s [] l z = z
none_open_from s (e ∷ es) l z = none_open_from (after s e.worker e.event) es l.1 (none_open_after s e.worker e.event l.0.admitted z)
