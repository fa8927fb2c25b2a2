-- The events of a payload, one after another.
use Rattle.std.specs.Prelude.{◌≡◌, ℕ, ◌+◌, ◌≤◌, true, List, [], ◌∷◌, ◌++◌, length, All, Option, Some, None, refl, cond, Bool, false}
use Rattle.std.proofs.Common.{arith, sym, subst, ap, ◌∙◌}
use Rattle.std.proofs.lemmas.List.{append_assoc}
use Rattle.std.proofs.lemmas.List.Elements.{All-tail}
use Rattle.node_events.specs.declared.event.Event.{Event}
use Rattle.event_core.specs.declared.entry.Entry.{Entry}
use Rattle.event_core.specs.States.{State}
use Rattle.event_core.specs.After.{after}
use Rattle.event_core.specs.Holds.{without_hold}
use Rattle.event_core.specs.Histories.{is_journaled, state_from, IsLegal, AreLegalFrom}
use Rattle.event_core.specs.Rooms.{HasNumbers, Recorded}
use Rattle.event_core.specs.Frames.{is_split, freed_by, without_holds}
use Rattle.event_core.specs.Lemmas.Frames.{keeps_frame, numbers_if, numbers_of, journaled_claims, freed_holds, nodes_from}
use Rattle.node_tree.specs.Limits.{most_nodes}
use Rattle.resume.specs.Events.{read_entries}

-- ---- one event
-- where the tree isn't too large after an event, it had room for it
pub has_numbers : (s : State) (e : Event) → length (after s None e).nodes ≤ most_nodes → HasNumbers s e
has_numbers s e h =
    numbers_if s e
    (λ q. let n : length (after s None e).nodes ≡ length s.nodes + 2 = (keeps_frame s None e).node_count ∙ ap (λ (b : Bool). length s.nodes + cond b 2 0) q in omega (arith, n, h))

-- and the other way round
pub stays_few : (s : State) (e : Event) → length s.nodes ≤ most_nodes → HasNumbers s e → length (after s None e).nodes ≤ most_nodes
stays_few s e h numbers = step (is_split e) refl
  where
    within : (b : Bool) → length (after s None e).nodes ≡ length s.nodes + cond b 2 0 → (b ≡ true → length s.nodes + 2 ≤ most_nodes) → length (after s None e).nodes ≤ most_nodes
    within true n few = let m = few refl in omega (arith, n, m)
    within false n few = omega (arith, n, h)

    step : (b : Bool) → is_split e ≡ b → length (after s None e).nodes ≤ most_nodes
    step b q = within b ((keeps_frame s None e).node_count ∙ ap (λ (c : Bool). length s.nodes + cond c 2 0) q) (λ r. numbers_of s e numbers (q ∙ r))

-- without a worker nobody comes to hold a node
nobody_holds : (s : State) (e : Event) → s.holds ≡ [] → is_journaled e ≡ true → (after s None e).holds ≡ []
nobody_holds s e h j = freed_holds s None e (journaled_claims e j) ∙ without (freed_by e)
  where
    without : (o : Option ℕ) → without_holds o s.holds ≡ []
    without None = h
    without (Some i) = ap (without_hold i) h

-- ---- one event after another
pub nobody_holds_after : (s : State) (es : List Event) → s.holds ≡ [] → AreLegalFrom s (read_entries es) → (state_from s (read_entries es)).holds ≡ []
nobody_holds_after s [] h legal = h
nobody_holds_after s (e ∷ es) h legal = nobody_holds_after (after s None e) es (nobody_holds s e h legal.0.stands.1) legal.1

-- Some of the events were applied, and these are left: what they lead to is what all of them lead to, and they are legal where all of them are.
pub record IsOnTheWay (old now : Recorded) (all left : List Event) : Type 0 where
  pub legal_all : AreLegalFrom now.state (read_entries left) → AreLegalFrom old.state (read_entries all)
  pub legal_left : AreLegalFrom old.state (read_entries all) → AreLegalFrom now.state (read_entries left)
  pub state : state_from now.state (read_entries left) ≡ state_from old.state (read_entries all)
  pub history : now.history ++ read_entries left ≡ old.history ++ read_entries all
  pub unheld : now.state.holds ≡ []
  pub few : length now.state.nodes ≤ most_nodes
  pub journaled : All (λ e. is_journaled e ≡ true) left

module _ (old now : Recorded) (all left : List Event) (e : Event) (way : IsOnTheWay old now all (e ∷ left)) where
  -- the next of them was applied
  pub one_applied : (new : Recorded) → IsLegal now.state None e → length new.state.nodes ≤ most_nodes → new.state ≡ after now.state None e → new.history ≡ now.history ++ read_entries (e ∷ [])
      → IsOnTheWay old new all left
  one_applied new legal few state history = record {
    legal_all = λ h. way.legal_all (legal, subst (λ (s : State). AreLegalFrom s (read_entries left)) state h);
    legal_left = λ h. subst (λ (s : State). AreLegalFrom s (read_entries left)) (sym state) (way.legal_left h).1;
    state = ap (λ (s : State). state_from s (read_entries left)) state ∙ way.state;
    history = ap (λ (l : List Entry). l ++ read_entries left) history ∙ append_assoc now.history (read_entries (e ∷ [])) (read_entries left) ∙ way.history;
    unheld = ap (λ (s : State). s.holds) state ∙ nobody_holds now.state e way.unheld legal.stands.1;
    few = few;
    journaled = All-tail (λ e. is_journaled e ≡ true) e left way.journaled;
  }

  -- where the next of them may not come, not all of them may
  pub none_further : (IsLegal now.state None e → length (after now.state None e).nodes ≤ most_nodes → ⊥) → AreLegalFrom old.state (read_entries all) → length (state_from old.state (read_entries all)).nodes ≤ most_nodes → ⊥
  none_further never legal few =
      let grown : length (after now.state None e).nodes ≤ length (state_from (after now.state None e) (read_entries left)).nodes = nodes_from (after now.state None e) (read_entries left) in
      let same : length (state_from (after now.state None e) (read_entries left)).nodes ≡ length (state_from old.state (read_entries all)).nodes = ap (λ (s : State). length s.nodes) way.state in
      never (way.legal_left legal).0 (omega (arith, grown, same, few))

-- nothing was applied yet
pub none_applied : (old : Recorded) (all left : List Event) → left ≡ all → old.state.holds ≡ [] → length old.state.nodes ≤ most_nodes → All (λ e. is_journaled e ≡ true) all → IsOnTheWay old old all left
none_applied old all left same unheld few journaled =
    subst (IsOnTheWay old old all) (sym same) (record { legal_all = λ h. h; legal_left = λ h. h; state = refl; history = refl; unheld = unheld; few = few; journaled = journaled })
