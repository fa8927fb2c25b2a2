-- Who holds a node after events of a worker who holds one.
use Rattle.std.specs.Prelude.{◌≡◌, ℕ, zero, suc, Bool, true, false, not, nat_eq, ◌&&◌, ◌||◌, cond, List, [], ◌∷◌, ◌++◌, slice_set, Some, refl}
use Rattle.std.specs.List.{list_any}
use Rattle.std.proofs.Common.{sym, ap, ◌∙◌, subst}
use Rattle.std.proofs.lemmas.Bool.{eq-eqb, eqb-true}
use Rattle.std.proofs.lemmas.List.Folds.{list_any-append}
use Rattle.problem.specs.Linear.{Multipliers}
use Rattle.node_events.specs.declared.event.Event.TheVariants.{Claim, Cut}
use Rattle.event_core.specs.declared.entry.Holder.{Holder}
use Rattle.event_core.specs.States.{State, is_open}
use Rattle.event_core.specs.Holds.{is_holding, holds_node, without_hold}
use Rattle.event_core.specs.After.{after}
use Rattle.event_core.specs.Histories.{state_from}
use Rattle.event_core.specs.Lemmas.Ended.{is_left}
use Rattle.event_core.specs.Sound.{AreApart}
use Rattle.expand.specs.declared.settlement.Settlement.{Settlement}
use Rattle.expand.specs.declared.settlement.Settlement.TheVariants.{Separated, Closed, Improved, Branched}
use Rattle.expand.specs.Laws.{entries_of}
use Rattle.expand.specs.Settlements.{events_of}
use Rattle.expand.specs.Lemmas.Rooms.{IsNotSeparated}
use Rattle.worker_gate.specs.Lemmas.Holding.{none_without}
use Rattle.event_core.specs.Lemmas.Frames.{quiet_holds}

abbrev is_of : ℕ → ℕ → Holder → Bool
is_of w i h = nat_eq h.worker w && nat_eq h.node i

abbrev is_by : ℕ → Holder → Bool
is_by w h = nat_eq h.worker w

-- ---- a claim
pub claimed_held : (s : State) (w i : ℕ) → holds_node (after s (Some w) (Claim i)) w i ≡ true
claimed_held s w i =
    list_any-append (is_of w i) s.holds (record { worker = w; node = i } ∷ [])
    ∙ (ap (λ (b : Bool). list_any (is_of w i) s.holds || ((b && nat_eq i i) || false)) (eq-eqb w w refl)
    ∙ (ap (λ (b : Bool). list_any (is_of w i) s.holds || ((true && b) || false)) (eq-eqb i i refl) ∙ either (list_any (is_of w i) s.holds)))
  where
    either : (b : Bool) → (b || true) ≡ true
    either true = refl
    either false = refl

-- ---- the one node of a worker ends
-- whoever is among these holds a node
some_by : (w i : ℕ) (hs : List Holder) → list_any (is_of w i) hs ≡ true → list_any (is_by w) hs ≡ true
some_by w i [] e = cc
some_by w i (h ∷ hs) e = step (nat_eq h.worker w) (nat_eq h.node i) e (λ k. some_by w i hs k)
  where
    step : (a b : Bool) → ((a && b) || list_any (is_of w i) hs) ≡ true → (list_any (is_of w i) hs ≡ true → list_any (is_by w) hs ≡ true) → (a || list_any (is_by w) hs) ≡ true
    step true b k f = refl
    step false b k f = f k

-- each worker holds one node at most: without it the worker holds none
pub lone : (w i : ℕ) (hs : List Holder) → AreApart hs → list_any (is_of w i) hs ≡ true → list_any (is_by w) (without_hold i hs) ≡ false
lone w i [] a e = cc
lone w i (h ∷ hs) a e = step (nat_eq h.worker w) (nat_eq h.node i) refl e (λ k. lone w i hs a.2 k)
  where
    others : nat_eq h.worker w ≡ true → list_any (is_by w) hs ≡ false
    others q = subst (λ n. list_any (is_by n) hs ≡ false) (eqb-true h.worker w q) a.0

    step : (b c : Bool) → nat_eq h.worker w ≡ b → ((b && c) || list_any (is_of w i) hs) ≡ true → (list_any (is_of w i) hs ≡ true → list_any (is_by w) (without_hold i hs) ≡ false)
        → list_any (is_by w) (cond (not c) (h ∷ without_hold i hs) (without_hold i hs)) ≡ false
    step true true q k f = none_without w i hs (others q)
    step true false q k f = let bad = sym (some_by w i hs k) ∙ others q in cc
    step false true q k f = f k
    step false false q k f = ap (λ c. c || list_any (is_by w) (without_hold i hs)) q ∙ f k

-- ---- the events of a settlement
-- cuts leave the holds as they are
pub separated_holds : (s : State) (w i : ℕ) (mults : List Multipliers) → (state_from s (entries_of w (events_of i (Separated mults)))).holds ≡ s.holds
separated_holds s w i [] = refl
separated_holds s w i (m ∷ ms) = separated_holds (after s (Some w) (Cut m)) w i ms ∙ quiet_holds s (Some w) (Cut m) refl refl

-- and all else takes away that of the node
pub ended_none : (s : State) (w i : ℕ) (g : Settlement) → IsNotSeparated g → AreApart s.holds → holds_node s w i ≡ true → is_holding (state_from s (entries_of w (events_of i g))) w ≡ false
ended_none s w i (Separated mults) n a h = absurd (n mults refl)
ended_none s w i (Closed proof) n a h = lone w i s.holds a h
ended_none s w i (Improved x proof) n a h = lone w i s.holds a h
ended_none s w i (Branched b) n a h = lone w i s.holds a h

-- ---- the node itself
set_closed : (es : List Bool) (i : ℕ) → is_left (slice_set es i true) i ≡ false
set_closed [] i = refl
set_closed (e ∷ es) zero = refl
set_closed (e ∷ es) (suc i) = set_closed es i

parted_closed : (es : List Bool) (i : ℕ) → is_left es i ≡ true → is_left (slice_set es i true ++ false ∷ false ∷ []) i ≡ false
parted_closed [] i h = cc
parted_closed (e ∷ es) zero h = refl
parted_closed (e ∷ es) (suc i) h = parted_closed es i h

-- all but cuts end it
pub ended_closed : (s : State) (w i : ℕ) (g : Settlement) → IsNotSeparated g → is_open s i ≡ true → is_open (state_from s (entries_of w (events_of i g))) i ≡ false
ended_closed s w i (Separated mults) n o = absurd (n mults refl)
ended_closed s w i (Closed proof) n o = set_closed s.ended i
ended_closed s w i (Improved x proof) n o = set_closed s.ended i
ended_closed s w i (Branched b) n o = parted_closed s.ended i o
