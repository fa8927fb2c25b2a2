-- What an event changes of a state, and what it leaves alone.
use Rattle.std.specs.Prelude.{◌≡◌, ◌≤◌, ◌+◌, ℕ, Bool, true, false, if◌then◌else◌, List, [], ◌∷◌, ◌++◌, length, Option, Some, None, slice_set}
use Rattle.problem.specs.declared.row.Row.{Row}
use Rattle.problem.specs.Linear.{Multipliers, Point}
use Rattle.node_events.specs.declared.event.Event.{Event}
use Rattle.node_events.specs.declared.event.Event.TheVariants.{Claim, Release, Cut, Offer, Split, Close}
use Rattle.node_events.specs.declared.proof.Proof.{Proof}
use Rattle.derivation_book.specs.declared.cut.Cut.{Cut as MadeCut}
use Rattle.derivation_book.specs.Rounded.{rounded_row}
use Rattle.incumbent.specs.declared.best.Best.{Best}
use Rattle.incumbent.specs.Offers.{offered}
use Rattle.event_core.specs.declared.entry.Holder.{Holder}
use Rattle.event_core.specs.States.{State}
use Rattle.event_core.specs.Holds.{hold_of, without_hold}
use Rattle.event_core.specs.After.{after}

-- ---- what an event names
-- it splits a node
abbrev pub is_split : Event → Bool
is_split (Claim i) = false
is_split (Release i) = false
is_split (Cut mult) = false
is_split (Offer x) = false
is_split (Split i j b reason) = true
is_split (Close i proof) = false

-- the node that a worker holds from then on
abbrev pub claimed_by : Event → Option ℕ
claimed_by (Claim i) = Some i
claimed_by (Release i) = None
claimed_by (Cut mult) = None
claimed_by (Offer x) = None
claimed_by (Split i j b reason) = None
claimed_by (Close i proof) = None

-- the node that nobody holds from then on
abbrev pub freed_by : Event → Option ℕ
freed_by (Claim i) = None
freed_by (Release i) = Some i
freed_by (Cut mult) = None
freed_by (Offer x) = None
freed_by (Split i j b reason) = Some i
freed_by (Close i proof) = Some i

-- the node that is split or closed
abbrev pub ended_by : Event → Option ℕ
ended_by (Claim i) = None
ended_by (Release i) = None
ended_by (Cut mult) = None
ended_by (Offer x) = None
ended_by (Split i j b reason) = Some i
ended_by (Close i proof) = Some i

-- the node that is closed, with its proof
abbrev pub closed_by : Event → Option (ℕ × Proof)
closed_by (Claim i) = None
closed_by (Release i) = None
closed_by (Cut mult) = None
closed_by (Offer x) = None
closed_by (Split i j b reason) = None
closed_by (Close i proof) = Some (i, proof)

-- the multipliers of the cut
abbrev pub cut_by : Event → Option Multipliers
cut_by (Claim i) = None
cut_by (Release i) = None
cut_by (Cut mult) = Some mult
cut_by (Offer x) = None
cut_by (Split i j b reason) = None
cut_by (Close i proof) = None

-- the point that is offered
abbrev pub offered_by : Event → Option Point
offered_by (Claim i) = None
offered_by (Release i) = None
offered_by (Cut mult) = None
offered_by (Offer x) = Some x
offered_by (Split i j b reason) = None
offered_by (Close i proof) = None

-- ---- what it changes by that
-- how many nodes a split makes
abbrev pub nodes_made : Event → ℕ
nodes_made e = if is_split e then 2 else 0

-- for each of them, that it is open
abbrev pub opened_by : Event → List Bool
opened_by e = if is_split e then false ∷ false ∷ [] else []

-- for each node whether it has ended, with one more that has
abbrev pub with_ended : Option ℕ → List Bool → List Bool
with_ended None ended = ended
with_ended (Some i) ended = slice_set ended i true

-- the cut of these multipliers, if they have a row
abbrev pub cut_of_row : Multipliers → Option Row → List MadeCut
cut_of_row mult None = []
cut_of_row mult (Some r) = record { row = r; mult = mult } ∷ []

-- the cuts that an event adds: at most one
abbrev pub cuts_of : State → Option Multipliers → List MadeCut
cuts_of s None = []
cuts_of s (Some mult) = cut_of_row mult (rounded_row s.problem s.cuts mult)

-- the incumbent after an event that offers this point, or none
abbrev pub incumbent_after : State → Option Point → Option Best
incumbent_after s None = s.incumbent
incumbent_after s (Some x) = offered s.problem x

-- the holds that an event leaves
abbrev pub without_holds : Option ℕ → List Holder → List Holder
without_holds None holds = holds
without_holds (Some i) holds = without_hold i holds

-- the holds that an event adds
abbrev pub holds_of : Option ℕ → Option ℕ → List Holder
holds_of worker None = []
holds_of worker (Some i) = hold_of worker i

-- Each part of the state after an event, by what the event names: the problem stays; only a split makes nodes, and makes two; only a cut adds a cut, and
-- adds one at most; only an offer changes the incumbent; only a split or a close ends a node; only a claim gives a hold, and only a release, a split or
-- a close takes one away.
pub record KeepsFrame (s : State) (worker : Option ℕ) (event : Event) : Type 0 where
  pub problem : (after s worker event).problem ≡ s.problem
  pub nodes : is_split event ≡ false → (after s worker event).nodes ≡ s.nodes
  pub node_count : length (after s worker event).nodes ≡ length s.nodes + nodes_made event
  pub ended : (after s worker event).ended ≡ with_ended (ended_by event) s.ended ++ opened_by event
  pub cuts : (after s worker event).cuts ≡ s.cuts ++ cuts_of s (cut_by event)
  pub one_cut : length (cuts_of s (cut_by event)) ≤ 1
  pub incumbent : (after s worker event).incumbent ≡ incumbent_after s (offered_by event)
  pub holds : (after s worker event).holds ≡ without_holds (freed_by event) s.holds ++ holds_of worker (claimed_by event)
