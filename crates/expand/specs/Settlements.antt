-- The events of a settlement, and when they may be applied.
use Rattle.std.specs.Prelude.{◌≡◌, ◌+◌, ◌≤◌, ℕ, true, List, [], ◌∷◌, map, length, All, Some, slice_get}
use Rattle.problem_box.specs.declared.span.Span.{Span}
use Rattle.problem.specs.Linear.{Point, Multipliers}
use Rattle.problem.specs.Directions.{aim_at}
use Rattle.problem.specs.Feasible.{IsFeasible}
use Rattle.problem.specs.Limits.{most_cuts}
use Rattle.node_events.specs.declared.event.Event.{Event}
use Rattle.node_events.specs.declared.event.Event.TheVariants.{Cut, Offer, Split, Close}
use Rattle.node_events.specs.declared.proof.Proof.{Proof}
use Rattle.derivation_book.specs.Legal.{is_legal_proof}
use Rattle.incumbent.specs.Offers.{IsBetter}
use Rattle.event_core.specs.States.{State, cutoff}
use Rattle.event_core.specs.Splits.{has_both, is_reason}
use Rattle.gomory_cuts.specs.Separation.{most_separated}
use Rattle.expand.specs.declared.settlement.Branching.{Branching}
use Rattle.expand.specs.declared.settlement.Settlement.{Settlement}
use Rattle.expand.specs.declared.settlement.Settlement.TheVariants.{Separated, Closed, Improved, Branched}
use Rattle.expand.specs.Findings.{HasRow}

-- what is done with node i
abbrev pub events_of : ℕ → Settlement → List Event
events_of i (Separated mults) = map Cut mults
events_of i (Closed proof) = Close i proof ∷ []
events_of i (Improved x proof) = Offer x ∷ Close i proof ∷ []
events_of i (Branched b) = Split i b.place.column b.place.bound b.reason ∷ []

-- the proof closes a node with this box
abbrev pub IsShut : State → List Span → Proof → Type 0
IsShut s box proof = is_legal_proof s.problem s.cuts box (cutoff s) proof ≡ true

-- the point is feasible and better than the incumbent, and once it is the incumbent the proof closes a node with this box
pub record IsBetterPoint (s : State) (box : List Span) (x : Point) (proof : Proof) : Type 0 where
  pub feasible : IsFeasible s.problem x
  pub better : IsBetter s.incumbent (aim_at s.problem x)
  pub closes : is_legal_proof s.problem s.cuts box (Some (aim_at s.problem x)) proof ≡ true

-- a node with this box may be split there, for this reason
pub record IsBranching (s : State) (box : List Span) (b : Branching) : Type 0 where
  pub both : has_both (slice_get box b.place.column) b.place.bound ≡ true
  pub holds : is_reason s.problem s.cuts box (cutoff s) b.place.column b.place.bound b.reason ≡ true

-- each has a rounded row, they are no more than are separated at a time, and all of them fit beside the cuts that are there
pub record AreNewCuts (s : State) (mults : List Multipliers) : Type 0 where
  pub rows : All (HasRow s.problem s.cuts) mults
  pub few_together : length mults ≤ most_separated
  pub few : length s.cuts + length mults ≤ most_cuts

-- the settlement is legal in this state for a node with this box
abbrev pub IsSettlement : State → List Span → Settlement → Type 0
IsSettlement s box (Separated mults) = AreNewCuts s mults
IsSettlement s box (Closed proof) = IsShut s box proof
IsSettlement s box (Improved x proof) = IsBetterPoint s box x proof
IsSettlement s box (Branched b) = IsBranching s box b
