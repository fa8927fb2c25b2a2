-- Which events are admitted: the first refusal of the others.
use Rattle.std.specs.Prelude.{ℕ, ℤ, Bool, true, false, not, nat_lt, ◌||◌, length, Option, Some, None, slice_get}
use Rattle.problem.specs.declared.row.Row.{Row}
use Rattle.problem.specs.Directions.{aim_at}
use Rattle.node_events.specs.declared.proof.Proof.{Proof}
use Rattle.node_events.specs.declared.reason.Reason.{Reason}
use Rattle.node_events.specs.declared.event.Event.{Event}
use Rattle.node_events.specs.declared.event.Event.TheVariants.{Claim, Release, Cut, Offer, Split, Close}
use Rattle.derivation_book.specs.Rounded.{rounded_row}
use Rattle.derivation_book.specs.Legal.{is_legal_proof}
use Rattle.incumbent.specs.Offers.{is_better}
use Rattle.event_core.specs.declared.admit.Admit.{Admit}
use Rattle.event_core.specs.declared.admit.Admit.TheVariants.{Yes, NotOpen, NotYours, BadCut, BadPoint, NotBetter, BadSplit, BadReason, BadProof, Full}
use Rattle.event_core.specs.States.{State, box_of, cutoff, is_open}
use Rattle.event_core.specs.Holds.{is_held, is_busy, is_yours}
use Rattle.event_core.specs.Feasibility.{is_feasible}
use Rattle.event_core.specs.Splits.{has_both, is_reason}
use Rattle.problem.specs.Linear.{Multipliers, Point}
use Rattle.problem.specs.Limits.{most_cuts}

-- the refusal where the test fails, else what comes after it
abbrev pub checked : Bool → Admit → Admit → Admit
checked false refusal rest = refusal
checked true refusal rest = rest

-- what is said of a claim: of an open node that nobody holds, by a worker that holds none
abbrev pub judged_claim : State → Option ℕ → ℕ → Admit
judged_claim s w i = checked (is_open s i) NotOpen (checked (not (is_held s i || is_busy s w)) NotYours Yes)

-- what is said of a release: of an open node, by who holds it
abbrev pub judged_release : State → Option ℕ → ℕ → Admit
judged_release s w i = checked (is_open s i) NotOpen (checked (is_yours s w i) NotYours Yes)

-- there is a row
abbrev pub has_row : Option Row → Bool
has_row None = false
has_row (Some r) = true

-- what is said of a cut: there is room, and its row can be made
abbrev pub judged_cut : State → Multipliers → Admit
judged_cut s mult = checked (nat_lt (length s.cuts) most_cuts) Full (checked (has_row (rounded_row s.problem s.cuts mult)) BadCut Yes)

-- what is said of an offer: feasible, and better than the incumbent
abbrev pub judged_offer : State → Point → Admit
judged_offer s x = checked (is_feasible s.problem x) BadPoint (checked (is_better s.incumbent (aim_at s.problem x)) NotBetter Yes)

-- what is said of a split: of an open node, by who holds it, both parts non-empty, and for a reason that holds
abbrev pub judged_split : State → Option ℕ → ℕ → ℕ → ℤ → Reason → Admit
judged_split s w i j b reason =
    checked (is_open s i) NotOpen
    (checked (is_yours s w i) NotYours
    (checked (has_both (slice_get (box_of s i) j) b) BadSplit (checked (is_reason s.problem s.cuts (box_of s i) (cutoff s) j b reason) BadReason Yes)))

-- what is said of a close: of an open node, by who holds it, with a proof that holds
abbrev pub judged_close : State → Option ℕ → ℕ → Proof → Admit
judged_close s w i proof =
    checked (is_open s i) NotOpen (checked (is_yours s w i) NotYours (checked (is_legal_proof s.problem s.cuts (box_of s i) (cutoff s) proof) BadProof Yes))

-- the answer to an event of this worker, or of none
abbrev pub judged : State → Option ℕ → Event → Admit
judged s w (Claim i) = judged_claim s w i
judged s w (Release i) = judged_release s w i
judged s w (Cut mult) = judged_cut s mult
judged s w (Offer x) = judged_offer s x
judged s w (Split i j b reason) = judged_split s w i j b reason
judged s w (Close i proof) = judged_close s w i proof
