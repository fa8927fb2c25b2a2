-- How nodes were closed.
use Rattle.std.specs.Prelude.{◌≡◌, ◌<◌, ℕ, eqb, if◌then◌else◌, List, [], ◌∷◌, length, Option, Some, None, IsSome, slice_get, slice_index}
use Rattle.std.specs.Option.{option_or, option_and_then}
use Rattle.problem.specs.Problem.{Problem}
use Rattle.node_events.specs.declared.proof.Proof.{Proof}
use Rattle.node_events.specs.declared.event.Event.{Event}
use Rattle.event_core.specs.declared.entry.Entry.{Entry}
use Rattle.event_core.specs.States.{open_count}
use Rattle.event_core.specs.Histories.{state_of, AreLegal}
use Rattle.event_core.specs.Frames.{closed_by}

-- the proof of a closed node, where that is node i
abbrev pub proof_for : ℕ → Option (ℕ × Proof) → Option Proof
proof_for i None = None
proof_for i (Some c) = if eqb c.0 i then Some c.1 else None

-- the proof with which the event closes node i
abbrev pub closing : Event → ℕ → Option Proof
closing e i = proof_for i (closed_by e)

-- the proof with which node i was closed; the last one, if there were several
abbrev pub proof_of : List Entry → ℕ → Option Proof
proof_of [] i = None
proof_of (e ∷ es) i = option_or (proof_of es i) (closing e.event i)

-- each event is legal in turn, and no node is left open
pub record IsFinished (p : Problem) (es : List Entry) : Type 0 where
  pub legal : AreLegal p es
  pub none_open : open_count (state_of p es) ≡ 0

-- ---- the table behind it
-- the proof with which the event at a place closes node i
abbrev pub proof_at : List Entry → ℕ → ℕ → Option Proof
proof_at es place i = option_and_then (λ (e : Entry). closing e.event i) (slice_get es place)

-- for each node that was closed, the place of the event that did so
abbrev pub AreClosings : List Entry → List ℕ → Type 0
AreClosings es places = (i : ℕ) → i < length places → IsSome (proof_of es i) → proof_at es (slice_index places i) i ≡ proof_of es i
