-- What histories promise.
use Rattle.std.specs.Prelude.{◌≡◌, ℕ, ℤ, true, List, [], ◌++◌, slice_get, Option, Some}
use Rattle.std.specs.Bool.{Decides}
use Rattle.fraction.specs.Rational.{ℚ}
use Rattle.problem_box.specs.declared.span.Span.{Span}
use Rattle.problem.specs.Problem.{Problem}
use Rattle.node_events.specs.declared.event.Event.{Event}
use Rattle.node_events.specs.declared.reason.Reason.{Reason}
use Rattle.derivation_book.specs.declared.cut.Cut.{Cut}
use Rattle.event_core.specs.declared.entry.Entry.{Entry}
use Rattle.event_core.specs.States.{State}
use Rattle.event_core.specs.Splits.{IsReason, is_reason}
use Rattle.event_core.specs.Histories.{state_of, AreLegal, journaled}
use Rattle.event_core.specs.Frames.{KeepsFrame}
use Rattle.event_core.specs.Sound.{IsSound}

-- the state with nobody holding a node
abbrev pub unheld : State → State
unheld s = record s { holds = [] }

-- the events that a journal has are legal without workers, and lead to the same state but for who holds which node
pub record AreJournaled (p : Problem) (es : List Entry) : Type 0 where
  pub legal : AreLegal p (journaled es)
  pub same : state_of p (journaled es) ≡ unheld (state_of p es)

-- what a journal keeps of a legal history is one, with the same state but for the holds
abbrev pub JournalsAreLegal : Problem → Type 0
JournalsAreLegal p = (es : List Entry) → AreLegal p es → AreJournaled p es

-- the first events of a legal history are legal, and the nodes that had ended after them have ended after all
pub record IsBeginning (p : Problem) (es more : List Entry) : Type 0 where
  pub legal : AreLegal p es
  pub ended : (i : ℕ) → slice_get (state_of p es).ended i ≡ Some true → slice_get (state_of p (es ++ more)).ended i ≡ Some true

-- each beginning of a legal history is one, and what has ended stays so
abbrev pub BeginningsAreLegal : Problem → Type 0
BeginningsAreLegal p = (es more : List Entry) → AreLegal p (es ++ more) → IsBeginning p es more

-- a legal history leads to a state that claims nothing false
abbrev pub LegalStatesAreSound : Problem → Type 0
LegalStatesAreSound p = (es : List Entry) → AreLegal p es → IsSound (state_of p es)

-- the test of reasons says what they mean
abbrev pub ReasonsAreDecided : Problem → Type 0
ReasonsAreDecided p =
    (cs : List Cut) (box : List Span) (cutoff : Option ℚ) (j : ℕ) (b : ℤ) (reason : Reason) → Decides (is_reason p cs box cutoff j b reason) (IsReason p cs box cutoff j b reason)

-- each part of the state after an event is what the event names, or as it was
abbrev pub EventsKeepFrames : Type 0
EventsKeepFrames = (s : State) (worker : Option ℕ) (event : Event) → KeepsFrame s worker event
