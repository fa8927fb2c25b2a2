-- What findings and settlements promise.
use Rattle.std.specs.Prelude.{◌≡◌, ◌≤◌, ℕ, true, List, length, All, Some}
use Rattle.std.specs.List.{list_any}
use Rattle.problem_box.specs.declared.span.Span.{Span}
use Rattle.node_events.specs.declared.event.Event.{Event}
use Rattle.event_core.specs.declared.entry.Entry.{Entry}
use Rattle.event_core.specs.States.{State, box_of, is_open}
use Rattle.event_core.specs.Holds.{holds_node}
use Rattle.event_core.specs.Frames.{is_split}
use Rattle.event_core.specs.Histories.{entries_by, is_journaled, AreLegalFrom}
use Rattle.gomory_cuts.specs.Separation.{most_separated}
use Rattle.expand.specs.declared.settlement.Settlement.{Settlement}
use Rattle.expand.specs.Settlements.{events_of, IsSettlement}

-- events of a worker
abbrev pub entries_of : ℕ → List Event → List Entry
entries_of w es = entries_by (Some w) es

-- where a worker holds an open node, the events that settle it are legal, each after those before it
abbrev pub SettlementsAreLegal : Type 0
SettlementsAreLegal =
    (s : State) (w i : ℕ) (g : Settlement) → is_open s i ≡ true → holds_node s w i ≡ true → IsSettlement s (box_of s i) g → AreLegalFrom s (entries_of w (events_of i g))

-- events that one payload of a journal takes: no more than cuts are separated at a time, each one that a journal has, and a split alone
pub record FitOnePayload (es : List Event) : Type 0 where
  pub few : length es ≤ most_separated
  pub journaled : All (λ e. is_journaled e ≡ true) es
  pub alone : list_any is_split es ≡ true → length es ≡ 1

-- the events that settle a node fit into one payload
abbrev pub SettlementsFitOnePayload : Type 0
SettlementsFitOnePayload = (s : State) (box : List Span) (i : ℕ) (g : Settlement) → IsSettlement s box g → FitOnePayload (events_of i g)
