-- The figures of a search.
use Rattle.std.specs.Prelude.{◌≡◌, ℕ, List, length}
use Rattle.event_core.specs.declared.entry.Entry.{Entry}
use Rattle.event_core.specs.States.{State, open_count, best_value}
use Rattle.event_core.specs.Histories.{state_of}
use Rattle.problem.specs.Problem.{Problem}
use Rattle.node_journal.specs.Records.{Records, Intact}
use Rattle.resume.specs.declared.figures.Survey.{Survey}
use Rattle.resume.specs.Journals.{StandsFor}

-- the figures of this state, to which so many events led
pub record HasFigures (s : State) (events : ℕ) (v : Survey) : Type 0 where
  pub events_are : v.events ≡ events
  pub nodes : v.nodes ≡ length s.nodes
  pub cuts : v.cuts ≡ length s.cuts
  pub open_nodes : v.open ≡ open_count s
  pub best : v.best ≡ best_value s

-- The records are payloads that stand for a problem and its events, and these are the figures of the state after them.
pub record IsSurveyOf (before : Records) (v : Survey) : Type 0 where
  pub payloads : List (List ℕ)
  pub held : before ≡ Intact payloads
  pub problem : Problem
  pub events : List Entry
  pub stands : StandsFor problem payloads events
  pub figures : HasFigures (state_of problem events) (length events) v
