-- How searches end.
use Rattle.std.specs.Prelude.{◌≡◌, ◌<◌, ◌+◌, ℕ, ℤ, true, length, None}
use Rattle.node_events.specs.declared.reason.Reason.{Reason}
use Rattle.node_events.specs.declared.event.Event.TheVariants.{Split}
use Rattle.event_core.specs.declared.admit.Admit.TheVariants.{Yes}
use Rattle.event_core.specs.States.{State, is_open}
use Rattle.event_core.specs.Judging.{judged}
use Rattle.core_search.specs.Entries.{IsGreatest}

-- some split is admitted without a worker
pub record AdmitsSplit (s : State) : Type 0 where
  pub node : ℕ
  pub column : ℕ
  pub bound : ℤ
  pub reason : Reason
  pub admitted : judged s None (Split node column bound reason) ≡ Yes

-- some split is admitted, and its two nodes would pass the budget
pub record IsSpent (budget : ℕ) (s : State) : Type 0 where
  pub splits : AdmitsSplit s
  pub full : budget < length s.nodes + 2

-- the open node of greatest number admits a split
pub record HasSplitNext (s : State) : Type 0 where
  pub node : ℕ
  pub opened : is_open s node ≡ true
  pub greatest : IsGreatest s node
  pub column : ℕ
  pub bound : ℤ
  pub reason : Reason
  pub admitted : judged s None (Split node column bound reason) ≡ Yes
