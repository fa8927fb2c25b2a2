-- What a halt says of its pool.
use Rattle.std.specs.Prelude.{◌≡◌, ℕ, ◌+◌, ◌≤◌, max, Bool, true, false, ◌&&◌, nat_lt, List, [], ◌∷◌, length, Option, Some, None, Result, Ok, Err}
use Rattle.std.specs.List.{list_any}
use Rattle.outside.specs.Faults.{Rose}
use Rattle.node_events.specs.declared.event.Event.{Event}
use Rattle.event_core.specs.declared.admit.Admit.TheVariants.{Yes}
use Rattle.event_core.specs.States.{State}
use Rattle.event_core.specs.Judging.{judged}
use Rattle.event_core.specs.Histories.{is_journaled, entries_by, state_from, AreLegalFrom}
use Rattle.event_core.specs.Laws.{unheld}
use Rattle.event_core.specs.Frames.{is_split}
use Rattle.node_pool.specs.Payloads.{IsReadBack}
use Rattle.node_pool.specs.declared.halt.Halt.{Halt}
use Rattle.node_pool.specs.declared.halt.Halt.TheVariants as halt
use Rattle.node_pool.specs.declared.answers.Receipt.{Receipt}
use Rattle.node_pool.specs.declared.answers.CommitFault.{CommitFault}
use Rattle.node_pool.specs.declared.answers.CommitFault.TheVariants as fault

-- the event splits a node of a tree of so many, and with the two children the nodes are more than the budget
abbrev pub passes_budget : ℕ → ℕ → Event → Bool
passes_budget budget nodes e = is_split e && nat_lt budget (nodes + 2)

-- one of the events does
abbrev pub spends : ℕ → ℕ → List Event → Bool
spends budget nodes es = list_any (passes_budget budget nodes) es

-- A journal may have the event next: it is admitted without a worker in this state, in which nobody holds a node.
pub record IsNext (s : State) (e : Event) : Type 0 where
  pub journaled : is_journaled e ≡ true
  pub admitted : judged s None e ≡ Yes

-- the journal is sound, and the disk's count of faults is that from the beginning
pub record IsUnfailed (faults count : ℕ) (fault : Option ℕ) : Type 0 where
  pub sound : fault ≡ None
  pub unchanged : count ≡ faults

-- The disk failed while these events were added, and counted it: the count was the first number at the beginning, and is the second now. A journal may have
-- the events next, their payload reads back as them, and by them the tree has no more nodes than the budget says, or than there were.
pub record IsDiskHalt (faults budget count : ℕ) (fault : Option ℕ) (s : State) (n : ℕ) (es : List Event) : Type 0 where
  pub failed : fault ≡ Some n
  pub counted : count ≡ n
  pub rose : Rose faults n
  pub next : AreLegalFrom (unheld s) (entries_by None es)
  pub read : IsReadBack es
  pub few : length (state_from (unheld s) (entries_by None es)).nodes ≤ max budget (length s.nodes)

-- this split would pass the budget
pub record IsBudgetHalt (faults budget count : ℕ) (fault : Option ℕ) (s : State) (e : Event) : Type 0 where
  pub sound : IsUnfailed faults count fault
  pub next : IsNext (unheld s) e
  pub over : passes_budget budget (length s.nodes) e ≡ true

-- What the halt says of the counts of faults at the beginning and now, the journal's fault and the state.
abbrev pub IsHalt : ℕ → ℕ → ℕ → Option ℕ → State → Option Halt → Type 0
IsHalt faults budget count fault s None = IsUnfailed faults count fault
IsHalt faults budget count fault s (Some halt.Memory) = IsUnfailed faults count fault
IsHalt faults budget count fault s (Some (halt.Disk n es)) = IsDiskHalt faults budget count fault s n es
IsHalt faults budget count fault s (Some (halt.Budget e)) = IsBudgetHalt faults budget count fault s e

-- the first of the events, which is a split that is alone, passes the budget; `h` is the halt where there is none
abbrev pub budget_halt : Option Halt → List Event → Option Halt
budget_halt h [] = h
budget_halt h (e ∷ es) = Some (halt.Budget e)

-- the halt after a commit of these events with this result, by the halt before and the disk's count then
abbrev pub halt_after : Option Halt → Result Receipt CommitFault → List Event → ℕ → Option Halt
halt_after h (Ok r) es count = h
halt_after h (Err fault.Memory) es count = h
halt_after h (Err fault.Halted) es count = h
halt_after h (Err fault.Budget) es count = budget_halt h es
halt_after h (Err fault.Disk) es count = Some (halt.Disk count es)

-- the fault is the disk's
abbrev pub is_disk_fault : CommitFault → Bool
is_disk_fault fault.Disk = true
is_disk_fault fault.Budget = false
is_disk_fault fault.Memory = false
is_disk_fault fault.Halted = false

-- the commit failed by a fault of the disk
abbrev pub fails_by_disk : Result Receipt CommitFault → Bool
fails_by_disk (Ok r) = false
fails_by_disk (Err f) = is_disk_fault f
