-- How a pool goes on, and how it is halted.
use Rattle.std.specs.Prelude.{◌≡◌, ℕ, Bool, true, false, List, [], ◌∷◌, ◌++◌, Option, Some, None}
use Rattle.outside.specs.declared.disk.Disk.{Ghosts}
use Rattle.outside.specs.Faults.{Counts}
use Rattle.node_events.specs.declared.event.Event.{Event}
use Rattle.node_journal.specs.History.{ExtendsMoments}
use Rattle.node_journal.specs.Whole.{payloads_in}
use Rattle.node_pool.specs.Halting.{is_disk_fault}
use Rattle.node_pool.specs.Payloads.{model_in}
use Rattle.node_pool.specs.declared.halt.Halt.{Halt}
use Rattle.node_pool.specs.declared.halt.Halt.TheVariants as halt
use Rattle.node_pool.specs.declared.answers.CommitFault.{CommitFault}
use Rattle.node_pool.specs.declared.answers.CommitFault.TheVariants as fault
use Rattle.node_pool.specs.declared.pool.Pool.{Pool}
use Rattle.core_search.specs.declared.node_loop.Ending.{Ending}
use Rattle.core_search.specs.declared.node_loop.Ending.TheVariants as ending
use Rattle.core_search.specs.Entries.{ExtendsHistory}

-- The history goes on, no moment of the disk goes away, and the journal keeps the model's record. What the pool was made with stays.
pub record PoolGoesOn {D : Type 0} {d : Ghosts D} (old new : Pool D d) : Type 0 where
  pub history : ExtendsHistory old.state new.state
  pub moments : d.tells ≡ true → ExtendsMoments (d.past old.journal.disk ++ d.now old.journal.disk ∷ []) (d.past new.journal.disk ++ d.now new.journal.disk ∷ [])
  pub model : d.tells ≡ true → model_in (payloads_in (d.now new.journal.disk)) ≡ model_in (payloads_in (d.now old.journal.disk))
  pub opened : new.journal.opened ≡ old.journal.opened
  pub budget : new.budget ≡ old.budget
  pub faults : new.faults ≡ old.faults

-- the pool is not halted, and its disk counted no fault since
pub record StaysSound {D : Type 0} {d : Ghosts D} (old new : Pool D d) : Type 0 where
  pub halt : new.halt ≡ None
  pub count : d.count new.journal.disk ≡ d.count old.journal.disk

-- why a pool is halted
abbrev pub IsDiskHalt : Option Halt → Type 0
IsDiskHalt h = (n : ℕ) × (es : List Event) × (h ≡ Some (halt.Disk n es))

-- a search that stopped because its budget of nodes was used up
abbrev pub IsBudgetHalt : Option Halt → Type 0
IsBudgetHalt h = (e : Event) × (h ≡ Some (halt.Budget e))

-- how a fault leaves a pool that wasn't halted before
abbrev pub IsFaultHalt : CommitFault → Option Halt → Type 0
IsFaultHalt fault.Disk h = IsDiskHalt h
IsFaultHalt fault.Budget h = IsBudgetHalt h
IsFaultHalt fault.Memory h = h ≡ None
IsFaultHalt fault.Halted h = ⊥

-- a call failed by this fault, and the disk counted it where it is the disk's
pub record FailsBy {D : Type 0} {d : Ghosts D} (f : CommitFault) (old new : Pool D d) : Type 0 where
  pub halt : IsFaultHalt f new.halt
  pub count : Counts (d.count old.journal.disk) (d.count new.journal.disk) (is_disk_fault f)

-- how an ending leaves the pool
abbrev pub IsHaltOf : Ending → Option Halt → Type 0
IsHaltOf ending.Finished h = h ≡ None
IsHaltOf ending.Spent h = IsBudgetHalt h
IsHaltOf ending.Disk h = IsDiskHalt h
IsHaltOf ending.Memory h = h ≡ Some halt.Memory

-- the ending is by the disk
abbrev pub is_disk : Ending → Bool
is_disk ending.Finished = false
is_disk ending.Spent = false
is_disk ending.Disk = true
is_disk ending.Memory = false

-- the ending that a fault leads to; `Halted` comes only from a pool that was halted before
abbrev pub ending_of : CommitFault → Ending
ending_of fault.Disk = ending.Disk
ending_of fault.Budget = ending.Spent
ending_of fault.Memory = ending.Memory
ending_of fault.Halted = ending.Memory
