-- What each call answers, and which entries it makes, by the list that it finds.
use Rattle.std.specs.Prelude.{◌≡◌, ℕ, true, List, [], ◌∷◌, length, drop, Option, Some, None, IsSome, Result, Ok, Err}
use Rattle.std.specs.declared.alloc.AllocError.{AllocError}
use Rattle.node_events.specs.declared.event.Event.{Event}
use Rattle.node_events.specs.declared.event.Event.TheVariants as event
use Rattle.node_tree.specs.Nodes.{branch_at}
use Rattle.event_core.specs.declared.entry.Entry.{Entry}
use Rattle.event_core.specs.States.{State, tree_of, box_of, cutoff}
use Rattle.outside.specs.Faults.{Rose}
use Rattle.node_pool.specs.Answers.{IsClaim}
use Rattle.node_pool.specs.Halting.{passes_budget}
use Rattle.node_pool.specs.declared.halt.Halt.{Halt}
use Rattle.node_pool.specs.declared.halt.Halt.TheVariants as halt
use Rattle.node_pool.specs.declared.answers.Claim.{Claim}
use Rattle.node_pool.specs.declared.answers.Claim.TheVariants as claim
use Rattle.node_pool.specs.declared.answers.Receipt.{Receipt}
use Rattle.node_pool.specs.declared.answers.CommitFault.{CommitFault}
use Rattle.node_pool.specs.declared.answers.CommitFault.TheVariants as fault
use Rattle.expand.specs.declared.finding.Finding.{Finding}
use Rattle.expand.specs.Laws.{entries_of}
use Rattle.expand.specs.Settlements.{events_of}
use Rattle.expand.specs.Settling.{settled}
use Rattle.worker_gate.specs.declared.entry.PoolEntry.{PoolEntry}
use Rattle.worker_gate.specs.declared.entry.PoolEntry.TheVariants.{Happened, Halted}
use Rattle.worker_gate.specs.declared.glance.Glance.{Glance}
use Rattle.worker_gate.specs.Entries.{happened, opening_in, halt_in, state_in}

-- an event of the worker
abbrev pub entry_by : ℕ → Event → Entry
entry_by w e = record { worker = Some w; event = e }

-- ---- claim
-- the entries of a claim with this answer
abbrev pub claimed : ℕ → Claim → List PoolEntry
claimed w (claim.Node n) = Happened (entry_by w (event.Claim n)) ∷ []
claimed w claim.Idle = []
claimed w claim.Done = []
claimed w claim.Halted = []

-- a claim answers for the list as it is, and adds a claim of the node that it names
abbrev pub Claims : ℕ → Result Claim AllocError → List PoolEntry → List PoolEntry → Type 0
Claims w (Ok c) at own = IsClaim (halt_in at) (state_in at) c × (own ≡ claimed w c)
Claims w (Err e) at own = own ≡ []

-- ---- glance
-- the cuts from this number on, the cutoff, the node's box, and the branch that leads to the node
pub record IsGlanceOf (s : State) (node known : ℕ) (g : Glance) : Type 0 where
  pub cuts : g.cuts.items ≡ drop known s.cuts
  pub cutoff : g.cutoff ≡ cutoff s
  pub area : g.area ≡ box_of s node
  pub branch : g.branch ≡ branch_at (tree_of s) node

-- a glance tells the node in the state as it is, and adds nothing
abbrev pub Glances : ℕ → ℕ → Result Glance AllocError → List PoolEntry → List PoolEntry → Type 0
Glances node known (Ok g) at own = IsGlanceOf (state_in at) node known g × (own ≡ [])
Glances node known (Err e) at own = own ≡ []

-- ---- commit
-- the events by which a worker settles its node as the finding says, in the state after these entries
abbrev pub settling : ℕ → Finding → List PoolEntry → List Event
settling node f at = events_of node (settled (state_in at) (box_of (state_in at) node) (opening_in at).cuts f)

-- all were made, and acknowledged as so many
pub record AreAllMade (all : List Entry) (r : Receipt) (at own : List PoolEntry) : Type 0 where
  pub unhalted : halt_in at ≡ None
  pub made : own ≡ happened all
  pub count : r.count ≡ length all

-- there was no memory, and none was made
pub record AreUnmade (at own : List PoolEntry) : Type 0 where
  pub unhalted : halt_in at ≡ None
  pub made : own ≡ []

-- The halt by a fault at these events, behind these entries: the disk's count of faults rose to this number, or they are one event alone that splits a node,
-- and the two children would pass the budget.
abbrev pub IsHaltBy : CommitFault → List Event → Halt → List PoolEntry → Type 0
IsHaltBy fault.Disk es h at = (n : ℕ) × (h ≡ halt.Disk n es) × Rose (opening_in at).faults n
IsHaltBy fault.Budget es h at = (e : Event) × (es ≡ e ∷ []) × (h ≡ halt.Budget e) × (passes_budget (opening_in at).budget (length (state_in at).nodes) e ≡ true)
IsHaltBy fault.Memory es h at = ⊥
IsHaltBy fault.Halted es h at = ⊥

-- the pool was halted by a fault, and none of the events was made
pub record AreHalted (es : List Event) (f : CommitFault) (at own : List PoolEntry) : Type 0 where
  pub halt : Halt
  pub unhalted : halt_in at ≡ None
  pub cause : IsHaltBy f es halt at
  pub made : own ≡ Halted halt ∷ []

-- what a commit of these events of the worker makes: all of them, or none
abbrev pub MakesOf : ℕ → List Event → Result Receipt CommitFault → List PoolEntry → List PoolEntry → Type 0
MakesOf w es (Ok r) at own = AreAllMade (entries_of w es) r at own
MakesOf w es (Err fault.Memory) at own = AreUnmade at own
MakesOf w es (Err fault.Disk) at own = AreHalted es fault.Disk at own
MakesOf w es (Err fault.Budget) at own = AreHalted es fault.Budget at own
MakesOf w es (Err fault.Halted) at own = IsSome (halt_in at) × (own ≡ [])

-- a commit settles the finding in the state as it is, and adds what it answers
abbrev pub Commits : ℕ → ℕ → Finding → Result Receipt CommitFault → List PoolEntry → List PoolEntry → Type 0
Commits w node f r at own = MakesOf w (settling node f at) r at own

-- ---- release and halt
-- a release adds the event that gives the worker's node back
abbrev pub Releases : ℕ → ℕ → List PoolEntry → List PoolEntry → Type 0
Releases w node at own = own ≡ Happened (entry_by w (event.Release node)) ∷ []

-- a halt for want of memory, unless there is one
abbrev pub halting : Option Halt → List PoolEntry
halting None = Halted halt.Memory ∷ []
halting (Some h) = []

-- a halt adds itself, where none stands yet
abbrev pub Halts : List PoolEntry → List PoolEntry → Type 0
Halts at own = own ≡ halting (halt_in at)
