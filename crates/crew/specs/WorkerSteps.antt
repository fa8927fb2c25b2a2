-- What a worker's steps leave.
use Rattle.std.specs.Prelude.{◌≡◌, ℕ, false, List, None}
use Rattle.event_core.specs.States.{is_open}
use Rattle.node_pool.specs.Answers.{IsIdle}
use Rattle.expand.specs.declared.finding.Finding.{Finding}
use Rattle.expand.specs.declared.finding.Finding.TheVariants.{Cuts, Shut, Whole, Solved, Loose}
use Rattle.worker_gate.specs.declared.entry.PoolEntry.{PoolEntry}
use Rattle.worker_gate.specs.Entries.{halt_in, state_in}
use Rattle.crew.specs.declared.node_work.Step.{Step}
use Rattle.crew.specs.declared.node_work.Step.TheVariants.{Ended, Separated, Refused}
use Rattle.crew.specs.declared.worker_loop.Taken.{Taken}
use Rattle.crew.specs.declared.worker_loop.Taken.TheVariants.{Node, Idle, Over}
use Rattle.crew.specs.Lists.{Worked, IsHolding, IsOver}

-- once the node has ended it is open no more, and the worker holds none; else it holds the node still
abbrev pub Leaves : ℕ → ℕ → List PoolEntry → List PoolEntry → Step → Type 0
Leaves w node old new Ended = Worked w old new × (is_open (state_in new) node ≡ false)
Leaves w node old new Separated = IsHolding w node old new
Leaves w node old new Refused = IsHolding w node old new

-- what comes of a look with this finding, once it is committed
abbrev pub step_of : Finding → Step
step_of (Cuts mults) = Separated
step_of (Shut proof) = Ended
step_of (Whole x) = Ended
step_of (Solved k x mult v column) = Ended
step_of (Loose reason j b) = Ended

-- there are open nodes, each is held, and the pool isn't halted
pub record AreAllHeld (list : List PoolEntry) : Type 0 where
  pub unhalted : halt_in list ≡ None
  pub idle : IsIdle (state_in list)

-- after a claim the worker holds the node that it got, and else none
abbrev pub Takes : ℕ → List PoolEntry → List PoolEntry → Taken → Type 0
Takes w old new (Node n) = IsHolding w n old new
Takes w old new Idle = Worked w old new × AreAllHeld new
Takes w old new Over = Worked w old new × IsOver new
