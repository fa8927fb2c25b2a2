-- What a step of a worker leaves, by what it answers.
use Rattle.std.specs.Prelude.{◌≡◌, ℕ, true, List, Result, Ok, Err, OnOk, OnErr}
use Rattle.expand.specs.declared.finding.Finding.{Finding}
use Rattle.node_pool.specs.declared.answers.Receipt.{Receipt}
use Rattle.node_pool.specs.declared.answers.CommitFault.{CommitFault}
use Rattle.worker_gate.specs.declared.entry.PoolEntry.{PoolEntry}
use Rattle.worker_gate.specs.Calls.{Commits}
use Rattle.worker_gate.specs.Conditions.{HoldsNode}
use Rattle.worker_gate.specs.Entries.{is_opened}
use Rattle.worker_gate.specs.Gates.{Stepped}
use Rattle.crew.specs.declared.worker_loop.Taken.{Taken}
use Rattle.crew.specs.declared.worker_loop.Taken.TheVariants.{Node, Idle, Over}
use Rattle.crew.specs.Lists.{IsFront, IsHolding}
use Rattle.crew.specs.WorkerSteps.{Leaves, Takes, step_of}
use Rattle.crew.proofs.Calling.{committed, refused}

pub takes_front : (w : ℕ) (old new : List PoolEntry) (t : Taken) → Takes w old new t → IsFront old new
takes_front w old new (Node n) takes = takes.front
takes_front w old new Idle takes = takes.0.front
takes_front w old new Over takes = takes.0.front

module _ (w node : ℕ) (f : Finding) (old new : List PoolEntry) (opened : is_opened old ≡ true) (holds : HoldsNode w node old) where
  pub done_leaves : (r : Result Receipt CommitFault) → Stepped w old new (Commits w node f r) → OnOk r (Leaves w node old new (step_of f))
  done_leaves (Ok receipt) step = committed w node f old new opened holds receipt step
  done_leaves (Err fault) step = tt

  pub refused_holds : (r : Result Receipt CommitFault) → Stepped w old new (Commits w node f r) → OnErr r (IsHolding w node old new)
  refused_holds (Ok receipt) step = tt
  refused_holds (Err fault) step = refused w node f old new opened holds fault step
