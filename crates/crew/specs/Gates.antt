-- The gates of a crew's workers.
use Rattle.std.specs.Prelude.{◌≡◌, ◌<◌, ℕ, ◌-◌, true, List, length, slice_index_or}
use Rattle.problem.specs.Problem.{Problem}
use Rattle.turn_lock.specs.Names.{names_below}
use Rattle.turn_lock.specs.Passes.{IsPassOf, first_value, names_of, seen_by}
use Rattle.turn_lock.specs.declared.pass.Pass.{Pass}
use Rattle.turn_lock.specs.declared.lock.TurnLock.{TurnLock}
use Rattle.worker_gate.specs.declared.entry.PoolEntry.{PoolEntry}
use Rattle.worker_gate.specs.declared.lock_gate.LockGate.{LockGate}
use Rattle.worker_gate.specs.Conditions.{HoldsNone}
use Rattle.worker_gate.specs.Entries.{is_opened, state_in}
use Rattle.worker_gate.specs.Legal.{IsLegalList}
use Rattle.worker_gate.specs.Passes.{seen_in}
use Rattle.crew.specs.Lists.{IsFront, Worked, IsOver}

-- this holds at each place
abbrev pub EachAt : {T : Type 0} → (ℕ → T → Type 0) → List T → Type 0
EachAt {T} P xs = (i : ℕ) (d : T) → i < length xs → P i (slice_index_or xs i d)

-- this holds at each place, of what stood there before and what stands there now
abbrev pub EachChange : {T : Type 0} → (T → T → Type 0) → List T → List T → Type 0
EachChange {T} P xs ys = (i : ℕ) (d : T) → i < length xs → P (slice_index_or xs i d) (slice_index_or ys i d)

-- The gate of worker w is ready for its work: it has this worker's number, and has seen an opened list of this problem, in which the worker holds no
-- node.
pub record IsReadyGate (p : Problem) (w worker : ℕ) (seen : List PoolEntry) : Type 0 where
  pub number : worker ≡ w
  pub opened : is_opened seen ≡ true
  pub problem : (state_in seen).problem ≡ p
  pub none : HoldsNone worker seen

-- a lock over a pool, which contracts see as its list
abbrev pub PoolLock : Type 0
PoolLock = TurnLock (List PoolEntry) PoolEntry

-- the list of the pool that the lock was made over
abbrev pub first_list : PoolLock → List PoolEntry
first_list lock = first_value lock

module _ {D : Type 0} (lock : PoolLock) where
  -- a gate of this lock for this worker, which has seen the first list
  pub record IsNewGate (w : ℕ) (g : LockGate D) : Type 0 where
    pub home : g.lock.now ≡ lock
    pub worker : g.worker ≡ w
    pub seen : seen_in g.pass ≡ first_list lock

  -- the gate of this lock of a worker who saw the first list, and has done its work
  pub record IsDoneGate (w : ℕ) (g : LockGate D) : Type 0 where
    pub home : g.lock.now ≡ lock
    pub worker : g.worker ≡ w
    pub worked : Worked w (first_list lock) (seen_in g.pass)
    pub over : IsOver (seen_in g.pass)

-- of so many gates the first is that of the greatest number, and the last that of worker 0
abbrev pub worker_at : ℕ → ℕ → ℕ
worker_at workers i = workers - 1 - i

-- one gate a worker, each before its first call, the last worker's first
abbrev pub AreNewGates : {D : Type 0} → PoolLock → ℕ → List (LockGate D) → Type 0
AreNewGates lock workers gates = EachAt (λ i g. IsNewGate lock (worker_at workers i) g) gates

-- the same gates, each behind its last call
abbrev pub AreDoneGates : {D : Type 0} → PoolLock → ℕ → List (LockGate D) → Type 0
AreDoneGates lock workers gates = EachAt (λ i g. IsDoneGate lock (worker_at workers i) g) gates

-- the pass of these workers, who hold no node: it has seen a legal list, which is over
pub record IsDonePass (lock : PoolLock) (workers : ℕ) (pass : Pass (List PoolEntry) PoolEntry) : Type 0 where
  pub own : IsPassOf lock pass
  pub named : names_of pass ≡ names_below workers
  pub front : IsFront (first_list lock) (seen_by pass)
  pub legal : IsLegalList (seen_by pass)
  pub none : (w : ℕ) → w < workers → HoldsNone w (seen_by pass)
  pub over : IsOver (seen_by pass)
