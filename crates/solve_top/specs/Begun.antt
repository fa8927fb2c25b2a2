-- How a command goes on once it has a pool, and what came of it.
use Rattle.std.specs.Prelude.{◌≡◌, ◌≤◌, ◌<◌, [], true, false, All, Option, Some, None, Result}
use Rattle.outside.specs.Faults.{Counts}
use Rattle.outside.specs.Images.{AtRest, IsImage}
use Rattle.outside.specs.declared.disk.Disk.{Ghosts}
use Rattle.event_core.specs.States.{open_count}
use Rattle.event_core.specs.Histories.{journaled, state_of}
use Rattle.node_journal.specs.Whole.{payloads_in}
use Rattle.node_pool.specs.Payloads.{LeavesBeginnings, model_in}
use Rattle.node_pool.specs.declared.halt.Halt.{Halt}
use Rattle.node_pool.specs.declared.pool.Pool.{Pool}
use Rattle.core_search.specs.Endings.{IsSpent}
use Rattle.core_search.specs.declared.node_loop.Ending.{Ending}
use Rattle.core_search.specs.declared.node_loop.Ending.TheVariants as ending
use Rattle.resume.specs.Journals.{IsReadFrom, StandsFor}
use Rattle.resume.specs.Models.{IsModelOf}
use Rattle.vipr_print.specs.Unique.{IsWord}
use Rattle.solve_top.specs.declared.beginning.Begun.{Begun}
use Rattle.solve_top.specs.declared.beginning.Begun.TheVariants as begun
use Rattle.solve_top.specs.declared.outcome.Answer.{Answer}
use Rattle.solve_top.specs.declared.outcome.Refusal.{Refusal}
use Rattle.solve_top.specs.declared.request.Request.{Request}
use Rattle.solve_top.specs.Changes.{SourceChange, SinkChange, DiskChange, Stays, TakesNothing, disk_change}
use Rattle.solve_top.specs.Journals.{IsKept, KeepsJournal, LeavesAlone}
use Rattle.solve_top.specs.Models.{IsOwnProblem}
use Rattle.solve_top.specs.Requests.{limits_in}
use Rattle.solve_top.specs.Searchers.{SearchesOn}
use Rattle.solve_top.specs.Searches.{Search, events_read}
use Rattle.solve_top.specs.Outcomes.{IsPerformed, IsSolution, IsWithin, fails_by_disk, without_disk}
use Rattle.node_tree.specs.Limits.{most_nodes}

-- What came of a command: it is performed, and its journal is kept.
pub record IsCarriedOut (q : Request) (m : SourceChange) (d : DiskChange) (cert : SinkChange) (last : Option Search) (o : Result Answer Refusal) : Type 0 where
  pub alone : LeavesAlone q m d
  pub outcome : IsPerformed q m d cert last o
  pub journal : d.tells ≡ true → AtRest d.now_before → KeepsJournal d (IsOwnProblem q m d)

module _ {D : Type 0} {d : Ghosts D} where
  -- the pool of a journal that was read, in which a search can begin: nobody holds a node, and it isn't halted
  pub record IsReadyPool (q : Request) (pool : Pool D d) : Type 0 where
    pub budget : pool.budget ≡ (limits_in q).nodes
    pub few : pool.budget ≤ most_nodes
    pub unheld : pool.state.state.holds ≡ []
    pub sound : pool.halt ≡ None
    pub read : IsReadFrom pool.state
    pub state : pool.state.state ≡ state_of pool.state.state.problem pool.state.history

  -- what is known of a pool in which a search has ended so, with no need of the pool that it began with
  pub record IsEnded (q : Request) (e : Ending) (pool : Pool D d) : Type 0 where
    pub names : All IsWord pool.state.state.problem.names
    pub finished : e ≡ ending.Finished → open_count pool.state.state ≡ 0
    pub spent : e ≡ ending.Spent → IsSpent (limits_in q).nodes pool.state.state
    pub left : e ≡ ending.Spent → 0 < open_count pool.state.state

  -- What came of a search that began with this pool, and left this disk. Where the journal has the record of a model of the problem, crashes leave the
  -- beginnings of a history.
  pub record IsSearchedIn (q : Request) (pool : Pool D d) (disk : D) (cert : SinkChange) (s : Search) (o : Result Answer Refusal) : Type 0 where
    pub within : IsWithin q pool.state.state.problem s
    pub read : events_read s.history ≡ pool.state.history
    pub solution : IsSolution q s cert o
    pub cause : Counts (d.count pool.journal.disk) (d.count disk) (fails_by_disk o)
    pub seen : d.tells ≡ true → IsImage (d.now disk) (d.now disk).seen
    pub leaves : d.tells ≡ true → (h : Option Halt) × LeavesBeginnings pool.journal.opened (d.past disk) (d.now disk) s.history h
    pub model : d.tells ≡ true → model_in (payloads_in (d.now disk)) ≡ model_in (payloads_in (d.now pool.journal.disk))
    pub kept : d.tells ≡ true → IsModelOf (model_in (payloads_in (d.now pool.journal.disk))) pool.state.state.problem
        → IsKept pool.journal.opened pool.state.state.problem (disk_change d.tells d.past d.now d.count pool.journal.disk disk)
    pub stands : d.tells ≡ true → IsModelOf (model_in (payloads_in (d.now pool.journal.disk))) pool.state.state.problem → fails_by_disk o ≡ false
        → StandsFor pool.state.state.problem (payloads_in (d.now disk)) (journaled s.history)

  -- that, whatever pool the search began with
  abbrev pub IsSearchedSince : Request → Ending → Pool D d → D → SinkChange → Search → Result Answer Refusal → Type 0
  IsSearchedSince q e new disk cert s o = (old : Pool D d) → IsReadyPool q old → SearchesOn (limits_in q) old e new → IsSearchedIn q old disk cert s o

-- However a search ends that begins with this pool, that is what came of the command. `a` is the disk before the call.
abbrev pub LeadsOn : {D : Type 0} {d : Ghosts D} → Request → SourceChange → D → Pool D d → Type 0
LeadsOn {D} {d} q m a pool = (e : D) (cert : SinkChange) (s : Search) (o : Result Answer Refusal) → IsSearchedIn q pool e cert s o
    → IsCarriedOut q m (disk_change d.tells d.past d.now d.count a e) cert (Some s) o

-- The same of a drill, which has its pool on a disk of its own, beside the one that it was handed. What that one may fail for is want of memory.
abbrev pub LeadsOnBeside : {E : Type 0} {f : Ghosts E} → Request → SourceChange → DiskChange → Pool E f → Type 0
LeadsOnBeside {E} {f} q m handed pool = (e : E) (cert : SinkChange) (s : Search) (o : Result Answer Refusal) → IsSearchedIn q pool e cert s o
    → IsCarriedOut q m handed cert (Some s) (without_disk o)

-- How a command began: it is over, with no search to hand back, or it leads on.
abbrev pub HasBegun : {D : Type 0} {d : Ghosts D} → Request → SourceChange → D → Begun D d → Type 0
HasBegun {D} {d} q m a (begun.Over p) =
    (p.last ≡ None) × ((cert : SinkChange) → TakesNothing cert → Stays cert.faults → IsCarriedOut q m (disk_change d.tells d.past d.now d.count a p.disk) cert None p.status)
HasBegun {D} {d} q m a (begun.Search pool) = IsReadyPool q pool × LeadsOn q m a pool
HasBegun {D} {d} q m a (begun.Drill pool disk) = (disk ≡ a) × IsReadyPool q pool × LeadsOnBeside q m (disk_change d.tells d.past d.now d.count a a) pool
