-- What a search makes of its pool, by one worker or by several.
use Rattle.std.specs.Prelude.{◌≡◌, ◌<◌, ◌≤◌, ◌++◌, ◌∷◌, [], ℕ, max, true, List, length, All}
use Rattle.outside.specs.declared.disk.Disk.{Ghosts}
use Rattle.outside.specs.Faults.{Counts}
use Rattle.event_core.specs.declared.entry.Entry.{Entry}
use Rattle.event_core.specs.States.{open_count}
use Rattle.event_core.specs.Rooms.{Recorded}
use Rattle.node_journal.specs.History.{ExtendsMoments}
use Rattle.node_journal.specs.Whole.{payloads_in}
use Rattle.node_pool.specs.Payloads.{model_in}
use Rattle.node_pool.specs.declared.pool.Pool.{Pool}
use Rattle.core_search.specs.Endings.{IsSpent}
use Rattle.core_search.specs.Pools.{IsHaltOf, is_disk}
use Rattle.core_search.specs.declared.node_loop.Ending.{Ending}
use Rattle.core_search.specs.declared.node_loop.Ending.TheVariants as ending
use Rattle.command_words.specs.declared.limits.Limits.{Limits}
use Rattle.solve_top.specs.Searches.{IsOfWorkers}

-- the history goes on with events of workers 0 to n - 1
pub record GoesOnByWorkers (workers : ℕ) (old new : Recorded) : Type 0 where
  pub entries : List Entry
  pub history : new.history ≡ old.history ++ entries
  pub of_workers : All (IsOfWorkers workers) entries

-- A search within these limits ended so. The pool goes on with events of its workers alone, within its budget and so many cuts, or with what was
-- there.
pub record SearchesOn {D : Type 0} {d : Ghosts D} (limits : Limits) (old : Pool D d) (e : Ending) (new : Pool D d) : Type 0 where
  pub goes_on : GoesOnByWorkers limits.workers old.state new.state
  pub problem : new.state.state.problem ≡ old.state.state.problem
  pub within_budget : length new.state.state.nodes ≤ max old.budget (length old.state.state.nodes)
  pub within_cuts : length new.state.state.cuts ≤ max limits.cuts (length old.state.state.cuts)
  pub finished : e ≡ ending.Finished → open_count new.state.state ≡ 0
  pub spent : e ≡ ending.Spent → IsSpent old.budget new.state.state
  pub left : e ≡ ending.Spent → 0 < open_count new.state.state
  pub halted : IsHaltOf e new.halt
  pub continued : d.tells ≡ true → ExtendsMoments (d.past old.journal.disk ++ d.now old.journal.disk ∷ []) (d.past new.journal.disk ++ d.now new.journal.disk ∷ [])
  pub model : d.tells ≡ true → model_in (payloads_in (d.now new.journal.disk)) ≡ model_in (payloads_in (d.now old.journal.disk))
  pub opened : new.journal.opened ≡ old.journal.opened
  pub cause : Counts (d.count old.journal.disk) (d.count new.journal.disk) (is_disk e)
