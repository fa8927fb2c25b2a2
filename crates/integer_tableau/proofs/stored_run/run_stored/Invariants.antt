use Rattle.std.proofs.Common.{◌≡◌, ◌<◌, ◌-◌, List, length}
use Rattle.std.specs.Prelude.{ℤ}
use Rattle.tableau.specs.Run.{run_from}
use Rattle.integer_tableau.specs.Kept.{AreKept, IsAt, kept_at}
use Rattle.integer_tableau.specs.StoredRun.{dictionary_at, view_with}
use Rattle.integer_tableau.proofs.stored_run.run_stored.Given as goal

abbrev pub invariant-loop-made : goal.invariant-loop-made
invariant-loop-made l = record {
  kept : (costs : List ℤ) → AreKept l.program_rows.items.value.items l.weight costs l.fn.store.kept → AreKept l.program_rows.items.value.items l.weight costs l.store.kept;
  there : l.at < length l.store.kept.all;
  at : IsAt l.program_rows.items.value.items l.weight (kept_at l.store.kept.all l.at) l.solution;
  same : run_from (l.cap - l.made) (view_with l.numbers l.program_rows.items.value.items (dictionary_at l.store.kept l.at) l.solution)
      ≡ run_from l.cap (view_with l.numbers l.program_rows.items.value.items (dictionary_at l.fn.store.kept 0) l.fn.solution);
  counted : l.solution.pivots ≡ l.made;
}
