use Rattle.std.proofs.Common.{◌≡◌, ◌+◌, ◌++◌, arith, drop, length, map, refl, sym}
use Rattle.integer_tableau.proofs.StoredRuns.{same_end}
use Rattle.integer_tableau.proofs.StoredStarts.{at_first, can_start_over, started_at, stored_run}
use Rattle.integer_tableau.specs.IntegerProgram.{CanStart, column_bounds, fraction_program}
use Rattle.integer_tableau.specs.Kept.{AreKept, IsStartSolution}
use Rattle.integer_tableau.specs.StoredRun.{dictionary_at, view_with}
use Rattle.integer_tableau.proofs.program_run.end_over.Goals as goal

-- what the store keeps behind the call that makes it ready
pub returns-in_err-solution-clause-kept : goal.returns-in_err-solution-clause-kept
returns-in_err-solution-clause-kept c = c.is_ready-ready.ensures.kept c.args.program_rows.now.items.value.items c.args.weight c.args.bounds.now (sym c.len.ensures) c.requires.program c.requires.kept

pub returns-in_default-clause-kept : goal.returns-in_default-clause-kept
returns-in_default-clause-kept c = c.is_ready-ready.ensures.kept c.args.program_rows.now.items.value.items c.args.weight c.args.bounds.now (sym c.len.ensures) c.requires.program c.requires.kept

pub returns-in_err-start-clause-kept : goal.returns-in_err-start-clause-kept
returns-in_err-start-clause-kept c = c.is_ready-ready.ensures.kept c.args.program_rows.now.items.value.items c.args.weight c.args.bounds.now (sym c.len.ensures) c.requires.program c.requires.kept

pub returns-clause-kept : goal.returns-clause-kept
returns-clause-kept c = c.is_ready-ready.ensures.kept c.args.program_rows.now.items.value.items c.args.weight c.args.bounds.now (sym c.len.ensures) c.requires.program c.requires.kept

-- by the store
pub run_stored-requires-clause-kept : goal.run_stored-requires-clause-kept
run_stored-requires-clause-kept c = (
  c.args.costs.now,
  c.is_ready-ready.ensures.kept c.args.program_rows.now.items.value.items c.args.weight c.args.bounds.now (sym c.len.ensures) c.requires.program c.requires.kept,
)

pub run_stored-requires-clause-at : goal.run_stored-requires-clause-at
run_stored-requires-clause-at c =
    let a = c.args in
    let ps = a.program_rows.now.items.value.items in
    let costs = a.costs.now in
    let bounds = map column_bounds a.area.now ++ drop (length costs) a.bounds.now in
    let kept = c.is_ready-ready.ensures.kept ps a.weight a.bounds.now (sym c.len.ensures) c.requires.program c.requires.kept in
    let can : CanStart ps a.weight costs bounds = can_start_over ps a.weight costs a.bounds.now a.area.now c.requires.area c.requires.program in
    let start : IsStartSolution a.columns.now a.start_sums.now costs bounds c.in-Some.solution = rw c.in-Some.is at c.in_ok-solution.ensures.solution in
    at_first ps a.weight costs bounds c.is_ready-ready.new.self.kept c.in-Some.solution can kept (c.is_ready-ready.ensures.some c.if-ready.true) a.columns.now a.start_sums.now start c.requires.columns c.requires.sums

pub returns-then-ready-clause-run : goal.returns-then-ready-clause-run
returns-then-ready-clause-run c =
    let a = c.args in
    let ps = a.program_rows.now.items.value.items in
    let costs = a.costs.now in
    let numbers = a.numbers.now in
    let k = c.is_ready-ready.new.self.kept in
    let bounds = map column_bounds a.area.now ++ drop (length costs) a.bounds.now in
    let kept = c.is_ready-ready.ensures.kept ps a.weight a.bounds.now (sym c.len.ensures) c.requires.program c.requires.kept in
    let can : CanStart ps a.weight costs bounds = can_start_over ps a.weight costs a.bounds.now a.area.now c.requires.area c.requires.program in
    let start : IsStartSolution a.columns.now a.start_sums.now costs bounds c.in-Some.solution = rw c.in-Some.is at c.in_ok-solution.ensures.solution in
    stored_run numbers ps a.weight c.run_stored.new.store.kept (fraction_program ps costs bounds numbers) a.cap (view_with numbers ps (dictionary_at k 0) c.in-Some.solution) c.run_stored.result
    (started_at ps a.weight costs bounds k c.in-Some.solution can kept (c.is_ready-ready.ensures.some c.if-ready.true) a.columns.now a.start_sums.now start numbers) c.run_stored.ensures.end

pub returns-then-ready-clause-kept : goal.returns-then-ready-clause-kept
returns-then-ready-clause-kept c =
    let a = c.args in
    c.run_stored.ensures.kept a.costs.now (c.is_ready-ready.ensures.kept a.program_rows.now.items.value.items a.weight a.bounds.now (sym c.len.ensures) c.requires.program c.requires.kept)

-- by a tableau of its own
pub run_alone-requires-clause-kept : goal.run_alone-requires-clause-kept
run_alone-requires-clause-kept c = (
  c.args.costs.now,
  c.in_ok-start.ensures.kept c.args.program_rows.now.items.value.items c.args.weight c.args.bounds.now (sym c.len-2.ensures) c.requires.program,
)

pub run_alone-requires-clause-at : goal.run_alone-requires-clause-at
run_alone-requires-clause-at c =
    let a = c.args in
    let ps = a.program_rows.now.items.value.items in
    let costs = a.costs.now in
    let bounds = map column_bounds a.area.now ++ drop (length costs) a.bounds.now in
    let kept = c.in_ok-start.ensures.kept ps a.weight a.bounds.now (sym c.len-2.ensures) c.requires.program in
    let can : CanStart ps a.weight costs bounds = can_start_over ps a.weight costs a.bounds.now a.area.now c.requires.area c.requires.program in
    let start : IsStartSolution a.columns.now a.start_sums.now costs bounds c.in-Some.solution = rw c.in-Some.is at c.in_ok-solution.ensures.solution in
    at_first ps a.weight costs bounds c.in_ok-start.start c.in-Some.solution can kept c.in_ok-start.ensures.some a.columns.now a.start_sums.now start c.requires.columns c.requires.sums

pub returns-clause-run : goal.returns-clause-run
returns-clause-run c =
    let a = c.args in
    let ps = a.program_rows.now.items.value.items in
    let costs = a.costs.now in
    let numbers = a.numbers.now in
    let k = c.in_ok-start.start in
    let store = c.is_ready-ready.new.self.kept in
    let bounds = map column_bounds a.area.now ++ drop (length costs) a.bounds.now in
    let kept = c.in_ok-start.ensures.kept ps a.weight a.bounds.now (sym c.len-2.ensures) c.requires.program in
    let can : CanStart ps a.weight costs bounds = can_start_over ps a.weight costs a.bounds.now a.area.now c.requires.area c.requires.program in
    let start : IsStartSolution a.columns.now a.start_sums.now costs bounds c.in-Some.solution = rw c.in-Some.is at c.in_ok-solution.ensures.solution in
    stored_run numbers ps a.weight store (fraction_program ps costs bounds numbers) a.cap (view_with numbers ps (dictionary_at k 0) c.in-Some.solution) c.run_alone.result
    (started_at ps a.weight costs bounds k c.in-Some.solution can kept c.in_ok-start.ensures.some a.columns.now a.start_sums.now start numbers)
    (same_end numbers ps a.weight store c.run_alone.result _ _ _ _ (let few : c.in-Some.solution.pivots + a.cap ≡ a.cap = omega (arith, start.pivots) in few) refl (c.run_alone.ensures.end store))
