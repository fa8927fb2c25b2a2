use Rattle.std.proofs.Common.{◌≡◌, ◌<◌, ◌≤◌, ℕ, Option, Some, IsSomeAnd, arith, subst, sym}
use Rattle.core_search.specs.Visits.{SearchesNodes}
use Rattle.command_words.specs.declared.limits.Limits.{Limits}
use Rattle.solve_top.specs.Searchers.{SearchesOn}
use Rattle.solve_top.proofs.Searching.{ended}
use Rattle.solve_top.proofs.searcher.search_alone.Goals as goal

-- worker 0 is one of them
one_of_them : (n : ℕ) (w : Option ℕ) → 1 ≤ n → w ≡ Some 0 → IsSomeAnd w (λ k. k < n)
one_of_them n w some is = let less : 0 < n = omega (arith, some) in subst (λ (o : Option ℕ). IsSomeAnd o (λ k. k < n)) (sym is) less

pub returns-clause-goes_on : goal.returns-clause-goes_on
returns-clause-goes_on g c =
    let e = c.search-ending.ensures in
    let limits = c.limits-limits.result in
    subst (λ (l : Limits). SearchesOn l c.args.pool c.search-ending.result c.search-ending.new.pool) c.limits-limits.ensures.limits (record {
      goes_on = record { entries = e.goes_on.entries; history = e.goes_on.history; of_workers = λ k d l. one_of_them limits.workers _ (c.limits-limits.ensures.ranges c.requires.ranges).some_workers (e.goes_on.of_worker k d l) };
      problem = e.problem;
      within_budget = e.within_budget;
      within_cuts = e.within_cuts;
      finished = λ is. (e.finished is).0;
      spent = e.spent;
      left = e.left;
      halted = e.halted;
      continued = e.continued;
      model = e.model;
      opened = e.opened;
      cause = e.cause;
    })

pub returns-clause-ended : goal.returns-clause-ended
returns-clause-ended g c = ended c.args.request.now c.args.pool c.search-ending.new.pool c.search-ending.result c.requires.ready (returns-clause-goes_on g c)

pub returns-clause-by_worker : goal.returns-clause-by_worker
returns-clause-by_worker g c =
    let e = c.search-ending.ensures in
    record { entries = e.goes_on.entries; history = e.goes_on.history; of_workers = λ k d l. one_of_them 1 _ (omega arith) (e.goes_on.of_worker k d l) }

pub returns-clause-visits : goal.returns-clause-visits
returns-clause-visits g c =
    subst (λ (l : Limits). SearchesNodes l.cuts c.args.pool.state c.search-ending.new.pool.state) c.limits-limits.ensures.limits c.search-ending.ensures.visits
