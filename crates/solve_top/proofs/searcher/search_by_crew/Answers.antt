use Rattle.std.proofs.Common.{◌<◌, ℕ, Option, Some, None, IsSomeAnd, subst}
use Rattle.command_words.specs.declared.limits.Limits.{Limits}
use Rattle.worker_gate.specs.Legal.{IsOneOf}
use Rattle.solve_top.specs.Searchers.{SearchesOn}
use Rattle.solve_top.proofs.Searching.{ended}
use Rattle.solve_top.proofs.searcher.search_by_crew.Goals as goal

-- a worker of the crew is one of them
one_of_them : (n : ℕ) (w : Option ℕ) → IsOneOf n w → IsSomeAnd w (λ k. k < n)
one_of_them n None one = absurd one
one_of_them n (Some w) one = one

pub returns : goal.returns
returns g c =
    let e = c.run_crew.ensures in
    let limits = c.limits-limits.result in
    let on : SearchesOn limits c.args.pool c.run_crew.result.0 c.run_crew.result.1 = record {
      goes_on = record { entries = e.goes_on.entries; history = e.goes_on.history; of_workers = λ k d l. one_of_them limits.workers _ (e.goes_on.of_workers k d l) };
      problem = e.problem;
      within_budget = e.within_budget;
      within_cuts = e.within_cuts;
      finished = λ is. (e.finished is).0;
      spent = e.spent;
      left = e.left;
      halted = e.halted;
      continued = e.continued;
      model = e.model;
      opened = e.opened;
      cause = e.cause;
    } in
    let asked = subst (λ (l : Limits). SearchesOn l c.args.pool c.run_crew.result.0 c.run_crew.result.1) c.limits-limits.ensures.limits on in
    record { goes_on = asked; ended = ended c.args.request.now c.args.pool c.run_crew.result.1 c.run_crew.result.0 c.requires.ready asked }
