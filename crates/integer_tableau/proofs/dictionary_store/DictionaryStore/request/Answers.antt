use Rattle.std.proofs.Common.{◌∙◌, rules, sym, subst, Some}
use Rattle.std.specs.Prelude.{IfOk}
use Rattle.integer_tableau.proofs.Requests.{at_same, done_there, leaving_is_basic, solution_of, same_leaving_at, same_places}
use Rattle.integer_tableau.specs.IntegerDictionary.{IntegerDictionary}
use Rattle.integer_tableau.specs.Kept.{kept_at}
use Rattle.integer_tableau.specs.StoredRun.{IsSolutionOf, IsRequestAt}
use Rattle.integer_tableau.proofs.dictionary_store.DictionaryStore.request.Goals as goal
use Rattle.integer_tableau.proofs.dictionary_store.DictionaryStore.request.Goals.{In-Ok}

-- the solution at its dictionary
solution : (c : In-Ok) → IsSolutionOf c.args.program_rows.now (kept_at c.args.self.now.kept.all c.args.place) c.args.solution.now
solution c = let h = c.requires.solution in solution_of c.args.program_rows.now h.0 h.1 c.args.self.now.kept c.args.place c.args.solution.now c.requires.there h.2 h.3

pub returns-in_default-found-clause-request : goal.returns-in_default-found-clause-request
returns-in_default-found-clause-request c =
    done_there c.args.program_rows.now (kept_at c.args.self.now.kept.all c.args.place) c.args.solution.now (solution (goal.at.returns-in_default-found-clause-request c).In-Ok) c.in-Ok.found c.in_default-found.is c.in-Ok.ensures

pub exit-requires-clause-variable_there : goal.exit-requires-clause-variable_there
exit-requires-clause-variable_there c =
    (leaving_is_basic c.args.program_rows.now (kept_at c.args.self.now.kept.all c.args.place) c.args.solution.now (solution (goal.at.exit-requires-clause-variable_there c).In-Ok) (c.in-Some.variable, c.in-Some.direction)
    (sym c.in-Some.is ∙ c.in-Ok.ensures)).0

pub exit-requires-clause-basic : goal.exit-requires-clause-basic
exit-requires-clause-basic c =
    (leaving_is_basic c.args.program_rows.now (kept_at c.args.self.now.kept.all c.args.place) c.args.solution.now (solution (goal.at.exit-requires-clause-basic c).In-Ok) (c.in-Some.variable, c.in-Some.direction)
    (sym c.in-Some.is ∙ c.in-Ok.ensures)).1

pub returns-in_default-exit-clause-kept : goal.returns-in_default-exit-clause-kept
returns-in_default-exit-clause-kept c = c.exit.ensures.kept c.args.program_rows.now

pub request_by_exit-requires-clause-solution : goal.request_by_exit-requires-clause-solution
request_by_exit-requires-clause-solution c =
    let h = c.requires.solution in
    let k = c.args.self.now.kept in
    let l = c.exit.new.self in (
      h.0,
      h.1,
      c.exit.ensures.kept c.args.program_rows.now h.0 h.1 h.2,
      at_same c.args.program_rows.now h.0 (kept_at k.all c.args.place) (kept_at l.all c.args.place) c.args.solution.now (sym (same_places l k c.args.place c.exit.ensures.same c.requires.there)) h.3,
    )

pub request_by_exit-requires-clause-leaving : goal.request_by_exit-requires-clause-leaving
request_by_exit-requires-clause-leaving c =
    let k = c.args.self.now.kept in
    let l = c.exit.new.self in
    same_leaving_at c.args.program_rows.now (kept_at k.all c.args.place) (kept_at l.all c.args.place) c.args.solution.now (Some (c.in-Some.variable, c.in-Some.direction))
    (same_places l k c.args.place c.exit.ensures.same c.requires.there) (sym c.in-Ok.ensures ∙ c.in-Some.is)

pub returns-clause-kept : goal.returns-clause-kept
returns-clause-kept c = λ weight costs are. c.request_by_exit.ensures.kept weight costs (c.exit.ensures.kept c.args.program_rows.now weight costs are)

pub returns-clause-request : goal.returns-clause-request
returns-clause-request c =
    let h = subst (λ (m : IntegerDictionary). IfOk c.request_by_exit.result (λ q. IsRequestAt c.args.program_rows.now m c.args.solution.now q))
    (same_places c.exit.new.self c.args.self.now.kept c.args.place c.exit.ensures.same c.requires.there) c.request_by_exit.ensures.request in
    search rules
