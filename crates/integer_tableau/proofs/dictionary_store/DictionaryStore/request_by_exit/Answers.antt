use Rattle.std.proofs.Common.{refl, subst, sym, true, false, Some}
use Rattle.integer_tableau.proofs.Requests.{entering_there, exit_there, first_taken, goes_by, solution_of, stops_by, turn_of_edge}
use Rattle.integer_tableau.specs.Kept.{IsTaken, KeptDictionary, exit_at, kept_at}
use Rattle.integer_tableau.specs.StoredRun.{IsOfEdge}
use Rattle.integer_tableau.proofs.dictionary_store.DictionaryStore.request_by_exit.Goals as goal
use Rattle.integer_tableau.proofs.dictionary_store.DictionaryStore.request_by_exit.Goals.{After-turn}

pub edge_of-requires-clause-at_upper_there : goal.edge_of-requires-clause-at_upper_there
edge_of-requires-clause-at_upper_there c =
    let ps = c.args.program_rows.now in
    let k = c.args.self.now.kept in
    let h = c.requires.solution in
    entering_there ps k.edges (kept_at k.all c.args.place) c.args.solution.now (solution_of ps h.0 h.1 k c.args.place c.args.solution.now c.requires.there h.2 h.3) (exit_at k.exits c.args.exit)
    (exit_there ps h.0 h.1 k c.args.exit c.args.place c.requires.exit_there h.2 c.requires.from)

-- the first edge whose variable may enter is taken
taken : (c : After-turn) → IsTaken c.args.program_rows.now c.args.self.now.kept.edges c.args.place (kept_at c.args.self.now.kept.all c.args.place) c.args.solution.now c.args.variable c.args.direction (Some c.in-Some.edge)
taken c =
    let ps = c.args.program_rows.now in
    let k = c.args.self.now.kept in
    let d : KeptDictionary = kept_at k.all c.args.place in
    let n = c.args.solution.now in
    let h = c.requires.solution in
    let some = c.in-Some.ensures.some in
    subst (λ v. IsTaken ps k.edges c.args.place d n v c.args.direction (Some c.in-Some.edge)) c.requires.variable
    (first_taken ps k.edges d n (solution_of ps h.0 h.1 k c.args.place n c.requires.there h.2 h.3) (exit_at k.exits c.args.exit)
    (exit_there ps h.0 h.1 k c.args.exit c.args.place c.requires.exit_there h.2 c.requires.from) c.args.direction c.args.place some.0 c.in-Some.edge some.1 some.2 some.3 c.requires.from)

pub returns-in-Some-clause-request : goal.returns-in-Some-clause-request
returns-in-Some-clause-request c =
    let h = c.requires.solution in
    let k = c.args.self.now.kept in
    goes_by c.args.program_rows.now h.0 h.1 k k c.args.place c.args.solution.now c.requires.there h.3 refl h.2 c.args.variable c.args.direction c.requires.leaving
    (Some c.in-Some.edge) c.in-Some.edge false c.turn.result (taken (goal.at.returns-in-Some-clause-request c).After-turn) refl c.turn.ensures

pub returns-in-Some-clause-edge : goal.returns-in-Some-clause-edge
returns-in-Some-clause-edge c =
    let k = c.args.self.now.kept in
    subst (IsOfEdge k c.args.place) (sym c.turn.ensures)
    (turn_of_edge c.args.program_rows.now k c.args.place (kept_at k.all c.args.place) c.args.solution.now c.args.variable c.args.direction c.in-Some.edge false (taken (goal.at.returns-in-Some-clause-edge c).After-turn))

pub returns-in-Some-2-clause-request : goal.returns-in-Some-2-clause-request
returns-in-Some-2-clause-request c =
    let h = c.requires.solution in
    let e = c.in_ok-edge.ensures in
    goes_by c.args.program_rows.now h.0 h.1 c.args.self.now.kept c.further_edge.new.self.kept c.args.place c.args.solution.now c.requires.there h.3 e.same (e.kept h.0 h.1 h.2) c.args.variable c.args.direction c.requires.leaving
    c.in_ok-edge.field-0 c.in-Some-2.edge true c.turn-in-Some-2.result e.taken c.in-Some-2.is c.turn-in-Some-2.ensures

pub returns-in-None-clause-request : goal.returns-in-None-clause-request
returns-in-None-clause-request c =
    let h = c.requires.solution in
    let e = c.in_ok-edge.ensures in
    stops_by c.args.program_rows.now h.0 h.1 c.args.self.now.kept c.further_edge.new.self.kept c.args.place c.args.solution.now c.requires.there h.3 e.same (e.kept h.0 h.1 h.2) c.args.variable c.args.direction c.requires.leaving
    c.in_ok-edge.field-0 e.taken c.in-None.is
