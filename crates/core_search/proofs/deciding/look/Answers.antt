use Rattle.std.proofs.Common.{sym, ap, ◌∙◌, subst, refl, ◌<◌, length}
use Rattle.std.specs.Prelude.{IfSome}
use Rattle.std.proofs.lemmas.Result.{IfOk-weaker, on_ok_weaker}
use Rattle.problem.specs.Problem.{Problem}
use Rattle.incumbent.specs.Offers.{cutoff_of}
use Rattle.event_core.specs.States.{cutoff}
use Rattle.expand.specs.Expansion.{IsExpansion}
use Rattle.expand.specs.Findings.{IsTrueFinding}
use Rattle.expand.specs.Lemmas.Rooms.{without_room}
use Rattle.core_search.specs.Deciding.{IsLastLook}
use Rattle.core_search.proofs.Looking.{costs_same, expansion_same, subproblem_same, holds_same, prepared_still}
use Rattle.core_search.proofs.deciding.look.Goals as goal

pub expand-requires-clause-subproblem : goal.expand-requires-clause-subproblem
expand-requires-clause-subproblem c =
    subproblem_same c.args.state.now.state c.problem.result.now c.book.result.now.cuts c.args.worker.now.relaxation c.args.node.now.area c.problem.ensures c.book.ensures (record {
      few = c.node_conditions_hold.ensures.sound.few_cuts;
      all_cuts = c.requires.prepared.all_cuts;
      prepared = c.requires.prepared.prepared;
      columns = c.node_conditions_hold.ensures.columns;
      modest = c.node_conditions_hold.ensures.modest;
      part = c.node_conditions_hold.ensures.part;
    })

pub expand-requires-clause-costs : goal.expand-requires-clause-costs
expand-requires-clause-costs c = c.requires.prepared.costs ∙ ap (λ (p : Problem). length p.spans) (sym c.problem.ensures)

pub expand-requires-clause-origin : goal.expand-requires-clause-origin
expand-requires-clause-origin c = subst (λ n. IfSome c.args.node.now.origin (λ o. o.column < n)) (sym c.requires.prepared.costs) c.requires.node.origin

pub returns-clause-holds : goal.returns-clause-holds
returns-clause-holds c =
    let s = c.args.state.now.state in
    let p = c.problem.result.now in
    let cs = c.book.result.now.cuts in
    let box = c.args.node.now.area in
    IfOk-weaker c.expand.result (IsTrueFinding p cs box c.cutoff.result) (IsTrueFinding s.problem s.cuts box (cutoff s))
    (λ f h. holds_same s p cs box c.cutoff.result f c.problem.ensures c.book.ensures (c.cutoff.ensures ∙ ap cutoff_of c.incumbent.ensures) h) c.expand.ensures.holds

pub returns-clause-last : goal.returns-clause-last
returns-clause-last c =
    let p = c.problem.result.now in
    let cs = c.book.result.now.cuts in
    let box = c.args.node.now.area in
    let costs = c.expand.new.costs in
    IfOk-weaker c.expand.result (IsExpansion p cs box c.cutoff.result costs c.args.room) (IsLastLook c.args.room)
    (λ f h z. without_room p cs box c.cutoff.result costs c.args.room f z h) c.expand.ensures.found

pub returns-clause-prepared : goal.returns-clause-prepared
returns-clause-prepared c =
    prepared_still c.args.state.now.state c.args.worker.now (record c.args.worker.now { relaxation = c.expand.new.relaxation; costs = c.expand.new.costs }) c.requires.prepared c.expand.ensures.same refl c.expand.ensures.columns

pub returns-clause-found : goal.returns-clause-found
returns-clause-found c =
    let s = c.args.state.now.state in
    let p = c.problem.result.now in
    let cs = c.book.result.now.cuts in
    let box = c.args.node.now.area in
    let costs = c.expand.new.costs in
    IfOk-weaker c.expand.result (IsExpansion p cs box c.cutoff.result costs c.args.room) (IsExpansion s.problem s.cuts box (cutoff s) costs c.args.room)
    (λ f h. expansion_same s p cs box c.cutoff.result costs c.args.room f c.problem.ensures c.book.ensures (c.cutoff.ensures ∙ ap cutoff_of c.incumbent.ensures) h) c.expand.ensures.found

pub returns-clause-noted : goal.returns-clause-noted
returns-clause-noted c =
    on_ok_weaker c.expand.result
    (λ e.
    e ∙ costs_same c.args.state.now.state c.problem.result.now c.book.result.now.cuts c.args.node.now.area c.cutoff.result c.args.node.now.origin c.args.worker.now.costs
    c.problem.ensures c.book.ensures (c.cutoff.ensures ∙ ap cutoff_of c.incumbent.ensures)) c.expand.ensures.noted
