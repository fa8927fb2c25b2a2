use Rattle.std.specs.Prelude.{[]}
use Rattle.std.proofs.Common.{sym, ap}
use Rattle.std.proofs.lemmas.Result.{IfOk-weaker}
use Rattle.row_activity.specs.declared.verdict.Verdict.TheVariants.{Refuted, Priced, Point as OnePoint, Unsettled}
use Rattle.dual_simplex.specs.Answers.{answer}
use Rattle.expand.specs.declared.finding.Finding.{Finding}
use Rattle.expand.specs.declared.finding.Finding.TheVariants.{Shut, Whole}
use Rattle.expand.specs.Expansion.{IsOfAnswer}
use Rattle.expand.specs.Findings.{IsTrueFinding}
use Rattle.expand.proofs.Expanding.{verdict_holds}
use Rattle.expand.proofs.expansion.expand.Goals as goal

pub returns-in_ok-refutation-in-Refuted-clause-holds : goal.returns-in_ok-refutation-in-Refuted-clause-holds
returns-in_ok-refutation-in-Refuted-clause-holds c =
    let g = c.args.subproblem.now in
    let h = c.requires.subproblem in
    let f = c.in_ok-refutation-in-Refuted.field-0 in
    verdict_holds g.problem.now g.book.now.cuts g.area.now g.cutoff (record { limits = c.limits_hold.ensures; columns = h.columns; modest = h.modest; part = h.part })
    c.separations_separate.ensures [] 0 (Shut f) (Refuted c.in-Refuted.row c.in-Refuted.sign) (sym c.in-Refuted.ensures.first) (ap Shut c.in_ok-refutation-in-Refuted.ensures)

pub returns-in-Priced-clause-holds : goal.returns-in-Priced-clause-holds
returns-in-Priced-clause-holds c =
    let g = c.args.subproblem.now in
    let h = c.requires.subproblem in
    verdict_holds g.problem.now g.book.now.cuts g.area.now g.cutoff (record { limits = c.limits_hold.ensures; columns = h.columns; modest = h.modest; part = h.part })
    c.separations_separate.ensures [] 0 (Shut c.objective_bound.result) Priced (sym c.in-Priced.ensures.first) (ap Shut c.objective_bound.ensures)

pub returns-in_ok-corner-in-Point-clause-holds : goal.returns-in_ok-corner-in-Point-clause-holds
returns-in_ok-corner-in-Point-clause-holds c =
    let g = c.args.subproblem.now in
    let h = c.requires.subproblem in
    let f = c.in_ok-corner-in-Point.field-0 in
    verdict_holds g.problem.now g.book.now.cuts g.area.now g.cutoff (record { limits = c.limits_hold.ensures; columns = h.columns; modest = h.modest; part = h.part })
    c.separations_separate.ensures [] 0 (Whole f) OnePoint (sym c.in-Point.ensures.first) (ap Whole c.in_ok-corner-in-Point.ensures)

pub returns-in-Unsettled-clause-holds : goal.returns-in-Unsettled-clause-holds
returns-in-Unsettled-clause-holds c =
    let g = c.args.subproblem.now in
    let p = g.problem.now in
    let cs = g.book.now.cuts in
    let box = g.area.now in
    let h = c.requires.subproblem in
    IfOk-weaker c.relax.result (λ (f : Finding). IsOfAnswer p cs box g.cutoff c.relax.new.costs c.args.room (answer p cs box) f) (IsTrueFinding p cs box g.cutoff)
    (λ f k.
    verdict_holds p cs box g.cutoff (record { limits = c.limits_hold.ensures; columns = h.columns; modest = h.modest; part = h.part }) c.separations_separate.ensures c.relax.new.costs c.args.room f
    Unsettled (sym c.in-Unsettled.ensures.first) k) c.relax.ensures.found
