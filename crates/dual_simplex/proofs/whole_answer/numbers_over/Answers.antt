use Rattle.std.specs.Prelude.{IfOk, IfErr, IfSome}
use Rattle.std.proofs.Common.{◌≡◌, ◌≤◌, ◌<◌, ◌^◌, arith, ap, sym, ◌∙◌, subst, length, map, take}
use Rattle.derivation_book.specs.declared.cut.Cut.{Cut}
use Rattle.tableau.specs.LinearProgram.{LinearProgram, over}
use Rattle.tableau.specs.Lemmas.Started.{length-coefficients}
use Rattle.tableau.specs.Lemmas.Programs.{relaxation-over}
use Rattle.problem.specs.Directions.{aim}
use Rattle.integer_tableau.specs.FinalNumbers.{AreNumbersAt, AreNumbersOver}
use Rattle.dual_simplex.specs.Answers.{linear_program, run}
use Rattle.dual_simplex.proofs.Ending.{of_end, numbers_over_are}
use Rattle.dual_simplex.proofs.whole_answer.numbers_over.Goals as goal

pub numbers_over-requires : goal.numbers_over-requires
numbers_over-requires c =
    c.requires.columns
    ∙ sym (ap (λ (l : LinearProgram). length l.costs) c.requires.program ∙ length-coefficients 0 (length c.args.problem.now.spans) (aim c.args.problem.now))

pub returns-clause-ends : goal.returns-clause-ends
returns-clause-ends c =
    let p = c.args.problem.now in
    let cs = c.args.book.now.cuts in
    let box = c.args.area.now in
    let n = c.pivot_limit.result in
    let program = linear_program p (take c.args.cuts cs) box in
    let same : over c.args.program.now box ≡ program =
    ap (λ (l : LinearProgram). over l box) c.requires.program ∙ relaxation-over p (map (λ (d : Cut). d.row) (take c.args.cuts cs)) p.spans box c.requires.columns in
    of_end (AreNumbersOver (over c.args.program.now box) n) (AreNumbersAt (run program))
    (λ e h. numbers_over_are p cs c.args.cuts box c.requires.few c.requires.columns n c.pivot_limit.ensures.value e (subst (λ (l : LinearProgram). AreNumbersOver l n e) same h))
    c.numbers_over.result c.numbers_over.ensures.value

pub returns-clause-few_pivots : goal.returns-clause-few_pivots
returns-clause-few_pivots c =
    of_end (λ e. e.pivots ≤ c.pivot_limit.result) (λ e. e.pivots < 2 ^ 32) (λ e h. omega (arith, h, c.pivot_limit.ensures.few)) c.numbers_over.result c.numbers_over.ensures.capped

pub returns-clause-given_up : goal.returns-clause-given_up
returns-clause-given_up c = subst (λ n. IfOk c.numbers_over.result (λ o. IfSome o (λ r. IfErr r (λ made. made ≤ n)))) c.pivot_limit.ensures.value c.numbers_over.ensures.given_up
