use Rattle.std.specs.Prelude.{IfOk, IfErr, IfSome}
use Rattle.std.proofs.Common.{◌≡◌, ◌≤◌, ◌<◌, ◌^◌, arith, ap, sym, ◌∙◌, subst, length, map, take}
use Rattle.derivation_book.specs.declared.cut.Cut.{Cut}
use Rattle.tableau.specs.LinearProgram.{LinearProgram, over}
use Rattle.tableau.specs.Lemmas.Started.{length-coefficients}
use Rattle.tableau.specs.Lemmas.Programs.{relaxation-over}
use Rattle.tableau.specs.Run.{EndsAs}
use Rattle.integer_tableau.specs.Run.{IsRunOver}
use Rattle.problem.specs.Directions.{aim}
use Rattle.dual_simplex.specs.Answers.{linear_program, run}
use Rattle.dual_simplex.proofs.Ending.{of_end, run_over_is}
use Rattle.dual_simplex.proofs.whole_run.run_over.Goals as goal

pub run_over-requires : goal.run_over-requires
run_over-requires g c =
    c.requires.columns
    ∙ sym (ap (λ (l : LinearProgram). length l.costs) c.requires.program ∙ length-coefficients 0 (length c.args.problem.now.spans) (aim c.args.problem.now))

pub returns-clause-ends : goal.returns-clause-ends
returns-clause-ends g c =
    let p = c.args.problem.now in
    let cs = c.args.book.now.cuts in
    let box = c.args.area.now in
    let tableau_of = g.T.WholeTableau.tableau_of in
    let n = c.pivot_limit.result in
    let before = over (g.T.WholeTableau.program_of c.args.program.now) box in
    let program = linear_program p (take c.args.cuts cs) box in
    let same : before ≡ program =
    ap (λ (l : LinearProgram). over l box) c.requires.program ∙ relaxation-over p (map (λ (d : Cut). d.row) (take c.args.cuts cs)) p.spans box c.requires.columns in
    of_end (λ e. IsRunOver before n e.0 (tableau_of e.1)) (λ e. EndsAs (run program) e.0 (tableau_of e.1))
    (λ e h. run_over_is p cs c.args.cuts box c.requires.few c.requires.columns n c.pivot_limit.ensures.value e.0 (tableau_of e.1) (subst (λ (l : LinearProgram). IsRunOver l n e.0 (tableau_of e.1)) same h))
    c.run_over.result c.run_over.ensures.value

pub returns-clause-few_pivots : goal.returns-clause-few_pivots
returns-clause-few_pivots g c =
    let tableau_of = g.T.WholeTableau.tableau_of in
    of_end (λ e. (tableau_of e.1).pivots ≤ c.pivot_limit.result) (λ e. (tableau_of e.1).pivots < 2 ^ 32) (λ e h. omega (arith, h, c.pivot_limit.ensures.few)) c.run_over.result c.run_over.ensures.capped

pub returns-clause-given_up : goal.returns-clause-given_up
returns-clause-given_up g c = subst (λ n. IfOk c.run_over.result (λ o. IfSome o (λ r. IfErr r (λ made. made ≤ n)))) c.pivot_limit.ensures.value c.run_over.ensures.given_up
