use Rattle.std.specs.Prelude.{IfSome, IfOk}
use Rattle.std.proofs.Common.{◌≡◌, ap, sym, ◌∙◌, subst, Some, length, map, take}
use Rattle.derivation_book.specs.declared.cut.Cut.{Cut}
use Rattle.tableau.specs.LinearProgram.{LinearProgram, over}
use Rattle.tableau.specs.Lemmas.Started.{length-coefficients}
use Rattle.tableau.specs.Start.{started}
use Rattle.tableau.specs.Lemmas.Programs.{relaxation-over}
use Rattle.problem.specs.Directions.{aim}
use Rattle.dual_simplex.proofs.whole_run.start.Goals as goal

pub start-requires : goal.start-requires
start-requires g c =
    c.requires.columns
    ∙ sym (ap (λ (l : LinearProgram). length l.costs) c.requires.program ∙ length-coefficients 0 (length c.args.problem.now.spans) (aim c.args.problem.now))

pub returns-clause-value : goal.returns-clause-value
returns-clause-value g c =
    subst (λ (l : LinearProgram). IfOk c.start.result (λ o. IfSome o (λ t. started l ≡ Some (g.T.WholeTableau.tableau_of t))))
    (ap (λ (l : LinearProgram). over l c.args.area.now) c.requires.program
    ∙ relaxation-over c.args.problem.now (map (λ (d : Cut). d.row) (take c.args.cuts c.args.book.now.cuts)) c.args.problem.now.spans c.args.area.now c.requires.columns)
    c.start.ensures.value
