use Rattle.std.proofs.Common.{ap, sym, ◌∙◌, []}
use Rattle.std.proofs.lemmas.List.{get_or_default}
use Rattle.tableau.specs.Elimination.{solved_for}
use Rattle.tableau.proofs.Pushing.{when_true, when_false}
use Rattle.tableau.proofs.Eliminating.{no_costs}
use Rattle.tableau.proofs.elimination.prepare_all.Goals as goal

pub returns-then-not-branch-3 : goal.returns-then-not-branch-3
returns-then-not-branch-3 c =
    no_costs c.args.leaving c.args.entering c.args.rows.now c.args.reduced_costs.now c.solve_into.new.into c.requires.there
    (ap (solved_for c.args.leaving c.args.entering) (get_or_default c.args.rows.now c.args.leaving [] c.index-rows-leaving.result c.requires.there ∙ sym c.index-rows-leaving.is)
    ∙ when_true _ _ c.in_ok-solve_into.field-0 c.in_ok-solve_into.ensures c.if-not-branch.false)
    (when_false _ _ c.in_ok-substitute_into.field-0 c.in_ok-substitute_into.ensures c.if-not-branch-3.true)
