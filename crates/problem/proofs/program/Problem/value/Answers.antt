use Rattle.std.proofs.Common.{sym, ap, subst}
use Rattle.problem_box.specs.Boxes.{IsInBox}
use Rattle.problem.specs.Problem.{Problem}
use Rattle.problem.specs.Lemmas.Limited.{over_point, modest_inside, are_modest}
use Rattle.problem.proofs.program.Problem.value.Goals as goal

pub value-requires-clause-columns : goal.value-requires-clause-columns
value-requires-clause-columns c =
    over_point c.self.inside.root c.args.point.now c.self.inside.objective
    (subst (λ ss. IsInBox ss c.args.point.now) (sym (ap (λ (p : Problem). p.spans) c.self.view_is)) c.requires) c.self.invariant.0.objective.below

pub value-requires-clause-modest_point : goal.value-requires-clause-modest_point
value-requires-clause-modest_point c =
    modest_inside c.self.inside.root c.args.point.now c.self.invariant.0.spans
    (subst (λ ss. IsInBox ss c.args.point.now) (sym (ap (λ (p : Problem). p.spans) c.self.view_is)) c.requires)

pub value-requires-clause-modest : goal.value-requires-clause-modest
value-requires-clause-modest c = are_modest _ _ c.self.invariant.0.few_columns c.self.invariant.0.objective
