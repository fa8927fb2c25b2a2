use Rattle.std.proofs.Common.{◌∙◌, length, sym, subst}
use Rattle.problem.specs.Limited.{AreLimited}
use Rattle.problem.specs.Problem.{Problem}
use Rattle.problem.specs.Lemmas.Directions.{kept_negated, limited-directed}
use Rattle.problem.proofs.program.Problem.aim.Goals as goal

pub returns-in-Some-clause-limited : goal.returns-in-Some-clause-limited
returns-in-Some-clause-limited c =
    subst (λ (p : Problem). AreLimited (length p.spans) c.in-Some.negated) c.self.view_is
    (subst (AreLimited (length c.self.inside.root)) (sym (kept_negated c.self.inside.sense c.self.inside.objective c.in-Some.negated (sym c.in-Some.is ∙ c.self.invariant.1)))
    (limited-directed c.self.inside.sense (length c.self.inside.root) c.self.inside.objective c.self.invariant.0.objective))
