use Rattle.std.proofs.Common.{◌≡◌, ◌∙◌, sym, ap, subst, refl}
use Rattle.std.proofs.lemmas.Bool.{false≢true}
use Rattle.problem.specs.Feasible.{IsFeasible}
use Rattle.incumbent.specs.Offers.{IsBetter}
use Rattle.incumbent.specs.Lemmas.Offers.{Decides-better}
use Rattle.incumbent.proofs.best.Incumbent.offer.Goals as goal
use Rattle.problem.specs.Directions.{aim_at}

pub returns-then-not-is_bettered_by-clause-taken : goal.returns-then-not-is_bettered_by-clause-taken
returns-then-not-is_bettered_by-clause-taken c =
    let value : c.aim_value-value.result ≡ aim_at c.args.problem.now c.args.point = c.aim_value-value.ensures ∙ ap (aim_at c.args.problem.now) c.as_slice-2.ensures in
    let tells = Decides-better c.args.self.now c.aim_value-value.result in
    (λ e. absurd (false≢true e), λ h. c.if-not-is_bettered_by.ensures ∙ tells.1 (subst (IsBetter c.args.self.now) (sym value) h.better))

pub returns-clause-taken : goal.returns-clause-taken
returns-clause-taken c =
    let value : c.aim_value-value.result ≡ aim_at c.args.problem.now c.args.point = c.aim_value-value.ensures ∙ ap (aim_at c.args.problem.now) c.as_slice-2.ensures in
    let tells = Decides-better c.args.self.now c.aim_value-value.result in (
      λ _. record {
        feasible = subst (IsFeasible c.args.problem.now) c.as_slice.ensures (c.if-not-is_feasible.ensures.0 refl);
        better = subst (IsBetter c.args.self.now) value (tells.0 (sym c.if-not-is_bettered_by.ensures));
      },
      λ _. refl,
    )
