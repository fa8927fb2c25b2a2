use Rattle.std.proofs.Common.{◌≡◌, ◌∙◌, ap, subst, refl}
use Rattle.std.specs.Prelude.{true, false}
use Rattle.std.specs.Bool.{one_answer}
use Rattle.incumbent.specs.Offers.{is_better}
use Rattle.event_core.specs.declared.admit.Admit.TheVariants.{Yes, BadPoint, NotBetter}
use Rattle.event_core.specs.Rooms.{Standing}
use Rattle.event_core.specs.Feasibility.{is_feasible}
use Rattle.event_core.specs.Judging.{judged_offer}
use Rattle.event_core.specs.Lemmas.Points.{Decides-feasible}
use Rattle.event_core.proofs.Offering.{offer_answer}
use Rattle.event_core.proofs.parts.Parts.judge_offer.Goals as goal
use Rattle.problem.specs.Directions.{aim_at}

pub returns-then-not-is_feasible : goal.returns-then-not-is_feasible
returns-then-not-is_feasible c =
    let p = c.self.inside.problem in
    let f : false ≡ is_feasible p c.args.point.now =
    one_answer false (is_feasible p c.as_slice.result.now) c.if-not-is_feasible.ensures (Decides-feasible p c.as_slice.result.now) ∙ ap (is_feasible p) c.as_slice.ensures
    in
    subst (λ (v : Standing). BadPoint ≡ judged_offer v.state c.args.point.now) c.self.view_is (offer_answer p c.self.inside.incumbent c.args.point.now false _ f refl)

pub returns-then-not-is_bettered_by : goal.returns-then-not-is_bettered_by
returns-then-not-is_bettered_by c =
    let p = c.self.inside.problem in
    let f : true ≡ is_feasible p c.args.point.now =
    one_answer true (is_feasible p c.as_slice.result.now) c.if-not-is_feasible.ensures (Decides-feasible p c.as_slice.result.now) ∙ ap (is_feasible p) c.as_slice.ensures
    in
    let v : c.aim_value.result ≡ aim_at p c.args.point.now = c.aim_value.ensures ∙ ap (aim_at p) c.as_slice-2.ensures in
    let b : false ≡ is_better c.self.inside.incumbent (aim_at p c.args.point.now) = c.if-not-is_bettered_by.ensures ∙ ap (is_better c.self.inside.incumbent) v in
    subst (λ (v : Standing). NotBetter ≡ judged_offer v.state c.args.point.now) c.self.view_is (offer_answer p c.self.inside.incumbent c.args.point.now true false f b)

pub returns : goal.returns
returns c =
    let p = c.self.inside.problem in
    let f : true ≡ is_feasible p c.args.point.now =
    one_answer true (is_feasible p c.as_slice.result.now) c.if-not-is_feasible.ensures (Decides-feasible p c.as_slice.result.now) ∙ ap (is_feasible p) c.as_slice.ensures
    in
    let v : c.aim_value.result ≡ aim_at p c.args.point.now = c.aim_value.ensures ∙ ap (aim_at p) c.as_slice-2.ensures in
    let b : true ≡ is_better c.self.inside.incumbent (aim_at p c.args.point.now) = c.if-not-is_bettered_by.ensures ∙ ap (is_better c.self.inside.incumbent) v in
    subst (λ (v : Standing). Yes ≡ judged_offer v.state c.args.point.now) c.self.view_is (offer_answer p c.self.inside.incumbent c.args.point.now true true f b)
