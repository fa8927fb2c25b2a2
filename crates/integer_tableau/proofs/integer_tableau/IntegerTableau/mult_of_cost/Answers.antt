use Rattle.std.proofs.Common.{refl, ◌∙◌, ap, rules, drop, nat_abs, w64}
use mir.Val.{SFits}
use Rattle.std.proofs.lemmas.Int.{to_z-of_z}
use Rattle.std.proofs.lemmas.List.{take_rest}
use Rattle.std.proofs.lemmas.Result.{IfOk-weaker}
use Rattle.tableau.specs.Multipliers.{numbered}
use Rattle.integer_tableau.proofs.Answering.{costs_are}
use Rattle.integer_tableau.specs.Positions.{coefficients}
use Rattle.integer_tableau.proofs.integer_tableau.IntegerTableau.mult_of_cost.Goals as goal

pub returns : goal.returns
returns c =
    let n = c.self.inside in
    let f : SFits w64 n.denominator = search rules in
    IfOk-weaker c.named_coefficients.result _ _ (λ v h. h
    ∙ (λ i. numbered (c.numbers.ensures i) (coefficients (nat_abs (to_z-of_z w64 n.denominator f i)) (take_rest c.deref.result.now c.len.result i) (c.numerators.ensures i)))
    ∙ ap (numbered c.args.self.now.numbers) ((λ i. coefficients (nat_abs n.denominator) (drop ((c.len.ensures ∙ n.rows.ok.0) i) (c.deref.ensures.value i)) n.reduced_costs)
    ∙ costs_are _ _ _ _ _ _ c.args.self.now c.self.invariant.0 c.self.view_is refl)) c.named_coefficients.ensures
