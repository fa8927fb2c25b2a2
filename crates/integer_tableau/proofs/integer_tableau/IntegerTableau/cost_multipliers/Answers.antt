use Rattle.std.proofs.Common.{refl, ◌∙◌, rules, drop, nat_abs, w64}
use mir.Val.{SFits}
use Rattle.std.proofs.lemmas.Int.{to_z-of_z}
use Rattle.std.proofs.lemmas.List.{take_rest}
use Rattle.integer_tableau.proofs.Answering.{costs_are}
use Rattle.std.proofs.lemmas.Result.{IfOk-weaker}
use Rattle.integer_tableau.specs.Positions.{coefficients}
use Rattle.integer_tableau.proofs.integer_tableau.IntegerTableau.cost_multipliers.Goals as goal

pub returns : goal.returns
returns c =
    let n = c.self.inside in
    let f : SFits w64 n.denominator = search rules in
    IfOk-weaker c.coefficients.result _ _ (λ v h. h
    ∙ (λ i. coefficients (nat_abs (to_z-of_z w64 n.denominator f i)) (take_rest c.deref.result.now c.len-columns.result i) (c.numerators.ensures i))
    ∙ (λ i. coefficients (nat_abs n.denominator) (drop ((c.len-columns.ensures ∙ n.rows.ok.0) i) (c.deref.ensures.value i)) n.reduced_costs)
    ∙ costs_are _ _ _ _ _ _ c.args.self.now c.self.invariant.0 c.self.view_is refl) c.coefficients.ensures
