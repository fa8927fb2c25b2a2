use Rattle.std.proofs.Common.{◌∙◌, ap, sym, subst}
use Rattle.std.proofs.lemmas.Result.{IfOk-weaker}
use Rattle.tableau.specs.Multipliers.{numbered}
use Rattle.integer_tableau.specs.Scales.{scale_at, unscaled_row}
use Rattle.scaled_program.specs.Sizes.{AreSmallTimes}
use Rattle.scaled_program.proofs.FromCode.{costs_from_code, costs_small}
use Rattle.scaled_program.proofs.scaled_tableau.ScaledTableau.mult_of_cost.Goals as goal

pub unscaled_row-requires-clause-small : goal.unscaled_row-requires-clause-small
unscaled_row-requires-clause-small c =
    let n = c.self.inside in
    subst (AreSmallTimes n.scales.greatest) (sym (c.deref.ensures.value ∙ c.in_ok-scaled.ensures))
    (costs_small n.scales.greatest n.scales.rows.items.value.items n.scales.costs c.self.invariant.0 n.tableau c.args.self.now c.self.invariant.1 c.self.view_is)

pub returns : goal.returns
returns c =
    let n = c.self.inside in
    let scales = n.scales.rows.items.value.items in
    IfOk-weaker c.named_multipliers.result _ _ (λ m h. h
    ∙ (λ i. numbered (c.numbers.ensures i) (c.deref-2.ensures.value i))
    ∙ costs_from_code n.scales.greatest scales n.scales.costs c.self.invariant.0 n.tableau c.args.self.now c.self.invariant.1 c.self.view_is c.in_ok-multipliers.multipliers.items
    (c.in_ok-multipliers.ensures ∙ ap (unscaled_row (scale_at 0 scales) n.scales.costs 0) (c.deref.ensures.value ∙ c.in_ok-scaled.ensures))) c.named_multipliers.ensures
