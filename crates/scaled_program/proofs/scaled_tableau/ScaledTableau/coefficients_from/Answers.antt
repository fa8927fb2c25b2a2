use Rattle.std.proofs.Common.{◌∙◌, ap, arith, length, subst, sym}
use Rattle.std.proofs.lemmas.List.{length-drop}
use Rattle.std.proofs.lemmas.Result.{IfOk-weaker}
use Rattle.tableau.specs.Tableau.{row_of}
use Rattle.integer_tableau.specs.Scales.{scale_at, unscaled_row}
use Rattle.scaled_program.specs.Sizes.{AreSmallTimes}
use Rattle.scaled_program.proofs.FromCode.{coefficients_from_code, row_small}
use Rattle.scaled_program.proofs.NumbersRead.{small_drop}
use Rattle.scaled_program.proofs.ToFractions.{statuses_many}
use Rattle.scaled_program.proofs.scaled_tableau.ScaledTableau.coefficients_from.Goals as goal

pub unscaled_row-requires-clause-small : goal.unscaled_row-requires-clause-small
unscaled_row-requires-clause-small c =
    let n = c.self.inside in
    subst (AreSmallTimes n.scales.greatest) (sym (c.deref.ensures.value ∙ c.in_ok-scaled.ensures))
    (small_drop n.scales.greatest c.args.first (row_of n.tableau c.args.variable)
    (row_small n.scales.greatest n.scales.rows.items.value.items n.scales.costs c.self.invariant.0 n.tableau c.args.self.now c.self.invariant.1 c.self.view_is c.args.variable))

pub unscaled_row-requires-clause-few : goal.unscaled_row-requires-clause-few
unscaled_row-requires-clause-few c =
    let n = c.self.inside in
    let many = statuses_many n.scales.greatest n.scales.rows.items.value.items n.scales.costs n.tableau c.args.self.now c.self.invariant.1 c.self.view_is in
    omega (
      arith,
      ap length (c.deref.ensures.value ∙ c.in_ok-scaled.ensures),
      length-drop c.args.first (row_of n.tableau c.args.variable),
      c.sizes_hold.ensures.rows c.args.variable (omega (arith, many, c.requires.variable_there)),
      c.sizes_hold.ensures.few,
      c.requires.first_there,
      many,
    )

pub returns : goal.returns
returns c =
    let n = c.self.inside in
    let scales = n.scales.rows.items.value.items in
    IfOk-weaker c.unscaled_row.result _ _ (λ v h.
    coefficients_from_code n.scales.greatest scales n.scales.costs c.self.invariant.0 n.tableau c.args.self.now c.self.invariant.1 c.self.view_is c.args.variable c.args.first c.of-unit.result
    v.items (c.of-unit.ensures ∙ ap (λ k. scale_at k scales c.args.variable) c.columns-columns.ensures)
    (h ∙ (λ i. unscaled_row (scale_at (c.columns-columns.ensures i) scales) c.of-unit.result c.args.first ((c.deref.ensures.value ∙ c.in_ok-scaled.ensures) i)))) c.unscaled_row.ensures
