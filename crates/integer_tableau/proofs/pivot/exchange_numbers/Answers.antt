use Rattle.std.proofs.Common.{◌-ℤ◌, ◌*ℤ◌, ◌∙◌, refl, rules, nat_abs, subst, w64}
use Rattle.std.specs.Int.{w128}
use mir.Val.{SFits}
use Rattle.std.proofs.lemmas.Int.{to_z-of_z}
use Rattle.integer_tableau.specs.Pivot.{AreSubstitutedValues, IsEliminated}
use Rattle.integer_tableau.specs.Substitution.{quotient_numerator}
use Rattle.integer_tableau.proofs.pivot.exchange_numbers.Goals as goal

pub returns-clause-rows : goal.returns-clause-rows
returns-clause-rows c = λ ok.
    let x = c.args.exchange in
    let fs : SFits w64 x.size = search rules in
    let d = c.make-divisor.ensures ∙ to_z-of_z w64 c.args.denominator c.ranges.denominator in
    let h = c.eliminate.ensures ok in (
      h.0,
      subst (λ (T : Type 0). T) (λ i. IsEliminated c.args.entering x.column (nat_abs (d i)) (nat_abs (to_z-of_z w64 x.size fs i)) c.args.leaving_row.now h.0 c.args.rows.now c.eliminate.new.rows
          c.args.reduced_costs.now c.eliminate.new.reduced_costs) h.1,
    )

pub returns-clause-values : goal.returns-clause-values
returns-clause-values c = λ ok.
    let x = c.args.exchange in
    let fs : SFits w64 x.size = search rules in
    let fp : SFits w64 x.pivot = search rules in
    let fb : SFits w64 x.bound = search rules in
    let d = c.make-divisor.ensures ∙ to_z-of_z w64 c.args.denominator c.ranges.denominator in
    let p = to_z-of_z w64 x.pivot fp in
    let l = to_z-of_z w64 c.args.left c.ranges.left in
    subst (λ (T : Type 0). T) (λ i. AreSubstitutedValues c.args.entering x.column (d i) (to_z-of_z w64 x.size fs i) (l i)
    (quotient_numerator (p i) (to_z-of_z w128 c.args.value c.ranges.value i -ℤ p i *ℤ l i -ℤ d i *ℤ to_z-of_z w64 x.bound fb i)) (c.width-width.ensures i) c.args.rows.now c.args.values.now c.change_values.new.values)
    (c.if-not-change_values.ensures refl)
