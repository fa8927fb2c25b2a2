use Rattle.std.proofs.Common.{ap, nat_abs, refl, sym, subst, drop, ◌-◌, ◌∙◌, w64}
use Rattle.std.proofs.lemmas.Int.{to_z-of_z}
use Rattle.std.proofs.lemmas.List.{take_rest}
use Rattle.std.proofs.lemmas.Result.{IfOk-weaker}
use Rattle.integer_tableau.specs.Combined.{combined_row}
use Rattle.integer_tableau.specs.Numbers.{IsWithin}
use Rattle.integer_tableau.specs.Positions.{coefficients}
use Rattle.integer_tableau.specs.Range.{size_limit}
use Rattle.integer_tableau.proofs.answers.combined_coefficients.Goals as goal

pub combine_small-requires-clause-small : goal.combine_small-requires-clause-small
combine_small-requires-clause-small c =
    let a = c.args in
    subst (λ z. IsWithin (size_limit - 1) (combined_row (nat_abs z) a.positions.now a.rows.now a.program_row.now)) (sym (to_z-of_z w64 a.denominator c.ranges.denominator)) c.requires.small

pub returns : goal.returns
returns c =
    let a = c.args in
    let d = to_z-of_z w64 a.denominator c.ranges.denominator in
    let made = c.if-not-combine_small.ensures refl ∙ ap (λ z. combined_row (nat_abs z) a.positions.now a.rows.now a.program_row.now) d in
    IfOk-weaker c.coefficients.result _ _ (λ v h. h
    ∙ (λ i. coefficients (nat_abs (d i)) (take_rest a.positions.now a.first i) (c.numerators.ensures i))
    ∙ ap (coefficients (nat_abs a.denominator) (drop a.first a.positions.now)) made) c.coefficients.ensures
