use Rattle.std.proofs.Common.{◌<◌, ◌<ℤ◌, ◌*◌, ◌^◌, ◌∙◌, ℤ, pos, arith, nat_abs, sym, subst, w64}
use Rattle.std.proofs.lemmas.Int.{to_z-of_z}
use Rattle.integer_tableau.specs.Numbers.{number_at}
use Rattle.integer_tableau.proofs.Expanded.{row_taken}
use Rattle.integer_tableau.proofs.WaysOut.{none_then}
use Rattle.integer_tableau.proofs.pivot.leave.Goals as goal

pub value_of-value-requires-clause-positions_there : goal.value_of-value-requires-clause-positions_there
value_of-value-requires-clause-positions_there c = omega (arith, c.requires.positions_there, c.requires.values_there)

pub value_of-value-requires-clause-full : goal.value_of-value-requires-clause-full
value_of-value-requires-clause-full c = λ i l. c.requires.full i l ∙ sym c.requires.values_there

pub value_of-value-requires-clause-near : goal.value_of-value-requires-clause-near
value_of-value-requires-clause-near c = λ j l. subst (λ (z : ℤ). nat_abs (number_at c.args.nonbasic_values.now j) * nat_abs z < 2 ^ 63) (sym (to_z-of_z w64 c.args.denominator c.ranges.denominator)) (c.requires.near j l)

pub value_of-value-requires-clause-positive : goal.value_of-value-requires-clause-positive
value_of-value-requires-clause-positive c = subst (λ (z : ℤ). pos 0 <ℤ z) (sym (to_z-of_z w64 c.args.denominator c.ranges.denominator)) c.requires.positive

pub exchange_of-requires-clause-positive : goal.exchange_of-requires-clause-positive
exchange_of-requires-clause-positive c = subst (λ (z : ℤ). pos 0 <ℤ z) (sym (to_z-of_z w64 c.args.denominator c.ranges.denominator)) c.requires.positive

pub value_of-value-requires-clause-nonbasic_values_there : goal.value_of-value-requires-clause-nonbasic_values_there
value_of-value-requires-clause-nonbasic_values_there c = c.requires.nonbasic_values_there

pub value_of-value-requires-clause-variable_there : goal.value_of-value-requires-clause-variable_there
value_of-value-requires-clause-variable_there c = c.requires.leaving_there

pub value_of-value-requires-clause-light : goal.value_of-value-requires-clause-light
value_of-value-requires-clause-light c = c.requires.light

pub exchange_of-requires-clause-leaving_there : goal.exchange_of-requires-clause-leaving_there
exchange_of-requires-clause-leaving_there c = c.requires.leaving_there

pub exchange_of-requires-clause-entering_there : goal.exchange_of-requires-clause-entering_there
exchange_of-requires-clause-entering_there c = c.requires.entering_there

pub exchange_of-requires-clause-basic : goal.exchange_of-requires-clause-basic
exchange_of-requires-clause-basic c = c.requires.basic

pub exchange_of-requires-clause-bounds_there : goal.exchange_of-requires-clause-bounds_there
exchange_of-requires-clause-bounds_there c = c.requires.bounds_there

pub returns-in_err-exchange-clause-value : goal.returns-in_err-exchange-clause-value
returns-in_err-exchange-clause-value c = none_then c.from_residual.result _ c.from_residual.ensures

pub returns-in_err-exchange-clause-row : goal.returns-in_err-exchange-clause-row
returns-in_err-exchange-clause-row c = none_then c.from_residual.result _ c.from_residual.ensures

pub returns-in_err-exchange-clause-rows : goal.returns-in_err-exchange-clause-rows
returns-in_err-exchange-clause-rows c = none_then c.from_residual.result _ c.from_residual.ensures

pub returns-in_err-exchange-clause-pivot : goal.returns-in_err-exchange-clause-pivot
returns-in_err-exchange-clause-pivot c = none_then c.from_residual.result _ c.from_residual.ensures

pub returns-in_err-exchange-clause-size : goal.returns-in_err-exchange-clause-size
returns-in_err-exchange-clause-size c = none_then c.from_residual.result _ c.from_residual.ensures

pub returns-in_err-exchange-clause-there : goal.returns-in_err-exchange-clause-there
returns-in_err-exchange-clause-there c = none_then c.from_residual.result _ c.from_residual.ensures

pub returns-clause-pivot : goal.returns-clause-pivot
returns-clause-pivot c = c.in_ok-exchange.ensures.pivot

pub returns-clause-size : goal.returns-clause-size
returns-clause-size c = c.in_ok-exchange.ensures.size

pub returns-clause-rows : goal.returns-clause-rows
returns-clause-rows c = c.take_row.ensures.rows

pub returns-clause-row : goal.returns-clause-row
returns-clause-row c =
    row_taken (nat_abs c.args.denominator) c.args.program_rows.now c.args.positions.now c.args.rows.now c.args.leaving c.args.leaving_row.now c.take_row.new.leaving_row
    c.take_row.ensures.kept c.take_row.ensures.made c.requires.made
