use Rattle.std.proofs.Common.{arith, ap, None, [], ◌+◌, drop, length, map, nat_abs, get_or, ◌∙◌, w64, to_z, of_z}
use Rattle.std.proofs.lemmas.Int.{to_z-of_z}
use Rattle.std.proofs.lemmas.List.{get_or_default}
use Rattle.integer_tableau.proofs.Violations.{found_in_rows}
use Rattle.integer_tableau.specs.Leaving.{leaving_by_numerators, violation_at}
use Rattle.integer_tableau.specs.Positions.{products}
use Rattle.integer_tableau.specs.declared.position.Position.TheVariants.{InBasis}
use Rattle.integer_tableau.proofs.leaving.leaving_row.Goals as goal

pub returns-in-Some-clause-value : goal.returns-in-Some-clause-value
returns-in-Some-clause-value c =
    let n = length c.args.numerators.now in
    let dd = to_z w64 (of_z w64 c.args.denominator) in
    let row = c.index-program_rows-i.is ∙ get_or_default c.args.program_rows.now c.loop-i.i c.index-program_rows-i.result [] c.loop-i-test.true in
    found_in_rows (λ a. products a c.args.numerators.now) (nat_abs dd) (n + c.loop-i.i) (n + c.loop-i.i) c.loop-i.i
    c.args.positions.now c.args.bounds.now c.args.program_rows.now c.in-Some.direction _ (omega (arith, c.requires.positions_there, c.loop-i-test.true))
    (omega (arith, c.requires.positions_there, c.requires.bounds_there, c.loop-i-test.true)) c.loop-i-test.true
    (c.in-Some.ensures ∙ ap (λ a. violation_at (nat_abs dd) (get_or c.args.positions.now (n + c.loop-i.i) InBasis) (get_or c.args.bounds.now (n + c.loop-i.i) (record { lower = None; upper = None })) (products a c.args.numerators.now)) row)
    c.loop-i.invariant
    ∙ ap (λ z. leaving_by_numerators (nat_abs z) n (drop n c.args.positions.now) (drop n c.args.bounds.now) (map (λ a. products a c.args.numerators.now) c.args.program_rows.now))
    (to_z-of_z w64 c.args.denominator c.ranges.denominator)
