use Rattle.std.proofs.Common.{arith, ap, sym, drop, length, map, nat_abs, pos, ◌+◌, ◌≡◌, ◌∙◌, w64}
use Rattle.std.proofs.lemmas.Int.{to_z-of_z}
use Rattle.integer_tableau.proofs.Lists.{size_is}
use Rattle.integer_tableau.proofs.Products.{values_by_products}
use Rattle.integer_tableau.proofs.Violations.{first_or, leaving_parts}
use Rattle.integer_tableau.specs.Combined.{combined_value, value_numerators}
use Rattle.integer_tableau.specs.Leaving.{leaving_by_numerators}
use Rattle.integer_tableau.specs.Positions.{products}
use Rattle.integer_tableau.proofs.leaving.leaving.Goals as goal

pub returns-in-Some-clause-value : goal.returns-in-Some-clause-value
returns-in-Some-clause-value c =
    let n = length c.args.values.now in
    let d = to_z-of_z w64 c.args.denominator c.ranges.denominator in
    let ws = map (λ a. combined_value (pos (nat_abs c.args.denominator)) a c.args.positions.now c.args.nonbasic_values.now c.args.values.now) c.args.program_rows.now in
    ap (λ o. first_or o (leaving_by_numerators (nat_abs c.args.denominator) (0 + n) (drop n c.args.positions.now) (drop n c.args.bounds.now) ws))
    (c.in-Some.ensures.value ∙ ap (λ z. leaving_by_numerators (nat_abs z) 0 c.args.positions.now c.args.bounds.now c.args.values.now) d)
    ∙ sym (leaving_parts (nat_abs c.args.denominator) 0 c.args.positions.now c.args.bounds.now c.args.values.now ws (omega (arith, c.requires.positions_there)) (omega (arith, c.requires.positions_there, c.requires.bounds_there)))

pub returns-in_ok-numerators-in-None-clause-value : goal.returns-in_ok-numerators-in-None-clause-value
returns-in_ok-numerators-in-None-clause-value c =
    let n = length c.args.values.now in
    let ns = c.deref-in-None.result.now in
    let d = to_z-of_z w64 c.args.denominator c.ranges.denominator in
    let ws = map (λ a. products a ns) c.args.program_rows.now in
    let made : ns ≡ value_numerators (pos (nat_abs c.args.denominator)) c.args.positions.now c.args.nonbasic_values.now c.args.values.now =
    c.deref-in-None.ensures.value ∙ c.in_ok-numerators-in-None.ensures.value
    ∙ ap (λ z. value_numerators z c.args.positions.now c.args.nonbasic_values.now c.args.values.now) (d ∙ size_is c.args.denominator c.requires.positive) in
    let same : length ns ≡ n = ap length c.deref-in-None.ensures.value ∙ c.in_ok-numerators-in-None.ensures.count in
    let zero : length ns ≡ 0 + n = omega (arith, same) in
    c.leaving_row.ensures.value
    ∙ (λ i. leaving_by_numerators (nat_abs (d i)) (zero i) (drop (same i) c.args.positions.now) (drop (same i) c.args.bounds.now) ws)
    ∙ ap (λ o. first_or o (leaving_by_numerators (nat_abs c.args.denominator) (0 + n) (drop n c.args.positions.now) (drop n c.args.bounds.now) ws))
    (c.in-None.ensures.value ∙ ap (λ z. leaving_by_numerators (nat_abs z) 0 c.args.positions.now c.args.bounds.now c.args.values.now) d)
    ∙ sym (leaving_parts (nat_abs c.args.denominator) 0 c.args.positions.now c.args.bounds.now c.args.values.now ws (omega (arith, c.requires.positions_there)) (omega (arith, c.requires.positions_there, c.requires.bounds_there)))
    ∙ ap (leaving_by_numerators (nat_abs c.args.denominator) 0 c.args.positions.now c.args.bounds.now)
    (values_by_products (nat_abs c.args.denominator) c.args.program_rows.now c.args.positions.now c.args.nonbasic_values.now c.args.values.now ns made)
