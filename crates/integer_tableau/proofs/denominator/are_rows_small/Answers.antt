use Rattle.std.proofs.Common.{◌≤◌, ◌+◌, ℤ, [], get_or, length, nat_abs, arith, refl, sym, subst, w64, to_z, of_z}
use Rattle.std.proofs.lemmas.Int.{to_z-of_z}
use Rattle.integer_tableau.specs.Combined.{combined_value, value_numerator}
use Rattle.integer_tableau.specs.Numbers.{number_at}
use Rattle.integer_tableau.specs.Range.{size_limit}
use Rattle.integer_tableau.specs.declared.position.Position.TheVariants.{InBasis}
use Rattle.integer_tableau.proofs.Denominators.{row_small_by_weight}
use Rattle.integer_tableau.proofs.denominator.are_rows_small.Goals as goal

pub returns-then-are_nonbasic_small : goal.returns-then-are_nonbasic_small
returns-then-are_nonbasic_small c = λ _ i l.
    let ss = c.args.positions.now in let xs = c.args.nonbasic_values.now in let vs = c.args.values.now in
    let v = length vs + i in
    let row = get_or c.args.program_rows.now i [] in
    subst (λ (d : ℤ). nat_abs (value_numerator d (get_or ss v InBasis) (number_at xs v) (combined_value d row ss xs vs)) ≤ size_limit) (to_z-of_z w64 c.args.denominator c.ranges.denominator)
    (row_small_by_weight c.args.greatest c.args.weight (to_z w64 (of_z w64 c.args.denominator)) (get_or ss v InBasis) (number_at xs v) row ss xs vs (c.requires.full i l) (c.requires.weights i l)
    (c.if-is_light.ensures refl)
    (λ j h. subst (λ (d : ℤ). nat_abs (value_numerator d (get_or ss j InBasis) (number_at xs j) (number_at vs j)) ≤ c.args.greatest) (sym (to_z-of_z w64 c.args.denominator c.ranges.denominator)) (c.requires.greatest j h))
    (λ k q. c.if-are_nonbasic_small.ensures refl v k (omega arith) (omega (arith, l, c.requires.positions_there)) q))
