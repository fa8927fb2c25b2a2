use Rattle.std.proofs.Common.{◌<◌, ◌≤◌, ◌-◌, nat_abs, arith, subst, w64}
use Rattle.std.proofs.lemmas.Int.{to_z-of_z}
use Rattle.std.proofs.lemmas.Bool.Decides.{nat_tests}
use Rattle.integer_tableau.specs.Range.{size_limit}
use Rattle.integer_tableau.proofs.Combining.{combined_row_within}
use Rattle.integer_tableau.specs.Combined.{combined}
use Rattle.integer_tableau.proofs.combined_sizes.is_small_by_bounds.Goals as goal

pub returns-in-Some : goal.returns-in-Some
returns-in-Some c = λ small.
    let below : c.in-Some.bound < size_limit = grind (arith, nat_tests, small) in
    combined_row_within (nat_abs c.args.denominator) (size_limit - 1) c.args.coefficients.now c.args.positions.now c.args.rows.now (λ k.
    subst (λ z. nat_abs (combined (nat_abs z) c.args.coefficients.now c.args.positions.now c.args.rows.now k) ≤ size_limit - 1) (to_z-of_z w64 c.args.denominator c.ranges.denominator)
    (omega (arith, below, c.in-Some.ensures k)))
