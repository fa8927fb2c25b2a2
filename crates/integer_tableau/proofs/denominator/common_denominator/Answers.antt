use Rattle.std.proofs.Common.{◌≤◌, ◌+◌, ◌<ℤ◌, [], length, get_or, nat_abs, pos, refl, arith, ap, sym, subst, ◌∙◌, w64, to_z, of_z}
use Rattle.std.proofs.lemmas.Int.{to_z-of_z}
use Rattle.integer_tableau.specs.Combined.{combined_value, expanded, value_numerator}
use Rattle.integer_tableau.specs.Denominator.{HasDenominator}
use Rattle.integer_tableau.specs.IntegerTableau.{tableau_of}
use Rattle.integer_tableau.specs.Numbers.{number_at}
use Rattle.integer_tableau.specs.Range.{size_limit}
use Rattle.integer_tableau.specs.declared.position.Position.TheVariants.{InBasis}
use Rattle.integer_tableau.proofs.Denominators.{has_denominator}
use Rattle.integer_tableau.proofs.FromCode.{near_from_code}
use Rattle.integer_tableau.proofs.denominator.common_denominator.Goals as goal

pub greatest_numerator-greatest-requires : goal.greatest_numerator-greatest-requires
greatest_numerator-greatest-requires c =
    let a = c.args in
    let w = c.requires.parts.1 in
    let k = c.requires.parts.2 in
    let s = c.requires.parts.3 in
    record {
      positions_there = omega (arith, k.values, k.variables, ap length s.positions_are, ap length s.values_are);
      nonbasic_values_there = omega (arith, k.values, k.variables, k.consistent.nonbasic_values, ap length s.nonbasic_values_are, ap length s.values_are);
      near = near_from_code a.program_rows.now a.weight c.requires.parts.0 w k a.nonbasic_values.now a.values.now _ s.nonbasic_values_are s.values_are (ap nat_abs (to_z-of_z w64 a.denominator c.ranges.denominator) ∙ s.denominator_is);
    }

pub are_rows_small-requires : goal.are_rows_small-requires
are_rows_small-requires c =
    let a = c.args in
    let w = c.requires.parts.1 in
    let k = c.requires.parts.2 in
    let s = c.requires.parts.3 in
    record {
      positions_there = omega (arith, k.values, k.variables, ap length s.positions_are, ap length s.values_are);
      nonbasic_values_there = omega (arith, k.consistent.nonbasic_values, ap length s.positions_are, ap length s.nonbasic_values_are);
      full = λ i l. k.full i l ∙ sym (ap length s.values_are ∙ k.values);
      light = λ i l. omega (arith, k.weights i l, k.light);
      weights = λ i l. k.weights i l;
      near = near_from_code a.program_rows.now a.weight c.requires.parts.0 w k a.nonbasic_values.now a.values.now _ s.nonbasic_values_are s.values_are (ap nat_abs (to_z-of_z w64 a.denominator c.ranges.denominator) ∙ s.denominator_is);
      greatest = c.greatest_numerator-greatest.ensures;
    }

pub returns : goal.returns
returns c = λ reach columns numbers w k s.
    let a = c.args in
    let ps = a.program_rows.now in
    let is = to_z-of_z w64 a.denominator c.ranges.denominator in
    let dd = to_z w64 (of_z w64 a.denominator) in
    subst (λ d. HasDenominator d (tableau_of columns numbers (expanded ps w))) (sym (c.unsigned_abs.ensures.value ∙ ap nat_abs is ∙ s.denominator_is))
    (has_denominator columns numbers ps a.weight reach w dd k (subst (λ z. pos 0 <ℤ z) (sym is) c.requires.positive) (ap nat_abs is ∙ s.denominator_is)
    (λ j l. subst (λ m. m ≤ size_limit)
    (λ i. nat_abs (value_numerator dd (get_or (s.positions_are i) j InBasis) (number_at (s.nonbasic_values_are i) j) (number_at (s.values_are i) j)))
    (omega (arith, c.greatest_numerator-greatest.ensures j (omega (arith, l, ap length s.values_are)), c.if-greatest-gt-SIZE_LIMIT.false)))
    (λ j l. subst (λ m. m ≤ size_limit)
    (λ i. nat_abs (value_numerator dd (get_or (s.positions_are i) (length (s.values_are i) + j) InBasis) (number_at (s.nonbasic_values_are i) (length (s.values_are i) + j))
    (combined_value dd (get_or ps j []) (s.positions_are i) (s.nonbasic_values_are i) (s.values_are i))))
    (c.if-not-are_rows_small.ensures refl j l)))
