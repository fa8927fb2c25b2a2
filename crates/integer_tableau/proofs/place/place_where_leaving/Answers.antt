use Rattle.std.proofs.Common.{ap, length, nat_abs, refl, sym, subst, None, ◌-◌, ◌∙◌, w64}
use Rattle.std.proofs.lemmas.Int.{to_z-of_z}
use Rattle.integer_tableau.proofs.Combining.{length-numbers_from}
use Rattle.integer_tableau.proofs.Expanded.{row_made}
use Rattle.integer_tableau.specs.Combined.{combined_row}
use Rattle.integer_tableau.specs.Numbers.{IsWithin}
use Rattle.integer_tableau.specs.Range.{size_limit}
use Rattle.integer_tableau.specs.Entering.{entering_by_numerators}
use Rattle.integer_tableau.specs.Place.{place_of_candidate}
use Rattle.integer_tableau.proofs.place.place_where_leaving.Goals as goal

pub returns-clause-value : goal.returns-clause-value
returns-clause-value c =
    c.place_by_row-2.ensures.value
    ∙ ap (λ row. place_of_candidate c.args.leaving (entering_by_numerators 0 c.args.direction None c.args.positions.now c.args.at_upper.now c.args.bounds.now c.args.reduced_costs.now row))
    (row_made (nat_abs c.args.denominator) c.args.program_rows.now c.args.positions.now c.args.rows.now c.requires.positions_there c.args.leaving c.index-program_rows-leaving.result c.combine_small.new.self
    c.if-leaving-columns.false c.requires.leaving_there c.in-InBasis.is c.index-program_rows-leaving.is
    (c.if-not-combine_small.ensures refl ∙ ap (λ z. combined_row (nat_abs z) c.args.positions.now c.args.rows.now c.index-program_rows-leaving.result) (to_z-of_z w64 c.args.denominator c.ranges.denominator)))

pub place_by_row-requires-2-clause-row_there : goal.place_by_row-requires-2-clause-row_there
place_by_row-requires-2-clause-row_there c = ap length (c.if-not-combine_small.ensures refl) ∙ length-numbers_from 0 (length c.args.rows.now) _ ∙ c.requires.rows_there

pub combine_small-requires-clause-small : goal.combine_small-requires-clause-small
combine_small-requires-clause-small c =
    let a = c.args in
    let p = c.index-program_rows-leaving.result in
    subst (λ z. IsWithin (size_limit - 1) (combined_row (nat_abs z) a.positions.now a.rows.now p)) (sym (to_z-of_z w64 a.denominator c.ranges.denominator))
    (subst (IsWithin (size_limit - 1)) (sym (row_made (nat_abs a.denominator) a.program_rows.now a.positions.now a.rows.now c.requires.positions_there a.leaving p
    (combined_row (nat_abs a.denominator) a.positions.now a.rows.now p) c.if-leaving-columns.false c.requires.leaving_there c.in-InBasis.is c.index-program_rows-leaving.is refl)) c.requires.small)

pub returns-clause-row : goal.returns-clause-row
returns-clause-row c = λ _.
    row_made (nat_abs c.args.denominator) c.args.program_rows.now c.args.positions.now c.args.rows.now c.requires.positions_there c.args.leaving c.index-program_rows-leaving.result c.combine_small.new.self
    c.if-leaving-columns.false c.requires.leaving_there c.in-InBasis.is c.index-program_rows-leaving.is
    (c.if-not-combine_small.ensures refl ∙ ap (λ z. combined_row (nat_abs z) c.args.positions.now c.args.rows.now c.index-program_rows-leaving.result) (to_z-of_z w64 c.args.denominator c.ranges.denominator))
