use Rattle.std.proofs.Common.{ap, nat_abs, refl, sym, subst, ◌-◌, ◌∙◌, w64}
use Rattle.std.proofs.lemmas.Int.{to_z-of_z}
use Rattle.integer_tableau.proofs.Expanded.{row_made}
use Rattle.integer_tableau.specs.Combined.{combined_row}
use Rattle.integer_tableau.specs.Numbers.{IsWithin}
use Rattle.integer_tableau.specs.Range.{size_limit}
use Rattle.integer_tableau.proofs.pivot.put_row.Goals as goal

pub returns : goal.returns
returns c = λ ok _.
    row_made (nat_abs c.args.denominator) c.args.program_rows.now c.args.positions.now c.args.rows.now c.requires.positions_there c.args.leaving c.index-program_rows-leaving.result c.combine_small.new.self
    c.if-leaving-columns.false c.requires.leaving_there c.requires.basic c.index-program_rows-leaving.is
    (c.combine_small.ensures ok ∙ ap (λ z. combined_row (nat_abs z) c.args.positions.now c.args.rows.now c.index-program_rows-leaving.result) (to_z-of_z w64 c.args.denominator c.ranges.denominator))

pub combine_small-requires-clause-small : goal.combine_small-requires-clause-small
combine_small-requires-clause-small c =
    let a = c.args in
    let p = c.index-program_rows-leaving.result in
    subst (λ z. IsWithin (size_limit - 1) (combined_row (nat_abs z) a.positions.now a.rows.now p)) (sym (to_z-of_z w64 a.denominator c.ranges.denominator))
    (subst (IsWithin (size_limit - 1)) (sym (row_made (nat_abs a.denominator) a.program_rows.now a.positions.now a.rows.now c.requires.positions_there a.leaving p
    (combined_row (nat_abs a.denominator) a.positions.now a.rows.now p) c.if-leaving-columns.false c.requires.leaving_there c.requires.basic c.index-program_rows-leaving.is refl)) c.requires.small)
