use Rattle.std.proofs.Common.{◌<◌, get_or, ap, arith, length, map, nat_abs, pos, sym, subst, ◌∙◌, w64}
use Rattle.std.proofs.lemmas.Int.{to_z-of_z}
use Rattle.integer_tableau.proofs.BasicColumns.{column_within}
use Rattle.integer_tableau.proofs.RowSums.{by_column}
use Rattle.integer_tableau.specs.Combined.{combined_value}
use Rattle.integer_tableau.specs.Leaving.{leaving_by_numerators}
use Rattle.integer_tableau.proofs.row_sums.leaving_with_sums.Goals as goal

pub returns-in-Some-clause-value : goal.returns-in-Some-clause-value
returns-in-Some-clause-value c =
    let d = nat_abs c.args.denominator in
    let ss = c.args.positions.now in
    let bs = c.args.bounds.now in
    let vs = c.args.values.now in
    by_column d ss bs vs (map (λ a. combined_value (pos d) a ss c.args.nonbasic_values.now vs) c.args.program_rows.now) _ (omega (arith, c.requires.positions_there))
    (omega (arith, c.requires.positions_there, c.requires.bounds_there))
    (c.in-Some.ensures.value ∙ ap (λ z. leaving_by_numerators (nat_abs z) 0 ss bs vs) (to_z-of_z w64 c.args.denominator c.ranges.denominator))

pub are_of_use-requires : goal.are_of_use-requires
are_of_use-requires c = λ p l.
    let n = length c.args.values.now in
    subst (λ js. p < length js → get_or js p 0 < n) (sym c.requires.basic) (λ l. omega (arith, column_within 0 n c.args.positions.now p l)) l
