use Rattle.std.proofs.Common.{◌≡◌, ◌+◌, [], length, sym, subst, nat_abs, get_or, ◌-◌, w64, to_z, of_z}
use Rattle.std.proofs.lemmas.Int.{to_z-of_z}
use Rattle.integer_tableau.proofs.Combining.{combination_small}
use Rattle.integer_tableau.specs.BasicColumns.{HaveRows}
use Rattle.integer_tableau.specs.Combined.{combined_row}
use Rattle.integer_tableau.specs.Numbers.{IsWithin}
use Rattle.integer_tableau.specs.Range.{size_limit}
use Rattle.integer_tableau.specs.declared.position.Position.TheVariants.{InBasis}
use Rattle.integer_tableau.proofs.combined_sizes.are_combinations_small.Goals as goal

pub returns-then-are_bounds_small-clause-small : goal.returns-then-are_bounds_small-clause-small
returns-then-are_bounds_small-clause-small c = λ ok i l basic.
    subst (λ z. IsWithin (size_limit - 1) (combined_row (nat_abs z) c.args.positions.now c.args.rows.now (get_or c.args.program_rows.now i []))) (to_z-of_z w64 c.args.denominator c.ranges.denominator)
    (combination_small _ c.args.weight (get_or c.args.program_rows.now i []) c.args.positions.now c.args.rows.now (c.requires.weights i l) (c.if-are_bounds_small.ensures ok))

pub returns-then-are_bounds_small-2-clause-small : goal.returns-then-are_bounds_small-2-clause-small
returns-then-are_bounds_small-2-clause-small c = λ ok i l basic.
    subst (λ z. IsWithin (size_limit - 1) (combined_row (nat_abs z) c.args.positions.now c.args.rows.now (get_or c.args.program_rows.now i []))) (to_z-of_z w64 c.args.denominator c.ranges.denominator)
    (subst (λ rows. IsWithin (size_limit - 1) (combined_row (nat_abs (to_z w64 (of_z w64 c.args.denominator))) c.args.positions.now rows (get_or c.args.program_rows.now i []))) c.look_at_all.ensures
    (combination_small _ c.args.weight (get_or c.args.program_rows.now i []) c.args.positions.now c.look_at_all.new.rows (c.requires.weights i l) (c.are_bounds_small-2.ensures ok)))

pub are_bounds_small-requires-2-clause-listed : goal.are_bounds_small-requires-2-clause-listed
are_bounds_small-requires-2-clause-listed c = subst (HaveRows c.args.basic_columns.now) (sym c.look_at_all.ensures) c.requires.listed

pub are_small_by_look-requires-clause-listed : goal.are_small_by_look-requires-clause-listed
are_small_by_look-requires-clause-listed c = subst (HaveRows c.args.basic_columns.now) (sym c.look_at_all.ensures) c.requires.listed

pub returns-else-are_bounds_small-2-clause-small : goal.returns-else-are_bounds_small-2-clause-small
returns-else-are_bounds_small-2-clause-small c = λ ok i l basic.
    let a = c.args in
    let row = get_or a.program_rows.now i [] in
    subst (λ z. IsWithin (size_limit - 1) (combined_row (nat_abs z) a.positions.now a.rows.now row)) (to_z-of_z w64 a.denominator c.ranges.denominator)
    (subst (λ rows. get_or a.positions.now (length rows + i) InBasis ≡ InBasis → IsWithin (size_limit - 1) (combined_row (nat_abs (to_z w64 (of_z w64 a.denominator))) a.positions.now rows row)) c.look_at_all.ensures
    (c.are_small_by_look.ensures ok i l) basic)

pub returns-else-are_bounds_small-2-clause-same : goal.returns-else-are_bounds_small-2-clause-same
returns-else-are_bounds_small-2-clause-same c = c.look_at_all.ensures
