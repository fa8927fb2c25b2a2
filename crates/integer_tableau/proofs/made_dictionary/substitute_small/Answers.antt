use Rattle.std.proofs.Common.{◌-◌, ◌<◌, ◌∙◌, ap, length, nat_abs, pos, refl, rules, set, subst, sym, to_z, w64}
use mir.Val.{SFits}
use Rattle.std.proofs.lemmas.Int.{to_z-of_z}
use Rattle.integer_tableau.proofs.Lists.{if_some}
use Rattle.integer_tableau.proofs.Sizes.{stays_from}
use Rattle.integer_tableau.proofs.WaysOut.{none_then}
use Rattle.integer_tableau.specs.Numbers.{IsWithin, number_at}
use Rattle.integer_tableau.specs.Range.{size_limit}
use Rattle.integer_tableau.specs.Substitution.{IsSubstituted}
use Rattle.integer_tableau.proofs.made_dictionary.substitute_small.Goals as goal

pub small_size-requires : goal.small_size-requires
small_size-requires c = c.requires.row_within

pub returns-then-pivot_size-number-clause-within : goal.returns-then-pivot_size-number-clause-within
returns-then-pivot_size-number-clause-within c = c.small_size.ensures.within

pub substitute_column-requires-clause-column : goal.substitute_column-requires-clause-column
substitute_column-requires-clause-column c = c.requires.column

pub substitute_column-requires-clause-same_width : goal.substitute_column-requires-clause-same_width
substitute_column-requires-clause-same_width c = c.requires.same_width ∙ ap length (sym c.numerators.ensures)

pub substitute_column-requires-clause-row_small : goal.substitute_column-requires-clause-row_small
substitute_column-requires-clause-row_small c = c.requires.row_small

pub substitute_column-requires-clause-source_small : goal.substitute_column-requires-clause-source_small
substitute_column-requires-clause-source_small c = subst (IsWithin (size_limit - 1)) (sym c.numerators.ensures) c.requires.source_small

pub substitute_column-requires-clause-row_within : goal.substitute_column-requires-clause-row_within
substitute_column-requires-clause-row_within c = c.requires.row_within

pub substitute_column-requires-clause-source_within : goal.substitute_column-requires-clause-source_within
substitute_column-requires-clause-source_within c = subst (IsWithin c.bound.result) (sym c.numerators.ensures) c.bound.ensures

pub substitute_column-requires-clause-pivot_size_small : goal.substitute_column-requires-clause-pivot_size_small
substitute_column-requires-clause-pivot_size_small c = subst (λ z. nat_abs z < size_limit) (sym (to_z-of_z w64 c.args.pivot_size c.ranges.pivot_size)) c.requires.pivot_size_small

pub returns-in_err-bound-clause-row : goal.returns-in_err-bound-clause-row
returns-in_err-bound-clause-row c = none_then c.from_residual.result _ c.from_residual.ensures

pub returns-in_err-bound-clause-within : goal.returns-in_err-bound-clause-within
returns-in_err-bound-clause-within c = none_then c.from_residual.result _ c.from_residual.ensures

pub small_size-requires-2 : goal.small_size-requires-2
small_size-requires-2 c = c.in_ok-bound.ensures.within

pub returns-clause-row : goal.returns-clause-row
returns-clause-row c =
    let a = c.args in
    let size = to_z-of_z w64 a.pivot_size c.ranges.pivot_size in
    if_some _ _ c.small_size-2.result
    (λ b small. record {
      before = c.requires.row_small;
      after = small;
      numbers = subst (λ (T : Type 0). T)
          (λ i. IsSubstituted a.divisor.number (size i) (number_at a.row.now a.column) (set a.row.now a.column (pos 0)) (c.numerators.ensures i) c.substitute_column.new.row) (c.in_ok-bound.ensures.numbers refl);
      width = c.substitute_column.auto.row;
    })
    c.small_size-2.ensures.small

pub returns-clause-within : goal.returns-clause-within
returns-clause-within c = c.small_size-2.ensures.within

pub returns-then-pivot_size-number-clause-row : goal.returns-then-pivot_size-number-clause-row
returns-then-pivot_size-number-clause-row c =
    if_some _ _ c.small_size.result
    (λ b small.
    stays_from c.args.divisor.number c.args.pivot_size c.args.column c.args.solved.now c.args.row.now c.args.row.now refl
    (sym (to_z-of_z w64 (number_at c.args.row.now c.args.column) (let f : SFits w64 (number_at c.args.row.now c.args.column) = search rules in f)) ∙ ap (to_z w64) c.if-row-column-eq0.true)
    (sym (to_z-of_z w64 c.args.pivot_size c.ranges.pivot_size) ∙ ap (to_z w64) c.if-pivot_size-number.true
    ∙ to_z-of_z w64 c.number.result (let f : SFits w64 c.number.result = record { sfits = c.number.type_inv } in f) ∙ c.number.ensures)
    small)
    c.small_size.ensures.small
