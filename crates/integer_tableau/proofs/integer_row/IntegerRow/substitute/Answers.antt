use Rattle.std.proofs.Common.{◌-◌, ◌≡◌, ◌<◌, ◌∙◌, ℤ, pos, of_z, to_z, length, arith, ap, sym, refl, subst, rules, w64}
use mir.Val.{SFits}
use Rattle.std.proofs.lemmas.List.{get_or_default}
use Rattle.std.proofs.lemmas.Int.{to_z-of_z}
use Rattle.integer_tableau.proofs.Sizes.{stays_from, step_from, written}
use Rattle.integer_tableau.specs.Numbers.{IsWithin, number_at}
use Rattle.integer_tableau.specs.Range.{size_limit}
use Rattle.integer_tableau.specs.Substitution.{IsSubstitutedRow}
use Rattle.integer_tableau.proofs.integer_row.IntegerRow.substitute.Goals as goal

pub returns-in-Some : goal.returns-in-Some
returns-in-Some c = λ small.
    subst (λ e. IsSubstitutedRow c.args.divisor.number e c.args.column c.args.source.now c.args.self.now c.is_small-in-Some.new.self) (to_z-of_z w64 c.args.pivot_size c.ranges.pivot_size)
    (step_from c.args.divisor.number _ c.args.column c.args.source.now c.deref.result.now c.args.self.now c.deref_mut.result.now c.substitute_column.new.row c.is_small-in-Some.new.self
    (c.deref_mut.ensures.value ∙ c.self.view_is ∙ c.is_small.ensures.same)
    (c.deref.ensures.value ∙ c.source.view_is)
    (c.is_small-in-Some.ensures.same ∙ written c.substitute_column.new.row c.self.inside.numerators.items c.self.inside.numerators.len (c.substitute_column.auto.row ∙ c.deref_mut.ensures.len))
    (subst (IsWithin (size_limit - 1)) c.is_small.ensures.same (c.if-not-is_small.ensures.small refl))
    (c.is_small-in-Some.ensures.small small)
    (c.in-Some.ensures.numbers refl)
    c.substitute_column.auto.row)

zero_from : (z : ℤ) → SFits w64 z → of_z w64 z ≡ 0 → z ≡ pos 0
zero_from z f e = sym (to_z-of_z w64 z f) ∙ ap (to_z w64) e

pub returns-then-pivot_size-number : goal.returns-then-pivot_size-number
returns-then-pivot_size-number c = λ _.
    let row_is = c.self.view_is ∙ c.is_small.ensures.same in
    let there : c.args.column < length c.self.inside.numerators.items = omega (arith, c.requires.column, ap length row_is) in
    let fits : SFits w64 c.index.result.now = search rules in
    stays_from c.args.divisor.number c.args.pivot_size c.args.column c.args.source.now c.args.self.now c.is_small.new.self c.is_small.ensures.same
    (ap (λ xs. number_at xs c.args.column) (sym row_is) ∙ get_or_default c.self.inside.numerators.items c.args.column (pos 0) c.index.result.now there ∙ sym c.index.ensures
    ∙ zero_from c.index.result.now fits c.if-index-eq0.true)
    (sym (to_z-of_z w64 c.args.pivot_size c.ranges.pivot_size) ∙ ap (to_z w64) c.if-pivot_size-number.true
    ∙ to_z-of_z w64 c.number.result (let f : SFits w64 c.number.result = record { sfits = c.number.type_inv } in f) ∙ c.number.ensures)
    (c.if-not-is_small.ensures.small refl)
