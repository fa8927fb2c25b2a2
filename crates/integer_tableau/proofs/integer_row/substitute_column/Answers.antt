use Rattle.std.proofs.Common.{◌+ℤ◌, ◌*ℤ◌, ◌∙◌, arith, pos, refl, rules, set, w64}
use mir.Val.{SFits}
use Rattle.std.proofs.lemmas.Int.{ints, to_z-of_z}
use Rattle.integer_tableau.proofs.Sizes.{substituted_within}
use Rattle.integer_tableau.specs.Numbers.{number_at}
use Rattle.integer_tableau.proofs.integer_row.substitute_column.Goals as goal

pub returns-in-Some-clause-within : goal.returns-in-Some-clause-within
returns-in-Some-clause-within c =
    substituted_within c.args.row.now c.args.source.now c.substitute.new.row c.args.divisor.number _ _ _ c.args.column c.args.row_size c.args.source_size c.in-Some.size
    (to_z-of_z w64 c.number.result (let f : SFits w64 c.number.result = record { sfits = c.number.type_inv } in f) ∙ c.number.ensures)
    (omega (arith, ints, c.args.divisor.positive)) c.requires.row_within c.requires.source_within (c.if-not-substitute.ensures refl) c.in-Some.ensures

pub returns-in-Some-clause-numbers : goal.returns-in-Some-clause-numbers
returns-in-Some-clause-numbers c = λ _ k.
    let a = c.args in
    let factor = number_at a.row.now a.column in
    let f : SFits w64 factor = search rules in
    c.if-not-substitute.ensures refl k
    ∙ (λ i. number_at (set a.row.now a.column (pos 0)) k *ℤ to_z-of_z w64 a.pivot_size c.ranges.pivot_size i +ℤ number_at a.source.now k *ℤ to_z-of_z w64 factor f i)

pub returns-in-None-clause-numbers : goal.returns-in-None-clause-numbers
returns-in-None-clause-numbers c = λ _ k.
    let a = c.args in
    let factor = number_at a.row.now a.column in
    let f : SFits w64 factor = search rules in
    c.if-not-substitute.ensures refl k
    ∙ (λ i. number_at (set a.row.now a.column (pos 0)) k *ℤ to_z-of_z w64 a.pivot_size c.ranges.pivot_size i +ℤ number_at a.source.now k *ℤ to_z-of_z w64 factor f i)

pub returns-in-None-clause-within : goal.returns-in-None-clause-within
returns-in-None-clause-within c = c.greatest_size.ensures
