use Rattle.std.proofs.Common.{◌≡◌, ◌+◌, ◌≤◌, sym, ◌∙◌, subst}
use Rattle.std.proofs.lemmas.List.{get_or_default}
use Rattle.tableau.specs.Elimination.{entry, zero_ℚ}
use Rattle.integer_tableau.specs.Scales.{scale_at, scaled_by}
use Rattle.integer_tableau.specs.Small.{IsOver}
use Rattle.scaled_program.proofs.FromCode.{scale_is}
use Rattle.scaled_program.proofs.NumbersRead.{denominator_fits, numerator_fits, one_more_from}
use Rattle.scaled_program.proofs.unscaling.unscaled_row.Goals as goal

-- the number that is read
module _ (c : goal.After-of) where
  number_is : c.index-numbers-i.result ≡ entry c.args.numbers.now c.loop-i.i
  number_is = c.index-numbers-i.is ∙ get_or_default c.args.numbers.now c.loop-i.i c.index-numbers-i.result zero_ℚ c.loop-i-test.true

  is_over : IsOver c.requires.small.denominator c.args.scales.now.greatest c.index-numbers-i.result
  is_over = subst (IsOver c.requires.small.denominator c.args.scales.now.greatest) (sym number_is) (c.requires.small.numbers c.loop-i.i)

pub scaled_by-requires-clause-numerator : goal.scaled_by-requires-clause-numerator
scaled_by-requires-clause-numerator c =
    let s = c.requires.small in
    let m = c.args.scales.now in
    numerator_fits s.denominator m.greatest c.index-numbers-i.result s.positive s.small (is_over c) c.of.result
    (subst (λ n. n ≤ m.greatest) (sym c.of.ensures) (scale_is m.greatest m.rows.items.value.items m.costs c.requires.scales c.args.columns (c.args.first + c.loop-i.i)).1)

pub scaled_by-requires-clause-denominator : goal.scaled_by-requires-clause-denominator
scaled_by-requires-clause-denominator c =
    let s = c.requires.small in
    denominator_fits s.denominator c.args.scales.now.greatest c.index-numbers-i.result s.positive s.small (is_over c) c.args.unit c.requires.unit_small

pub loop-i-preserved : goal.loop-i-preserved
loop-i-preserved c =
    let scales = c.args.scales.now.rows.items.value.items in
    c.in_ok-push.ensures.items
    ∙ one_more_from (λ j x. scaled_by (scale_at c.args.columns scales j) c.args.unit x) c.args.first c.loop-i.all.items c.args.numbers.now c.loop-i.i c.scaled_by.result zero_ℚ c.loop-i-test.true c.loop-i.invariant
    (c.scaled_by.ensures
    ∙ (λ i. scaled_by (c.of.ensures i) c.args.unit ((c.index-numbers-i.is ∙ get_or_default c.args.numbers.now c.loop-i.i c.index-numbers-i.result zero_ℚ c.loop-i-test.true) i)))
