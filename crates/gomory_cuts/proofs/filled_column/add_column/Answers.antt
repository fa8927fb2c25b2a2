use Rattle.std.proofs.Common.{arith, ◌≡◌, ◌∙◌, ap, sym, subst, refl, rules, pos, to_z, of_z}
use Rattle.std.specs.Prelude.{if◌then◌else◌, ◌+ℤ◌, ◌*ℤ◌}
use Rattle.std.specs.Int.{w64, w128}
use Rattle.std.proofs.lemmas.Int.{ints, to_z-of_z}
use Rattle.std.specs.Bool.{⊤}
use Rattle.std.proofs.lemmas.Option.{MatchOption-at_some}
use mir.Val.{SFits}
use Rattle.fraction.specs.Rational.{whole, frac, ◌+ℚ◌, ◌*ℚ◌, neg_ℚ}
use Rattle.tableau.specs.Elimination.{zero_ℚ}
use Rattle.gomory_cuts.specs.Candidate.{whole_to, bound_at, counted}
use Rattle.gomory_cuts.proofs.Columns.{HasColumn, side_over, if_some, no_bound, without_zero}
use Rattle.gomory_cuts.proofs.filled_column.add_column.Goals as goal

pub returns-clause-terms : goal.returns-clause-terms
returns-clause-terms c =
    let d = c.args.denominator in
    let w = c.filled_numerator-filled.result.coefficient in
    let short_fits : SFits w64 c.in-Ok.short = search rules in
    let w_fits : SFits w128 w = search rules in
    let number : to_z w64 (of_z w64 c.in-Ok.short) ≡ c.args.numerator = to_z-of_z w64 c.in-Ok.short short_fits ∙ c.in-Ok.ensures.1 ∙ to_z-of_z w128 c.args.numerator c.ranges.numerator in
    if_some c.with_bound.result _ (λ s e.
    subst (HasColumn c.args.terms.now c.push_counted.new.terms c.args.column)
    (ap (λ y. if c.args.at_zero then zero_ℚ else whole y) (to_z-of_z w128 w w_fits ∙ c.filled_numerator-filled.ensures.coefficient ∙ ap (λ y. whole_to c.args.status (frac y d)) number))
    c.in_ok-push_counted.ensures)

pub returns-clause-side : goal.returns-clause-side
returns-clause-side c =
    let d = c.args.denominator in
    let w = c.filled_numerator-filled.result.coefficient in
    let f = c.filled_numerator-filled.result.filling in
    let b = c.bound_at-bound.result in
    let short_fits : SFits w64 c.in-Ok.short = search rules in
    let f_fits : SFits w64 f = search rules in
    let b_fits : SFits w64 b = search rules in
    let number : to_z w64 (of_z w64 c.in-Ok.short) ≡ c.args.numerator = to_z-of_z w64 c.in-Ok.short short_fits ∙ c.in-Ok.ensures.1 ∙ to_z-of_z w128 c.args.numerator c.ranges.numerator in
    let coefficient : w ≡ whole_to c.args.status (frac c.args.numerator d) = c.filled_numerator-filled.ensures.coefficient ∙ ap (λ y. whole_to c.args.status (frac y d)) number in
    let product : w *ℤ pos d ≡ c.args.numerator +ℤ f = c.filled_numerator-filled.ensures.filling ∙ ap (λ y. y +ℤ f) number in
    if_some c.with_bound.result _ (λ s e.
    ap (λ y. frac y d) (MatchOption-at_some ⊤ _ s e c.with_bound.ensures
    ∙ (λ i. to_z-of_z w128 c.args.side c.ranges.side i +ℤ to_z-of_z w64 f f_fits i *ℤ (to_z-of_z w64 b b_fits ∙ c.bound_at-bound.ensures) i))
    ∙ side_over c.args.side f (bound_at c.args.status c.args.span) w c.args.numerator d c.requires.positive product
    ∙ ap (λ y. frac c.args.side d +ℚ (whole y +ℚ neg_ℚ (frac c.args.numerator d)) *ℚ whole (bound_at c.args.status c.args.span)) coefficient)

pub returns-then-bound-eq0-clause-terms : goal.returns-then-bound-eq0-clause-terms
returns-then-bound-eq0-clause-terms c =
    subst (λ k. HasColumn c.args.terms.now c.args.terms.now c.args.column (counted k c.args.status (frac c.args.numerator c.args.denominator))) (sym c.if-at_zero.true)
    (without_zero c.args.terms.now c.args.column (pos 0) refl)

pub returns-then-bound-eq0-clause-side : goal.returns-then-bound-eq0-clause-side
returns-then-bound-eq0-clause-side c =
    ap (λ y. frac y c.args.denominator) (to_z-of_z w128 c.args.side c.ranges.side)
    ∙ no_bound c.args.status (frac c.args.numerator c.args.denominator) c.args.span (frac c.args.side c.args.denominator) (sym c.bound_at-bound.ensures ∙ omega (arith, ints, c.if-bound-eq0.true))
