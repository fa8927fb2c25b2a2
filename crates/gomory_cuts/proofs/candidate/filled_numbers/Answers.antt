use Rattle.std.proofs.Common.{◌≡◌, ◌<◌, ◌+◌, pos, arith, rules, ap, sym, subst, ◌∙◌, ◌++◌, length, get_or, drop, to_z, of_z}
use Rattle.std.specs.Prelude.{slice_get}
use Rattle.std.specs.Bool.{⊤}
use Rattle.std.specs.Int.{w128}
use Rattle.std.proofs.lemmas.Int.{ints, to_z-of_z}
use Rattle.std.proofs.lemmas.List.{drop_more}
use Rattle.std.proofs.lemmas.Option.{MatchOption-at_some}
use mir.Val.{SFits}
use Rattle.fraction.specs.Rational.{frac}
use Rattle.derivation_book.specs.Places.{no_span}
use Rattle.derivation_book.specs.Rounded.{is_zero, nonzero_terms}
use Rattle.derivation_book.specs.Lemmas.OptionChains.{next_there}
use Rattle.tableau.specs.Tableau.{status_of}
use Rattle.dual_simplex.specs.Relaxation.{rational_at}
use Rattle.gomory_cuts.specs.Candidate.{fractions, counted, counted_columns, side_with, filled_side}
use Rattle.gomory_cuts.proofs.Columns.{HasColumn, next_terms, next_side, zero_column, zero_side, last_terms, last_side}
use Rattle.gomory_cuts.proofs.candidate.filled_numbers.Goals as goal
use Rattle.gomory_cuts.proofs.candidate.filled_numbers.Goals.{then-numerator-ne0+in_ok-added+in-Some, else-numerator-ne0}

pub loop-column-init : goal.loop-column-init
loop-column-init c = record {
  terms = ap (λ ts. ts ++ nonzero_terms 0 (counted_columns c.args.point.now c.args.tableau.now 0 (fractions c.args.numerators.now.denominator c.args.numerators.now.coefficients.items))) c.in_ok-terms.ensures;
  side = ap (λ s. filled_side c.args.tableau.now 0 (fractions c.args.numerators.now.denominator c.args.numerators.now.coefficients.items) c.args.problem.now.spans (frac s c.args.numerators.now.denominator)) (omega (arith, ints));
}

pub loop-column-preserved : goal.loop-column-preserved
loop-column-preserved c =
    let d = c.args.numerators.now.denominator in
    let t = c.args.tableau.now in
    let ss = c.args.problem.now.spans in
    let zs = c.args.numerators.now.coefficients.items in
    let j = c.loop-column.column in
    let x = get_or c.deref-numerator-items.result.now j (pos 0) in
    let x_fits : SFits w128 x = search rules in
    let here = to_z-of_z w128 x x_fits in
    let is : x ≡ get_or zs j (pos 0) = ap (λ ys. get_or ys j (pos 0)) c.deref-numerator-items.ensures.value in
    let there : j < length zs = omega (arith, c.loop-column-test.true, ap length c.deref-numerator-items.ensures.value) in
    let before = to_z w128 c.loop-column.side-bits in
    elim c.if-numerator-ne0.branch [
      | then-numerator-ne0+in_ok-added+in-Some w ↦
          let s = w.in-Some.sum in
          let s_fits : SFits w128 s = search rules in
          record {
            terms = ap (λ ts. ts ++ nonzero_terms (j + 1) (counted_columns c.args.point.now t (j + 1) (fractions d (drop (j + 1) zs)))) w.terms-is
                ∙ next_terms t d j zs x there is c.args.point.now c.loop-column.terms w.add_column.new.terms
                (subst (λ y. HasColumn c.loop-column.terms w.add_column.new.terms j (counted (is_zero (rational_at c.args.point.now j)) (status_of t j) (frac y d))) here
                (subst (λ b. HasColumn c.loop-column.terms w.add_column.new.terms j (counted (is_zero (rational_at c.args.point.now j)) b (frac (to_z w128 (of_z w128 x)) d))) w.status.ensures
                (subst (λ k. HasColumn c.loop-column.terms w.add_column.new.terms j (counted k w.status.result (frac (to_z w128 (of_z w128 x)) d))) w.is_zero_at.ensures
                (MatchOption-at_some ⊤ _ s w.in-Some.is w.in_ok-added.ensures.terms))))
                ∙ c.loop-column.invariant.terms;
            side = ap (λ y. filled_side t (j + 1) (fractions d (drop (j + 1) zs)) (drop (j + 1) ss) (frac y d)) (w.side-is ∙ to_z-of_z w128 s s_fits)
                ∙ next_side t d j zs x there is ss w.span.result (frac before d) (frac s d) (next_there ss j w.span.result (ap (λ us. slice_get us j) (sym w.root.ensures) ∙ w.span.ensures))
                (MatchOption-at_some ⊤ _ s w.in-Some.is w.in_ok-added.ensures.side ∙ (λ i. side_with (w.status.ensures i) (frac (here i) d) w.span.result (frac before d)))
                ∙ c.loop-column.invariant.side;
          }
      | else-numerator-ne0 w ↦
          let zero : x ≡ pos 0 = sym here ∙ ap (to_z w128) w.if-numerator-ne0.false in
          record {
            terms = ap (λ ts. ts ++ nonzero_terms (j + 1) (counted_columns c.args.point.now t (j + 1) (fractions d (drop (j + 1) zs)))) w.terms-is
                ∙ next_terms t d j zs x there is c.args.point.now c.loop-column.terms c.loop-column.terms (zero_column c.loop-column.terms j (is_zero (rational_at c.args.point.now j)) (status_of t j) x d c.requires.positive zero)
                ∙ c.loop-column.invariant.terms;
            side = ap (λ y. filled_side t (j + 1) (fractions d (drop (j + 1) zs)) (drop (j + 1) ss) (frac y d)) w.side-is
                ∙ next_side t d j zs x there is ss (get_or ss j no_span) (frac before d) (frac before d) (drop_more ss j no_span (omega (arith, there, c.requires.long)))
                (zero_side (status_of t j) x d (get_or ss j no_span) (frac before d) c.requires.positive zero)
                ∙ c.loop-column.invariant.side;
          }
    ]

pub returns-clause-terms : goal.returns-clause-terms
returns-clause-terms c =
    sym (last_terms c.args.point.now c.args.tableau.now c.args.numerators.now.denominator c.loop-column.column c.args.numerators.now.coefficients.items c.loop-column.terms (omega (arith, c.loop-column-test.false, ap length c.deref-numerator-items.ensures.value)))
    ∙ c.loop-column.invariant.terms

pub returns-clause-side : goal.returns-clause-side
returns-clause-side c =
    sym (last_side c.args.tableau.now c.args.numerators.now.denominator c.loop-column.column c.args.numerators.now.coefficients.items _ _ (omega (arith, c.loop-column-test.false, ap length c.deref-numerator-items.ensures.value)))
    ∙ c.loop-column.invariant.side
