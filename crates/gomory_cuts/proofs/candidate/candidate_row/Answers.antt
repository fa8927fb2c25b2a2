use Rattle.std.proofs.Common.{sym, ap, ◌∙◌, subst, rules}
use Rattle.std.specs.Int.{w128}
use Rattle.std.proofs.lemmas.Int.{to_z-of_z}
use mir.Val.{SFits}
use Rattle.fraction.specs.Rational.{whole, frac, ceil}
use Rattle.problem.specs.declared.row.Sense.TheVariants.{G}
use Rattle.std.specs.Bool.{⊤}
use Rattle.std.proofs.lemmas.Option.{MatchOption-at_some}
use Rattle.problem.specs.Rising.{AreRising, AreNonzero}
use Rattle.derivation_book.specs.Lemmas.Rounded.{terms_rise, terms_nonzero}
use Rattle.gomory_cuts.specs.Candidate.{fractions, counted_columns}
use Rattle.gomory_cuts.proofs.Columns.{row_over}
use Rattle.gomory_cuts.proofs.candidate.candidate_row.Goals as goal

pub make-requires-clause-rising : goal.make-requires-clause-rising
make-requires-clause-rising c =
    let terms = MatchOption-at_some ⊤ _ (c.in-Some.terms, c.in-Some.side) c.in-Some.is c.in_ok-terms.ensures.terms in
    subst AreRising (sym terms) (terms_rise 0 (counted_columns c.args.point.now c.args.tableau.now 0 (fractions c.args.numerators.now.denominator c.args.numerators.now.coefficients.items)))

pub make-requires-clause-nonzero : goal.make-requires-clause-nonzero
make-requires-clause-nonzero c =
    let terms = MatchOption-at_some ⊤ _ (c.in-Some.terms, c.in-Some.side) c.in-Some.is c.in_ok-terms.ensures.terms in
    subst AreNonzero (sym terms) (terms_nonzero 0 (counted_columns c.args.point.now c.args.tableau.now 0 (fractions c.args.numerators.now.denominator c.args.numerators.now.coefficients.items)))

pub returns-in-Some-rounded_side : goal.returns-in-Some-rounded_side
returns-in-Some-rounded_side c =
    let n = c.args.numerators.now in
    let side_fits : SFits w128 c.in-Some.side = search rules in
    c.make.ensures
    ∙ (λ i. record { sense = G; rhs = (c.in-Some-rounded_side.ensures ∙ ap (λ y. whole (ceil (frac y n.denominator))) (to_z-of_z w128 c.in-Some.side side_fits)) i; terms = c.in-Some.terms })
    ∙ row_over c.args.point.now c.args.tableau.now c.args.problem.now.spans n.denominator n.coefficients.items n.side c.in-Some.side c.in-Some.terms
    (MatchOption-at_some ⊤ _ (c.in-Some.terms, c.in-Some.side) c.in-Some.is c.in_ok-terms.ensures.terms)
    (MatchOption-at_some ⊤ _ (c.in-Some.terms, c.in-Some.side) c.in-Some.is c.in_ok-terms.ensures.side)
