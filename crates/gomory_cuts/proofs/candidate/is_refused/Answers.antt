use Rattle.std.proofs.Common.{sym, ap, ◌∙◌, subst, map, length}
use Rattle.std.specs.Bool.{⊤}
use Rattle.std.proofs.lemmas.Option.{MatchOption-at_some}
use Rattle.fraction.specs.Rational.{whole}
use Rattle.problem.specs.declared.row.Row.{Row}
use Rattle.problem.specs.Rising.{AreRising}
use Rattle.derivation_book.specs.Known.{known_lines}
use Rattle.derivation_book.specs.Sums.{sums_of, combined}
use Rattle.derivation_book.specs.OverOne.{sums_over}
use Rattle.derivation_book.specs.Lemmas.Rounded.{terms_rise}
use Rattle.gomory_cuts.specs.Candidate.{counted_columns}
use Rattle.gomory_cuts.proofs.Candidates.{IsSatisfied, refused}
use Rattle.gomory_cuts.proofs.Columns.{as_long}
use Rattle.gomory_cuts.proofs.candidate.is_refused.Goals as goal

pub candidate_row-requires-clause-long : goal.candidate_row-requires-clause-long
candidate_row-requires-clause-long c =
    let n = c.in-Some.numerators in
    as_long c.args.problem.now c.args.book.now.cuts c.as_slice.result.now n.denominator n.coefficients.items n.side (MatchOption-at_some ⊤ _ n c.in-Some.is c.in_ok-numerators.ensures.sums)

pub is_satisfied-requires : goal.is_satisfied-requires
is_satisfied-requires c =
    let n = c.in-Some.numerators in
    subst (λ (r : Row). AreRising r.terms) (sym (MatchOption-at_some ⊤ _ c.in-Some-2.row c.in-Some-2.is c.in_ok-row.ensures))
    (terms_rise 0 (counted_columns c.args.point.now c.args.tableau.now 0 (sums_over n.denominator (sums_of (map whole n.coefficients.items) (whole n.side))).coefficients))

pub returns-in-Some-2 : goal.returns-in-Some-2
returns-in-Some-2 c =
    let n = c.in-Some.numerators in
    let e = MatchOption-at_some ⊤ _ c.in-Some-2.row c.in-Some-2.is c.in_ok-row.ensures in
    λ b. refused c.args.problem.now c.args.book.now.cuts c.args.tableau.now c.args.point.now c.args.of_rows.now c.args.of_cuts.now _
    (ap (λ m. combined (known_lines c.args.problem.now c.args.book.now.cuts) m (length c.args.problem.now.spans)) (sym (c.as_slice.ensures ∙ c.in_ok-plain.ensures))
    ∙ MatchOption-at_some ⊤ _ n c.in-Some.is c.in_ok-numerators.ensures.sums)
    (subst (IsSatisfied c.args.point.now) e (c.is_satisfied.ensures b))
