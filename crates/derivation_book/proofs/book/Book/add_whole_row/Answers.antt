use Rattle.std.proofs.Common.{◌≡◌, ◌∙◌, ap, sym, subst, map, rules}
use Rattle.std.specs.Prelude.{slice_get, slice_index_or}
use Rattle.std.specs.Int.{w64}
use Rattle.std.proofs.lemmas.Int.{to_z-of_z}
use Rattle.std.proofs.lemmas.Option.{slice_get-map, get_or_from_slice_get}
use mir.Val.{SFits, to_z, of_z}
use Rattle.fraction.specs.Rational.{whole}
use Rattle.cert_rows.specs.Lines.{row_at, no_cert_line}
use Rattle.cert_rows.specs.Validity.{lower_row, upper_row}
use Rattle.derivation_book.specs.declared.cut.Cut.{Cut}
use Rattle.derivation_book.specs.Known.{known_lines}
use Rattle.derivation_book.specs.Adding.{row_added}
use Rattle.derivation_book.specs.OverOne.{IsWholeRow}
use Rattle.derivation_book.specs.Places.{no_span, lower_row_at, upper_row_at}
use Rattle.derivation_book.proofs.WholeSums.{lower_is_whole, upper_is_whole}
use Rattle.derivation_book.proofs.book.Book.add_whole_row.Goals as goal
use Rattle.derivation_book.proofs.book.Book.add_whole_row.Goals.{After-cut}

pub returns-in-Lower-clause-added : goal.returns-in-Lower-clause-added
returns-in-Lower-clause-added c = λ t.
    let spans = c.args.problem.now.spans in
    let k = c.in-Lower.column in
    let b = c.span.result.lo in
    let b_fits : SFits w64 b = search rules in
    let there : slice_index_or spans k no_span ≡ c.span.result = get_or_from_slice_get spans k c.span.result no_span (ap (λ ss. slice_get ss k) (sym c.root.ensures) ∙ c.span.ensures) in
    let row : lower_row_at k (to_z w64 (of_z w64 b)) ≡ row_at (known_lines c.args.problem.now c.args.self.now.cuts) c.args.number =
    ap (lower_row_at k) (to_z-of_z w64 b b_fits) ∙ ap (lower_row k) (sym there) ∙ c.in-Lower.ensures.row in
    (λ i. row_added c.args.sums.now (whole (sym (to_z-of_z w64 c.args.factor c.ranges.factor) i)) (sym row i)) ∙ c.add_bound.ensures.lower t

pub returns-in-Lower-clause-whole : goal.returns-in-Lower-clause-whole
returns-in-Lower-clause-whole c = λ q. lower_is_whole c.args.problem.now c.args.self.now.cuts c.place.result c.in-Lower.column _ c.in-Lower.is c.place.ensures.row

pub returns-in-Upper-clause-added : goal.returns-in-Upper-clause-added
returns-in-Upper-clause-added c = λ t.
    let spans = c.args.problem.now.spans in
    let k = c.in-Upper.column in
    let b = c.span-in-Upper.result.hi in
    let b_fits : SFits w64 b = search rules in
    let there : slice_index_or spans k no_span ≡ c.span-in-Upper.result =
    get_or_from_slice_get spans k c.span-in-Upper.result no_span (ap (λ ss. slice_get ss k) (sym c.root-in-Upper.ensures) ∙ c.span-in-Upper.ensures) in
    let row : upper_row_at k (to_z w64 (of_z w64 b)) ≡ row_at (known_lines c.args.problem.now c.args.self.now.cuts) c.args.number =
    ap (upper_row_at k) (to_z-of_z w64 b b_fits) ∙ ap (upper_row k) (sym there) ∙ c.in-Upper.ensures.row in
    (λ i. row_added c.args.sums.now (whole (sym (to_z-of_z w64 c.args.factor c.ranges.factor) i)) (sym row i)) ∙ c.add_bound-in-Upper.ensures.upper t

pub returns-in-Upper-clause-whole : goal.returns-in-Upper-clause-whole
returns-in-Upper-clause-whole c = λ q. upper_is_whole c.args.problem.now c.args.self.now.cuts c.place.result c.in-Upper.column _ c.in-Upper.is c.place.ensures.row

-- the row of the cut
cut_is : (c : After-cut) → c.cut.result.now ≡ row_at (known_lines c.args.problem.now c.args.self.now.cuts) c.args.number
cut_is c =
    sym (get_or_from_slice_get (map (λ (d : Cut). d.row) c.args.self.now.cuts) c.in-OfCut.index c.cut.result.now no_cert_line.row
    (slice_get-map (λ (d : Cut). d.row) c.args.self.now.cuts c.in-OfCut.index ∙ c.cut.ensures.row))
    ∙ c.in-OfCut.ensures.row

pub returns-in-OfCut-clause-added : goal.returns-in-OfCut-clause-added
returns-in-OfCut-clause-added c = λ t.
    let row = cut_is (goal.at.returns-in-OfCut-clause-added c).After-cut in
    (λ i. row_added c.args.sums.now (whole (sym (to_z-of_z w64 c.args.factor c.ranges.factor) i)) (sym row i)) ∙ c.add_row-in-OfCut.ensures.added t

pub returns-in-OfCut-clause-whole : goal.returns-in-OfCut-clause-whole
returns-in-OfCut-clause-whole c = λ q. subst IsWholeRow (cut_is (goal.at.returns-in-OfCut-clause-whole c).After-cut) (c.add_row-in-OfCut.ensures.whole q)
