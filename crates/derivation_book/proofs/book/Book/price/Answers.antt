use Rattle.std.proofs.Common.{◌≡◌, ◌∙◌, sym, length, Some}
use Rattle.std.specs.Bool.{⊤}
use Rattle.std.proofs.lemmas.List.{length-map}
use Rattle.std.proofs.lemmas.Option.{MatchOption-at_some}
use Rattle.derivation_book.specs.Known.{known_lines}
use Rattle.derivation_book.specs.Sums.{combined}
use Rattle.derivation_book.specs.OverOne.{over, sums_over}
use Rattle.derivation_book.specs.Lemmas.Combining.{combined_length}
use Rattle.derivation_book.proofs.book.Book.price.Goals as goal

pub price_over-requires-clause-columns : goal.price_over-requires-clause-columns
price_over-requires-clause-columns c =
    let ls = known_lines c.args.problem.now c.args.self.now.cuts in
    let ms = c.as_slice-mult.result.now in
    let n = length c.args.problem.now.spans in
    let d = c.in-Some.denominator in
    let sums = c.in-Some.sums in
    let is : combined ls ms n ≡ Some (sums_over d sums) =
    MatchOption-at_some ⊤ (λ s. combined ls ms n ≡ Some (sums_over s.0 s.1)) (d, sums) c.in-Some.is c.in_ok-denominator.ensures.sums in
    c.requires.columns ∙ sym (sym (length-map sums.coefficients (over d)) ∙ combined_length ls ms n (sums_over d sums) is)

pub price-requires-clause-columns : goal.price-requires-clause-columns
price-requires-clause-columns c =
    c.requires.columns
    ∙ sym (combined_length (known_lines c.args.problem.now c.args.self.now.cuts) c.as_slice-mult.result.now (length c.args.problem.now.spans) c.in-Some-2.sums (sym c.in_ok-sums.ensures ∙ c.in-Some-2.is))
