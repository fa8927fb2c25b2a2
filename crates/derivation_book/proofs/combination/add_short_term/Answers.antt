use Rattle.std.proofs.Common.{◌∙◌, ℕ, [], ◌∷◌, ap, sym, arith}
use Rattle.fraction.specs.Rational.{ℚ}
use Rattle.derivation_book.specs.Adding.{columns_added}
use Rattle.derivation_book.specs.Lemmas.Columns.{one_added}
use Rattle.derivation_book.proofs.combination.add_short_term.Goals as goal

pub returns-in-Some-clause-added : goal.returns-in-Some-clause-added
returns-in-Some-clause-added c = λ t.
    let k = c.pair-column.result.0 in
    ap (λ (p : ℕ × ℚ). columns_added c.args.sums.now 0 c.args.factor (p ∷ [])) (sym c.pair-column.ensures)
    ∙ one_added c.args.sums.now 0 k c.args.factor k c.pair-column.result.1 c.index-sums-column.result c.in-Some.sum c.requires (omega arith) (omega arith) c.index-sums-column.is c.in-Some.ensures
