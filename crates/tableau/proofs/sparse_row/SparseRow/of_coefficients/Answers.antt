use Rattle.std.proofs.Common.{◌≡◌, ◌∙◌, ◌++◌, [], refl, subst, sym, length, ap}
use Rattle.std.specs.Prelude.{All}
use Rattle.std.proofs.lemmas.List.Elements.{All-nil}
use Rattle.problem.specs.Linear.{Terms}
use Rattle.tableau.specs.Elimination.{Coefficients}
use Rattle.tableau.specs.Sparse.{HasFraction, nonzeros}
use Rattle.tableau.proofs.View.{row_from, sparse_from}
use Rattle.tableau.proofs.sparse_row.SparseRow.of_coefficients.Goals as goal

-- what was pushed behind nothing
pushed_nonzeros : (y : Coefficients) (old new : Terms) → old ≡ [] → new ≡ old ++ nonzeros 0 y → new ≡ nonzeros 0 y
pushed_nonzeros y old new e g = g ∙ ap (λ es. es ++ nonzeros 0 y) e

pub invariant_of-result : goal.invariant_of-result
invariant_of-result c =
    sparse_from c.args.coefficients.now (length c.args.coefficients.now) c.push_nonzeros.new.self refl
    (pushed_nonzeros c.args.coefficients.now c.new-entries.result c.push_nonzeros.new.self c.new-entries.ensures c.in_ok-push_nonzeros.ensures.entries)
    (c.in_ok-push_nonzeros.ensures.fractions (subst (All HasFraction) (sym c.new-entries.ensures) (All-nil HasFraction)))

pub returns : goal.returns
returns c =
    row_from c.args.coefficients.now (length c.args.coefficients.now) c.push_nonzeros.new.self refl
    (pushed_nonzeros c.args.coefficients.now c.new-entries.result c.push_nonzeros.new.self c.new-entries.ensures c.in_ok-push_nonzeros.ensures.entries)
