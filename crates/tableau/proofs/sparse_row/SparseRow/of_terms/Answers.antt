use Rattle.std.proofs.Common.{◌≡◌, ℕ, ◌∙◌, ◌++◌, [], subst, sym}
use Rattle.std.specs.Prelude.{All}
use Rattle.std.proofs.lemmas.List.Elements.{All-nil}
use Rattle.problem.specs.Linear.{Terms}
use Rattle.tableau.specs.Sparse.{HasFraction, kept_below}
use Rattle.tableau.proofs.View.{terms_row, terms_sparse}
use Rattle.tableau.proofs.sparse_row.SparseRow.of_terms.Goals as goal

-- what was pushed behind nothing
pushed_kept : (w : ℕ) (ts us old new : Terms) → old ≡ [] → us ≡ ts → new ≡ old ++ kept_below w us → new ≡ [] ++ kept_below w ts
pushed_kept w ts us old new e f g = g ∙ (λ i. e i ++ kept_below w (f i))

pub invariant_of-result : goal.invariant_of-result
invariant_of-result c =
    terms_sparse c.args.width c.args.terms.now c.push_terms.new.self c.requires
    (pushed_kept c.args.width c.args.terms.now c.as_slice.result.now c.new-entries.result c.push_terms.new.self c.new-entries.ensures c.as_slice.ensures c.in_ok-push_terms.ensures.entries)
    (c.in_ok-push_terms.ensures.fractions (subst (All HasFraction) (sym c.new-entries.ensures) (All-nil HasFraction)))

pub returns : goal.returns
returns c =
    terms_row c.args.width c.args.terms.now c.push_terms.new.self c.requires
    (pushed_kept c.args.width c.args.terms.now c.as_slice.result.now c.new-entries.result c.push_terms.new.self c.new-entries.ensures c.as_slice.ensures c.in_ok-push_terms.ensures.entries)
