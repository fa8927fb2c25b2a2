use Rattle.std.proofs.Common.{◌≡◌, ◌<◌, ℕ, IfOk, ap, ◌∙◌, sym, subst, length}
use Rattle.std.specs.Prelude.{pos, slice_index_or}
use Rattle.std.proofs.lemmas.Result.{IfOk-weaker}
use Rattle.fraction.specs.Rational.{whole, ◌+ℚ◌, neg_ℚ}
use Rattle.problem.specs.Linear.{coefficient}
use Rattle.cert_rows.specs.Combination.{combined_terms}
use Rattle.derivation_book.specs.Known.{known_lines}
use Rattle.derivation_book.specs.Sums.{combined}
use Rattle.derivation_book.specs.Price.{reduced_cost}
use Rattle.derivation_book.proofs.Leaving.{sums_priced}
use Rattle.derivation_book.proofs.book.Book.reduced_costs.Goals as goal

pub left_over-requires-clause-fits : goal.left_over-requires-clause-fits
left_over-requires-clause-fits c =
    let p = c.args.problem.now in
    let cs = c.args.self.now.cuts in
    (sums_priced p cs c.args.target.now c.args.mult.now c.requires.priced c.in-Some.sums
    (sym c.in-Some.is ∙ c.in_ok-sums.ensures ∙ ap (λ m. combined (known_lines p cs) m (length p.spans)) c.as_slice.ensures.items)).fits

pub returns-clause-length : goal.returns-clause-length
returns-clause-length c =
    let p = c.args.problem.now in
    let cs = c.args.self.now.cuts in
    let q = sums_priced p cs c.args.target.now c.args.mult.now c.requires.priced c.in-Some.sums
    (sym c.in-Some.is ∙ c.in_ok-sums.ensures ∙ ap (λ m. combined (known_lines p cs) m (length p.spans)) c.as_slice.ensures.items) in
    subst (λ (n : ℕ). IfOk c.left_over.result (λ v. length v.items ≡ n)) q.long c.left_over.ensures.length

pub returns-clause-costs : goal.returns-clause-costs
returns-clause-costs c =
    let p = c.args.problem.now in
    let cs = c.args.self.now.cuts in
    let target = c.args.target.now in
    let n = length c.in-Some.sums.coefficients in
    let terms = combined_terms (known_lines p cs) c.args.mult.now in
    let q = sums_priced p cs target c.args.mult.now c.requires.priced c.in-Some.sums
    (sym c.in-Some.is ∙ c.in_ok-sums.ensures ∙ ap (λ m. combined (known_lines p cs) m (length p.spans)) c.as_slice.ensures.items) in
    IfOk-weaker c.left_over.result
    (λ v. (j : ℕ) → j < n → slice_index_or v.items j (whole (pos 0)) ≡ coefficient target j +ℚ neg_ℚ (slice_index_or c.in-Some.sums.coefficients j (whole (pos 0))))
    (λ v. (j : ℕ) → j < length p.spans → slice_index_or v.items j (whole (pos 0)) ≡ reduced_cost target terms j)
    (λ v h j l.
    let m : j < n = subst (λ k. j < k) (sym q.long) l in
    h j m ∙ ap (λ x. coefficient target j +ℚ neg_ℚ x) (q.exact j m))
    c.left_over.ensures.left
