use Rattle.std.proofs.Common.{◌≡◌, ℕ, IfOk, subst, rules}
use Rattle.std.specs.Prelude.{List}
use Rattle.std.specs.List.Sorted.{IsNonDecreasingBy}
use Rattle.std.proofs.lemmas.List.Sorted.{IsNonDecreasingBy-from_sort_by_key}
use Rattle.fraction.specs.Rational.{ℚ}
use Rattle.cert_merge.proofs.Sources.{if_same}
use Rattle.cert_merge.proofs.multipliers.sorted.Goals as goal

pub returns-clause-rising : goal.returns-clause-rising
returns-clause-rising c =
    let items : List (ℕ × ℚ) = c.sort_unstable_by_key.new.self.items in
    let order : IsNonDecreasingBy (λ (m : ℕ × ℚ). m.0) items = IsNonDecreasingBy-from_sort_by_key (λ (m : ℕ × ℚ). m.0) _ c.sort_unstable_by_key.ensures.sorted (λ a r q k. search rules) in
    if_same c.make.result (λ t. IsNonDecreasingBy (λ (m : ℕ × ℚ). m.0) t) items order
    (subst (λ (xs : List (ℕ × ℚ)). IfOk c.make.result (λ t. t ≡ xs)) c.as_slice.ensures.value c.make.ensures)
