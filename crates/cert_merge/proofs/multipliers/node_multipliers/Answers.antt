use Rattle.std.proofs.Common.{◌≡◌, ◌<◌, ℕ, ◌∙◌, ◌++◌, ap, subst, length}
use Rattle.std.specs.Prelude.{List, pos, slice_index_or}
use Rattle.std.specs.List.Sorted.{IsPermutation, IsNonDecreasingBy}
use Rattle.fraction.specs.Rational.{ℚ, whole}
use Rattle.problem.specs.Problem.{Problem}
use Rattle.cert_rows.specs.Combination.{combined_terms}
use Rattle.derivation_book.specs.declared.cut.Cut.{Cut}
use Rattle.derivation_book.specs.Known.{known_lines}
use Rattle.derivation_book.specs.Price.{reduced_cost}
use Rattle.cert_merge.specs.Closing.{bound_multipliers}
use Rattle.cert_merge.specs.Merged.{node_multipliers}
use Rattle.cert_merge.specs.Setters.{sources_by}
use Rattle.cert_merge.proofs.Sources.{multipliers_are, if_both}
use Rattle.cert_merge.proofs.multipliers.node_multipliers.Goals as goal

pub returns : goal.returns
returns c =
    let s = c.args.state.now.state in
    let target = c.args.target.now in
    let mult = c.args.mult.now in
    let ts = c.args.setters.now in
    let cs : List ℚ = c.in_ok-costs.costs.items in
    let bs : List (ℕ × ℚ) = c.in_ok-items.items.items in
    let items : List (ℕ × ℚ) = c.push_all.new.items.items in
    let exact : (j : ℕ) → j < length s.problem.spans → slice_index_or cs j (whole (pos 0)) ≡ reduced_cost target (combined_terms (known_lines s.problem s.cuts) mult) j =
    subst (λ (p : Problem). (j : ℕ) → j < length p.spans → slice_index_or cs j (whole (pos 0)) ≡ reduced_cost target (combined_terms (known_lines p s.cuts) mult) j) c.problem.ensures
    (subst (λ (ks : List Cut). (j : ℕ) → j < length c.problem.result.now.spans → slice_index_or cs j (whole (pos 0)) ≡ reduced_cost target (combined_terms (known_lines c.problem.result.now ks) mult) j) c.book.ensures
    c.in_ok-costs.ensures.costs) in
    let bounds : bs ≡ bound_multipliers (λ j. slice_index_or cs j (whole (pos 0))) 0 (sources_by s 0 ts) =
    c.in_ok-items.ensures ∙ ap (λ (ks : List ℚ). bound_multipliers (λ j. slice_index_or ks j (whole (pos 0))) 0 (sources_by s 0 ts)) c.deref.ensures.value in
    let whole_list : items ≡ bs ++ mult = c.in_ok-push_all.ensures ∙ ap (λ (ms : List (ℕ × ℚ)). bs ++ ms) c.as_slice-mult.ensures.items in
    if_both c.sorted.result (λ t. IsPermutation items t) (λ t. IsNonDecreasingBy (λ (m : ℕ × ℚ). m.0) t) (λ t. t ≡ node_multipliers s c.args._node target mult)
    (λ ys p o. multipliers_are s c.conditions_hold.ensures.sound.tree c.args._node ts c.requires.setters target mult c.requires.multipliers c.as_slice-mult.ensures.rising cs bs items ys exact bounds whole_list p o)
    c.sorted.ensures.moved c.sorted.ensures.rising
