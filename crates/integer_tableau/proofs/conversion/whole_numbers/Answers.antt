use Rattle.std.proofs.Common.{◌≡◌, ◌++◌, ◌∷◌, [], ap, sym, ◌∙◌, get_or, List, rules}
use Rattle.std.specs.Prelude.{pos}
use Rattle.std.proofs.lemmas.List.{map_more}
use Rattle.fraction.specs.Rational.{ℚ, whole}
use Rattle.integer_tableau.proofs.conversion.whole_numbers.Goals as goal

pub loop-number-preserved : goal.loop-number-preserved
loop-number-preserved c =
    let i = c.loop-number.number-index in
    let xs = c.args.numbers.now in
    let all = c.loop-number.all.items in
    let made : c.of.result ≡ whole (get_or xs i (pos 0)) = search rules in
    c.in_ok-push.ensures.items ∙ ap (λ (q : ℚ). all ++ q ∷ []) made ∙ ap (λ (qs : List ℚ). qs ++ whole (get_or xs i (pos 0)) ∷ []) c.loop-number.invariant ∙ sym (map_more whole xs i (pos 0) c.loop-number-test.true)
