use Rattle.std.proofs.Common.{◌≡◌, ◌++◌, ◌∷◌, [], ap, sym, ◌∙◌, get_or, pos, ℤ, List, rules, w64}
use Rattle.std.specs.Int.{w128}
use mir.Val.{SFits}
use Rattle.std.proofs.lemmas.Int.{to_z-of_z}
use Rattle.std.proofs.lemmas.List.{take_more}
use Rattle.dual_simplex.proofs.narrow_sums.narrow_numerators.Goals as goal

pub loop-numerator-preserved : goal.loop-numerator-preserved
loop-numerator-preserved c =
    let i = c.loop-numerator.numerator-index in
    let xs = c.args.numerators.now in
    let n = c.in-Ok.number in
    let f : SFits w64 n = search rules in
    let g : SFits w128 (get_or xs i (pos 0)) = search rules in
    let made : n ≡ get_or xs i (pos 0) = c.in-Ok.ensures.1 ∙ to_z-of_z w128 (get_or xs i (pos 0)) g in
    c.in_ok-push.ensures.items ∙ ap (λ (z : ℤ). c.loop-numerator.narrow.items ++ z ∷ []) (to_z-of_z w64 n f ∙ made)
    ∙ ap (λ (zs : List ℤ). zs ++ get_or xs i (pos 0) ∷ []) c.loop-numerator.invariant ∙ sym (take_more xs i (pos 0) c.loop-numerator-test.true)
