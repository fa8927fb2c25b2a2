use Rattle.std.proofs.Common.{◌≡◌, ◌++◌, ◌∷◌, [], ap, sym, ◌∙◌, map, get_or, List, ℤ, w64, rules}
use mir.Val.{SFits}
use Rattle.std.proofs.lemmas.Int.{to_z-of_z}
use Rattle.std.proofs.lemmas.List.{map_push, take_more}
use Rattle.fraction.specs.Rational.{ℚ, whole}
use Rattle.integer_tableau.specs.Scales.{scaled_by}
use Rattle.integer_tableau.proofs.scaling.scaled_integers.Goals as goal

pub loop-fraction-preserved : goal.loop-fraction-preserved
loop-fraction-preserved c =
    let i = c.loop-fraction.fraction-index in
    let xs = c.args.fractions.now in
    let q = c.fraction-item.result in
    let n = c.in-Some.number in
    let unscaled : ℤ → ℚ = λ z. scaled_by 1 c.args.scale (whole z) in
    let f : SFits w64 n = search rules in
    let made : unscaled n ≡ get_or xs i q = c.in-Some.ensures ∙ c.fraction-item.is in
    ap (map unscaled) c.in_ok-push-in-Some.ensures.items ∙ ap (λ (z : ℤ). map unscaled (c.loop-fraction.numbers.items ++ z ∷ [])) (to_z-of_z w64 n f)
    ∙ map_push unscaled c.loop-fraction.numbers.items n ∙ ap (λ (q : ℚ). map unscaled c.loop-fraction.numbers.items ++ q ∷ []) made
    ∙ ap (λ (qs : List ℚ). qs ++ get_or xs i q ∷ []) c.loop-fraction.invariant ∙ sym (take_more xs i q c.loop-fraction-test.true)
