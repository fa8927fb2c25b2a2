use Rattle.std.proofs.Common.{◌≡◌, ◌++◌, ◌∷◌, [], List, pos, map, take, get_or, ap, sym, ◌∙◌, rules}
use Rattle.std.specs.Int.{w128}
use Rattle.std.proofs.lemmas.Int.{to_z-of_z}
use Rattle.std.proofs.lemmas.List.{map_more, map_push}
use mir.Val.{SFits}
use Rattle.fraction.specs.Rational.{ℚ, whole, frac}
use Rattle.derivation_book.specs.OverOne.{over}
use Rattle.derivation_book.proofs.Numerators.{over_whole}
use Rattle.derivation_book.proofs.integer_sums.numbers_over.Goals as goal

pub loop-number-preserved : goal.loop-number-preserved
loop-number-preserved c =
    let d = c.args.denominator in
    let i = c.loop-number.number-index in
    let xs = c.args.numbers.now in
    let x = get_or xs i (pos 0) in
    let done = c.loop-number.fractions.items in
    let x_fits : SFits w128 x = search rules in
    let made : c.number_over.result ≡ over d (whole x) = c.number_over.ensures ∙ ap (λ z. frac z d) (to_z-of_z w128 x x_fits) ∙ sym (over_whole d x) in
    c.in_ok-push.ensures.items ∙ ap (λ (q : ℚ). done ++ q ∷ []) made ∙ ap (λ (qs : List ℚ). qs ++ over d (whole x) ∷ []) c.loop-number.invariant
    ∙ sym (ap (map (over d)) (map_more whole xs i (pos 0) c.loop-number-test.true) ∙ map_push (over d) (map whole (take i xs)) (whole x))
