use Rattle.std.proofs.Common.{◌≡◌, ◌++◌, ◌∷◌, [], ap, sym, ◌∙◌, get_or, nat_abs, List, w64, to_z, of_z}
use Rattle.std.proofs.lemmas.List.{map_more}
use Rattle.fraction.specs.Rational.{ℚ}
use Rattle.integer_tableau.specs.Positions.{coefficient}
use Rattle.integer_tableau.specs.declared.position.Position.TheVariants.{InBasis}
use Rattle.integer_tableau.proofs.answers.coefficients.Goals as goal

pub loop-position-preserved : goal.loop-position-preserved
loop-position-preserved c =
    let i = c.loop-position.position-index in
    let xs = c.args.positions.now in
    let f = coefficient (nat_abs (to_z w64 (of_z w64 c.args.denominator))) c.args.row.now in
    let made : c.coefficient.result ≡ f (get_or xs i InBasis) = c.coefficient.ensures in
    c.in_ok-push.ensures.items ∙ ap (λ (q : ℚ). c.loop-position.all.items ++ q ∷ []) made
    ∙ ap (λ (qs : List ℚ). qs ++ f (get_or xs i InBasis) ∷ []) c.loop-position.invariant ∙ sym (map_more f xs i InBasis c.loop-position-test.true)
