use Rattle.std.proofs.Common.{◌≡◌, ◌++◌, ◌∷◌, [], ap, sym, ◌∙◌, get_or, List}
use Rattle.std.specs.Prelude.{None}
use Rattle.std.proofs.lemmas.List.{map_more}
use Rattle.tableau.specs.declared.bounds.Bounds.{Bounds}
use Rattle.integer_tableau.specs.declared.integer_bounds.IntegerBounds.{IntegerBounds}
use Rattle.integer_tableau.specs.IntegerTableau.{fraction_bounds}
use Rattle.integer_tableau.proofs.conversion.all_bounds.Goals as goal

pub loop-own-preserved : goal.loop-own-preserved
loop-own-preserved c =
    let i = c.loop-own.own-index in
    let xs = c.args.bounds.now in
    let none : IntegerBounds = record { lower = None; upper = None } in
    let own : Bounds = record { lower = c.fraction_bound-lower.result; upper = c.fraction_bound-upper.result } in
    let made : own ≡ fraction_bounds (get_or xs i none) = λ j. record { lower = c.fraction_bound-lower.ensures j; upper = c.fraction_bound-upper.ensures j } in
    c.in_ok-push.ensures.items ∙ ap (λ (b : Bounds). c.loop-own.all.items ++ b ∷ []) made
    ∙ ap (λ (bs : List Bounds). bs ++ fraction_bounds (get_or xs i none) ∷ []) c.loop-own.invariant ∙ sym (map_more fraction_bounds xs i none c.loop-own-test.true)
