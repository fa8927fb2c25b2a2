use Rattle.std.proofs.Common.{◌≡◌, ap, ◌∙◌, ◌++◌, ◌∷◌, [], arith}
use Rattle.std.proofs.lemmas.Int.{to_z-of_z}
use Rattle.expand.proofs.Choosing.{corner_more}
use Rattle.expand.proofs.corners.corner.Goals as goal

pub loop-column-preserved : goal.loop-column-preserved
loop-column-preserved c =
    let pushed : c.push.new.self.items ≡ c.loop-column.items.items ++ c.span.result.lo ∷ [] = grind (arith, to_z-of_z, c.in_ok-push.ensures.items) in
    pushed ∙ ap (λ xs. xs ++ c.span.result.lo ∷ []) c.loop-column.invariant ∙ corner_more _ _ _ c.span.ensures
