use Rattle.std.proofs.Common.{◌++◌, ◌∷◌, [], ap, ◌∙◌, ℤ, List}
use Rattle.std.proofs.lemmas.List.{replicate_more}
use Rattle.integer_tableau.proofs.start.empty_rows.Goals as goal

pub loop-i-preserved : goal.loop-i-preserved
loop-i-preserved c = c.in_ok-push.ensures.items ∙ ap (λ (r : List ℤ). c.loop-i.rows.items ++ r ∷ []) c.empty.ensures ∙ ap (λ (rs : List (List ℤ)). rs ++ [] ∷ []) c.loop-i.invariant ∙ replicate_more c.loop-i._i []
