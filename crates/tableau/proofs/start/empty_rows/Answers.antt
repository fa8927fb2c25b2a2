use Rattle.std.proofs.Common.{◌≡◌, ◌++◌, ◌∷◌, [], List, ap, ◌∙◌, arith, replicate}
use Rattle.std.proofs.lemmas.List.{replicate_more}
use Rattle.fraction.specs.Rational.{ℚ}
use Rattle.tableau.proofs.start.empty_rows.Goals as goal

pub loop-preserved : goal.loop-preserved
loop-preserved c = c.in_ok-push.ensures.items ∙ (λ j. c.loop.invariant j ++ c.empty.ensures j ∷ []) ∙ replicate_more {X = List ℚ} c.loop.counter []

pub returns : goal.returns
returns c =
    let all : c.loop.counter ≡ c.args.count = omega arith in
    c.loop.invariant ∙ ap (λ n. replicate {A = List ℚ} n []) all
