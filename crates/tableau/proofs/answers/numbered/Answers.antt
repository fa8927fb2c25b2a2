use Rattle.std.proofs.Common.{◌≡◌, ap, sym, ◌∙◌, drop, ◌++◌, List, [], ◌∷◌, ℕ, refl}
use Rattle.std.proofs.lemmas.List.{append-nil, drop_all}
use Rattle.tableau.specs.Multipliers.{numbered}
use Rattle.tableau.proofs.answers.numbered.Goals as goal

numbered-none : (is : List ℕ) → numbered is [] ≡ []
numbered-none [] = refl
numbered-none (i ∷ is) = refl

pub returns-then-i-multipliers : goal.returns-then-i-multipliers
returns-then-i-multipliers c =
    let i = c.loop-i.i in
    let e : drop i c.args.multipliers.now ≡ [] = drop_all i c.args.multipliers.now c.if-i-multipliers.true in
    sym (append-nil c.loop-i.named)
    ∙ ap (λ rest. c.loop-i.named ++ rest) (sym (numbered-none (drop i c.args.numbers.now)) ∙ ap (numbered (drop i c.args.numbers.now)) (sym e))
    ∙ c.loop-i.invariant
