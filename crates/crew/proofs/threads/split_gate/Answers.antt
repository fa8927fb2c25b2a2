use Rattle.std.proofs.Common.{◌+◌, ◌∷◌, [], length, ap, ◌∙◌, arith}
use Rattle.turn_lock.specs.Names.{names_below, greatest, without_first}
use Rattle.turn_lock.specs.Lemmas.Names.{length_below}
use Rattle.crew.proofs.Names.{greatest_more, without_more}
use Rattle.crew.proofs.threads.split_gate.Goals as goal

pub split-one-requires-clause-several : goal.split-one-requires-clause-several
split-one-requires-clause-several g c = omega (arith, ap (λ l. length l) c.requires.named, length_below (c.args.worker + 1), c.requires.others)

pub make-requires-clause-named : goal.make-requires-clause-named
make-requires-clause-named g c = c.split-one.ensures.greatest ∙ (ap (λ l. greatest l ∷ []) c.requires.named ∙ ap (λ n. n ∷ []) (greatest_more c.args.worker))

pub returns-clause-named : goal.returns-clause-named
returns-clause-named g c =
    c.split-one.ensures.others
    ∙ (ap (λ l. without_first (greatest l) l) c.requires.named
    ∙ (ap (λ n. without_first n (names_below (c.args.worker + 1))) (greatest_more c.args.worker) ∙ without_more c.args.worker))
