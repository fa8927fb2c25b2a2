use Rattle.std.proofs.Common.{◌∙◌, ap, sym}
use Rattle.std.specs.Prelude.{not, ◌||◌}
use Rattle.derivation_book.specs.Legal.{has_whole_objective}
use Rattle.derivation_book.specs.Lemmas.Deciding.{whole_answer}
use Rattle.derivation_book.proofs.legal.may_round.Goals as goal

pub returns-else-not-rounded : goal.returns-else-not-rounded
returns-else-not-rounded c =
    whole_answer c.args.problem.now c.whole_objective.result c.whole_objective.ensures
    ∙ ap (λ b. not b || has_whole_objective c.args.problem.now) (sym c.if-not-rounded.false)
