use Rattle.std.proofs.Common.{◌∙◌, sym}
use Rattle.std.specs.Prelude.{not, ◌&&◌, nat_eq}
use Rattle.std.specs.Bool.{one_answer}
use Rattle.std.proofs.lemmas.Bool.Decides.{Decides-eqb}
use Rattle.derivation_book.specs.Lemmas.Deciding.{whole_answer}
use Rattle.expand.proofs.optimum.is_rounded.Goals as goal

pub returns-then-whole_objective : goal.returns-then-whole_objective
returns-then-whole_objective c =
    let w = one_answer c.is_whole.result (nat_eq c.args.bound.den 1) c.is_whole.ensures (Decides-eqb c.args.bound.den 1) in
    let o = sym c.if-whole_objective.true ∙ whole_answer c.args.problem.now c.whole_objective.result c.whole_objective.ensures in
    λ i. o i && not (w i)

pub returns-else-whole_objective : goal.returns-else-whole_objective
returns-else-whole_objective c =
    let o = sym c.if-whole_objective.false ∙ whole_answer c.args.problem.now c.whole_objective.result c.whole_objective.ensures in
    c.if-whole_objective.false ∙ (λ i. o i && not (nat_eq c.args.bound.den 1))
