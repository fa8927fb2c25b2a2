use Rattle.derivation_book.specs.Lemmas.Deciding.{whole_answer}
use Rattle.event_core.proofs.relaxed.has_whole_objective.Goals as goal

pub returns : goal.returns
returns c = whole_answer c.args.problem.now c.whole_objective.result c.whole_objective.ensures
