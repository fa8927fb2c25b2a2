use Rattle.node_journal.specs.Lemmas.Resting.{at_rest}
use Rattle.resume.proofs.opening.make_pool.Goals as goal

pub returns-in-Ok-clause-rests : goal.returns-in-Ok-clause-rests
returns-in-Ok-clause-rests g c told = at_rest _ _ (c.history_holds.ensures.rests told c.requires.sound)

pub returns-clause-rests : goal.returns-clause-rests
returns-clause-rests g c told = at_rest _ _ (c.history_holds.ensures.rests told c.requires.sound)
