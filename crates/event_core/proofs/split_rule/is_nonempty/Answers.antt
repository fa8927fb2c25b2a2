use Rattle.event_core.specs.Lemmas.Reasons.{empty_fails, nonempty_passes}
use Rattle.event_core.proofs.split_rule.is_nonempty.Goals as goal

pub returns-in-Some : goal.returns-in-Some
returns-in-Some c = empty_fails c.args.area.now _ c.in-Some.ensures.found

pub returns-in-None : goal.returns-in-None
returns-in-None c = nonempty_passes c.args.area.now c.in-None.ensures.none
