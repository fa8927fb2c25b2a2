use Rattle.std.proofs.Common.{◌∙◌}
use Rattle.integer_tableau.proofs.exits.push_edges.Goals as goal

pub returns-in_err-push-clause-more : goal.returns-in_err-push-clause-more
returns-in_err-push-clause-more c = (c.loop-ranked.ranked-index, c.in_err-push.ensures.items ∙ c.loop-ranked.invariant)

pub returns-clause-more : goal.returns-clause-more
returns-clause-more c = (c.loop-ranked.ranked-index, c.loop-ranked.invariant)
