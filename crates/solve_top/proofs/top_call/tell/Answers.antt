use Rattle.solve_top.proofs.top_call.tell.Goals as goal

pub returns-clause-status : goal.returns-clause-status
returns-clause-status g c = (c.tell_outcome-status.result, c.told.ensures.status, c.tell_outcome-status.ensures)
