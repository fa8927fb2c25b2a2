use Rattle.crew.proofs.Passes.{halted_front, halted_over, halted_holds}
use Rattle.crew.proofs.threads.halt.Goals as goal

pub returns-clause-front : goal.returns-clause-front
returns-clause-front g c = halted_front c.args.kin c.halt.new.self c.is_legal_now.ensures (c.halt.ensures 0)

pub returns-clause-legal : goal.returns-clause-legal
returns-clause-legal g c = (c.halt.ensures 0).legal

pub returns-clause-holds : goal.returns-clause-holds
returns-clause-holds g c = halted_holds c.args.kin c.halt.new.self c.is_legal_now.ensures (c.halt.ensures 0)

pub returns-clause-over : goal.returns-clause-over
returns-clause-over g c = halted_over c.args.kin c.halt.new.self c.is_legal_now.ensures (c.halt.ensures 0)
