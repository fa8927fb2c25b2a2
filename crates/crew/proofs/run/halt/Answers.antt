use Rattle.crew.proofs.Searched.{halted_at_once}
use Rattle.crew.proofs.run.halt.Goals as goal

pub returns : goal.returns
returns g c =
    let s = c.args._settings.now in
    halted_at_once c.args.pool s.workers s.cuts c.requires.unheld c.halt.new.self _ c.halt.ensures.halt c.halt.ensures.state c.halt.ensures.journal c.halt.ensures.budget c.halt.ensures.faults
