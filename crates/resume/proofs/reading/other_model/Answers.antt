use Rattle.std.proofs.Common.{ap, Result, Err}
use Rattle.problem.specs.Problem.{Problem}
use Rattle.resume.specs.declared.fault.PayloadFault.{PayloadFault}
use Rattle.resume.proofs.Refusing.{first_refused}
use Rattle.resume.proofs.reading.other_model.Goals as goal

pub returns-in-Err : goal.returns-in-Err
returns-in-Err g c =
    first_refused c.args.model.now c.args.first.now c.in-Err.fault c.behind.result c.behind.ensures
    (λ e. c.in-Err.ensures.damaged (ap (λ (f : PayloadFault). let r : Result Problem PayloadFault = Err f in r) e))
