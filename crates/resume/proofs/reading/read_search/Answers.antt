use Rattle.std.proofs.Common.{arith, ap, subst, ◌<◌, List, ℕ, length, Result, Err}
use Rattle.problem.specs.Problem.{Problem}
use Rattle.node_journal.specs.Views.{payloads_of}
use Rattle.resume.specs.Models.{IsNoModel}
use Rattle.resume.specs.declared.fault.PayloadFault.{PayloadFault}
use Rattle.resume.proofs.Refusing.{model_refused}
use Rattle.resume.proofs.reading.read_search.Goals as goal

pub returns-in-Err-clause-refused : goal.returns-in-Err-clause-refused
returns-in-Err-clause-refused g c =
    let ps = payloads_of c.args.scanned.now in
    let some : 0 < length ps = omega (arith, c.count.ensures, c.if-count-eq0.false) in
    model_refused ps c.in-Err.fault c.behind.result some c.behind.ensures
    (λ e. subst (λ (l : List ℕ). IsNoModel l) c.payload.ensures (c.in-Err.ensures.damaged (ap (λ (f : PayloadFault). let r : Result Problem PayloadFault = Err f in r) e)))
