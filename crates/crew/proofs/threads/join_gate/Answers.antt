use Rattle.std.proofs.Common.{ap, ◌∙◌, ◌∷◌, [], sym, subst}
use Rattle.crew.specs.Gates.{first_list}
use Rattle.crew.specs.Lists.{Worked}
use Rattle.crew.proofs.Passes.{joined_pass}
use Rattle.crew.proofs.threads.join_gate.Goals as goal

pub returns : goal.returns
returns g c =
    let gate = c.requires.gate in
    let pass = c.into_pass.result in
    joined_pass c.args.lock.now c.args.worker c.args.pass pass c.join.result c.requires.opened c.requires.pass
    (c.into_pass.ensures.pass.named ∙ ap (λ n. n ∷ []) gate.worker)
    (subst (λ l. Worked c.args.worker (first_list c.args.lock.now) l) (sym c.into_pass.ensures.seen) gate.worked)
    c.join.ensures.own c.join.ensures.names c.join.ensures.seen c.join.ensures.one_goes_on c.join.ensures.other_goes_on
