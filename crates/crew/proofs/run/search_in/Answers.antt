use Rattle.std.proofs.Common.{ap, ◌∙◌, sym, subst}
use Rattle.worker_gate.specs.Entries.{is_opened, opening_in, state_in}
use Rattle.crew.specs.Lists.{IsFront}
use Rattle.crew.proofs.Searched.{searched}
use Rattle.crew.proofs.run.search_in.Goals as goal

pub work_under_lock-kin-requires-clause-opened : goal.work_under_lock-kin-requires-clause-opened
work_under_lock-kin-requires-clause-opened g c = λ κs ties. ap is_opened c.make-kin.ensures.list

pub work_under_lock-kin-requires-clause-members : goal.work_under_lock-kin-requires-clause-members
work_under_lock-kin-requires-clause-members g c = λ κs ties. ap (λ l. (opening_in l).workers) c.make-kin.ensures.list

pub work_under_lock-kin-requires-clause-unheld : goal.work_under_lock-kin-requires-clause-unheld
work_under_lock-kin-requires-clause-unheld g c = λ κs ties. ap (λ l. (state_in l).holds) c.make-kin.ensures.list ∙ c.requires.unheld

pub work_under_lock-kin-requires-clause-problem : goal.work_under_lock-kin-requires-clause-problem
work_under_lock-kin-requires-clause-problem g c = λ κs ties. ap (λ l. (state_in l).problem) c.make-kin.ensures.list ∙ sym c.requires.problem

pub returns : goal.returns
returns g c =
    searched c.args.pool c.args.settings.now.workers c.args.settings.now.cuts c.requires.unheld c.into_pool.result c.work_under_lock-kin.result
    (subst (λ l. IsFront l c.work_under_lock-kin.result) c.make-kin.ensures.list c.work_under_lock-kin.ensures.front)
    c.into_pool.ensures.legal c.into_pool.ensures.pool c.work_under_lock-kin.ensures.none c.work_under_lock-kin.ensures.over
