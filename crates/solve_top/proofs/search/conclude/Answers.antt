use Rattle.std.proofs.Common.{◌∙◌, refl, ap, sym}
use Rattle.core_search.specs.Pools.{is_disk}
use Rattle.solve_top.proofs.search.conclude.Goals as goal

pub returns-in-Finished-clause-disk : goal.returns-in-Finished-clause-disk
returns-in-Finished-clause-disk g c = c.certify.ensures.disk ∙ ap is_disk (sym c.in-Finished.is)

pub returns-in-Spent-clause-solution : goal.returns-in-Spent-clause-solution
returns-in-Spent-clause-solution g c = c.spend.ensures.solution _ (λ tells. refl) refl

pub returns-in-Spent-clause-disk : goal.returns-in-Spent-clause-disk
returns-in-Spent-clause-disk g c = c.spend.ensures.disk ∙ ap is_disk (sym c.in-Spent.is)
