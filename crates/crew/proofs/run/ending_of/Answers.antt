use Rattle.std.proofs.Common.{Some, ap, sym, ◌∙◌}
use Rattle.std.specs.Option.{option_copied}
use Rattle.crew.proofs.Spending.{budget_spent, disk_rose}
use Rattle.crew.proofs.run.ending_of.Goals as goal

pub returns-in-Some-Disk-clause-cause : goal.returns-in-Some-Disk-clause-cause
returns-in-Some-Disk-clause-cause g c =
    disk_rose _ _ _ _ _ c.requires.unheld _ _ _ (sym c.halted.ensures ∙ ap option_copied c.in-Some-Disk.is ∙ ap Some c.in-Some-Disk.field-0-is) c.history_holds.ensures.rising c.history_holds.ensures.halted

pub returns-in-Some-Budget-clause-spent : goal.returns-in-Some-Budget-clause-spent
returns-in-Some-Budget-clause-spent g c = λ is.
    (budget_spent _ _ _ _ _ c.requires.unheld _ _ (sym c.halted.ensures ∙ ap option_copied c.in-Some-Budget.is ∙ ap Some c.in-Some-Budget.field-0-is) c.history_holds.ensures.halted).0
