use Rattle.std.proofs.Common.{◌∙◌, ap, sym, length, subst}
use Rattle.worker_gate.specs.Conditions.{HoldsNone}
use Rattle.crew.specs.Lists.{IsOver}
use Rattle.turn_lock.specs.Lemmas.Names.{length_below}
use Rattle.crew.proofs.threads.close.Goals as goal

pub close-kin-requires-clause-whole : goal.close-kin-requires-clause-whole
close-kin-requires-clause-whole g c = ap (λ l. length l) c.requires.pass.named ∙ (length_below c.args.workers ∙ sym c.requires.whole)

pub returns-clause-none : goal.returns-clause-none
returns-clause-none g c = λ w h. subst (HoldsNone w) (sym c.close-kin.ensures) (c.requires.pass.none w h)

pub returns-clause-over : goal.returns-clause-over
returns-clause-over g c = subst IsOver (sym c.close-kin.ensures) c.requires.pass.over
