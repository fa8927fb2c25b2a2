use Rattle.std.proofs.Common.{◌∙◌, ap, sym, length, subst}
use Rattle.std.specs.Prelude.{Bool, nat_eq}
use Rattle.std.specs.List.{list_any}
use Rattle.event_core.specs.declared.entry.Holder.{Holder}
use Rattle.worker_gate.specs.Conditions.{HoldsNone}
use Rattle.turn_lock.specs.Passes.{seen_by}
use Rattle.turn_lock.specs.Lemmas.Names.{length_below}
use Rattle.crew.proofs.threads.close_unworked.Goals as goal

pub close-kin-requires-clause-whole : goal.close-kin-requires-clause-whole
close-kin-requires-clause-whole g c = ap (λ l. length l) c.requires.named ∙ (length_below c.args.workers ∙ sym c.requires.whole)

pub returns-clause-none : goal.returns-clause-none
returns-clause-none g c = λ w h.
    let by : Holder → Bool = λ (k : Holder). nat_eq k.worker w in
    let first : HoldsNone w (seen_by c.args.pass) = subst (HoldsNone w) (sym c.requires.seen) (ap (list_any by) c.requires.unheld) in
    ap (list_any by) c.halt.ensures.holds ∙ subst (HoldsNone w) (sym c.close-kin.ensures) first
