use Rattle.std.specs.Prelude.{◌≡◌, List, None, All, true, length, ◌≤◌}
use Rattle.std.proofs.Common.{sym, ap, ◌∙◌, subst, arith}
use Rattle.node_events.specs.declared.event.Event.{Event}
use Rattle.event_core.specs.Histories.{AreLegalFrom, is_journaled, state_from}
use Rattle.event_core.specs.States.{box_of}
use Rattle.node_pool.specs.Free.{SplitsAlone}
use Rattle.expand.specs.Laws.{entries_of}
use Rattle.expand.specs.Lemmas.Events.{settlement_fits}
use Rattle.worker_gate.specs.Entries.{halt_in, state_in}
use Rattle.worker_gate.specs.Legal.{IsLegalList}
use Rattle.worker_gate.specs.Limits.{cuts_limit}
use Rattle.worker_gate.proofs.Adding.{nothing_made}
use Rattle.worker_gate.proofs.Asking.{none_copied}
use Rattle.worker_gate.proofs.Settling.{opened_here, events_here, cuts_kept}
use Rattle.worker_gate.proofs.kin.Kin.commit.Goals as goal

pub settlement-requires-clause-opened : goal.settlement-requires-clause-opened
settlement-requires-clause-opened g c = opened_here c.args.self.now (subst IsLegalList c.self.view_is c.self.invariant.legal) c.args.worker c.args.node c.requires.holds

pub add-requires-clause-legal : goal.add-requires-clause-legal
add-requires-clause-legal g c =
    let at = c.args.self.now in
    let legal = subst IsLegalList c.self.view_is c.self.invariant.legal in
    subst (λ (es : List Event). AreLegalFrom (state_in at) (entries_of c.args.worker es)) (sym c.in-Ok-into_events.ensures)
    (events_here at legal c.args.worker c.args.node c.requires.holds c.in-Ok.settlement c.in-Ok.ensures.legal)

pub add-requires-clause-journaled : goal.add-requires-clause-journaled
add-requires-clause-journaled g c =
    let s = state_in c.args.self.now in
    subst (λ (es : List Event). All (λ (e : Event). is_journaled e ≡ true) es) (sym c.in-Ok-into_events.ensures)
    (settlement_fits s (box_of s c.args.node) c.args.node c.in-Ok.settlement c.in-Ok.ensures.legal).journaled

pub add-requires-clause-few_events : goal.add-requires-clause-few_events
add-requires-clause-few_events g c =
    let s = state_in c.args.self.now in
    let few = (settlement_fits s (box_of s c.args.node) c.args.node c.in-Ok.settlement c.in-Ok.ensures.legal).few in
    let same = ap (λ (es : List Event). length es) c.in-Ok-into_events.ensures in
    omega (arith, few, same)

pub add-requires-clause-alone : goal.add-requires-clause-alone
add-requires-clause-alone g c =
    let s = state_in c.args.self.now in
    subst SplitsAlone (sym c.in-Ok-into_events.ensures) (settlement_fits s (box_of s c.args.node) c.args.node c.in-Ok.settlement c.in-Ok.ensures.legal).alone

pub add-requires-clause-few : goal.add-requires-clause-few
add-requires-clause-few g c =
    let at = c.args.self.now in
    let legal = subst IsLegalList c.self.view_is c.self.invariant.legal in
    subst (λ (es : List Event). length (state_from (state_in at) (entries_of c.args.worker es)).cuts ≤ cuts_limit at) (sym c.in-Ok-into_events.ensures)
    (cuts_kept at legal c.args.worker c.args.node c.in-Ok.settlement c.in-Ok.ensures.few)

pub returns-in_default : goal.returns-in_default
returns-in_default g c =
    let unhalted : c.self.inside.pool.halt ≡ None = none_copied c.halted.result c.self.inside.pool.halt c.halted.ensures (sym c.is_some.ensures ∙ c.if-is_some.false) in
    nothing_made c.args.worker c.args.self.now (subst IsLegalList c.self.view_is c.self.invariant.legal) (ap halt_in (sym c.self.view_is) ∙ sym c.self.invariant.same.halt ∙ unhalted)

pub returns-in_default-into_events : goal.returns-in_default-into_events
returns-in_default-into_events g c =
    let unhalted : c.self.inside.pool.halt ≡ None = none_copied c.halted.result c.self.inside.pool.halt c.halted.ensures (sym c.is_some.ensures ∙ c.if-is_some.false) in
    nothing_made c.args.worker c.args.self.now (subst IsLegalList c.self.view_is c.self.invariant.legal) (ap halt_in (sym c.self.view_is) ∙ sym c.self.invariant.same.halt ∙ unhalted)
