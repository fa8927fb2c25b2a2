use Rattle.std.specs.Prelude.{List, ℕ}
use Rattle.std.proofs.Common.{sym, ◌∙◌, subst}
use Rattle.turn_lock.specs.Lists.{Grows}
use Rattle.turn_lock.specs.Passes.{names_of, names_in, seen_by, found_by}
use Rattle.worker_gate.specs.declared.entry.PoolEntry.{PoolEntry}
use Rattle.worker_gate.specs.Entries.{name_of}
use Rattle.worker_gate.specs.Legal.{IsLegalList}
use Rattle.worker_gate.specs.Calls.{Glances}
use Rattle.worker_gate.proofs.Turning.{stays_under, step_under, grown_under, opened_under, member_after}
use Rattle.worker_gate.proofs.under.glance.Goals as goal

pub glance-answer-requires-clause-holds : goal.glance-answer-requires-clause-holds
glance-answer-requires-clause-holds g c =
    (stays_under c.args.worker (names_of c.args.pass) c.requires.pass.named (seen_by c.args.pass) (found_by c.enter-turn.result) c.value-2.result.now c.enter-turn.ensures.goes_on (c.value-2.ensures ∙ sym c.enter-turn.ensures.found) c.requires.pass.opened (subst IsLegalList (c.value.ensures ∙ sym c.value-2.ensures) c.is_legal_now.ensures)).node c.args.node c.requires.holds

pub glance-answer-requires-clause-known : goal.glance-answer-requires-clause-known
glance-answer-requires-clause-known g c =
    (stays_under c.args.worker (names_of c.args.pass) c.requires.pass.named (seen_by c.args.pass) (found_by c.enter-turn.result) c.value-2.result.now c.enter-turn.ensures.goes_on (c.value-2.ensures ∙ sym c.enter-turn.ensures.found) c.requires.pass.opened (subst IsLegalList (c.value.ensures ∙ sym c.value-2.ensures) c.is_legal_now.ensures)).cuts c.args.known c.requires.known

pub leave-requires-clause-grown : goal.leave-requires-clause-grown
leave-requires-clause-grown g c =
    subst (λ (l : List PoolEntry). Grows name_of (names_in c.enter-turn.result) (found_by c.enter-turn.result) l) c.value-2.ensures
    (subst (λ (ns : List ℕ). Grows name_of ns (found_by c.enter-turn.result) c.value-2.result.now) (sym c.enter-turn.ensures.names)
    (grown_under c.args.worker (names_of c.args.pass) c.requires.pass.named (seen_by c.args.pass) (found_by c.enter-turn.result) c.value-2.result.now c.enter-turn.ensures.goes_on (c.value-2.ensures ∙ sym c.enter-turn.ensures.found) c.requires.pass.opened (subst IsLegalList (c.value.ensures ∙ sym c.value-2.ensures) c.is_legal_now.ensures) c.value-2.result.now (Glances c.args.node c.args.known c.glance-answer.result) c.glance-answer.ensures))

pub returns-clause-pass : goal.returns-clause-pass
returns-clause-pass g c = record {
  own = c.leave.ensures.own;
  named = c.leave.ensures.names ∙ (c.enter-turn.ensures.names ∙ c.requires.pass.named);
  opened = opened_under c.args.worker (names_of c.args.pass) c.requires.pass.named (seen_by c.args.pass) (found_by c.enter-turn.result) c.value-2.result.now c.enter-turn.ensures.goes_on (c.value-2.ensures ∙ sym c.enter-turn.ensures.found) c.requires.pass.opened (subst IsLegalList (c.value.ensures ∙ sym c.value-2.ensures) c.is_legal_now.ensures) c.value-2.result.now (Glances c.args.node c.args.known c.glance-answer.result) c.glance-answer.ensures (seen_by c.leave.result) (c.leave.ensures.seen ∙ sym c.value-2.ensures);
  member = member_after c.args.worker (names_of c.args.pass) c.requires.pass.named (seen_by c.args.pass) (found_by c.enter-turn.result) c.value-2.result.now c.enter-turn.ensures.goes_on (c.value-2.ensures ∙ sym c.enter-turn.ensures.found) c.requires.pass.opened (subst IsLegalList (c.value.ensures ∙ sym c.value-2.ensures) c.is_legal_now.ensures) c.value-2.result.now (Glances c.args.node c.args.known c.glance-answer.result) c.glance-answer.ensures (seen_by c.leave.result) (c.leave.ensures.seen ∙ sym c.value-2.ensures) c.requires.pass.member;
}

pub returns-clause-step : goal.returns-clause-step
returns-clause-step g c = step_under c.args.worker (names_of c.args.pass) c.requires.pass.named (seen_by c.args.pass) (found_by c.enter-turn.result) c.value-2.result.now c.enter-turn.ensures.goes_on (c.value-2.ensures ∙ sym c.enter-turn.ensures.found) c.requires.pass.opened (subst IsLegalList (c.value.ensures ∙ sym c.value-2.ensures) c.is_legal_now.ensures) c.value-2.result.now (Glances c.args.node c.args.known c.glance-answer.result) c.glance-answer.ensures (seen_by c.leave.result) (c.leave.ensures.seen ∙ sym c.value-2.ensures)
