use Rattle.std.specs.Prelude.{List, ℕ}
use Rattle.std.proofs.Common.{sym, ◌∙◌, subst}
use Rattle.turn_lock.specs.Lists.{Grows}
use Rattle.turn_lock.specs.Passes.{names_of, seen_by, found_by}
use Rattle.worker_gate.specs.Entries.{name_of}
use Rattle.worker_gate.specs.Legal.{IsLegalList}
use Rattle.worker_gate.specs.Calls.{Halts}
use Rattle.worker_gate.proofs.Turning.{step_under, grown_under, opened_under, member_after}
use Rattle.worker_gate.proofs.under.halt.Goals as goal

pub leave-requires-clause-grown : goal.leave-requires-clause-grown
leave-requires-clause-grown g c = subst (λ (ns : List ℕ). Grows name_of ns (found_by c.enter-turn.result) c.halt.new.self) (sym c.enter-turn.ensures.names) (grown_under c.args.worker (names_of c.args.pass) c.requires.pass.named (seen_by c.args.pass) (found_by c.enter-turn.result) c.value_mut.result.now c.enter-turn.ensures.goes_on (c.value_mut.ensures.value ∙ sym c.enter-turn.ensures.found) c.requires.pass.opened (subst IsLegalList (c.value.ensures ∙ sym c.value_mut.ensures.value) c.is_legal_now.ensures) c.halt.new.self (Halts) (c.halt.ensures c.args.worker))

pub returns-clause-pass : goal.returns-clause-pass
returns-clause-pass g c = record {
  own = c.leave.ensures.own;
  named = c.leave.ensures.names ∙ (c.enter-turn.ensures.names ∙ c.requires.pass.named);
  opened = opened_under c.args.worker (names_of c.args.pass) c.requires.pass.named (seen_by c.args.pass) (found_by c.enter-turn.result) c.value_mut.result.now c.enter-turn.ensures.goes_on (c.value_mut.ensures.value ∙ sym c.enter-turn.ensures.found) c.requires.pass.opened (subst IsLegalList (c.value.ensures ∙ sym c.value_mut.ensures.value) c.is_legal_now.ensures) c.halt.new.self (Halts) (c.halt.ensures c.args.worker) (seen_by c.leave.result) c.leave.ensures.seen;
  member = member_after c.args.worker (names_of c.args.pass) c.requires.pass.named (seen_by c.args.pass) (found_by c.enter-turn.result) c.value_mut.result.now c.enter-turn.ensures.goes_on (c.value_mut.ensures.value ∙ sym c.enter-turn.ensures.found) c.requires.pass.opened (subst IsLegalList (c.value.ensures ∙ sym c.value_mut.ensures.value) c.is_legal_now.ensures) c.halt.new.self (Halts) (c.halt.ensures c.args.worker) (seen_by c.leave.result) c.leave.ensures.seen c.requires.pass.member;
}

pub returns-clause-step : goal.returns-clause-step
returns-clause-step g c = step_under c.args.worker (names_of c.args.pass) c.requires.pass.named (seen_by c.args.pass) (found_by c.enter-turn.result) c.value_mut.result.now c.enter-turn.ensures.goes_on (c.value_mut.ensures.value ∙ sym c.enter-turn.ensures.found) c.requires.pass.opened (subst IsLegalList (c.value.ensures ∙ sym c.value_mut.ensures.value) c.is_legal_now.ensures) c.halt.new.self (Halts) (c.halt.ensures c.args.worker) (seen_by c.leave.result) c.leave.ensures.seen
