use Rattle.std.proofs.Common.{◌≡◌, arith, sym, subst, ap, ◌≤◌, ◌<◌, List, ℕ, length, cond, Result, Err}
use Rattle.dual_simplex.specs.Prepared.{IsKept}
use Rattle.event_codec.specs.declared.enc.Enc.{Enc}
use Rattle.event_codec.specs.declared.enc.Enc.TheVariants.{Two}
use Rattle.event_codec.specs.Upgrades.{is_upgrade}
use Rattle.node_journal.specs.Views.{payloads_of}
use Rattle.resume.specs.declared.fault.PayloadFault.{PayloadFault}
use Rattle.resume.specs.Events.{IsApplied, IsNoPayload}
use Rattle.resume.proofs.Refusing.{event_refused}
use Rattle.resume.proofs.Replaying.{none_read, one_more, damaged_here, same_problem, all_read}
use Rattle.resume.proofs.replay.replay.Goals as goal

pub loop-number-init : goal.loop-number-init
loop-number-init c = (
  none_read c.args.problem (payloads_of c.args.scanned.now) c.in_ok-state.state c.requires.some c.requires.model c.in_ok-state.ensures.state c.in_ok-state.ensures.history,
  subst (λ o. IsKept c.in_ok-state.state.state.problem c.in_ok-state.state.state.cuts o) (sym c.none-kept.ensures) tt,
)

pub loop-number-preserved : goal.loop-number-preserved
loop-number-preserved c =
    let ps = payloads_of c.args.scanned.now in
    let enc = c.loop-number.enc in
    let next = c.in-Ok.next in
    let within : c.loop-number.number < length ps = omega (arith, c.count-number-end.ensures) in (
      one_more c.args.problem ps c.loop-number.number enc next c.loop-number.state c.apply_payload.new.state within c.loop-number.invariant.0
          (subst (λ (l : List ℕ). IsApplied enc c.loop-number.state l c.apply_payload.new.state next) c.payload.ensures c.in-Ok.ensures.applied)
          (subst (λ (l : List ℕ). next ≡ cond (is_upgrade l) Two enc) c.payload.ensures c.in-Ok.ensures.next),
      c.in-Ok.ensures.kept,
    )

pub returns-clause-problem : goal.returns-clause-problem
returns-clause-problem c = same_problem _ _ _ _ _ c.loop-number.invariant.0

pub returns-clause-read : goal.returns-clause-read
returns-clause-read c =
    let past_end : length (payloads_of c.args.scanned.now) ≤ c.loop-number.number = omega (arith, c.count-number-end.ensures) in
    all_read _ _ _ _ _ past_end c.loop-number.invariant.0

pub returns-in-Err-clause-refused : goal.returns-in-Err-clause-refused
returns-in-Err-clause-refused c =
    let ps = payloads_of c.args.scanned.now in
    let enc = c.loop-number.enc in
    let within : c.loop-number.number < length ps = omega (arith, c.count-number-end.ensures) in
    event_refused ps c.place.result c.in-Err.fault c.behind.result c.behind.ensures
    (λ e. damaged_here c.args.problem ps c.loop-number.number enc c.loop-number.state within c.loop-number.invariant.0
    (subst (λ (l : List ℕ). IsNoPayload enc c.loop-number.state.state l) c.payload.ensures (c.in-Err.ensures.damaged (ap (λ (f : PayloadFault). let r : Result Enc PayloadFault = Err f in r) e)))
    c.place.result c.place.ensures)
