use Rattle.std.specs.Prelude.{◌≡◌, ◌<◌, Bool, true, false, List, length, All, Result, Err, refl}
use Rattle.std.proofs.Common.{sym, ap, ◌∙◌, subst, arith}
use Rattle.node_events.specs.declared.event.Event.{Event}
use Rattle.event_core.specs.Histories.{is_journaled, AreLegalFrom}
use Rattle.outside.specs.Faults.{Counts}
use Rattle.expand.specs.Laws.{entries_of, FitOnePayload}
use Rattle.expand.specs.Settlements.{events_of}
use Rattle.node_pool.specs.Halting.{spends, halt_after, fails_by_disk}
use Rattle.node_pool.specs.declared.answers.CommitFault.{CommitFault}
use Rattle.node_pool.specs.declared.answers.CommitFault.TheVariants as fault
use Rattle.core_search.specs.Visits.{Makes}
use Rattle.core_search.proofs.Entering.{journaled_events, stays}
use Rattle.core_search.proofs.Pooling.{fault_halt, goes_nowhere}
use Rattle.core_search.proofs.Visiting.{no_change, nothing, several}
use Rattle.core_search.proofs.events.settle_node.Goals as goal

pub commit_all-requires-clause-some : goal.commit_all-requires-clause-some
commit_all-requires-clause-some g c = subst (λ (es : List Event). 0 < length es) (sym c.in-Ok.ensures) c.requires.some

pub commit_all-requires-clause-few : goal.commit_all-requires-clause-few
commit_all-requires-clause-few g c = let n = c.requires.fits.few in let e = ap length c.in-Ok.ensures in omega (arith, n, e)

pub commit_all-requires-clause-legal : goal.commit_all-requires-clause-legal
commit_all-requires-clause-legal g c =
    subst (λ (es : List Event). AreLegalFrom c.args.pool.now.state.state (entries_of 0 es)) (sym c.in-Ok.ensures) c.requires.legal

pub commit_all-requires-clause-journaled : goal.commit_all-requires-clause-journaled
commit_all-requires-clause-journaled g c = subst (λ (es : List Event). All (λ e. is_journaled e ≡ true) es) (sym c.in-Ok.ensures) c.requires.fits.journaled

pub commit_all-requires-clause-alone : goal.commit_all-requires-clause-alone
commit_all-requires-clause-alone g c = (subst FitOnePayload (sym c.in-Ok.ensures) c.requires.fits).alone

pub returns-in_default-clause-goes_on : goal.returns-in_default-clause-goes_on
returns-in_default-clause-goes_on g c = goes_nowhere c.args.pool.now

pub returns-in_default-clause-unmade : goal.returns-in_default-clause-unmade
returns-in_default-clause-unmade g c = no_change c.args.pool.now.state

pub returns-in-Ok-commit_all-clause-goes_on : goal.returns-in-Ok-commit_all-clause-goes_on
returns-in-Ok-commit_all-clause-goes_on g c =
    let a = c.args.pool.now in
    let z = c.commit_all.new.self in
    record {
      history = journaled_events a.state z.state c.in-Ok.events.items (subst (λ (es : List Event). All (λ e. is_journaled e ≡ true) es) (sym c.in-Ok.ensures) c.requires.fits.journaled) c.in-Ok-commit_all.ensures.applied;
      moments = c.commit_all.ensures.continued;
      model = c.commit_all.ensures.model;
      opened = c.commit_all.ensures.opened;
      budget = c.commit_all.ensures.budget;
      faults = c.commit_all.ensures.faults;
    }

pub returns-in-Ok-commit_all-clause-made : goal.returns-in-Ok-commit_all-clause-made
returns-in-Ok-commit_all-clause-made g c =
    let a = c.args.pool.now.state in
    let z = c.commit_all.new.self.state in
    subst (λ (es : List Event). Makes es a z) c.in-Ok.ensures (several a z c.in-Ok.events.items c.in-Ok-commit_all.ensures.applied)

pub returns-in-Ok-commit_all-clause-within : goal.returns-in-Ok-commit_all-clause-within
returns-in-Ok-commit_all-clause-within g c =
    let a = c.args.pool.now in
    never (spends a.budget (length a.state.state.nodes) (events_of c.args.node c.args.settlement))
    (λ e.
    let full : spends a.budget (length a.state.state.nodes) c.in-Ok.events.items ≡ true = ap (spends a.budget (length a.state.state.nodes)) c.in-Ok.ensures ∙ e in
    let bad = sym c.in-Ok-commit_all.is ∙ c.commit_all.ensures.spent.1 (c.requires.sound, full) in
    cc)
  where
    never : (b : Bool) → (b ≡ true → ⊥) → b ≡ false
    never true h = absurd (h refl)
    never false h = refl

pub returns-in-Err-clause-goes_on : goal.returns-in-Err-clause-goes_on
returns-in-Err-clause-goes_on g c =
    let a = c.args.pool.now in
    let z = c.commit_all.new.self in
    record {
      history = stays a.state z.state c.in-Err.ensures.unchanged.state c.in-Err.ensures.unchanged.history;
      moments = c.commit_all.ensures.continued;
      model = c.commit_all.ensures.model;
      opened = c.commit_all.ensures.opened;
      budget = c.commit_all.ensures.budget;
      faults = c.commit_all.ensures.faults;
    }

pub returns-in-Err-clause-faulty : goal.returns-in-Err-clause-faulty
returns-in-Err-clause-faulty g c =
    let a = c.args.pool.now in
    let z = c.commit_all.new.self in
    let es = c.in-Ok.events.items in
    let some : 0 < length es = subst (λ (l : List Event). 0 < length l) (sym c.in-Ok.ensures) c.requires.some in
    record {
      halt = fault_halt c.in-Err.fault es (g.D.Disk.count z.journal.disk) a.halt z.halt some c.requires.sound (λ q. c.commit_all.ensures.halted.0 (c.in-Err.is ∙ ap Err q))
          (c.commit_all.ensures.halt ∙ ap (λ r. halt_after a.halt r es (g.D.Disk.count z.journal.disk)) c.in-Err.is);
      count = subst (λ r. Counts (g.D.Disk.count a.journal.disk) (g.D.Disk.count z.journal.disk) (fails_by_disk r)) c.in-Err.is c.commit_all.ensures.cause;
    }

same_fault : (r : Result (Unit {0}) CommitFault) (f h : CommitFault) → r ≡ Err f → r ≡ Err h → f ≡ h
same_fault r f h e q = cc

pub returns-in-Err-clause-spent : goal.returns-in-Err-clause-spent
returns-in-Err-clause-spent g c = λ e.
    let a = c.args.pool.now in
    let f = c.in-Err.fault in
    subst (λ (es : List Event). spends a.budget (length a.state.state.nodes) es ≡ true) c.in-Ok.ensures (c.commit_all.ensures.spent.0 (c.in-Err.is ∙ ap Err (same_fault (Err f) f fault.Budget refl e))).1

pub returns-in-Err-clause-unmade : goal.returns-in-Err-clause-unmade
returns-in-Err-clause-unmade g c = nothing c.args.pool.now.state c.commit_all.new.self.state c.in-Err.ensures.unchanged
