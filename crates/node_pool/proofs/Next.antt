-- Events that are legal for a worker are those that a journal may have next.
use Rattle.std.specs.Prelude.{◌≡◌, ℕ, true, List, [], ◌∷◌, ◌++◌, Some, None}
use Rattle.std.proofs.Common.{sym, ap, ◌∙◌, subst}
use Rattle.problem.specs.Problem.{Problem}
use Rattle.node_events.specs.declared.event.Event.{Event}
use Rattle.event_core.specs.declared.entry.Entry.{Entry}
use Rattle.event_core.specs.declared.admit.Admit.TheVariants.{Yes}
use Rattle.event_core.specs.States.{State, first_state}
use Rattle.event_core.specs.Judging.{judged}
use Rattle.event_core.specs.Histories.{is_journaled, journaled, state_of, AreLegal, AreLegalFrom, entries_by}
use Rattle.event_core.specs.Laws.{unheld, AreJournaled, JournalsAreLegal}
use Rattle.event_core.specs.Lemmas.Running.{legal_back, legal_both}
use Rattle.node_pool.specs.Halting.{IsNext}
use Rattle.node_pool.proofs.Spelling.{AreJournaledEvents, journaled-all}

module _ (p : Problem) (es : List Entry) (s : State) (law : JournalsAreLegal p) (legal : AreLegal p es) (is : s ≡ state_of p es) where
  before : AreJournaled p es
  before = law es legal

  pub next_events : (w : ℕ) (fs : List Event) → AreLegalFrom s (entries_by (Some w) fs) → AreJournaledEvents fs → AreLegalFrom (unheld s) (entries_by None fs)
  next_events w fs more all = subst (λ (t : State). AreLegalFrom t (entries_by None fs)) (before.same ∙ ap unheld (sym is)) last
    where
      whole : AreLegal p (es ++ entries_by (Some w) fs)
      whole = legal_both (first_state p) es (entries_by (Some w) fs) legal (subst (λ (t : State). AreLegalFrom t (entries_by (Some w) fs)) is more)

      last : AreLegalFrom (state_of p (journaled es)) (entries_by None fs)
      last = legal_back (first_state p) (journaled es) (entries_by None fs) (subst (AreLegal p) (journaled-all es (Some w) fs all) (law (es ++ entries_by (Some w) fs) whole).legal)

  pub next_event : (w : ℕ) (e : Event) → judged s (Some w) e ≡ Yes → is_journaled e ≡ true → IsNext (unheld s) e
  next_event w e admitted journals = record {
    journaled = journals;
    admitted = (next_events w (e ∷ []) (record { admitted = admitted; stands = tt }, tt) (journals, tt)).0.admitted;
  }
