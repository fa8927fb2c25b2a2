-- Lemmas: a relaxation that is kept from event to event.
use Rattle.std.specs.Prelude.{ℕ, List, Option}
use Rattle.std.proofs.Common.{sym, subst}
use Rattle.problem.specs.Problem.{Problem}
use Rattle.derivation_book.specs.declared.cut.Cut.{Cut}
use Rattle.node_events.specs.declared.event.Event.{Event}
use Rattle.dual_simplex.specs.Prepared.{Prepared, IsKept}
use Rattle.dual_simplex.specs.Lemmas.Kept.{still_kept}
use Rattle.event_core.specs.States.{State}
use Rattle.event_core.specs.After.{after}
use Rattle.event_core.specs.Frames.{cut_by, cuts_of}
use Rattle.event_core.specs.Lemmas.Frames.{keeps_frame}

-- it is one of the state after an event too
pub kept_after : (s : State) (w : Option ℕ) (e : Event) (o : Option Prepared) → IsKept s.problem s.cuts o → IsKept (after s w e).problem (after s w e).cuts o
kept_after s w e o h =
    let f = keeps_frame s w e in
    subst (λ (p : Problem). IsKept p (after s w e).cuts o) (sym f.problem)
    (subst (λ (cs : List Cut). IsKept s.problem cs o) (sym f.cuts) (still_kept s.problem s.cuts (cuts_of s (cut_by e)) o h))
