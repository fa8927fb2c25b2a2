-- A pool that is over stays so.
use Rattle.std.specs.Prelude.{◌≡◌, true, List, ◌++◌, Option, Some, None, IsSome, is_some, refl}
use Rattle.std.proofs.Common.{inl, inr, ⊎_elim, ap, ◌∙◌}
use Rattle.event_core.specs.States.{open_count}
use Rattle.node_pool.specs.declared.halt.Halt.{Halt}
use Rattle.worker_gate.specs.declared.entry.PoolEntry.{PoolEntry}
use Rattle.worker_gate.specs.Entries.{is_opened, events_in, halt_in, state_in}
use Rattle.worker_gate.specs.Legal.{IsLegalList}
use Rattle.worker_gate.specs.Lemmas.Lists.{halt-first}
use Rattle.crew.specs.Lists.{IsFront, IsOver}
use Rattle.crew.proofs.Fronts.{front_state, front_legal}
use Rattle.event_core.specs.Lemmas.Frames.{none_open_from}

halt_stays : (a b : List PoolEntry) (h : Option Halt) → halt_in a ≡ h → is_some h ≡ true → is_some (halt_in (a ++ b)) ≡ true
halt_stays a b None e s = cc
halt_stays a b (Some h) e s = ap is_some (halt-first a b h e)

pub over_stays : (a b : List PoolEntry) → IsFront a b → is_opened a ≡ true → IsLegalList b → IsOver a → IsOver b
over_stays a b front opened legal over = ⊎_elim
    (λ (h : IsSome (halt_in a)). inl (ap (λ (l : List PoolEntry). is_some (halt_in l)) front.1 ∙ halt_stays a front.0 (halt_in a) refl h))
    (λ (z : open_count (state_in a) ≡ 0). inr (ap open_count (front_state a b front opened) ∙ none_open_from (state_in a) (events_in front.0) (front_legal a b front opened legal) z))
    over
