-- How a pool goes on, one call after another.
use Rattle.std.specs.Prelude.{◌≡◌, ◌<◌, ℕ, IsSome, List, [], ◌∷◌, ◌++◌, length, Option, Some, None, Err, slice_get, refl}
use Rattle.std.proofs.Common.{sym, ap, ◌∙◌, subst, arith}
use Rattle.std.proofs.lemmas.Bool.{false≢true}
use Rattle.outside.specs.declared.disk.Disk.{Ghosts}
use Rattle.node_events.specs.declared.event.Event.{Event}
use Rattle.event_core.specs.declared.entry.Entry.{Entry}
use Rattle.event_core.specs.States.{State}
use Rattle.event_core.specs.After.{after}
use Rattle.event_core.specs.Rooms.{Recorded}
use Rattle.node_journal.specs.declared.journal.Journal.{Journal}
use Rattle.node_journal.specs.Whole.{payloads_in}
use Rattle.node_pool.specs.Halting.{halt_after}
use Rattle.node_pool.specs.Payloads.{model_in}
use Rattle.node_pool.specs.Applied.{Applies, AppliesNothing}
use Rattle.node_pool.specs.declared.answers.CommitFault.{CommitFault}
use Rattle.node_pool.specs.declared.answers.CommitFault.TheVariants as fault
use Rattle.node_pool.specs.declared.halt.Halt.{Halt}
use Rattle.node_pool.specs.declared.pool.Pool.{Pool}
use Rattle.core_search.specs.Entries.{ExtendsHistory, IsGreatestIfClaim}
use Rattle.core_search.specs.Pools.{PoolGoesOn, StaysSound, IsFaultHalt}
use Rattle.core_search.proofs.Entering.{one_event, joined, stays}

-- an event after nothing
pub applied_then : (a b c : Recorded) (e : Event) → AppliesNothing a b → Applies b (Some 0) e c → IsGreatestIfClaim a.state e → ExtendsHistory a c
applied_then a b c e h k g =
    one_event a c e (k.state ∙ ap (λ (s : State). after s (Some 0) e) h.state) (k.history ∙ ap (λ (es : List Entry). es ++ record { worker = Some 0; event = e } ∷ []) h.history) g

module _ {D : Type 0} {d : Ghosts D} where
  -- where the journal stays
  pub same_journal : (a b : Pool D d) → ExtendsHistory a.state b.state → b.journal ≡ a.journal → b.budget ≡ a.budget → b.faults ≡ a.faults → PoolGoesOn a b
  same_journal a b h e budget faults = record {
    history = h;
    moments = λ told i m q. subst (λ (j : Journal D d). slice_get (d.past j.disk ++ d.now j.disk ∷ []) i ≡ Some m) (sym e) q;
    model = λ told. ap (λ (j : Journal D d). model_in (payloads_in (d.now j.disk))) e;
    opened = ap (λ (j : Journal D d). j.opened) e;
    budget = budget;
    faults = faults;
  }

  pub goes_nowhere : (a : Pool D d) → PoolGoesOn a a
  goes_nowhere a = same_journal a a (stays a.state a.state refl refl) refl refl refl

  -- one after the other
  pub goes_on : (a b c : Pool D d) → PoolGoesOn a b → PoolGoesOn b c → PoolGoesOn a c
  goes_on a b c h k = record {
    history = joined a.state b.state c.state h.history k.history;
    moments = λ told i m q. k.moments told i m (h.moments told i m q);
    model = λ told. k.model told ∙ h.model told;
    opened = k.opened ∙ h.opened;
    budget = k.budget ∙ h.budget;
    faults = k.faults ∙ h.faults;
  }

  pub sound_still : (a b c : Pool D d) → StaysSound a b → StaysSound b c → StaysSound a c
  sound_still a b c h k = record { halt = k.halt; count = k.count ∙ h.count }

-- ---- how a commit fails
-- the halt of a pool that wasn't halted before
pub fault_halt : (f : CommitFault) (es : List Event) (count : ℕ) (old new : Option Halt) → 0 < length es → old ≡ None → (f ≡ fault.Halted → IsSome old) → new ≡ halt_after old (Err f) es count → IsFaultHalt f new
fault_halt fault.Disk es count old new some h u e = (count, es, e)
fault_halt fault.Budget [] count old new some h u e = absurd (omega (arith, some))
fault_halt fault.Budget (x ∷ es) count old new some h u e = (x, e)
fault_halt fault.Memory es count old new some h u e = e ∙ h
fault_halt fault.Halted es count old new some h u e = absurd (false≢true (subst IsSome h (u refl)))
