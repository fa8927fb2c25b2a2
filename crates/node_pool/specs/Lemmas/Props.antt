-- Lemmas: what a pool says of its halt has one proof at most.
use Rattle.std.specs.Prelude.{ℕ, List, [], ◌∷◌, Option, Some, None}
use Rattle.std.proofs.Props.{props}
use Rattle.node_events.specs.declared.event.Event.{Event}
use Rattle.event_core.specs.declared.entry.Entry.{Entry}
use Rattle.event_core.specs.States.{State}
use Rattle.event_core.specs.After.{after}
use Rattle.event_core.specs.Histories.{MayStand, IsLegal, AreLegalFrom, entries_by}
use Rattle.event_core.specs.Laws.{unheld}
use Rattle.node_pool.specs.declared.halt.Halt.{Halt}
use Rattle.node_pool.specs.declared.halt.Halt.TheVariants as halt
use Rattle.node_pool.specs.Halting.{IsHalt}

-- ---- legal events
MayStand-prop : (s : State) (w : Option ℕ) (e : Event) → IsProp (MayStand s w e)
MayStand-prop s None e = hlevel props
MayStand-prop s (Some w) e = hlevel props

IsLegal-prop : (s : State) (w : Option ℕ) (e : Event) → IsProp (IsLegal s w e)
IsLegal-prop s w e = hlevel (MayStand-prop s w e, props)

AreLegalFrom-prop : (s : State) (es : List Entry) → IsProp (AreLegalFrom s es)
AreLegalFrom-prop s [] = hlevel props
AreLegalFrom-prop s (e ∷ es) = hlevel (IsLegal-prop s e.worker e.event, AreLegalFrom-prop (after s e.worker e.event) es, props)

-- ---- halts
pub IsHalt-prop : (faults budget count : ℕ) (fault : Option ℕ) (s : State) (h : Option Halt) → IsProp (IsHalt faults budget count fault s h)
IsHalt-prop faults budget count fault s None = hlevel props
IsHalt-prop faults budget count fault s (Some halt.Memory) = hlevel props
IsHalt-prop faults budget count fault s (Some (halt.Disk n es)) = hlevel (AreLegalFrom-prop (unheld s) (entries_by None es), props)
IsHalt-prop faults budget count fault s (Some (halt.Budget e)) = hlevel props
