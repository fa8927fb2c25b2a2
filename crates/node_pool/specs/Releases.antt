-- What comes behind a halt.
use Rattle.std.specs.Prelude.{◌≡◌, Bool, true, false, List, ◌++◌, length, drop, Option, Some, None}
use Rattle.std.specs.List.{list_all}
use Rattle.node_events.specs.declared.event.Event.{Event}
use Rattle.node_events.specs.declared.event.Event.TheVariants.{Claim, Release, Cut, Offer, Split, Close}
use Rattle.event_core.specs.declared.entry.Entry.{Entry}
use Rattle.node_pool.specs.declared.halt.Halt.{Halt}

-- it gives a node back
abbrev pub is_release : Event → Bool
is_release (Claim i) = false
is_release (Release i) = true
is_release (Cut mult) = false
is_release (Offer x) = false
is_release (Split i j b reason) = false
is_release (Close i proof) = false

-- The second history goes on from the first, and by releases alone.
pub record OnlyReleases (before after : List Entry) : Type 0 where
  pub goes_on : after ≡ before ++ drop (length before) after
  pub releases : list_all (λ (e : Entry). is_release e.event) (drop (length before) after) ≡ true

-- The history when the pool was halted, after a call that found the first halt and left the second: where the call halted the pool, it is the history that the
-- call found, and else the one from before.
abbrev pub history_at : Option Halt → Option Halt → List Entry → List Entry → List Entry
history_at None (Some h) before found = found
history_at None None before found = before
history_at (Some h) k before found = before
