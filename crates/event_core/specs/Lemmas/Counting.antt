-- Lemma: how many nodes a list of events splits.
use Rattle.std.specs.Prelude.{◌≡◌, ◌+◌, List, ◌∷◌, cond}
use Rattle.std.proofs.lemmas.List.Sums.{sum_by-cons}
use Rattle.node_events.specs.declared.event.Event.{Event}
use Rattle.event_core.specs.Frames.{is_split}
use Rattle.event_core.specs.Rooms.{split_count}

-- by the first event, and by those behind it
pub splits_are : (e : Event) (es : List Event) → split_count (e ∷ es) ≡ cond (is_split e) 1 0 + split_count es
splits_are e es = sum_by-cons (λ (f : Event). cond (is_split f) 1 0) e es
