use Rattle.std.proofs.Common.{ℕ, ◌<◌, slice_index_or}
use Rattle.node_events.specs.declared.event.Event.{Event}
use Rattle.event_codec.specs.declared.enc.Enc.TheVariants.{Two}
use Rattle.event_codec.specs.Codes.{IsCodable}
use Rattle.node_pool.proofs.payload.are_codable.Given as goal

abbrev pub invariant-loop-event : goal.invariant-loop-event
invariant-loop-event l = (k : ℕ) (d : Event) → k < l.event-index → IsCodable Two (slice_index_or l.events k d)
