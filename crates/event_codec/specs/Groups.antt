-- Groups: the events of one finding as one payload (docs/JOURNAL.md).
use Rattle.std.specs.Prelude.{ℕ, ◌<◌, ◌≤◌, Bool, false, ◌&&◌, ◌==◌, nat_lt, nat_le, if◌then◌else◌, List, [], ◌∷◌, length, All, Result, Ok}
use Rattle.std.specs.List.{flat_map}
use Rattle.node_events.specs.declared.event.Event.{Event}
use Rattle.event_codec.specs.declared.fault.CodecFault.{CodecFault}
use Rattle.event_codec.specs.declared.fault.CodecFault.TheVariants.{Long, BadValue}
use Rattle.event_codec.specs.declared.enc.Enc.{Enc}
use Rattle.event_codec.specs.Places.{Place, beginning}
use Rattle.event_codec.specs.ReadResults.{Read, ◌>>=◌, test}
use Rattle.event_codec.specs.Codes.{code, IsCodable}
use Rattle.event_codec.specs.Types.{IsEvent}
use Rattle.event_codec.specs.Reading.{byte_at, elements_at, event_at}

-- the most events of a group
abbrev pub most_group_events : ℕ
most_group_events = 64

-- at least one event and not too many, each of which has a code in the encoding
pub record IsGroup (enc : Enc) (events : List Event) : Type 0 where
  pub some : 0 < length events
  pub few : length events ≤ most_group_events
  pub codable : All (IsCodable enc) events
  pub typed : All IsEvent events

-- A tag, how many events there are, as one byte, and the code of each.
abbrev pub several_code : Enc → List Event → List ℕ
several_code enc events = 6 ∷ length events ∷ flat_map (code enc) events

-- The code of a group. A group of one event is spelled as the event is.
unfoldable pub group_code : Enc → List Event → List ℕ
group_code enc events = if length events == 1 then flat_map (code enc) events else several_code enc events

-- ---- reading it

-- a number of events that stands behind the tag
abbrev pub is_several : ℕ → Bool
is_several n = nat_lt 1 n && nat_le n most_group_events

-- whether bytes begin with the tag of several events
abbrev pub begins_several : List ℕ → Bool
begins_several [] = false
begins_several (tag ∷ bytes) = tag == 6

-- several events, each by its own tag
unfoldable pub several_at : Enc → Place → Read (List Event)
several_at enc p = do
  tag ← byte_at p
  count ← byte_at tag.1
  _ ← test (is_several count.0) (BadValue tag.1.at)
  elements_at (event_at enc) count.0 count.1

-- one event
unfoldable pub single_at : Enc → Place → Read (List Event)
single_at enc p = do
  event ← event_at enc p
  Ok (event.0 ∷ [], event.1)

-- several events where their tag is there, else one
unfoldable pub group_at : Enc → Place → Read (List Event)
group_at enc p = if begins_several p.rest then several_at enc p else single_at enc p

-- the group that a payload spells, all of its bytes
unfoldable pub group_of : Enc → List ℕ → Result (List Event) CodecFault
group_of enc bytes = do
  group ← group_at enc (beginning bytes)
  _ ← test (length group.1.rest == 0) (Long group.1.at)
  Ok group.0
