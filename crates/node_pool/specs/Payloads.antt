-- The events that the payloads of a journal spell, and what crashes leave of them.
use Rattle.std.specs.Prelude.{◌≡◌, ◌⊎◌, ◌<◌, ℕ, Bool, false, if◌then◌else◌, List, [], ◌∷◌, ◌++◌, length, take, Option, Some, None, Result, Ok, Err, slice_index_or, unwrap_or}
use Rattle.std.specs.List.{list_any}
use Rattle.outside.specs.declared.moment.Moment.{Moment}
use Rattle.node_events.specs.declared.event.Event.{Event}
use Rattle.event_core.specs.declared.entry.Entry.{Entry}
use Rattle.event_core.specs.Histories.{journaled, entries_by}
use Rattle.event_codec.specs.declared.fault.CodecFault.{CodecFault}
use Rattle.event_codec.specs.declared.enc.Enc.{Enc}
use Rattle.event_codec.specs.declared.enc.Enc.TheVariants.{One, Two}
use Rattle.event_codec.specs.Groups.{group_code, group_of}
use Rattle.event_codec.specs.Upgrades.{upgrade_code, is_upgrade}
use Rattle.node_journal.specs.Records.{Records, Intact, Foreign, BrokenAt, records}
use Rattle.node_journal.specs.History.{EachFrom, IsPrefixOf, first_of}
use Rattle.node_journal.specs.Whole.{payloads_in}
use Rattle.node_pool.specs.declared.halt.Halt.{Halt}
use Rattle.node_pool.specs.declared.halt.Halt.TheVariants.{Memory, Disk, Budget}

-- ---- what payloads spell
-- events, and that those behind them are in the same encoding
abbrev pub in_encoding : Enc → Result (List Event) CodecFault → Result (List Event × Enc) CodecFault
in_encoding enc (Ok es) = Ok (es, enc)
in_encoding enc (Err f) = Err f

-- these events before others, if there are others
abbrev pub with_events : List Event → Option (List Entry) → Option (List Entry)
with_events es (Some rest) = Some (entries_by None es ++ rest)
with_events es None = None

-- What a payload spells, by its encoding: its events, and the encoding of the payloads behind it. In encoding 1 the record of the upgrade spells no events, and the
-- payloads behind it are in encoding 2. Each other payload is a group, and so is each in encoding 2, where that record is none: so it stands once at most.
abbrev pub spelled : Enc → List ℕ → Result (List Event × Enc) CodecFault
spelled One p = if is_upgrade p then Ok ([], Two) else in_encoding One (group_of One p)
spelled Two p = in_encoding Two (group_of Two p)

-- the events of what a payload spells, before those of the payloads behind it; none where one of them spells nothing
abbrev pub with_spelled : Result (List Event × Enc) CodecFault → (Enc → Option (List Entry)) → Option (List Entry)
with_spelled (Ok s) rest = with_events s.0 (rest s.1)
with_spelled (Err f) rest = None

-- the events of these payloads, in order, the first of them in this encoding
abbrev pub entries_from : Enc → List (List ℕ) → Option (List Entry)
entries_from enc [] = Some []
entries_from enc (p ∷ ps) = with_spelled (spelled enc p) (λ next. entries_from next ps)

-- the events of these payloads, which stand behind the model's record (docs/DECISIONS.md, entry 84)
abbrev pub entries_in : List (List ℕ) → Option (List Entry)
entries_in ps = entries_from One ps

-- the model's record: the first payload
abbrev pub model_in : List (List ℕ) → List ℕ
model_in ps = slice_index_or ps 0 []

-- the events of a journal: those of the payloads behind the model's record; none where there is no record, or one of them spells nothing
-- (docs/DECISIONS.md, entry 78)
abbrev pub journal_entries : List (List ℕ) → Option (List Entry)
journal_entries [] = None
journal_entries (model ∷ ps) = entries_in ps

-- The payloads are a model's record, and behind it those that spell the events of the history that a journal has.
abbrev pub IsJournalOf : List (List ℕ) → List Entry → Type 0
IsJournalOf ps history = journal_entries ps ≡ Some (journaled history)

-- ---- what a pool adds
-- the record of the upgrade stands behind the model's record
abbrev pub is_upgraded : List (List ℕ) → Bool
is_upgraded [] = false
is_upgraded (model ∷ ps) = list_any is_upgrade ps

-- these payloads, and the record of the upgrade as the last one where it isn't there
abbrev pub with_upgrade : List (List ℕ) → List (List ℕ)
with_upgrade ps = if is_upgraded ps then ps else ps ++ upgrade_code ∷ []

-- the payload of events in a journal that has the record of the upgrade
abbrev pub group_payload : List Event → List ℕ
group_payload es = group_code Two es

-- their payload reads back as them
abbrev pub IsReadBack : List Event → Type 0
IsReadBack es = group_of Two (group_payload es) ≡ Ok es

-- ---- what crashes leave
-- The events that were given to the journal: those of the history, and behind them those in whose call the disk failed.
abbrev pub events_given : List Entry → Option Halt → List Entry
events_given history None = journaled history
events_given history (Some Memory) = journaled history
events_given history (Some (Budget event)) = journaled history
events_given history (Some (Disk faults events)) = journaled history ++ entries_by None events

-- The payloads are a model's record, and behind it those that spell the journaled events of the history, or all events that were given. Where the disk didn't
-- fail these are the same; where it did, the events of that call may stand behind those of the history, all of them or none.
abbrev pub IsJournalAfter : List (List ℕ) → List Entry → Option Halt → Type 0
IsJournalAfter ps history halt = ∥ IsJournalOf ps history ⊎ (journal_entries ps ≡ Some (events_given history halt)) ∥₁

-- the events of what a file holds, where the model's record may be missing, with all behind it
abbrev pub entries_held : Records → Option (List Entry)
entries_held (Intact []) = Some []
entries_held (Intact (model ∷ ps)) = entries_in ps
entries_held Foreign = None
entries_held (BrokenAt place) = None

-- how many events a file holds
abbrev pub count_held : Records → ℕ
count_held r = length (unwrap_or (entries_held r) [])

-- A file holds a beginning of a journal: nothing, or this record of a model, and behind it the first of the events that were given, perhaps with the record of
-- the upgrade. Of those in whose call the disk failed it holds all or none.
pub record IsBeginningOf (model : List ℕ) (history : List Entry) (halt : Option Halt) (r : Records) : Type 0 where
  pub model_first : IsPrefixOf (model ∷ []) (first_of 1 r)
  pub events : entries_held r ≡ Some (take (count_held r) (events_given history halt))
  pub whole : length (journaled history) < count_held r → count_held r ≡ length (events_given history halt)

-- Each crash at a moment from this number on leaves a beginning of the journal.
abbrev pub LeavesBeginnings : ℕ → List Moment → Moment → List Entry → Option Halt → Type 0
LeavesBeginnings from past now history halt = EachFrom from (past ++ now ∷ []) (λ c. IsBeginningOf (model_in (payloads_in now)) history halt (records c))
