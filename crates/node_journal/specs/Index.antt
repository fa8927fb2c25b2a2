-- Where the payloads of a file stand.
use Rattle.std.specs.Prelude.{◌≡◌, ◌⊎◌, ℕ, ◌<◌, ◌≤◌, true, false, List, [], ◌++◌, length, take, drop}
use Rattle.std.specs.List.{list_all}
use Rattle.node_journal.specs.Records.{Records, Foreign, BrokenAt, mark, is_gate_open}
use Rattle.node_journal.specs.Frames.{frames_of, places_from, payloads_at, end_of, has_small_length}
use Rattle.node_journal.specs.declared.fault.JournalFault.{JournalFault}
use Rattle.node_journal.specs.declared.fault.JournalFault.TheVariants as fault

-- Up to this end the file is the mark and frames, whose gates have these places.
pub record IsIndexed (file places : List ℕ) (end : ℕ) : Type 0 where
  pub within : end ≤ length file
  pub prefix : take end file ≡ mark ++ frames_of (payloads_at file places)
  pub places_are : places ≡ places_from 8 (payloads_at file places)
  pub small : list_all has_small_length (payloads_at file places) ≡ true

-- A file of these payloads, which end at a gate that is closed or is not there, or a file that is too short for any.
pub record EndsAt (file : List ℕ) (ps : List (List ℕ)) (end : ℕ) : Type 0 where
  pub prefix : take end file ≡ mark ++ frames_of ps
  pub within : end ≤ length file
  pub closed : is_gate_open (drop end file) ≡ false

-- the refusal that the content calls for
abbrev pub Refuses : JournalFault → Records → Type 0
Refuses fault.NotAJournal r = r ≡ Foreign
Refuses (fault.Damaged place) r = r ≡ BrokenAt place
Refuses fault.Disk r = Unit {0}
Refuses fault.Memory r = Unit {0}

-- a damage lies before this end
abbrev pub IsInside : ℕ → JournalFault → Type 0
IsInside end fault.NotAJournal = Unit {0}
IsInside end (fault.Damaged place) = place < end
IsInside end fault.Disk = Unit {0}
IsInside end fault.Memory = Unit {0}

-- What a file of these payloads looks like before it is recovered.
abbrev pub ReadsTo : List ℕ → List (List ℕ) → Type 0
ReadsTo file ps = ((length file ≤ 9) × (ps ≡ [])) ⊎ EndsAt file ps (end_of ps)
