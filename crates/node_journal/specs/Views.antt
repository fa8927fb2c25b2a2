-- What a scan found.
use Rattle.std.specs.Prelude.{◌≡◌, ℕ, Bool, true, false, List, length, Result, Ok, Err}
use Rattle.node_journal.specs.Frames.{payloads_at}
use Rattle.node_journal.specs.Index.{ReadsTo}
use Rattle.node_journal.specs.declared.scanned.Scanned.{Scanned}
use Rattle.node_journal.specs.declared.fault.JournalFault.{JournalFault}
use Rattle.node_journal.specs.declared.fault.JournalFault.TheVariants as fault

-- the payloads, the oldest first
abbrev pub payloads_of : Scanned → List (List ℕ)
payloads_of s = payloads_at s.file.items s.places.items

-- A scan of a disk that holds these bytes finds this.
pub record IsScanOf (file : List ℕ) (s : Scanned) : Type 0 where
  pub size : s.size ≡ length file
  pub reads : ReadsTo file (payloads_of s)

-- the fault is the disk's
abbrev pub is_disk : JournalFault → Bool
is_disk fault.NotAJournal = false
is_disk (fault.Damaged place) = false
is_disk fault.Disk = true
is_disk fault.Memory = false

-- the call failed by a fault of the disk
abbrev pub disk_failed : {T : Type 0} → Result T JournalFault → Bool
disk_failed (Ok x) = false
disk_failed (Err e) = is_disk e
