-- Which content of a disk is refused, and how.
use Rattle.std.specs.Prelude.{◌≡◌, ◌⊎◌, ℕ, ◌<◌, Bool, true, false, List, [], length, Result, Ok, Err}
use Rattle.node_journal.specs.Records.{Records, Intact, Foreign, BrokenAt}
use Rattle.resume.specs.declared.fault.ResumeFault.{ResumeFault}
use Rattle.resume.specs.declared.fault.ResumeFault.TheVariants as fault
use Rattle.resume.specs.declared.fault.PayloadFault.{PayloadFault}
use Rattle.resume.specs.declared.fault.PayloadFault.TheVariants as payload
use Rattle.node_journal.specs.declared.fault.JournalFault.{JournalFault}
use Rattle.node_journal.specs.declared.fault.JournalFault.TheVariants as journal
use Rattle.resume.specs.Models.{IsNoModel, IsOtherModel}
use Rattle.node_pool.specs.Payloads.{model_in}
use Rattle.resume.specs.Journals.{IsDamagedAt, IsDamagedModel, IsDamagedEvent}

-- the fault of a journal that can't be read
abbrev pub fault_of : JournalFault → ResumeFault
fault_of journal.NotAJournal = fault.NotAJournal
fault_of (journal.Damaged at) = fault.Damaged at
fault_of journal.Disk = fault.Disk
fault_of journal.Memory = fault.Memory

-- the fault of a payload whose gate stands at this place
abbrev pub fault_at : ℕ → PayloadFault → ResumeFault
fault_at at payload.Damaged = fault.Damaged at
fault_at at payload.Memory = fault.Memory

-- the refusal that these payloads call for, where any model is taken
abbrev pub RefusesPayloads : ResumeFault → List (List ℕ) → Type 0
RefusesPayloads fault.NotAJournal ps = ⊥
RefusesPayloads (fault.Damaged at) ps = IsDamagedAt ps at
RefusesPayloads (fault.OtherModel at) ps = ⊥
RefusesPayloads fault.NoModel ps = ps ≡ []
RefusesPayloads fault.Disk ps = ⊥
RefusesPayloads fault.Memory ps = Unit {0}

-- the refusal that the payloads behind the record of a model call for
abbrev pub RefusesEvents : ResumeFault → List (List ℕ) → Type 0
RefusesEvents fault.NotAJournal ps = ⊥
RefusesEvents (fault.Damaged at) ps = IsDamagedEvent ps at
RefusesEvents (fault.OtherModel at) ps = ⊥
RefusesEvents fault.NoModel ps = ⊥
RefusesEvents fault.Disk ps = ⊥
RefusesEvents fault.Memory ps = Unit {0}

-- the refusal that a first payload calls for which is not this record of a model
abbrev pub RefusesFirst : List ℕ → ResumeFault → List ℕ → Type 0
RefusesFirst model fault.NotAJournal first = ⊥
RefusesFirst model (fault.Damaged at) first = IsNoModel first × (at ≡ 8)
RefusesFirst model (fault.OtherModel at) first = IsOtherModel model first at
RefusesFirst model fault.NoModel first = ⊥
RefusesFirst model fault.Disk first = ⊥
RefusesFirst model fault.Memory first = Unit {0}

-- damaged, in a journal that has to begin with the record of this model
abbrev pub IsDamagedFor : List ℕ → List (List ℕ) → ℕ → Type 0
IsDamagedFor model ps at = IsDamagedModel ps at ⊎ ((model_in ps ≡ model) × IsDamagedEvent ps at)

-- the refusal that these payloads call for, where they have to begin with the record of this model
abbrev pub RefusesPayloadsFor : List ℕ → ResumeFault → List (List ℕ) → Type 0
RefusesPayloadsFor model fault.NotAJournal ps = ⊥
RefusesPayloadsFor model (fault.Damaged at) ps = IsDamagedFor model ps at
RefusesPayloadsFor model (fault.OtherModel at) ps = (0 < length ps) × IsOtherModel model (model_in ps) at
RefusesPayloadsFor model fault.NoModel ps = ⊥
RefusesPayloadsFor model fault.Disk ps = ⊥
RefusesPayloadsFor model fault.Memory ps = Unit {0}

-- The refusal that the content of a disk calls for, by what its payloads call for. A fault of the disk and want of memory say nothing of it.
abbrev pub Refuses : (ResumeFault → List (List ℕ) → Type 0) → ResumeFault → Records → Type 0
Refuses P fault.NotAJournal r = r ≡ Foreign
Refuses P (fault.Damaged at) r = (r ≡ BrokenAt at) ⊎ ((ps : List (List ℕ)) × (r ≡ Intact ps) × P (fault.Damaged at) ps)
Refuses P (fault.OtherModel at) r = (ps : List (List ℕ)) × (r ≡ Intact ps) × P (fault.OtherModel at) ps
Refuses P fault.NoModel r = (ps : List (List ℕ)) × (r ≡ Intact ps) × P fault.NoModel ps
Refuses P fault.Disk r = Unit {0}
Refuses P fault.Memory r = Unit {0}

-- the content is refused
abbrev pub is_refusal : ResumeFault → Bool
is_refusal fault.NotAJournal = true
is_refusal (fault.Damaged at) = true
is_refusal (fault.OtherModel at) = true
is_refusal fault.NoModel = true
is_refusal fault.Disk = false
is_refusal fault.Memory = false

-- the fault is the disk's
abbrev pub is_disk : ResumeFault → Bool
is_disk fault.NotAJournal = false
is_disk (fault.Damaged at) = false
is_disk (fault.OtherModel at) = false
is_disk fault.NoModel = false
is_disk fault.Disk = true
is_disk fault.Memory = false

-- the call failed by a fault of the disk
abbrev pub disk_failed : {T : Type 0} → Result T ResumeFault → Bool
disk_failed (Ok x) = false
disk_failed (Err e) = is_disk e
