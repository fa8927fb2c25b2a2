-- What a run keeps of a journal, whatever crash comes.
use Rattle.std.specs.Prelude.{◌≡◌, ◌⊎◌, ◌+◌, ◌≤◌, ℕ, true, List, length, Option, None}
use Rattle.problem.specs.Problem.{Problem}
use Rattle.mps_reader.specs.Reading.{Reads}
use Rattle.outside.specs.Images.{AtRest, LeavesOnly}
use Rattle.event_core.specs.declared.entry.Entry.{Entry}
use Rattle.event_core.specs.Histories.{journaled}
use Rattle.node_journal.specs.Records.{Intact, records}
use Rattle.node_journal.specs.Whole.{payloads_in}
use Rattle.node_journal.specs.History.{EachFrom, ExtendsMoments, IsHistory, IsPrefixOf, Keeps, KeepsHistory}
use Rattle.node_pool.specs.Payloads.{LeavesBeginnings, model_in}
use Rattle.node_pool.specs.declared.halt.Halt.{Halt}
use Rattle.resume.specs.Journals.{StandsFor, StandsForSome, IsFreshOrOf, IsFreshOrStands}
use Rattle.resume.specs.Refusals.{is_refusal}
use Rattle.resume.specs.declared.fault.ResumeFault.{ResumeFault}
use Rattle.resume.specs.Crashes.{IsAsBeforeOrBegun}
use Rattle.solve_top.specs.declared.outcome.Refusal.{Refusal}
use Rattle.solve_top.specs.declared.outcome.Refusal.TheVariants as refusal
use Rattle.solve_top.specs.declared.request.Request.{Request}
use Rattle.solve_top.specs.declared.request.Request.TheVariants.{Solve, Resume, Show, Drill}
use Rattle.solve_top.specs.Changes.{SourceChange, DiskChange, Rises, Stays, IsUntouched, moments_before, moments_after}
use Rattle.solve_top.specs.Models.{IsFreshOrWith, model_before, record_of}
use Rattle.solve_top.specs.Searches.{Search}

-- What is promised of crashes (docs/DECISIONS.md, entry 51), of a disk that was at rest before the call. `IsOwn` says which problem the run is about,
-- and by which record of its model.
pub record KeepsJournal (d : DiskChange) (IsOwn : List ℕ → Problem → Type 0) : Type 0 where
  -- The moments from before the call stay the first ones.
  pub extends : ExtendsMoments (moments_before d) (moments_after d)
  -- Where the disk held a journal, so does what each crash leaves at each moment of the call; of two such journals one begins the other; and what all
  -- crashes at one moment leave, all crashes at each later moment leave. So no event that was acknowledged is ever gone.
  pub history : (ps : List (List ℕ)) → records d.now_before.seen ≡ Intact ps → IsHistory (length d.past_before) (moments_after d)
  -- Where no call of the disk failed, each crash leaves a prefix of the payloads that it holds at the end.
  pub prefixes : (ps : List (List ℕ)) → records d.now_before.seen ≡ Intact ps → ¬ Rises d.faults → EachFrom (length d.past_before) (moments_after d) (λ c. IsPrefixOf (payloads_in d.now_after) (records c))
  -- Where it was fresh or stood for the problem, so does what each crash leaves.
  pub stands : (model : List ℕ) (p : Problem) → IsOwn model p → IsFreshOrStands p d.now_before.seen → EachFrom (length d.past_before) (moments_after d) (IsFreshOrStands p)
  -- Where it did so by this record of the model, so does what each crash leaves.
  pub begun : (model : List ℕ) (p : Problem) → IsOwn model p → IsFreshOrOf model p d.now_before.seen → EachFrom (length d.past_before) (moments_after d) (IsFreshOrOf model p)
  -- Where no call of the disk failed, it is at rest again.
  pub rests : ¬ Rises d.faults → AtRest d.now_after

-- What a search keeps of a journal that was opened at the moment of this number, by the disk's change since then.
pub record IsKept (opened : ℕ) (p : Problem) (d : DiskChange) : Type 0 where
  pub extends : ExtendsMoments (moments_before d) (moments_after d)
  pub history : IsHistory opened (moments_after d)
  pub prefixes : ¬ Rises d.faults → EachFrom opened (moments_after d) (λ c. IsPrefixOf (payloads_in d.now_after) (records c))
  pub stands : EachFrom opened (moments_after d) (IsFreshOrStands p)
  pub rests : ¬ Rises d.faults → AtRest d.now_after

-- What a pool knows of its journal as it is opened, by the disk's change until then: the moment of this number is the next after the first. The journal
-- has the record of this model and the events of this history, and each crash leaves them. Of a disk that was at rest it tells what crashes left before.
pub record IsOpened (model : List ℕ) (p : Problem) (history : List Entry) (opened : ℕ) (d : DiskChange) : Type 0 where
  pub next : opened ≡ length d.past_before + 1
  pub begun : opened ≤ length d.past_after
  pub held : IsFreshOrWith model p history d.now_before.seen
  pub of_model : model_in (payloads_in d.now_after) ≡ model
  pub stands : StandsFor p (payloads_in d.now_after) history
  pub all : Keeps (payloads_in d.now_after) d.now_after
  pub any_moment : AtRest d.now_before → LeavesOnly d.past_before d.now_before d.past_after d.now_after (IsAsBeforeOrBegun (records d.now_before.seen) model)
  pub kept : AtRest d.now_before → KeepsHistory (length d.past_before) d.past_after d.now_after (payloads_in d.now_after) None

-- Why a journal was not opened, by the disk's change: its content is refused, and untouched; or the disk failed; or memory was wanting.
abbrev pub IsUnopened : (ResumeFault → Type 0) → DiskChange → Refusal → Type 0
IsUnopened P d refusal.Usage = ⊥
IsUnopened P d (refusal.Model line k) = ⊥
IsUnopened P d (refusal.Journal f) = (is_refusal f ≡ true) × (d.tells ≡ true → P f) × Stays d.faults × IsUntouched d
IsUnopened P d refusal.Read = ⊥
IsUnopened P d refusal.Disk = Rises d.faults
IsUnopened P d refusal.Sink = ⊥
IsUnopened P d refusal.Memory = Stays d.faults

-- What is kept of a disk that was at rest, where its journal was not opened, by the record of the model.
pub record IsKeptUnopened (model : List ℕ) (d : DiskChange) : Type 0 where
  pub history : (ps : List (List ℕ)) → records d.now_before.seen ≡ Intact ps → IsHistory (length d.past_before) (moments_after d)
  pub prefixes : (ps : List (List ℕ)) → records d.now_before.seen ≡ Intact ps → ¬ Rises d.faults → EachFrom (length d.past_before) (moments_after d) (λ c. IsPrefixOf (payloads_in d.now_after) (records c))
  pub any_moment : LeavesOnly d.past_before d.now_before d.past_after d.now_after (IsAsBeforeOrBegun (records d.now_before.seen) model)
  pub rests : ¬ Rises d.faults → AtRest d.now_after

-- Each crash leaves what the disk held before the call, or where it held no payload, the record of this model; each perhaps with the record of the upgrade.
abbrev pub BeginsAtMost : List ℕ → DiskChange → Type 0
BeginsAtMost model d = LeavesOnly d.past_before d.now_before d.past_after d.now_after (IsAsBeforeOrBegun (records d.now_before.seen) model)

-- The journal has no event that it didn't have before the call: of a disk that was at rest.
abbrev pub HasNoNewEvent : Request → SourceChange → DiskChange → Type 0
HasNoNewEvent (Solve limits upper) m d = m.tells ≡ true → d.tells ≡ true → AtRest d.now_before → BeginsAtMost (record_of m.text upper) d
HasNoNewEvent (Resume limits) m d = d.tells ≡ true → AtRest d.now_before → BeginsAtMost (model_before d) d
HasNoNewEvent Show m d = IsUntouched d
HasNoNewEvent (Drill seed limits) m d = IsUntouched d

-- Once the journal was opened, each crash leaves a beginning of the record and of the events of this history, perhaps with all of those in whose call the
-- disk failed.
abbrev pub LeavesEvents : DiskChange → List Entry → Type 0
LeavesEvents d history = (h : Option Halt) × LeavesBeginnings (length d.past_before + 1) d.past_after d.now_after history h

-- The search has all events that the disk may have, but perhaps those in whose call it failed. A drill doesn't touch it.
abbrev pub HasEventsOf : Request → DiskChange → Search → Type 0
HasEventsOf (Solve limits upper) d s = d.tells ≡ true → LeavesEvents d s.history
HasEventsOf (Resume limits) d s = d.tells ≡ true → LeavesEvents d s.history
HasEventsOf Show d s = ⊥
HasEventsOf (Drill seed limits) d s = IsUntouched d

-- Nothing is written on a disk, however the command ends, but by `solve` where it held no payload or a journal of its model, and by `resume` where it
-- held a journal (docs/DECISIONS.md, entry 61). A drill counts no fault of the disk either.
abbrev pub LeavesAlone : Request → SourceChange → DiskChange → Type 0
LeavesAlone (Solve limits upper) m d = m.tells ≡ true → d.tells ≡ true → IsUntouched d ⊎ ((p : Problem) × Reads m.text upper p × IsFreshOrOf (record_of m.text upper) p d.now_before.seen)
LeavesAlone (Resume limits) m d = d.tells ≡ true → IsUntouched d ⊎ StandsForSome d.now_before.seen
LeavesAlone Show m d = IsUntouched d
LeavesAlone (Drill seed limits) m d = IsUntouched d × Stays d.faults

-- The disk holds the record of the command's model and the events of the search, and nothing else but the record of the upgrade. A drill doesn't touch it.
abbrev pub HoldsSearch : Request → SourceChange → DiskChange → Search → Type 0
HoldsSearch (Solve limits upper) m d s =
    d.tells ≡ true → StandsFor s.problem (payloads_in d.now_after) (journaled s.history) × (m.tells ≡ true → model_in (payloads_in d.now_after) ≡ record_of m.text upper)
HoldsSearch (Resume limits) m d s = d.tells ≡ true → StandsFor s.problem (payloads_in d.now_after) (journaled s.history) × (model_in (payloads_in d.now_after) ≡ model_before d)
HoldsSearch Show m d s = ⊥
HoldsSearch (Drill seed limits) m d s = IsUntouched d
