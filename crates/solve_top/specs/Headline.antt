-- What a run is, and what it promises.
use Rattle.std.specs.Prelude.{◌≡◌, ◌⊎◌, ℕ, true, false, List, codes, Option, Some, None}
use Rattle.problem.specs.Problem.{Problem}
use Rattle.mps_reader.specs.Reading.{Reads}
use Rattle.mps_reader.specs.declared.kinds.Kind.{Kind}
use Rattle.outside.specs.Images.{AtRest}
use Rattle.node_journal.specs.Records.{records}
use Rattle.drill_instance.specs.Texts.{generated}
use Rattle.resume.specs.declared.fault.ResumeFault.{ResumeFault}
use Rattle.resume.specs.declared.figures.Survey.{Survey}
use Rattle.resume.specs.Journals.{StandsOnDisk, IsFreshOrOf}
use Rattle.resume.specs.Refusals.{is_refusal}
use Rattle.resume.specs.Surveys.{IsSurveyOf}
use Rattle.command_words.specs.Commands.{is_command}
use Rattle.solve_top.specs.declared.request.Request.{Request}
use Rattle.solve_top.specs.declared.request.Request.TheVariants.{Solve, Resume, Show, Drill}
use Rattle.solve_top.specs.declared.status.Status.{Status}
use Rattle.solve_top.specs.declared.status.Status.TheVariants as status
use Rattle.solve_top.specs.Requests.{requested, limits_in}
use Rattle.solve_top.specs.Changes.{SourceChange, SinkChange, DiskChange, Rises, Stays, Takes, TakesPrefix, TakesNothing, IsTold, IsUntouched}
use Rattle.solve_top.specs.Models.{HasRead, IsOwnProblem, IsFaultOf, ReadsSource, RefusesJournal, record_of}
use Rattle.solve_top.specs.Journals.{KeepsJournal, HasEventsOf, HasNoNewEvent, HoldsSearch, LeavesAlone}
use Rattle.solve_top.specs.Searches.{Search, HasFinished, HasSpent, HasTooFewNodes, IsSearchOf, IsSolved, certificate_text, lines_due, lines_for}
use Rattle.solve_top.specs.Output.{survey_lines}
use Rattle.solve_top.specs.Statuses.{exit_number, refused_line, journal_line}

-- a run: its words, the source of its model, its disk, the sinks of its certificate and its lines, the search that it hands back, if it began one, and
-- the number with which it ends
pub record Run : Type 0 where
  pub words : List (List ℕ)
  pub model : SourceChange
  pub disk : DiskChange
  pub cert : SinkChange
  pub out : SinkChange
  pub last : Option Search
  pub number : ℕ

-- it ends with this status
abbrev pub EndsWith : Run → Status → Type 0
EndsWith r s = r.number ≡ exit_number s

-- no call of the model's source and of the disk failed; so a failed read is never taken for the end of the text, nor for the end of the journal
pub record ReadsWell (r : Run) : Type 0 where
  pub model : Stays r.model.faults
  pub disk : Stays r.disk.faults

-- Nothing was done but to tell a line: there is no search, the disk is as it was, and no byte went to the certificate.
pub record TellsOnly (r : Run) (line : List ℕ) : Type 0 where
  pub told : IsTold r.out line
  pub unsearched : r.last ≡ None
  pub untouched : IsUntouched r.disk
  pub nothing : TakesNothing r.cert
  pub kept : Stays r.cert.faults

-- the search is handed back
pub record HandsBack (q : Request) (r : Run) (s : Search) : Type 0 where
  pub last : r.last ≡ Some s
  pub search : IsSearchOf q r.model r.disk s
  pub well : ReadsWell r
  -- the journal has the events of the search, and nothing more
  pub journal : HoldsSearch q r.model r.disk s

-- ---- one record for each number with which a run ends

-- 2: the words are no command
pub record EndsAsUsage (r : Run) : Type 0 where
  pub number : r.number ≡ exit_number status.Usage
  pub words : is_command r.words ≡ false
  pub well : ReadsWell r
  pub only : TellsOnly r (codes "refused usage\n")

-- 3: the model's text has this first fault
pub record EndsAsModel (q : Request) (r : Run) : Type 0 where
  pub number : r.number ≡ exit_number status.Model
  pub line : ℕ
  pub kind : Kind
  pub fault : IsFaultOf q r.model line kind
  pub well : ReadsWell r
  pub only : TellsOnly r (refused_line line kind)

-- 4: this is what is wrong with the journal
pub record EndsAsJournal (q : Request) (r : Run) : Type 0 where
  pub number : r.number ≡ exit_number status.Journal
  pub fault : ResumeFault
  pub content : is_refusal fault ≡ true
  pub refused : RefusesJournal q r.model r.disk fault
  pub read : HasRead q r.model
  pub well : ReadsWell r
  pub only : TellsOnly r (journal_line fault)

-- 5: the command reads its model from the source, which failed
pub record EndsAsReadFault (q : Request) (r : Run) : Type 0 where
  pub number : r.number ≡ exit_number status.ReadFault
  pub reads : ReadsSource q
  pub rises : Rises r.model.faults
  pub disk : Stays r.disk.faults
  pub only : TellsOnly r (codes "fault read\n")

-- 6: The disk failed, before a search began or in it. A search that added an event to the journal is handed back, whole.
pub record EndsAsDiskFault (q : Request) (r : Run) : Type 0 where
  pub number : r.number ≡ exit_number status.Disk
  pub rises : Rises r.disk.faults
  pub model : Stays r.model.faults
  pub read : HasRead q r.model
  pub told : IsTold r.out (codes "fault disk\n")
  pub nothing : TakesNothing r.cert
  pub kept : Stays r.cert.faults
  pub search : (s : Search) → r.last ≡ Some s → IsSearchOf q r.model r.disk s
  pub events : (s : Search) → r.last ≡ Some s → HasEventsOf q r.disk s
  pub unsearched : r.last ≡ None → HasNoNewEvent q r.model r.disk

-- 0: the search is finished, the certificate is kept, and the lines are written; or the figures of the journal are
pub record EndsAsDone (q : Request) (r : Run) : Type 0 where
  pub number : r.number ≡ exit_number status.Done
  pub search : Search
  pub back : HandsBack q r search
  pub solved : IsSolved search r.cert
  pub told : Takes r.out (lines_for q search)
  pub kept : Stays r.cert.faults
  pub quiet : Stays r.out.faults

-- these are the figures of the journal, on which nothing was done
pub record IsShowing (q : Request) (r : Run) (v : Survey) : Type 0 where
  pub shows : q ≡ Show
  pub surveyed : r.disk.tells ≡ true → IsSurveyOf (records r.disk.now_before.seen) v
  pub well : ReadsWell r
  pub unsearched : r.last ≡ None
  pub untouched : IsUntouched r.disk
  pub nothing : TakesNothing r.cert
  pub kept : Stays r.cert.faults

-- 0: the figures of the journal are told, and nothing was done on it
pub record EndsAsShown (q : Request) (r : Run) : Type 0 where
  pub number : r.number ≡ exit_number status.Done
  pub survey : Survey
  pub showing : IsShowing q r survey
  pub told : Takes r.out (survey_lines survey)
  pub quiet : Stays r.out.faults

-- 8: some open node may be split, and its two children would pass the budget; the lines are written, and there is no certificate
pub record EndsAsSpent (q : Request) (r : Run) : Type 0 where
  pub number : r.number ≡ exit_number status.Spent
  pub search : Search
  pub back : HandsBack q r search
  pub spent : HasSpent (limits_in q).nodes search
  pub few : HasTooFewNodes search.problem (limits_in q).nodes
  pub told : Takes r.out (lines_due search)
  pub nothing : TakesNothing r.cert
  pub kept : Stays r.cert.faults
  pub quiet : Stays r.out.faults

-- 7: the certificate's sink failed, after a prefix of the certificate of a finished search, or at its end; or the lines' sink did, after a prefix of
-- the lines
pub record EndsAsCertificateFault (q : Request) (r : Run) : Type 0 where
  pub number : r.number ≡ exit_number status.Sink
  pub search : Search
  pub back : HandsBack q r search
  pub finished : HasFinished search
  pub prefix : TakesPrefix r.cert (certificate_text search)
  pub rises : Rises r.cert.faults
  pub told : IsTold r.out (codes "fault sink\n")

-- The lines' sink failed after a prefix of the lines that were due: of a search that is handed back and whose certificate is kept, or which is spent,
-- or of a journal that is shown.
pub data BreaksOff (q : Request) (r : Run) : Type 0 where
  in_answer : (s : Search) → HandsBack q r s → IsSolved s r.cert → TakesPrefix r.out (lines_for q s) → BreaksOff q r
  in_spent : (s : Search) → HandsBack q r s → HasSpent (limits_in q).nodes s → TakesNothing r.cert → TakesPrefix r.out (lines_due s) → BreaksOff q r
  in_figures : (v : Survey) → IsShowing q r v → TakesPrefix r.out (survey_lines v) → BreaksOff q r

-- 7: the certificate's sink didn't fail, but that of the lines did, after a prefix of them
pub record EndsAsLinesFault (q : Request) (r : Run) : Type 0 where
  pub number : r.number ≡ exit_number status.Sink
  pub kept : Stays r.cert.faults
  pub rises : Rises r.out.faults
  pub lines : BreaksOff q r

-- 9: There was no memory; what went to the certificate is nothing, or a prefix of that of a finished search. A search that added an event to the journal
-- is handed back, whole.
pub record EndsAsMemory (q : Request) (r : Run) : Type 0 where
  pub number : r.number ≡ exit_number status.Memory
  pub well : ReadsWell r
  pub kept : Stays r.cert.faults
  pub told : IsTold r.out (codes "no memory\n")
  pub prefix : TakesNothing r.cert ⊎ ((s : Search) × (r.last ≡ Some s) × HasFinished s × TakesPrefix r.cert (certificate_text s))
  pub search : (s : Search) → r.last ≡ Some s → IsSearchOf q r.model r.disk s
  pub journal : (s : Search) → r.last ≡ Some s → HoldsSearch q r.model r.disk s
  pub unsearched : r.last ≡ None → HasNoNewEvent q r.model r.disk

-- ---- all that a run promises

-- A run whose words ask for this. It ends so, and only so.
pub data Ends (q : Request) (r : Run) : Type 0 where
  as_done : EndsAsDone q r → Ends q r
  as_shown : EndsAsShown q r → Ends q r
  as_model : EndsAsModel q r → Ends q r
  as_journal : EndsAsJournal q r → Ends q r
  as_read_fault : EndsAsReadFault q r → Ends q r
  as_disk_fault : EndsAsDiskFault q r → Ends q r
  as_certificate_fault : EndsAsCertificateFault q r → Ends q r
  as_lines_fault : EndsAsLinesFault q r → Ends q r
  as_spent : EndsAsSpent q r → Ends q r
  as_memory : EndsAsMemory q r → Ends q r

-- the model and the journal that the command reads are well: a text that reads as a problem, and a journal that is fresh or stands for it
abbrev pub CanBegin : Request → SourceChange → DiskChange → Type 0
CanBegin (Solve limits upper) m d = (m.tells ≡ true) × (d.tells ≡ true) × ((p : Problem) × Reads m.text upper p × IsFreshOrOf (record_of m.text upper) p d.now_before.seen)
CanBegin (Resume limits) m d = (d.tells ≡ true) × ((p : Problem) × StandsOnDisk p d.now_before.seen)
CanBegin Show m d = (d.tells ≡ true) × ((p : Problem) × StandsOnDisk p d.now_before.seen)
CanBegin (Drill seed limits) m d = (p : Problem) × Reads (generated seed) None p

-- Such a command is done or spent, or memory is wanting, where nothing fails.
abbrev pub IsComplete : Request → Run → Type 0
IsComplete q r =
    CanBegin q r.model r.disk → ¬ Rises r.model.faults → ¬ Rises r.disk.faults → ¬ Rises r.cert.faults → ¬ Rises r.out.faults
    → EndsWith r status.Done ⊎ (EndsWith r status.Spent ⊎ EndsWith r status.Memory)

-- What a run promises whose words ask for this.
pub record KeepsPromiseOf (q : Request) (r : Run) : Type 0 where
  pub ends : Ends q r
  pub complete : IsComplete q r
  pub alone : LeavesAlone q r.model r.disk
  pub journal : r.disk.tells ≡ true → AtRest r.disk.now_before → KeepsJournal r.disk (IsOwnProblem q r.model r.disk)

-- no memory to read the words
pub record EndsUnread (r : Run) : Type 0 where
  pub number : r.number ≡ exit_number status.Memory
  pub well : ReadsWell r
  pub only : TellsOnly r (codes "no memory\n")

-- What each run promises.
abbrev pub KeepsPromise : Run → Type 0
KeepsPromise r = EndsAsUsage r ⊎ (EndsUnread r ⊎ ((q : Request) × (requested r.words ≡ Some q) × KeepsPromiseOf q r))
