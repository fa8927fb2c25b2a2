-- What each step of a run does.
use Rattle.std.specs.Prelude.{◌≡◌, ◌⊎◌, ◌≤◌, ℕ, max, length, Bool, true, false, List, All, Option, Some, None, Result, Ok, Err, codes}
use Rattle.problem.specs.Problem.{Problem}
use Rattle.outside.specs.Faults.{Counts}
use Rattle.mps_reader.specs.Reading.{Reads, IsRefused}
use Rattle.node_journal.specs.Records.{records}
use Rattle.event_core.specs.Histories.{AreLegal}
use Rattle.drill_instance.specs.Texts.{generated}
use Rattle.resume.specs.Refusals.{is_refusal, Refuses, RefusesPayloads}
use Rattle.resume.specs.Surveys.{IsSurveyOf}
use Rattle.resume.specs.declared.figures.Survey.{Survey}
use Rattle.command_words.specs.Commands.{is_command}
use Rattle.solve_top.specs.declared.model.Model.{Model}
use Rattle.solve_top.specs.declared.outcome.Answer.{Answer}
use Rattle.solve_top.specs.declared.outcome.Answer.TheVariants as answer
use Rattle.solve_top.specs.declared.outcome.Refusal.{Refusal}
use Rattle.solve_top.specs.declared.outcome.Refusal.TheVariants as refusal
use Rattle.solve_top.specs.declared.request.Request.{Request}
use Rattle.solve_top.specs.declared.request.Request.TheVariants.{Show}
use Rattle.solve_top.specs.declared.status.Status.{Status}
use Rattle.solve_top.specs.declared.status.Status.TheVariants as status
use Rattle.solve_top.specs.Requests.{limits_in}
use Rattle.solve_top.specs.Changes.{SourceChange, SinkChange, DiskChange, Rises, Stays, Takes, TakesPrefix, TakesNothing, IsTold, IsUntouched}
use Rattle.solve_top.specs.Models.{HasRead, IsFaultOf, ReadsSource, RefusesJournal}
use Rattle.solve_top.specs.Journals.{HasEventsOf, HasNoNewEvent, HoldsSearch, IsUnopened}
use Rattle.solve_top.specs.Searches.{Search, begin_of, end_of, events_made, HasFinished, HasSpent, HasTooFewNodes, IsOfWorkers, IsSearchOf, IsSolved, certificate_text, lines_due, lines_for}
use Rattle.solve_top.specs.Output.{survey_lines}
use Rattle.solve_top.specs.Statuses.{status_of, refusal_line, refused_line, journal_line}

-- why words ask for nothing: they are no command, or memory was wanting
abbrev pub RefusesWords : List (List ℕ) → Refusal → Type 0
RefusesWords words refusal.Usage = is_command words ≡ false
RefusesWords words refusal.Memory = Unit {0}
RefusesWords words q = ⊥

-- what came of reading a text: its problem, or its first fault
abbrev pub IsReadingOf : List ℕ → Option ℕ → Result Problem Refusal → Type 0
IsReadingOf text upper (Ok p) = Reads text upper p
IsReadingOf text upper (Err (refusal.Model line k)) = IsRefused text upper line k
IsReadingOf text upper (Err refusal.Memory) = Unit {0}
IsReadingOf text upper (Err q) = ⊥

-- what came of reading a model: the text of its source with its problem, or why there is none
abbrev pub IsReading : SourceChange → Option ℕ → Result Model Refusal → Type 0
IsReading source upper (Ok m) = (source.tells ≡ true → m.text.items ≡ source.text) × Reads m.text.items upper m.problem × Stays source.faults
IsReading source upper (Err (refusal.Model line k)) = (source.tells ≡ true → IsRefused source.text upper line k) × Stays source.faults
IsReading source upper (Err refusal.Read) = Rises source.faults
IsReading source upper (Err refusal.Memory) = Stays source.faults
IsReading source upper (Err q) = ⊥

-- What came of a search that has ended. The sink keeps its certificate; or it took nothing, since the search is spent, each with the lines that are
-- due. Or it failed at a prefix of the certificate, or at its end; or the disk failed; or memory was wanting, before the certificate or in it.
abbrev pub IsSolution : Request → Search → SinkChange → Result Answer Refusal → Type 0
IsSolution q s cert (Ok (answer.Done lines)) = IsSolved s cert × Stays cert.faults × (lines.items ≡ lines_for q s)
IsSolution q s cert (Ok (answer.Spent lines)) =
    HasSpent (limits_in q).nodes s × HasTooFewNodes s.problem (limits_in q).nodes × TakesNothing cert × Stays cert.faults × (lines.items ≡ lines_due s)
IsSolution q s cert (Ok (answer.Shown lines)) = ⊥
IsSolution q s cert (Err refusal.Sink) = HasFinished s × TakesPrefix cert (certificate_text s) × Rises cert.faults
IsSolution q s cert (Err refusal.Disk) = TakesNothing cert × Stays cert.faults
IsSolution q s cert (Err refusal.Memory) = (TakesNothing cert ⊎ (HasFinished s × TakesPrefix cert (certificate_text s))) × Stays cert.faults
IsSolution q s cert (Err r) = ⊥

-- there is no answer, since the disk failed
abbrev pub fails_by_disk : Result Answer Refusal → Bool
fails_by_disk (Ok a) = false
fails_by_disk (Err refusal.Usage) = false
fails_by_disk (Err (refusal.Model line k)) = false
fails_by_disk (Err (refusal.Journal f)) = false
fails_by_disk (Err refusal.Read) = false
fails_by_disk (Err refusal.Disk) = true
fails_by_disk (Err refusal.Sink) = false
fails_by_disk (Err refusal.Memory) = false

-- What came of a search that a command began: it is the command's, its disk failed exactly where it ended by that, and else the disk has its events. It
-- has all events that the disk has, but perhaps one, in whose call the disk failed.
pub record IsSearched (q : Request) (m : SourceChange) (d : DiskChange) (cert : SinkChange) (s : Search) (o : Result Answer Refusal) : Type 0 where
  pub solution : IsSolution q s cert o
  pub search : IsSearchOf q m d s
  pub model : Stays m.faults
  pub cause : Counts d.faults.before d.faults.after (fails_by_disk o)
  pub journal : fails_by_disk o ≡ false → HoldsSearch q m d s
  pub events : HasEventsOf q d s

-- why a command came to nothing before a search began
abbrev pub IsRefusedBy : Request → SourceChange → DiskChange → Refusal → Type 0
IsRefusedBy q m d refusal.Usage = ⊥
IsRefusedBy q m d (refusal.Model line k) = IsFaultOf q m line k × Stays m.faults × Stays d.faults × IsUntouched d
IsRefusedBy q m d (refusal.Journal f) = (is_refusal f ≡ true) × RefusesJournal q m d f × Stays m.faults × Stays d.faults × IsUntouched d × HasRead q m
IsRefusedBy q m d refusal.Read = Rises m.faults × Stays d.faults × IsUntouched d × ReadsSource q
IsRefusedBy q m d refusal.Disk = Stays m.faults × Rises d.faults × HasRead q m × HasNoNewEvent q m d
IsRefusedBy q m d refusal.Sink = ⊥
IsRefusedBy q m d refusal.Memory = Stays m.faults × Stays d.faults × HasNoNewEvent q m d

-- these lines have the figures of the journal, on which nothing was done
pub record IsShown (d : DiskChange) (lines : List ℕ) : Type 0 where
  pub survey : Survey
  pub surveyed : d.tells ≡ true → IsSurveyOf (records d.now_before.seen) survey
  pub lines_are : lines ≡ survey_lines survey
  pub disk : Stays d.faults
  pub untouched : IsUntouched d

-- what came of showing a journal
abbrev pub IsShowingOf : DiskChange → Result Answer Refusal → Type 0
IsShowingOf d (Ok (answer.Shown lines)) = IsShown d lines.items
IsShowingOf d (Ok a) = ⊥
IsShowingOf d (Err r) = IsUnopened (λ f. Refuses RefusesPayloads f (records d.now_before.seen)) d r × IsUntouched d

-- why the model of a seed is not searched
abbrev pub IsRefusedDrill : ℕ → Refusal → Type 0
IsRefusedDrill seed (refusal.Model line k) = IsRefused (generated seed) None line k
IsRefusedDrill seed refusal.Memory = Unit {0}
IsRefusedDrill seed r = ⊥

-- a fault of a disk in memory is want of memory
abbrev pub without_disk : Result Answer Refusal → Result Answer Refusal
without_disk (Ok a) = Ok a
without_disk (Err refusal.Usage) = Err refusal.Usage
without_disk (Err (refusal.Model line k)) = Err (refusal.Model line k)
without_disk (Err (refusal.Journal f)) = Err (refusal.Journal f)
without_disk (Err refusal.Read) = Err refusal.Read
without_disk (Err refusal.Disk) = Err refusal.Memory
without_disk (Err refusal.Sink) = Err refusal.Sink
without_disk (Err refusal.Memory) = Err refusal.Memory

-- The search is of this problem. Its events are legal in turn, and those that it has made are of the command's workers. It keeps to the limits of the
-- command, or to what its journal had.
pub record IsWithin (q : Request) (p : Problem) (s : Search) : Type 0 where
  pub same : s.problem ≡ p
  pub legal : AreLegal s.problem s.history
  pub of_workers : All (IsOfWorkers (limits_in q).workers) (events_made s.history)
  pub within : length (end_of s).nodes ≤ max (limits_in q).nodes (length (begin_of s).nodes)
  pub few_cuts : length (end_of s).cuts ≤ max (limits_in q).cuts (length (begin_of s).cuts)

-- What came of a command: of its search, or of none.
abbrev pub IsPerformed : Request → SourceChange → DiskChange → SinkChange → Option Search → Result Answer Refusal → Type 0
IsPerformed q m d cert (Some s) o = IsSearched q m d cert s o
IsPerformed q m d cert None (Err r) = IsRefusedBy q m d r × TakesNothing cert × Stays cert.faults
IsPerformed q m d cert None (Ok (answer.Shown lines)) = (q ≡ Show) × IsShown d lines.items × Stays m.faults × TakesNothing cert × Stays cert.faults
IsPerformed q m d cert None (Ok a) = ⊥

-- all of the lines were written, and the run has the status that goes with them; or their sink failed at a prefix
abbrev pub IsWritten : SinkChange → List ℕ → Status → Status → Type 0
IsWritten out lines wanted s = ((s ≡ wanted) × Takes out lines × Stays out.faults) ⊎ ((s ≡ status.Sink) × TakesPrefix out lines × Rises out.faults)

-- the line was told, and the run has the status that goes with it; or memory was wanting for the line
abbrev pub IsLineTold : SinkChange → List ℕ → Status → Status → Type 0
IsLineTold out line wanted s = ((s ≡ wanted) × IsTold out line) ⊎ ((s ≡ status.Memory) × IsTold out (codes "no memory\n"))

-- What came of telling an outcome, with the status of the run.
abbrev pub IsToldAs : SinkChange → Result Answer Refusal → Status → Type 0
IsToldAs out (Ok (answer.Done lines)) s = IsWritten out lines.items status.Done s
IsToldAs out (Ok (answer.Spent lines)) s = IsWritten out lines.items status.Spent s
IsToldAs out (Ok (answer.Shown lines)) s = IsWritten out lines.items status.Done s
IsToldAs out (Err (refusal.Model line k)) s = IsLineTold out (refused_line line k) status.Model s
IsToldAs out (Err (refusal.Journal f)) s = IsLineTold out (journal_line f) status.Journal s
IsToldAs out (Err q) s = (s ≡ status_of q) × IsTold out (refusal_line q)
