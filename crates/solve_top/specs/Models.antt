-- Which model a command is about.
use Rattle.std.specs.Prelude.{◌≡◌, ◌⊎◌, ℕ, pos, true, List, [], Option, None, option_map}
use Rattle.problem.specs.Problem.{Problem}
use Rattle.mps_reader.specs.Reading.{Reads, IsRefused}
use Rattle.mps_reader.specs.declared.kinds.Kind.{Kind}
use Rattle.event_codec.specs.Models.{model_code}
use Rattle.event_core.specs.declared.entry.Entry.{Entry}
use Rattle.node_journal.specs.Records.{Intact, payloads_held, records}
use Rattle.node_pool.specs.Payloads.{model_in}
use Rattle.drill_instance.specs.Texts.{generated}
use Rattle.resume.specs.Journals.{StandsFor}
use Rattle.resume.specs.Models.{IsModelOf}
use Rattle.resume.specs.Refusals.{Refuses, RefusesPayloads, RefusesPayloadsFor}
use Rattle.resume.specs.declared.fault.ResumeFault.{ResumeFault}
use Rattle.solve_top.specs.declared.request.Request.{Request}
use Rattle.solve_top.specs.declared.request.Request.TheVariants.{Solve, Resume, Show, Drill}
use Rattle.solve_top.specs.Changes.{SourceChange, DiskChange}

-- the first payload that the disk held before the call, empty where it held none
abbrev pub model_before : DiskChange → List ℕ
model_before d = model_in (payloads_held (records d.now_before.seen))

-- The problem is that of the model which the command is about: of the text that its source had, of the first payload that its journal had, or of the
-- text that its seed gives.
abbrev pub IsProblemOf : Request → SourceChange → DiskChange → Problem → Type 0
IsProblemOf (Solve limits upper) m d p = m.tells ≡ true → Reads m.text upper p
IsProblemOf (Resume limits) m d p = d.tells ≡ true → IsModelOf (model_before d) p
IsProblemOf Show m d p = d.tells ≡ true → IsModelOf (model_before d) p
IsProblemOf (Drill seed limits) m d p = Reads (generated seed) None p

-- the command reads its model from the source
abbrev pub ReadsSource : Request → Type 0
ReadsSource (Solve limits upper) = Unit {0}
ReadsSource (Resume limits) = ⊥
ReadsSource Show = ⊥
ReadsSource (Drill seed limits) = ⊥

-- the text of the command's model reads as a problem
abbrev pub HasRead : Request → SourceChange → Type 0
HasRead (Solve limits upper) m = m.tells ≡ true → (p : Problem) × Reads m.text upper p
HasRead (Resume limits) m = Unit {0}
HasRead Show m = Unit {0}
HasRead (Drill seed limits) m = Unit {0}

-- this is the first fault of its text
abbrev pub IsFaultOf : Request → SourceChange → ℕ → Kind → Type 0
IsFaultOf (Solve limits upper) m line k = m.tells ≡ true → IsRefused m.text upper line k
IsFaultOf (Resume limits) m line k = ⊥
IsFaultOf Show m line k = ⊥
IsFaultOf (Drill seed limits) m line k = IsRefused (generated seed) None line k

-- the record of a text with an upper bound
abbrev pub record_of : List ℕ → Option ℕ → List ℕ
record_of text upper = model_code text (option_map pos upper)

-- The problem is the one that the command is about, and this the record of its model, where the source tells its text. `show` and `drill` don't write
-- on the disk, whatever they are about.
abbrev pub IsOwnProblem : Request → SourceChange → DiskChange → List ℕ → Problem → Type 0
IsOwnProblem (Solve limits upper) m d model p = (m.tells ≡ true) × Reads m.text upper p × (model ≡ record_of m.text upper)
IsOwnProblem (Resume limits) m d model p = IsModelOf (model_before d) p × (model ≡ model_before d)
IsOwnProblem Show m d model p = Unit {0}
IsOwnProblem (Drill seed limits) m d model p = Unit {0}

-- the bytes stand for the problem and these events of its search
abbrev pub StandsWith : Problem → List Entry → List ℕ → Type 0
StandsWith p es c = (ps : List (List ℕ)) × (records c ≡ Intact ps) × StandsFor p ps es

-- The bytes are a journal without a payload, and there are no events; or they stand for the problem and these events, behind the record of this model.
abbrev pub IsFreshOrWith : List ℕ → Problem → List Entry → List ℕ → Type 0
IsFreshOrWith model p es c = ((records c ≡ Intact []) × (es ≡ [])) ⊎ ((ps : List (List ℕ)) × (records c ≡ Intact ps) × (model_in ps ≡ model) × StandsFor p ps es)

-- The events with which a command began its search of the problem: those that its journal held, none on a disk without a payload, and none of a drill.
abbrev pub BeganWith : Request → SourceChange → DiskChange → Problem → List Entry → Type 0
BeganWith (Solve limits upper) m d p es = m.tells ≡ true → d.tells ≡ true → IsFreshOrWith (record_of m.text upper) p es d.now_before.seen
BeganWith (Resume limits) m d p es = d.tells ≡ true → StandsWith p es d.now_before.seen
BeganWith Show m d p es = ⊥
BeganWith (Drill seed limits) m d p es = es ≡ []

-- this is what is wrong with the journal on its disk
abbrev pub RefusesJournal : Request → SourceChange → DiskChange → ResumeFault → Type 0
RefusesJournal (Solve limits upper) m d f = m.tells ≡ true → d.tells ≡ true → Refuses (RefusesPayloadsFor (record_of m.text upper)) f (records d.now_before.seen)
RefusesJournal (Resume limits) m d f = d.tells ≡ true → Refuses RefusesPayloads f (records d.now_before.seen)
RefusesJournal Show m d f = d.tells ≡ true → Refuses RefusesPayloads f (records d.now_before.seen)
RefusesJournal (Drill seed limits) m d f = ⊥
