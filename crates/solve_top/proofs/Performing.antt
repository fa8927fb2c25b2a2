-- What came of a command, by what came of its steps.
use Rattle.std.specs.Prelude.{◌≡◌, ◌⊎◌, ℕ, Bool, true, false, List, [], Option, Some, None, Result, Ok, Err, refl}
use Rattle.std.proofs.Common.{sym, ◌∙◌, ap, subst, inl}
use Rattle.problem.specs.Problem.{Problem}
use Rattle.outside.specs.Faults.{Counts}
use Rattle.mps_reader.specs.Reading.{Reads}
use Rattle.drill_instance.specs.Texts.{generated}
use Rattle.command_words.specs.declared.limits.Limits.{Limits}
use Rattle.event_core.specs.declared.entry.Entry.{Entry}
use Rattle.node_journal.specs.Records.{records}
use Rattle.resume.specs.Journals.{StandsForSome, IsFreshOrOf}
use Rattle.resume.specs.Refusals.{Refuses, RefusesPayloads}
use Rattle.resume.specs.declared.fault.ResumeFault.{ResumeFault}
use Rattle.solve_top.specs.declared.outcome.Answer.{Answer}
use Rattle.solve_top.specs.declared.outcome.Answer.TheVariants as answer
use Rattle.solve_top.specs.declared.outcome.Refusal.{Refusal}
use Rattle.solve_top.specs.declared.outcome.Refusal.TheVariants as refusal
use Rattle.solve_top.specs.declared.request.Request.{Request}
use Rattle.solve_top.specs.declared.request.Request.TheVariants.{Solve, Resume, Show, Drill}
use Rattle.solve_top.specs.Requests.{limits_in}
use Rattle.solve_top.specs.Changes.{SourceChange, SinkChange, DiskChange, Stays, TakesNothing, IsUntouched}
use Rattle.solve_top.specs.Models.{BeganWith, HasRead, IsProblemOf, RefusesJournal, record_of}
use Rattle.solve_top.specs.Journals.{HasEventsOf, HasNoNewEvent, HoldsSearch, IsUnopened, LeavesAlone}
use Rattle.solve_top.specs.Searches.{Search, events_read}
use Rattle.solve_top.specs.Outcomes.{IsPerformed, IsReading, IsRefusedBy, IsRefusedDrill, IsShowingOf, IsSolution, IsWithin, fails_by_disk, without_disk}
use Rattle.solve_top.proofs.Opened.{no_new_event}

-- a search that a command began
pub searched : (q : Request) (m : SourceChange) (d : DiskChange) (cert : SinkChange) (p : Problem) (s : Search) (o : Result Answer Refusal) → IsWithin q p s → IsProblemOf q m d p → (es : List Entry) → BeganWith q m d p es
    → events_read s.history ≡ es → IsSolution q s cert o → Stays m.faults → Counts d.faults.before d.faults.after (fails_by_disk o) → (fails_by_disk o ≡ false → HoldsSearch q m d s) → HasEventsOf q d s → IsPerformed q m d cert (Some s) o
searched q m d cert p s o within of es began read solution model cause journal events = record {
  solution = solution;
  search = record {
    problem = subst (IsProblemOf q m d) (sym within.same) of;
    began = subst (λ (x : Problem). BeganWith q m d x (events_read s.history)) (sym within.same) (subst (λ (l : List Entry). BeganWith q m d p l) (sym read) began);
    legal = within.legal;
    of_workers = within.of_workers;
    within = within.within;
    few_cuts = within.few_cuts;
  };
  model = model;
  cause = cause;
  journal = journal;
  events = events;
}

-- a journal that was not opened
module _ (q : Request) (m : SourceChange) (d : DiskChange) (cert : SinkChange) (P : ResumeFault → Type 0) (refuses : (f : ResumeFault) → (d.tells ≡ true → P f) → RefusesJournal q m d f)
    (model : Stays m.faults) (read : HasRead q m) (none : HasNoNewEvent q m d) where
  refused_by : (r : Refusal) → IsUnopened P d r → IsRefusedBy q m d r
  refused_by refusal.Usage h = absurd h
  refused_by (refusal.Model line k) h = absurd h
  refused_by (refusal.Journal f) h = (h.0, refuses f h.1, model, h.2, h.3, read)
  refused_by refusal.Read h = absurd h
  refused_by refusal.Disk h = (model, h, read, none)
  refused_by refusal.Sink h = absurd h
  refused_by refusal.Memory h = (model, h, none)

  pub unopened : (r : Refusal) → IsUnopened P d r → TakesNothing cert → Stays cert.faults → IsPerformed q m d cert None (Err r)
  unopened r h nothing kept = (refused_by r h, nothing, kept)

-- a model that was not read
unread_by : (limits : Limits) (upper : Option ℕ) (m : SourceChange) (d : DiskChange) (cert : SinkChange) (r : Refusal) → IsReading m upper (Err r) → Stays d.faults → IsUntouched d → TakesNothing cert
    → Stays cert.faults → IsPerformed (Solve limits upper) m d cert None (Err r)
unread_by limits upper m d cert refusal.Usage h disk untouched nothing kept = absurd h
unread_by limits upper m d cert (refusal.Model line k) h disk untouched nothing kept = ((h.0, h.1, disk, untouched), nothing, kept)
unread_by limits upper m d cert (refusal.Journal f) h disk untouched nothing kept = absurd h
unread_by limits upper m d cert refusal.Read h disk untouched nothing kept = ((h, disk, untouched, tt), nothing, kept)
unread_by limits upper m d cert refusal.Disk h disk untouched nothing kept = absurd h
unread_by limits upper m d cert refusal.Sink h disk untouched nothing kept = absurd h
unread_by limits upper m d cert refusal.Memory h disk untouched nothing kept = ((h, disk, no_new_event (Solve limits upper) m d untouched), nothing, kept)

pub unread : (q : Request) (limits : Limits) (upper : Option ℕ) → q ≡ Solve limits upper → (m : SourceChange) (d : DiskChange) (cert : SinkChange) (r : Refusal) → IsReading m upper (Err r) → Stays d.faults
    → IsUntouched d → TakesNothing cert → Stays cert.faults → IsPerformed q m d cert None (Err r)
unread q limits upper solves m d cert r h disk untouched nothing kept =
    subst (λ (x : Request). IsPerformed x m d cert None (Err r)) (sym solves) (unread_by limits upper m d cert r h disk untouched nothing kept)

-- a journal that is shown
module _ (q : Request) (shows : q ≡ Show) where
  pub shown : (m : SourceChange) (d : DiskChange) (cert : SinkChange) (o : Result Answer Refusal) → IsShowingOf d o → Stays m.faults → TakesNothing cert → Stays cert.faults → IsPerformed q m d cert None o
  shown m d cert (Ok (answer.Done lines)) h model nothing kept = absurd h
  shown m d cert (Ok (answer.Spent lines)) h model nothing kept = absurd h
  shown m d cert (Ok (answer.Shown lines)) h model nothing kept = (shows, h, model, nothing, kept)
  shown m d cert (Err r) h model nothing kept =
      unopened q m d cert (λ f. Refuses RefusesPayloads f (records d.now_before.seen)) (λ f refused. subst (λ (x : Request). RefusesJournal x m d f) (sym shows) refused) model (subst (λ (x : Request). HasRead x m) (sym shows) tt) (no_new_event q m d h.1) r h.0 nothing kept

-- nothing is written on it
pub left_alone : (d : DiskChange) (o : Result Answer Refusal) → IsShowingOf d o → IsUntouched d
left_alone d (Ok (answer.Done lines)) h = absurd h
left_alone d (Ok (answer.Spent lines)) h = absurd h
left_alone d (Ok (answer.Shown lines)) h = h.untouched
left_alone d (Err r) h = h.1

-- whatever the command is, where no call of the disk was made
pub alone_by : (q : Request) (m : SourceChange) (d : DiskChange) → IsUntouched d → Stays d.faults → LeavesAlone q m d
alone_by (Solve limits upper) m d untouched stays = λ told tells. inl untouched
alone_by (Resume limits) m d untouched stays = λ tells. inl untouched
alone_by Show m d untouched stays = untouched
alone_by (Drill seed limits) m d untouched stays = (untouched, stays)

pub alone_shown : (q : Request) (m : SourceChange) (d : DiskChange) → q ≡ Show → IsUntouched d → LeavesAlone q m d
alone_shown q m d shows untouched = subst (λ (x : Request). LeavesAlone x m d) (sym shows) untouched

pub alone_searched : (q : Request) (limits : Limits) (upper : Option ℕ) (m : SourceChange) (d : DiskChange) → q ≡ Solve limits upper
    → (m.tells ≡ true → d.tells ≡ true → IsUntouched d ⊎ ((p : Problem) × Reads m.text upper p × IsFreshOrOf (record_of m.text upper) p d.now_before.seen)) → LeavesAlone q m d
alone_searched q limits upper m d solves h = subst (λ (x : Request). LeavesAlone x m d) (sym solves) h

pub alone_resumed : (q : Request) (limits : Limits) (m : SourceChange) (d : DiskChange) → q ≡ Resume limits → (d.tells ≡ true → IsUntouched d ⊎ StandsForSome d.now_before.seen) → LeavesAlone q m d
alone_resumed q limits m d resumes h = subst (λ (x : Request). LeavesAlone x m d) (sym resumes) h

-- a drill, whose own disk's faults are want of memory
no_disk : (q : Request) (s : Search) (cert : SinkChange) (o : Result Answer Refusal) → IsSolution q s cert o → IsSolution q s cert (without_disk o) × (fails_by_disk (without_disk o) ≡ false)
no_disk q s cert (Ok a) h = (h, refl)
no_disk q s cert (Err refusal.Usage) h = absurd h
no_disk q s cert (Err (refusal.Model line k)) h = absurd h
no_disk q s cert (Err (refusal.Journal f)) h = absurd h
no_disk q s cert (Err refusal.Read) h = absurd h
no_disk q s cert (Err refusal.Disk) h = ((inl h.0, h.1), refl)
no_disk q s cert (Err refusal.Sink) h = (h, refl)
no_disk q s cert (Err refusal.Memory) h = (h, refl)

-- what came of a drill: of its search, or of none
abbrev pub IsDrilled : Request → ℕ → SinkChange → Option Search → Result Answer Refusal → Type 0
IsDrilled q seed cert (Some s) o = IsSolution q s cert o × (fails_by_disk o ≡ false) × Reads (generated seed) None s.problem × IsWithin q s.problem s × (events_read s.history ≡ [])
IsDrilled q seed cert None (Err r) = IsRefusedDrill seed r × TakesNothing cert × Stays cert.faults
IsDrilled q seed cert None (Ok a) = ⊥

-- a model of a seed that was searched
pub drilled_search : (q : Request) (seed : ℕ) (cert : SinkChange) (p : Problem) (s : Search) (o : Result Answer Refusal) → IsWithin q p s → events_read s.history ≡ [] → IsSolution q s cert o
    → Reads (generated seed) None p → IsDrilled q seed cert (Some s) (without_disk o)
drilled_search q seed cert p s o within fresh solution reads =
    let none = no_disk q s cert o solution in
    (none.0, none.1, subst (λ (x : Problem). Reads (generated seed) None x) (sym within.same) reads, subst (λ (x : Problem). IsWithin q x s) (sym within.same) within, fresh)

drilled : (seed : ℕ) (limits : Limits) (m : SourceChange) (d : DiskChange) (cert : SinkChange) (last : Option Search) (o : Result Answer Refusal) → IsDrilled (Drill seed limits) seed cert last o
    → Stays m.faults → Stays d.faults → IsUntouched d → IsPerformed (Drill seed limits) m d cert last o
drilled seed limits m d cert (Some s) o h model disk untouched =
    searched (Drill seed limits) m d cert s.problem s o h.3 h.2 (events_read s.history) h.4 refl h.0 model (subst (λ (b : Bool). Counts d.faults.before d.faults.after b) (sym h.1) disk) (λ e. untouched) untouched
drilled seed limits m d cert None (Ok a) h model disk untouched = absurd h
drilled seed limits m d cert None (Err refusal.Usage) h model disk untouched = absurd h.0
drilled seed limits m d cert None (Err (refusal.Model line k)) h model disk untouched = ((h.0, model, disk, untouched), h.1, h.2)
drilled seed limits m d cert None (Err (refusal.Journal f)) h model disk untouched = absurd h.0
drilled seed limits m d cert None (Err refusal.Read) h model disk untouched = absurd h.0
drilled seed limits m d cert None (Err refusal.Disk) h model disk untouched = absurd h.0
drilled seed limits m d cert None (Err refusal.Sink) h model disk untouched = absurd h.0
drilled seed limits m d cert None (Err refusal.Memory) h model disk untouched = ((model, disk, untouched), h.1, h.2)

pub drilled_by : (q : Request) (seed : ℕ) (limits : Limits) → q ≡ Drill seed limits → (m : SourceChange) (d : DiskChange) (cert : SinkChange) (last : Option Search) (o : Result Answer Refusal)
    → IsDrilled q seed cert last o → Stays m.faults → Stays d.faults → IsUntouched d → IsPerformed q m d cert last o
drilled_by q seed limits drills m d cert last o h model disk untouched =
    subst (λ (x : Request). IsPerformed x m d cert last o) (sym drills) (drilled seed limits m d cert last o (subst (λ (x : Request). IsDrilled x seed cert last o) drills h) model disk untouched)

-- a command that solves its model
pub solves : (q : Request) (limits : Limits) (upper : Option ℕ) → q ≡ Solve limits upper → q ≡ Solve (limits_in q) upper
solves q limits upper e = e ∙ ap (λ (l : Limits). Solve l upper) (sym (ap limits_in e))

-- one that goes on with its journal
pub resumes : (q : Request) (limits : Limits) → q ≡ Resume limits → q ≡ Resume (limits_in q)
resumes q limits e = e ∙ ap (λ (l : Limits). Resume l) (sym (ap limits_in e))

-- one that drills
pub drills : (q : Request) (seed : ℕ) (limits : Limits) → q ≡ Drill seed limits → q ≡ Drill seed (limits_in q)
drills q seed limits e = e ∙ ap (λ (l : Limits). Drill seed l) (sym (ap limits_in e))
