-- A model that reads has no fault, and a journal that is fresh or stands for its problem is not refused.
use Rattle.std.specs.Prelude.{◌≡◌, ℕ, true, None}
use Rattle.mps_reader.specs.declared.kinds.Kind.{Kind}
use Rattle.mps_reader.specs.Lemmas.Laws.{never_both}
use Rattle.drill_instance.specs.Texts.{generated}
use Rattle.resume.specs.declared.fault.ResumeFault.{ResumeFault}
use Rattle.resume.specs.Laws.{StandingIsNotRefused}
use Rattle.resume.specs.Refusals.{is_refusal}
use Rattle.solve_top.specs.declared.request.Request.{Request}
use Rattle.solve_top.specs.declared.request.Request.TheVariants.{Solve, Resume, Show, Drill}
use Rattle.solve_top.specs.Changes.{SourceChange, DiskChange}
use Rattle.solve_top.specs.Models.{IsFaultOf, RefusesJournal, record_of}
use Rattle.solve_top.specs.Headline.{CanBegin}

pub no_fault_of_text : (q : Request) (m : SourceChange) (d : DiskChange) → CanBegin q m d → (line : ℕ) (k : Kind) → IsFaultOf q m line k → ⊥
no_fault_of_text (Solve limits upper) m d can line k h = never_both m.text upper can.2.0 line k can.2.1 (h can.0)
no_fault_of_text (Resume limits) m d can line k h = h
no_fault_of_text Show m d can line k h = h
no_fault_of_text (Drill seed limits) m d can line k h = never_both (generated seed) None can.0 line k can.1 h

pub no_fault_of_journal : StandingIsNotRefused → (q : Request) (m : SourceChange) (d : DiskChange) → CanBegin q m d → (f : ResumeFault) → is_refusal f ≡ true → RefusesJournal q m d f → ⊥
no_fault_of_journal law (Solve limits upper) m d can f is h = law.own (record_of m.text upper) can.2.0 d.now_before.seen can.2.2 f is (h can.0 can.1)
no_fault_of_journal law (Resume limits) m d can f is h = law.any can.1.0 d.now_before.seen can.1.1 f is (h can.0)
no_fault_of_journal law Show m d can f is h = law.any can.1.0 d.now_before.seen can.1.1 f is (h can.0)
no_fault_of_journal law (Drill seed limits) m d can f is h = h
