-- What came of a command that opens a journal and searches on from there, and what it keeps of that journal.
use Rattle.std.specs.Prelude.{◌≡◌, ℕ, Bool, true, false, List, Option, Some, None, Result, Err}
use Rattle.std.proofs.Common.{sym, ◌∙◌, subst}
use Rattle.problem.specs.Problem.{Problem}
use Rattle.outside.specs.Faults.{Counts}
use Rattle.outside.specs.Images.{IsImage, AtRest}
use Rattle.outside.specs.declared.moment.Moment.{Moment}
use Rattle.event_core.specs.declared.entry.Entry.{Entry}
use Rattle.event_core.specs.Histories.{journaled}
use Rattle.node_journal.specs.Whole.{payloads_in}
use Rattle.node_pool.specs.Payloads.{LeavesBeginnings, model_in}
use Rattle.node_pool.specs.declared.halt.Halt.{Halt}
use Rattle.resume.specs.declared.fault.ResumeFault.{ResumeFault}
use Rattle.resume.specs.Journals.{StandsFor}
use Rattle.resume.specs.Models.{IsModelOf}
use Rattle.solve_top.specs.declared.outcome.Answer.{Answer}
use Rattle.solve_top.specs.declared.outcome.Refusal.{Refusal}
use Rattle.solve_top.specs.declared.request.Request.{Request}
use Rattle.solve_top.specs.Changes.{SourceChange, SinkChange, DiskChange, Stays, TakesNothing, disk_change}
use Rattle.solve_top.specs.Models.{BeganWith, HasRead, IsOwnProblem, RefusesJournal}
use Rattle.solve_top.specs.Journals.{BeginsAtMost, HasNoNewEvent, IsKept, IsKeptUnopened, IsOpened, IsUnopened, KeepsJournal}
use Rattle.solve_top.specs.Searches.{Search, events_read}
use Rattle.solve_top.specs.Outcomes.{IsPerformed, IsSolution, IsWithin, fails_by_disk}
use Rattle.solve_top.proofs.Opened.{kept_unopened, kept_whole}
use Rattle.solve_top.proofs.Owning.{IsAbout}
use Rattle.solve_top.proofs.Performing.{searched, unopened}

-- It was opened. `a` is the disk before the call, `b` the one of the pool that was opened, and `e` the one at the end.
module _ {D : Type 0} (tells : Bool) (past : D → List Moment) (now : D → Moment) (count : D → ℕ) (a b e : D) (q : Request) (m : SourceChange) (model : List ℕ) (p : Problem) (es : List Entry) (opened : ℕ)
    (first : tells ≡ true → IsOpened model p es opened (disk_change tells past now count a b)) (same : count b ≡ count a) (there : tells ≡ true → IsImage (now e) (now e).seen) (about : IsAbout q m (disk_change tells past now count a e) p model)
    (began : BeganWith q m (disk_change tells past now count a e) p es) (ends : tells ≡ true → model_in (payloads_in (now e)) ≡ model_in (payloads_in (now b))) (cert : SinkChange) (s : Search)
    (o : Result Answer Refusal) (within : IsWithin q p s) (read : events_read s.history ≡ es) (solution : IsSolution q s cert o) (cause : Counts (count b) (count e) (fails_by_disk o)) where
  abbrev d : DiskChange
  d = disk_change tells past now count a e

  pub went_on : (tells ≡ true → IsModelOf (model_in (payloads_in (now b))) p → IsKept opened p (disk_change tells past now count b e))
      → (tells ≡ true → IsModelOf (model_in (payloads_in (now b))) p → fails_by_disk o ≡ false → StandsFor p (payloads_in (now e)) (journaled s.history))
      → (tells ≡ true → (h : Option Halt) × LeavesBeginnings opened (past e) (now e) s.history h)
      → (Stays m.faults → IsPerformed q m d cert (Some s) o) × (tells ≡ true → AtRest (now a) → KeepsJournal d (IsOwnProblem q m d))
  went_on kept stands leaves = (
    λ stays. searched q m d cert p s o within about.of es began read solution stays (subst (λ (n : ℕ). Counts n (count e) (fails_by_disk o)) same cause)
        (λ other. about.holds s (λ told. subst (λ (x : Problem). StandsFor x (payloads_in (now e)) (journaled s.history)) (sym within.same) (stands told (first told).stands.model other))
        (λ told. ends told ∙ (first told).of_model))
        (about.events s (λ told. let l = leaves told in (l.0, subst (λ (n : ℕ). LeavesBeginnings n (past e) (now e) s.history l.0) (first told).next l.1))),
    λ told rests. kept_whole tells past now count a b e model p es opened (first told) (kept told (first told).stands.model) (there told) rests (IsOwnProblem q m d) (about.only told) same,
  )

-- It was not opened.
pub came_to_nothing : (q : Request) (m : SourceChange) (d : DiskChange) (cert : SinkChange) (model : List ℕ) (P : ResumeFault → Type 0) → ((f : ResumeFault) → (d.tells ≡ true → P f) → RefusesJournal q m d f)
    → HasRead q m → ((l : List ℕ) (o : Problem) → IsOwnProblem q m d l o → IsModelOf model o × (l ≡ model)) → ((d.tells ≡ true → AtRest d.now_before → BeginsAtMost model d) → HasNoNewEvent q m d) → (r : Refusal) → IsUnopened P d r → (d.tells ≡ true → AtRest d.now_before → IsKeptUnopened model d) → TakesNothing cert → Stays cert.faults
    → (Stays m.faults → IsPerformed q m d cert None (Err r)) × (d.tells ≡ true → AtRest d.now_before → KeepsJournal d (IsOwnProblem q m d))
came_to_nothing q m d cert model P refuses read own none r why kept nothing unwritten =
    (λ stays. unopened q m d cert P refuses stays read (none (λ told rests. (kept told rests).any_moment)) r why nothing unwritten, λ told rests. kept_unopened model d (IsOwnProblem q m d) (kept told rests) own)
