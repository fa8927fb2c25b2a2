-- Which problem a command is about.
use Rattle.std.specs.Prelude.{◌≡◌, ◌⊎◌, ℕ, true, List, Option, refl}
use Rattle.std.proofs.Common.{sym, ◌∙◌, ap, subst, inl, inr}
use Rattle.problem.specs.Problem.{Problem}
use Rattle.mps_reader.specs.Reading.{Reads}
use Rattle.mps_reader.specs.Refusals.{IsModestUpper}
use Rattle.mps_reader.specs.Lemmas.Laws.{one_problem}
use Rattle.event_codec.specs.Laws.{RecordsTellApart}
use Rattle.outside.specs.Images.{AtRest}
use Rattle.event_core.specs.declared.entry.Entry.{Entry}
use Rattle.event_core.specs.Histories.{journaled}
use Rattle.node_journal.specs.Records.{records}
use Rattle.node_journal.specs.Whole.{payloads_in}
use Rattle.node_pool.specs.Payloads.{model_in}
use Rattle.command_words.specs.declared.limits.Limits.{Limits}
use Rattle.resume.specs.Journals.{StandsFor, IsFreshOrOf}
use Rattle.resume.specs.Models.{IsModelOf}
use Rattle.resume.specs.Refusals.{Refuses, RefusesPayloads, RefusesPayloadsFor}
use Rattle.resume.specs.declared.fault.ResumeFault.{ResumeFault}
use Rattle.solve_top.specs.declared.request.Request.{Request}
use Rattle.solve_top.specs.declared.request.Request.TheVariants.{Solve, Resume}
use Rattle.solve_top.specs.Changes.{SourceChange, DiskChange, IsUntouched}
use Rattle.solve_top.specs.Models.{BeganWith, HasRead, IsFreshOrWith, IsOwnProblem, IsProblemOf, RefusesJournal, StandsWith, model_before, record_of}
use Rattle.solve_top.specs.Journals.{BeginsAtMost, HasEventsOf, HasNoNewEvent, HoldsSearch, LeavesEvents}
use Rattle.solve_top.specs.Searches.{Search}
use Rattle.resume.specs.Lemmas.OneModel.{one_model}
use Rattle.solve_top.proofs.Opened.{is_model}

-- What a command is about: this problem, and it alone where the disk tells its bytes. What stands for its search on the disk, behind the record of this
-- model, is what the command holds there.
pub record IsAbout (q : Request) (m : SourceChange) (d : DiskChange) (p : Problem) (model : List ℕ) : Type 0 where
  pub of : IsProblemOf q m d p
  pub only : d.tells ≡ true → (l : List ℕ) (o : Problem) → IsOwnProblem q m d l o → (o ≡ p) × (l ≡ model)
  pub holds : (s : Search) → (d.tells ≡ true → StandsFor s.problem (payloads_in d.now_after) (journaled s.history)) → (d.tells ≡ true → model_in (payloads_in d.now_after) ≡ model) → HoldsSearch q m d s
  pub events : (s : Search) → (d.tells ≡ true → LeavesEvents d s.history) → HasEventsOf q d s

-- ---- of the text that was read
module _ (q : Request) (limits : Limits) (upper : Option ℕ) (m : SourceChange) (d : DiskChange) (text : List ℕ) (asks : q ≡ Solve limits upper) (whole : m.tells ≡ true → text ≡ m.text) where
  pub solve_about : (p : Problem) → Reads text upper p → IsAbout q m d p (record_of text upper)
  solve_about p reads = record {
    of = subst (λ (x : Request). IsProblemOf x m d p) (sym asks) (λ told. subst (λ (t : List ℕ). Reads t upper p) (whole told) reads);
    only = λ told l o own.
        let h = subst (λ (x : Request). IsOwnProblem x m d l o) asks own in
        (one_problem m.text upper o p h.1 (subst (λ (t : List ℕ). Reads t upper p) (whole h.0) reads), h.2 ∙ ap (λ (t : List ℕ). record_of t upper) (sym (whole h.0)));
    holds = λ s h k. subst (λ (x : Request). HoldsSearch x m d s) (sym asks) (λ tells. (h tells, λ told. k tells ∙ ap (λ (t : List ℕ). record_of t upper) (whole told)));
    events = λ s h. subst (λ (x : Request). HasEventsOf x d s) (sym asks) h;
  }

  pub solve_read : (p : Problem) → Reads text upper p → HasRead q m
  solve_read p reads = subst (λ (x : Request). HasRead x m) (sym asks) (λ told. (p, subst (λ (t : List ℕ). Reads t upper p) (whole told) reads))

  pub solve_began : (p : Problem) (es : List Entry) → (d.tells ≡ true → IsFreshOrWith (record_of text upper) p es d.now_before.seen) → BeganWith q m d p es
  solve_began p es h = subst (λ (x : Request). BeganWith x m d p es) (sym asks) (λ told tells. subst (λ (t : List ℕ). IsFreshOrWith (record_of t upper) p es d.now_before.seen) (whole told) (h tells))

  -- it was written on the disk of the problem that was read alone
  pub solve_spared : (p : Problem) → Reads text upper p → (d.tells ≡ true → IsUntouched d ⊎ IsFreshOrOf (record_of text upper) p d.now_before.seen)
      → m.tells ≡ true → d.tells ≡ true → IsUntouched d ⊎ ((o : Problem) × Reads m.text upper o × IsFreshOrOf (record_of m.text upper) o d.now_before.seen)
  solve_spared p reads h told tells = elim (h tells) [
    | inl untouched ↦ inl untouched
    | inr own ↦ inr (p, subst (λ (t : List ℕ). Reads t upper p) (whole told) reads, subst (λ (t : List ℕ). IsFreshOrOf (record_of t upper) p d.now_before.seen) (whole told) own)
  ]

  pub solve_own_model : IsModestUpper upper → (l : List ℕ) (o : Problem) → IsOwnProblem q m d l o → IsModelOf (record_of text upper) o × (l ≡ record_of text upper)
  solve_own_model modest l o own =
      let h = subst (λ (x : Request). IsOwnProblem x m d l o) asks own in
      (is_model text upper o modest (subst (λ (t : List ℕ). Reads t upper o) (sym (whole h.0)) h.1), h.2 ∙ ap (λ (t : List ℕ). record_of t upper) (sym (whole h.0)))

  pub solve_no_event : (d.tells ≡ true → AtRest d.now_before → BeginsAtMost (record_of text upper) d) → HasNoNewEvent q m d
  solve_no_event h = subst (λ (x : Request). HasNoNewEvent x m d) (sym asks) (λ told tells rests. subst (λ (t : List ℕ). BeginsAtMost (record_of t upper) d) (whole told) (h tells rests))

  pub solve_refuses : (f : ResumeFault) → (d.tells ≡ true → Refuses (RefusesPayloadsFor (record_of text upper)) f (records d.now_before.seen)) → RefusesJournal q m d f
  solve_refuses f h = subst (λ (x : Request). RefusesJournal x m d f) (sym asks)
      (λ told disk. subst (λ (t : List ℕ). Refuses (RefusesPayloadsFor (record_of t upper)) f (records d.now_before.seen)) (whole told) (h disk))

-- ---- of the journal's model
same_before : (d : DiskChange) → model_before d ≡ model_in (payloads_in d.now_before)
unfolding payloads_in
same_before d = refl

module _ (q : Request) (limits : Limits) (m : SourceChange) (d : DiskChange) (asks : q ≡ Resume limits) where
  pub resume_own_model : (l : List ℕ) (o : Problem) → IsOwnProblem q m d l o → IsModelOf (model_in (payloads_in d.now_before)) o × (l ≡ model_in (payloads_in d.now_before))
  resume_own_model l o own =
      let h = subst (λ (x : Request). IsOwnProblem x m d l o) asks own in (subst (λ (k : List ℕ). IsModelOf k o) (same_before d) h.0, h.1 ∙ same_before d)

  pub resume_no_event : (d.tells ≡ true → AtRest d.now_before → BeginsAtMost (model_in (payloads_in d.now_before)) d) → HasNoNewEvent q m d
  resume_no_event h = subst (λ (x : Request). HasNoNewEvent x m d) (sym asks) (λ tells rests. subst (λ (l : List ℕ). BeginsAtMost l d) (sym (same_before d)) (h tells rests))

  pub resume_about : RecordsTellApart → (p : Problem) → (d.tells ≡ true → IsModelOf (model_in (payloads_in d.now_before)) p) → IsAbout q m d p (model_in (payloads_in d.now_before))
  resume_about law p is = record {
    of = subst (λ (x : Request). IsProblemOf x m d p) (sym asks) (λ told. subst (λ (l : List ℕ). IsModelOf l p) (sym (same_before d)) (is told));
    only = λ told l o own. let h = resume_own_model l o own in (one_model law (model_in (payloads_in d.now_before)) o p h.0 (is told), h.1);
    holds = λ s h k. subst (λ (x : Request). HoldsSearch x m d s) (sym asks) (λ tells. (h tells, k tells ∙ sym (same_before d)));
    events = λ s h. subst (λ (x : Request). HasEventsOf x d s) (sym asks) h;
  }

  pub resume_read : HasRead q m
  resume_read = subst (λ (x : Request). HasRead x m) (sym asks) tt

  pub resume_began : (p : Problem) (es : List Entry) → (d.tells ≡ true → StandsWith p es d.now_before.seen) → BeganWith q m d p es
  resume_began p es h = subst (λ (x : Request). BeganWith x m d p es) (sym asks) h

  pub resume_refuses : (f : ResumeFault) → (d.tells ≡ true → Refuses RefusesPayloads f (records d.now_before.seen)) → RefusesJournal q m d f
  resume_refuses f h = subst (λ (x : Request). RefusesJournal x m d f) (sym asks) h
