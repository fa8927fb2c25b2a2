-- What the steps of a run say of it is all that it promises.
use Rattle.std.specs.Prelude.{◌≡◌, ℕ, Bool, true, List, Option, Some, None, Result, Ok, Err, codes, refl}
use Rattle.std.proofs.Common.{sym, ◌∙◌, ap, subst, inl, inr}
use Rattle.problem.specs.Problem.{Problem}
use Rattle.resume.specs.Laws.{StandingIsNotRefused}
use Rattle.outside.specs.Images.{AtRest}
use Rattle.outside.specs.declared.moment.Moment.{Moment}
use Rattle.solve_top.specs.declared.outcome.Answer.{Answer}
use Rattle.solve_top.specs.declared.outcome.Answer.TheVariants as answer
use Rattle.solve_top.specs.declared.outcome.Refusal.{Refusal}
use Rattle.solve_top.specs.declared.outcome.Refusal.TheVariants as refusal
use Rattle.solve_top.specs.declared.request.Request.{Request}
use Rattle.solve_top.specs.declared.request.Request.TheVariants.{Solve, Resume, Show, Drill}
use Rattle.solve_top.specs.declared.status.Status.{Status}
use Rattle.solve_top.specs.declared.status.Status.TheVariants as status
use Rattle.solve_top.specs.Requests.{requested}
use Rattle.solve_top.specs.Changes.{SourceChange, SinkChange, DiskChange, disk_change, Stays, Takes, TakesPrefix, TakesNothing, IsTold}
use Rattle.solve_top.specs.Models.{HasRead, IsOwnProblem, IsProblemOf}
use Rattle.solve_top.specs.Journals.{HasEventsOf, HasNoNewEvent, HoldsSearch, KeepsJournal, LeavesAlone}
use Rattle.solve_top.specs.Searches.{Search, IsSearchOf}
use Rattle.solve_top.specs.Output.{survey_lines}
use Rattle.solve_top.specs.Outcomes.{IsPerformed, IsSearched, IsShown, IsRefusedBy, IsToldAs, RefusesWords}
use Rattle.solve_top.specs.Statuses.{exit_number}
use Rattle.solve_top.specs.Headline.{Run, EndsWith, Ends, as_done, as_shown, as_model, as_journal, as_read_fault, as_disk_fault, as_certificate_fault, as_lines_fault, as_spent, as_memory, in_answer, in_spent, in_figures, IsComplete, IsShowing, KeepsPromise}
use Rattle.solve_top.proofs.Opened.{no_new_event}
use Rattle.solve_top.proofs.Completeness.{no_fault_of_text, no_fault_of_journal}

-- the text of a search's model reads
has_read : (q : Request) (m : SourceChange) (d : DiskChange) (p : Problem) → IsProblemOf q m d p → HasRead q m
has_read (Solve limits upper) m d p of = λ told. (p, of told)
has_read (Resume limits) m d p of = tt
has_read Show m d p of = tt
has_read (Drill seed limits) m d p of = tt

module _ (q : Request) (r : Run) (t : Status) (number : EndsWith r t) where
  at : (u : Status) → t ≡ u → EndsWith r u
  at u e = subst (EndsWith r) e number

  -- ---- of its search
  module _ (s : Search) (last : r.last ≡ Some s) where
    only : (P : Search → Type 0) → P s → (u : Search) → r.last ≡ Some u → P u
    only P h u e = let same : s ≡ u = cc in subst P same h

    begun : r.last ≡ None → ⊥
    begun none = cc

    search_ends : (o : Result Answer Refusal) → IsSearched q r.model r.disk r.cert s o → IsToldAs r.out o t → Ends q r
    search_ends (Ok (answer.Done lines)) h (inl told) = as_done (record {
      number = at status.Done told.0;
      search = s;
      back = record { last = last; search = h.search; well = record { model = h.model; disk = h.cause }; journal = h.journal refl };
      solved = h.solution.0;
      told = subst (Takes r.out) h.solution.2 told.1;
      kept = h.solution.1;
      quiet = told.2;
    })
    search_ends (Ok (answer.Done lines)) h (inr told) = as_lines_fault (record {
      number = at status.Sink told.0;
      kept = h.solution.1;
      rises = told.2;
      lines = in_answer s (record { last = last; search = h.search; well = record { model = h.model; disk = h.cause }; journal = h.journal refl }) h.solution.0
          (subst (TakesPrefix r.out) h.solution.2 told.1);
    })
    search_ends (Ok (answer.Spent lines)) h (inl told) = as_spent (record {
      number = at status.Spent told.0;
      search = s;
      back = record { last = last; search = h.search; well = record { model = h.model; disk = h.cause }; journal = h.journal refl };
      spent = h.solution.0;
      few = h.solution.1;
      told = subst (Takes r.out) h.solution.4 told.1;
      nothing = h.solution.2;
      kept = h.solution.3;
      quiet = told.2;
    })
    search_ends (Ok (answer.Spent lines)) h (inr told) = as_lines_fault (record {
      number = at status.Sink told.0;
      kept = h.solution.3;
      rises = told.2;
      lines = in_spent s (record { last = last; search = h.search; well = record { model = h.model; disk = h.cause }; journal = h.journal refl }) h.solution.0 h.solution.2
          (subst (TakesPrefix r.out) h.solution.4 told.1);
    })
    search_ends (Ok (answer.Shown lines)) h told = absurd h.solution
    search_ends (Err refusal.Usage) h told = absurd h.solution
    search_ends (Err (refusal.Model line k)) h told = absurd h.solution
    search_ends (Err (refusal.Journal f)) h told = absurd h.solution
    search_ends (Err refusal.Read) h told = absurd h.solution
    search_ends (Err refusal.Disk) h told = as_disk_fault (record {
      number = at status.Disk told.0;
      rises = h.cause.1;
      model = h.model;
      read = has_read q r.model r.disk s.problem h.search.problem;
      told = told.1;
      nothing = h.solution.0;
      kept = h.solution.1;
      search = only (IsSearchOf q r.model r.disk) h.search;
      events = only (HasEventsOf q r.disk) h.events;
      unsearched = λ none. absurd (begun none);
    })
    search_ends (Err refusal.Sink) h told = as_certificate_fault (record {
      number = at status.Sink told.0;
      search = s;
      back = record { last = last; search = h.search; well = record { model = h.model; disk = h.cause }; journal = h.journal refl };
      finished = h.solution.0;
      prefix = h.solution.1;
      rises = h.solution.2;
      told = told.1;
    })
    search_ends (Err refusal.Memory) h told = as_memory (record {
      number = at status.Memory told.0;
      well = record { model = h.model; disk = h.cause };
      kept = h.solution.1;
      told = told.1;
      prefix = elim h.solution.0 [ inl none ↦ inl none | inr part ↦ inr (s, last, part.0, part.1) ];
      search = only (IsSearchOf q r.model r.disk) h.search;
      journal = only (HoldsSearch q r.model r.disk) (h.journal refl);
      unsearched = λ none. absurd (begun none);
    })

  -- ---- of none
  module _ (last : r.last ≡ None) (nothing : TakesNothing r.cert) (kept : Stays r.cert.faults) where
    never : (P : Search → Type 0) → (u : Search) → r.last ≡ Some u → P u
    never P u e = absurd cc

    no_memory : t ≡ status.Memory → Stays r.model.faults → Stays r.disk.faults → IsTold r.out (codes "no memory\n") → HasNoNewEvent q r.model r.disk → Ends q r
    no_memory e model disk told none = as_memory (record {
      number = at status.Memory e;
      well = record { model = model; disk = disk };
      kept = kept;
      told = told;
      prefix = inl nothing;
      search = λ u e. never (IsSearchOf q r.model r.disk) u e;
      journal = λ u e. never (HoldsSearch q r.model r.disk) u e;
      unsearched = λ e. none;
    })

    refusal_ends : (f : Refusal) → IsRefusedBy q r.model r.disk f → IsToldAs r.out (Err f) t → Ends q r
    refusal_ends refusal.Usage h told = absurd h
    refusal_ends (refusal.Model line k) h (inl told) = as_model (record {
      number = at status.Model told.0;
      line = line;
      kind = k;
      fault = h.0;
      well = record { model = h.1; disk = h.2 };
      only = record { told = told.1; unsearched = last; untouched = h.3; nothing = nothing; kept = kept };
    })
    refusal_ends (refusal.Model line k) h (inr told) = no_memory told.0 h.1 h.2 told.1 (no_new_event q r.model r.disk h.3)
    refusal_ends (refusal.Journal f) h (inl told) = as_journal (record {
      number = at status.Journal told.0;
      fault = f;
      content = h.0;
      refused = h.1;
      read = h.5;
      well = record { model = h.2; disk = h.3 };
      only = record { told = told.1; unsearched = last; untouched = h.4; nothing = nothing; kept = kept };
    })
    refusal_ends (refusal.Journal f) h (inr told) = no_memory told.0 h.2 h.3 told.1 (no_new_event q r.model r.disk h.4)
    refusal_ends refusal.Read h told = as_read_fault (record {
      number = at status.ReadFault told.0;
      reads = h.3;
      rises = h.0;
      disk = h.1;
      only = record { told = told.1; unsearched = last; untouched = h.2; nothing = nothing; kept = kept };
    })
    refusal_ends refusal.Disk h told = as_disk_fault (record {
      number = at status.Disk told.0;
      rises = h.1;
      model = h.0;
      read = h.2;
      told = told.1;
      nothing = nothing;
      kept = kept;
      search = λ u e. never (IsSearchOf q r.model r.disk) u e;
      events = λ u e. never (HasEventsOf q r.disk) u e;
      unsearched = λ e. h.3;
    })
    refusal_ends refusal.Sink h told = absurd h
    refusal_ends refusal.Memory h told = no_memory told.0 h.0 h.1 told.1 h.2

    showing : (lines : List ℕ) → IsShown r.disk lines → q ≡ Show → Stays r.model.faults → (v : _) × IsShowing q r v × (lines ≡ survey_lines v)
    showing lines h shows model = (
      h.survey,
      record { shows = shows; surveyed = h.surveyed; well = record { model = model; disk = h.disk }; unsearched = last; untouched = h.untouched; nothing = nothing; kept = kept },
      h.lines_are,
    )

  performed_ends : (last : Option Search) (o : Result Answer Refusal) → r.last ≡ last → IsPerformed q r.model r.disk r.cert last o → IsToldAs r.out o t → Ends q r
  performed_ends (Some s) o last h told = search_ends s last o h told
  performed_ends None (Err f) last h told = refusal_ends last h.1 h.2 f h.0 told
  performed_ends None (Ok (answer.Done lines)) last h told = absurd h
  performed_ends None (Ok (answer.Spent lines)) last h told = absurd h
  performed_ends None (Ok (answer.Shown lines)) last h (inl told) =
      let v = showing last h.3 h.4 lines.items h.1 h.0 h.2 in
      as_shown (record { number = at status.Done told.0; survey = v.0; showing = v.1; told = subst (Takes r.out) v.2 told.1; quiet = told.2 })
  performed_ends None (Ok (answer.Shown lines)) last h (inr told) =
      let v = showing last h.3 h.4 lines.items h.1 h.0 h.2 in
      as_lines_fault (record { number = at status.Sink told.0; kept = h.4; rises = told.2; lines = in_figures v.0 v.1 (subst (TakesPrefix r.out) v.2 told.1) })

-- nothing else comes of a command that can begin, where nothing fails
complete : StandingIsNotRefused → (q : Request) (r : Run) → Ends q r → IsComplete q r
complete law q r (as_done h) can model disk cert out = inl h.number
complete law q r (as_shown h) can model disk cert out = inl h.number
complete law q r (as_model h) can model disk cert out = absurd (no_fault_of_text q r.model r.disk can h.line h.kind h.fault)
complete law q r (as_journal h) can model disk cert out = absurd (no_fault_of_journal law q r.model r.disk can h.fault h.content h.refused)
complete law q r (as_read_fault h) can model disk cert out = absurd (model h.rises)
complete law q r (as_disk_fault h) can model disk cert out = absurd (disk h.rises)
complete law q r (as_certificate_fault h) can model disk cert out = absurd (cert h.rises)
complete law q r (as_lines_fault h) can model disk cert out = absurd (out h.rises)
complete law q r (as_spent h) can model disk cert out = inr (inl h.number)
complete law q r (as_memory h) can model disk cert out = inr (inr h.number)

-- of words that ask for this
pub promise_asked : StandingIsNotRefused → (q : Request) (r : Run) (t : Status) (last : Option Search) (o : Result Answer Refusal) → requested r.words ≡ Some q → EndsWith r t → r.last ≡ last
    → LeavesAlone q r.model r.disk → IsPerformed q r.model r.disk r.cert last o → IsToldAs r.out o t → (r.disk.tells ≡ true → AtRest r.disk.now_before → KeepsJournal r.disk (IsOwnProblem q r.model r.disk)) → KeepsPromise r
promise_asked law q r t last o asked number same alone h told journal =
    let ends = performed_ends q r t number last o same h told in
    inr (inr (q, asked, record { ends = ends; complete = complete law q r ends; alone = alone; journal = journal }))

-- the same of a run over a disk
pub promise_of : {D : Type 0} (tells : Bool) (past : D → List Moment) (now : D → Moment) (count : D → ℕ) (a b e : D) → e ≡ b → StandingIsNotRefused → (q : Request) (words : List (List ℕ)) (m : SourceChange)
    (cert out : SinkChange) (last there : Option Search) (number : ℕ) (t : Status) (o : Result Answer Refusal) → requested words ≡ Some q → number ≡ exit_number t → last ≡ there
    → LeavesAlone q m (disk_change tells past now count a b) → IsPerformed q m (disk_change tells past now count a b) cert there o → IsToldAs out o t
    → (tells ≡ true → AtRest (now a) → KeepsJournal (disk_change tells past now count a b) (IsOwnProblem q m (disk_change tells past now count a b)))
    → KeepsPromise (record { words = words; model = m; disk = disk_change tells past now count a e; cert = cert; out = out; last = last; number = number })
promise_of {D} tells past now count a b e same law q words m cert out last there number t o asked number_is last_is alone performed told journal =
    promise_asked law q (record { words = words; model = m; disk = disk_change tells past now count a e; cert = cert; out = out; last = last; number = number }) t there o asked number_is last_is
    (subst (λ (x : D). LeavesAlone q m (disk_change tells past now count a x)) (sym same) alone)
    (subst (λ (x : D). IsPerformed q m (disk_change tells past now count a x) cert there o) (sym same) performed) told
    (subst (λ (x : D). tells ≡ true → AtRest (now a) → KeepsJournal (disk_change tells past now count a x) (IsOwnProblem q m (disk_change tells past now count a x))) (sym same) journal)

-- of words that ask for nothing
pub promise_unasked : {D : Type 0} (tells : Bool) (past : D → List Moment) (now : D → Moment) (count : D → ℕ) (a e : D) → e ≡ a → (words : List (List ℕ)) (m : SourceChange) (cert out : SinkChange)
    (last : Option Search) (number : ℕ) (t : Status) (r : Refusal) → Stays m.faults → TakesNothing cert → Stays cert.faults → RefusesWords words r → number ≡ exit_number t → last ≡ None → IsToldAs out (Err r) t
    → KeepsPromise (record { words = words; model = m; disk = disk_change tells past now count a e; cert = cert; out = out; last = last; number = number })
promise_unasked tells past now count a e same words m cert out last number t refusal.Usage model nothing kept h number_is last_is told = inl (record {
  number = number_is ∙ ap exit_number told.0;
  words = h;
  well = record { model = model; disk = ap count same };
  only = record { told = told.1; unsearched = last_is; untouched = record { none = ap past same; same = ap now same }; nothing = nothing; kept = kept };
})
promise_unasked tells past now count a e same words m cert out last number t refusal.Memory model nothing kept h number_is last_is told = inr (inl (record {
  number = number_is ∙ ap exit_number told.0;
  well = record { model = model; disk = ap count same };
  only = record { told = told.1; unsearched = last_is; untouched = record { none = ap past same; same = ap now same }; nothing = nothing; kept = kept };
}))
promise_unasked tells past now count a e same words m cert out last number t (refusal.Model line k) model nothing kept h number_is last_is told = absurd h
promise_unasked tells past now count a e same words m cert out last number t (refusal.Journal f) model nothing kept h number_is last_is told = absurd h
promise_unasked tells past now count a e same words m cert out last number t refusal.Read model nothing kept h number_is last_is told = absurd h
promise_unasked tells past now count a e same words m cert out last number t refusal.Disk model nothing kept h number_is last_is told = absurd h
promise_unasked tells past now count a e same words m cert out last number t refusal.Sink model nothing kept h number_is last_is told = absurd h
