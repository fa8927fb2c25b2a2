use Rattle.std.specs.Prelude.{◌⊎◌}
use Rattle.std.proofs.Common.{sym, subst, refl, inl, inr, ap, ◌∙◌, ◌≡◌, ◌<◌, ◌^◌, List, [], ◌∷◌, ℕ, length}
use Rattle.std.proofs.lemmas.List.{nil_from_length}
use Rattle.std.proofs.lemmas.Result.{IfOk-weaker, IfErr-weaker}
use Rattle.problem.specs.Problem.{Problem}
use Rattle.outside.specs.Images.{LeavesOnly, NoMomentPasses}
use Rattle.event_codec.specs.Models.{model_code}
use Rattle.event_core.specs.declared.entry.Entry.{Entry}
use Rattle.event_core.specs.Rooms.{Recorded}
use Rattle.event_core.specs.States.{first_state}
use Rattle.node_journal.specs.Records.{Intact, records}
use Rattle.node_journal.specs.Views.{payloads_of}
use Rattle.node_journal.specs.Whole.{payloads_in}
use Rattle.node_pool.specs.Payloads.{model_in, with_upgrade}
use Rattle.resume.specs.Journals.{StandsFor, WasOpened, IsFreshOrOf, IsReadFrom, IsReadWith}
use Rattle.resume.specs.Crashes.{IsAsBefore, IsAsBeforeOrBegun}
use Rattle.resume.specs.Lemmas.Standing.{stands_alone, stands_upgraded, model_upgraded}
use Rattle.resume.proofs.Models.{own_model, small_model}
use Rattle.resume.proofs.KeptHistories.{untouched_history}
use Rattle.resume.proofs.Recovering.{begun_with, untouched, behind_scan, still_rests, if_both, ok_part, if_err_all}
use Rattle.resume.proofs.opening.open_pool.Goals as goal

pub returns-in-Err-clause-any_moment_err : goal.returns-in-Err-clause-any_moment_err
returns-in-Err-clause-any_moment_err g c told rests =
    untouched _ _ _ _ (IsAsBeforeOrBegun (records (g.D.Disk.now c.args.disk).seen) (model_code c.args.text.items c.args.upper)) rests (inl (inl refl)) c.scan.ensures.stands

pub returns-in_default-clause-any_moment_err : goal.returns-in_default-clause-any_moment_err
returns-in_default-clause-any_moment_err g c told rests =
    untouched _ _ _ _ (IsAsBeforeOrBegun (records (g.D.Disk.now c.args.disk).seen) (model_code c.args.text.items c.args.upper)) rests (inl (inl refl)) (record { none = refl; same = refl })

pub returns-clause-any_moment_err : goal.returns-clause-any_moment_err
returns-clause-any_moment_err g c told rests =
    untouched _ _ _ _ (IsAsBeforeOrBegun (records (g.D.Disk.now c.args.disk).seen) (model_code c.args.text.items c.args.upper)) rests (inl (inl refl)) c.scan.ensures.stands

pub begin_search-requires-clause-small : goal.begin_search-requires-clause-small
begin_search-requires-clause-small g c =
    subst (λ (l : List ℕ). length l < 2 ^ 32) (sym (c.deref.ensures.value ∙ c.in-Ok.ensures)) (small_model c.args.text.items c.args.upper c.args.problem c.requires.model)

pub returns-then-count-eq0-clause-stands : goal.returns-then-count-eq0-clause-stands
returns-then-count-eq0-clause-stands g c told =
    if_both c.begin_search.result (λ p. p.state.history ≡ []) (λ p. payloads_in (g.D.Disk.now p.journal.disk) ≡ with_upgrade (c.deref.result.now ∷ []))
    (λ p. StandsFor c.args.problem (payloads_in (g.D.Disk.now p.journal.disk)) p.state.history) c.begin_search.ensures.fresh (c.begin_search.ensures.journal told)
    (λ p h j. subst (λ (ps : List (List ℕ)). StandsFor c.args.problem ps p.state.history) (sym j)
    (subst (λ (es : List Entry). StandsFor c.args.problem (with_upgrade (c.deref.result.now ∷ [])) es) (sym h)
    (stands_upgraded c.args.problem (c.deref.result.now ∷ []) [] (stands_alone c.args.problem c.deref.result.now
    (own_model c.deref.result.now c.args.text.items c.args.upper c.args.problem (c.deref.ensures.value ∙ c.in-Ok.ensures) c.requires.model)))))

pub returns-in-Ok-read_search_of-clause-held : goal.returns-in-Ok-read_search_of-clause-held
returns-in-Ok-read_search_of-clause-held g c told =
    let now = g.D.Disk.now in
    let ps = payloads_of c.in-Ok-scan.scanned in
    let state = c.in-Ok-read_search_of.state in
    if_both c.continue_journal.result (λ p. p.state ≡ state) (λ p. payloads_in (now p.journal.disk) ≡ with_upgrade ps)
    (λ p. WasOpened (now c.args.disk).seen c.args.problem p.state.history (payloads_in (now p.journal.disk)) ⊎ ((records (now c.args.disk).seen ≡ Intact []) × (p.state.history ≡ []))) c.continue_journal.ensures.state
    (c.continue_journal.ensures.journal told)
    (λ p s j. inl (record {
      payloads = ps;
      held = c.in-Ok-scan.ensures.records told;
      stands = subst (λ (st : Recorded). StandsFor c.args.problem ps st.history) (sym s)
          (subst (λ (q : Problem). StandsFor q ps state.history) c.in-Ok-read_search_of.ensures.problem c.in-Ok-read_search_of.ensures.read.stands);
      is_now = j;
    }))

pub returns-in-Ok-read_search_of-clause-model : goal.returns-in-Ok-read_search_of-clause-model
returns-in-Ok-read_search_of-clause-model g c told =
    let now = g.D.Disk.now in
    let ps = payloads_of c.in-Ok-scan.scanned in
    IfOk-weaker c.continue_journal.result (λ p. payloads_in (now p.journal.disk) ≡ with_upgrade ps) (λ p. model_in (payloads_in (now p.journal.disk)) ≡ model_code c.args.text.items c.args.upper)
    (λ p j. ap model_in j ∙ model_upgraded _ ps _ c.in-Ok-read_search_of.ensures.read.stands ∙ c.in-Ok-read_search_of.ensures.model ∙ c.deref-2.ensures.value ∙ c.in-Ok.ensures)
    (c.continue_journal.ensures.journal told)

pub returns-in-Ok-read_search_of-clause-stands : goal.returns-in-Ok-read_search_of-clause-stands
returns-in-Ok-read_search_of-clause-stands g c told =
    let now = g.D.Disk.now in
    let ps = payloads_of c.in-Ok-scan.scanned in
    let state = c.in-Ok-read_search_of.state in
    if_both c.continue_journal.result (λ p. p.state ≡ state) (λ p. payloads_in (now p.journal.disk) ≡ with_upgrade ps)
    (λ p. StandsFor c.args.problem (payloads_in (now p.journal.disk)) p.state.history) c.continue_journal.ensures.state (c.continue_journal.ensures.journal told)
    (λ p s j. subst (λ (l : List (List ℕ)). StandsFor c.args.problem l p.state.history) (sym j)
    (subst (λ (st : Recorded). StandsFor c.args.problem (with_upgrade ps) st.history) (sym s)
    (stands_upgraded c.args.problem ps state.history (subst (λ (q : Problem). StandsFor q ps state.history) c.in-Ok-read_search_of.ensures.problem c.in-Ok-read_search_of.ensures.read.stands))))

pub returns-in-Ok-read_search_of-clause-any_moment : goal.returns-in-Ok-read_search_of-clause-any_moment
returns-in-Ok-read_search_of-clause-any_moment g c told rests =
    let past = g.D.Disk.past in
    let now = g.D.Disk.now in
    IfOk-weaker c.continue_journal.result
    (λ p. LeavesOnly (past c.scan.new.disk) (now c.scan.new.disk) (past p.journal.disk) (now p.journal.disk) (IsAsBefore (records (now c.scan.new.disk).seen)))
    (λ p. LeavesOnly (past c.args.disk) (now c.args.disk) (past p.journal.disk) (now p.journal.disk) (IsAsBeforeOrBegun (records (now c.args.disk).seen) (model_code c.args.text.items c.args.upper)))
    (λ p run. behind_scan _ _ _ _ _ _ _ c.scan.ensures.stands run)
    (c.continue_journal.ensures.any_moment told (still_rests _ _ _ _ c.scan.ensures.stands rests))

pub returns-in-Ok-read_search_of-clause-any_moment_err : goal.returns-in-Ok-read_search_of-clause-any_moment_err
returns-in-Ok-read_search_of-clause-any_moment_err g c told rests =
    let past = g.D.Disk.past in
    let now = g.D.Disk.now in
    IfErr-weaker c.continue_journal.result
    (λ e. LeavesOnly (past c.scan.new.disk) (now c.scan.new.disk) (past e.1) (now e.1) (IsAsBefore (records (now c.scan.new.disk).seen)))
    (λ e. LeavesOnly (past c.args.disk) (now c.args.disk) (past e.1) (now e.1) (IsAsBeforeOrBegun (records (now c.args.disk).seen) (model_code c.args.text.items c.args.upper)))
    (λ e run. behind_scan _ _ _ _ _ _ _ c.scan.ensures.stands run)
    (c.continue_journal.ensures.any_moment_err told (still_rests _ _ _ _ c.scan.ensures.stands rests))

pub returns-in-Err-clause-history_err : goal.returns-in-Err-clause-history_err
returns-in-Err-clause-history_err g c told rests ps holds = untouched_history _ _ _ _ ps _ rests holds c.scan.ensures.stands

pub returns-in_default-clause-history_err : goal.returns-in_default-clause-history_err
returns-in_default-clause-history_err g c told rests ps holds = untouched_history _ _ _ _ ps _ rests holds (record { none = refl; same = refl })

pub returns-clause-history_err : goal.returns-clause-history_err
returns-clause-history_err g c told rests ps holds = untouched_history _ _ _ _ ps _ rests holds c.scan.ensures.stands

pub returns-then-count-eq0-clause-of_model : goal.returns-then-count-eq0-clause-of_model
returns-then-count-eq0-clause-of_model g c =
    if_both c.begin_search.result (λ p. p.state.state ≡ first_state c.args.problem) (λ p. p.state.history ≡ []) (λ p. IsReadWith (model_code c.args.text.items c.args.upper) p.state) c.begin_search.ensures.state
    c.begin_search.ensures.fresh
    (λ p s h. begun_with c.args.problem (model_code c.args.text.items c.args.upper) p.state
    (own_model (model_code c.args.text.items c.args.upper) c.args.text.items c.args.upper c.args.problem refl c.requires.model) s h)

pub returns-then-count-eq0-clause-read : goal.returns-then-count-eq0-clause-read
returns-then-count-eq0-clause-read g c = IfOk-weaker c.begin_search.result (λ p. IsReadWith (model_code c.args.text.items c.args.upper) p.state) (λ p. IsReadFrom p.state) (λ p w. (w.0, w.2)) (returns-then-count-eq0-clause-of_model g c)

pub returns-in-Ok-read_search_of-clause-of_model : goal.returns-in-Ok-read_search_of-clause-of_model
returns-in-Ok-read_search_of-clause-of_model g c =
    ok_part c.continue_journal.result (λ p. p.state) c.in-Ok-read_search_of.state (λ (s : Recorded). IsReadWith (model_code c.args.text.items c.args.upper) s) c.continue_journal.ensures.state
    (payloads_of c.in-Ok-scan.scanned, c.in-Ok-read_search_of.ensures.model ∙ c.deref-2.ensures.value ∙ c.in-Ok.ensures, c.in-Ok-read_search_of.ensures.read.stands)

pub returns-in-Err-clause-spared : goal.returns-in-Err-clause-spared
returns-in-Err-clause-spared g c told = inl c.scan.ensures.stands

pub returns-in_default-clause-spared : goal.returns-in_default-clause-spared
returns-in_default-clause-spared g c told = inl (record { none = refl; same = refl })

pub returns-clause-spared : goal.returns-clause-spared
returns-clause-spared g c told = inl c.scan.ensures.stands

pub returns-then-count-eq0-clause-spared : goal.returns-then-count-eq0-clause-spared
returns-then-count-eq0-clause-spared g c told =
    let past = g.D.Disk.past in
    let now = g.D.Disk.now in
    if_err_all c.begin_search.result (λ e. NoMomentPasses (past c.args.disk) (now c.args.disk) (past e.1) (now e.1) ⊎ IsFreshOrOf (model_code c.args.text.items c.args.upper) c.args.problem (now c.args.disk).seen)
    (λ e. inr (inl (c.in-Ok-scan.ensures.records told ∙ ap Intact (nil_from_length (payloads_of c.in-Ok-scan.scanned) (sym c.count.ensures ∙ c.if-count-eq0.true)))))

pub returns-in-Ok-read_search_of-clause-spared : goal.returns-in-Ok-read_search_of-clause-spared
returns-in-Ok-read_search_of-clause-spared g c told =
    let past = g.D.Disk.past in
    let now = g.D.Disk.now in
    let state = c.in-Ok-read_search_of.state in
    if_err_all c.continue_journal.result (λ e. NoMomentPasses (past c.args.disk) (now c.args.disk) (past e.1) (now e.1) ⊎ IsFreshOrOf (model_code c.args.text.items c.args.upper) c.args.problem (now c.args.disk).seen)
    (λ e. inr (inr (
      payloads_of c.in-Ok-scan.scanned,
      state.history,
      c.in-Ok-scan.ensures.records told,
      c.in-Ok-read_search_of.ensures.model ∙ c.deref-2.ensures.value ∙ c.in-Ok.ensures,
      subst (λ (q : Problem). StandsFor q (payloads_of c.in-Ok-scan.scanned) state.history) c.in-Ok-read_search_of.ensures.problem c.in-Ok-read_search_of.ensures.read.stands,
    )))
