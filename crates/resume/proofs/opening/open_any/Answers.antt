use Rattle.std.specs.Prelude.{◌⊎◌}
use Rattle.std.proofs.Common.{sym, subst, refl, inl, inr, ◌≡◌, List, ℕ}
use Rattle.outside.specs.Images.{NoMomentPasses}
use Rattle.event_core.specs.Rooms.{Recorded}
use Rattle.node_journal.specs.Records.{records}
use Rattle.node_journal.specs.Views.{payloads_of}
use Rattle.node_journal.specs.Whole.{payloads_in}
use Rattle.node_pool.specs.Payloads.{with_upgrade}
use Rattle.resume.specs.Journals.{StandsFor, StandsForSome, WasOpened}
use Rattle.resume.specs.Crashes.{IsAsBefore}
use Rattle.resume.specs.Lemmas.Standing.{stands_upgraded}
use Rattle.resume.proofs.KeptHistories.{untouched_history}
use Rattle.resume.proofs.Recovering.{untouched, if_both, if_err_all}
use Rattle.resume.proofs.opening.open_any.Goals as goal

pub returns-in-Ok-read_search-clause-held : goal.returns-in-Ok-read_search-clause-held
returns-in-Ok-read_search-clause-held g c told =
    let now = g.D.Disk.now in
    if_both c.continue_journal.result (λ p. p.state ≡ c.in-Ok-read_search.state) (λ p. payloads_in (now p.journal.disk) ≡ with_upgrade (payloads_of c.in-Ok.scanned))
    (λ p. WasOpened (now c.args.disk).seen p.state.state.problem p.state.history (payloads_in (now p.journal.disk))) c.continue_journal.ensures.state (c.continue_journal.ensures.journal told)
    (λ p s j. record {
      payloads = payloads_of c.in-Ok.scanned;
      held = c.in-Ok.ensures.records told;
      stands = subst (λ (st : Recorded). StandsFor st.state.problem (payloads_of c.in-Ok.scanned) st.history) (sym s) c.in-Ok-read_search.ensures.read.stands;
      is_now = j;
    })

pub returns-in-Ok-read_search-clause-stands : goal.returns-in-Ok-read_search-clause-stands
returns-in-Ok-read_search-clause-stands g c told =
    let now = g.D.Disk.now in
    if_both c.continue_journal.result (λ p. p.state ≡ c.in-Ok-read_search.state) (λ p. payloads_in (now p.journal.disk) ≡ with_upgrade (payloads_of c.in-Ok.scanned))
    (λ p. StandsFor p.state.state.problem (payloads_in (now p.journal.disk)) p.state.history) c.continue_journal.ensures.state (c.continue_journal.ensures.journal told)
    (λ p s j. subst (λ (ps : List (List ℕ)). StandsFor p.state.state.problem ps p.state.history) (sym j)
    (subst (λ (st : Recorded). StandsFor st.state.problem (with_upgrade (payloads_of c.in-Ok.scanned)) st.history) (sym s) (stands_upgraded _ _ _ c.in-Ok-read_search.ensures.read.stands)))

pub returns-in-Err-read_search-clause-any_moment_err : goal.returns-in-Err-read_search-clause-any_moment_err
returns-in-Err-read_search-clause-any_moment_err g c told rests = untouched _ _ _ _ (IsAsBefore (records (g.D.Disk.now c.args.disk).seen)) rests (inl refl) c.scan.ensures.stands

pub returns-in-Err-clause-history_err : goal.returns-in-Err-clause-history_err
returns-in-Err-clause-history_err g c told rests ps holds = untouched_history _ _ _ _ ps _ rests holds c.scan.ensures.stands

pub returns-in-Err-read_search-clause-history_err : goal.returns-in-Err-read_search-clause-history_err
returns-in-Err-read_search-clause-history_err g c told rests ps holds = untouched_history _ _ _ _ ps _ rests holds c.scan.ensures.stands

pub returns-in-Err-clause-spared : goal.returns-in-Err-clause-spared
returns-in-Err-clause-spared g c told = inl c.scan.ensures.stands

pub returns-in-Err-read_search-clause-spared : goal.returns-in-Err-read_search-clause-spared
returns-in-Err-read_search-clause-spared g c told = inl c.scan.ensures.stands

pub returns-in-Ok-read_search-clause-spared : goal.returns-in-Ok-read_search-clause-spared
returns-in-Ok-read_search-clause-spared g c told =
    let past = g.D.Disk.past in
    let now = g.D.Disk.now in
    let state = c.in-Ok-read_search.state in
    if_err_all c.continue_journal.result (λ e. NoMomentPasses (past c.args.disk) (now c.args.disk) (past e.1) (now e.1) ⊎ StandsForSome (now c.args.disk).seen)
    (λ e. inr (state.state.problem, (payloads_of c.in-Ok.scanned, state.history, c.in-Ok.ensures.records told, c.in-Ok-read_search.ensures.read.stands)))

pub returns-in-Err-clause-any_moment_err : goal.returns-in-Err-clause-any_moment_err
returns-in-Err-clause-any_moment_err g c told rests = untouched _ _ _ _ (IsAsBefore (records (g.D.Disk.now c.args.disk).seen)) rests (inl refl) c.scan.ensures.stands
