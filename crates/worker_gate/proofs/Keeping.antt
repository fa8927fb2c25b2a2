-- What a pool under a lock keeps from call to call.
use Rattle.std.specs.Prelude.{◌≡◌, ◌≤◌, ◌<◌, max, ℕ, true, false, List, [], ◌∷◌, ◌++◌, length, All, Option, Some, None, slice_get, refl}
use Rattle.std.proofs.Common.{sym, ap, ◌∙◌, subst, arith}
use Rattle.std.proofs.lemmas.List.{append-nil, length-append}
use Rattle.std.proofs.lemmas.List.Elements.{All-nil, All-cons}
use Rattle.std.proofs.Math.Nat.{le-max_right}
use Rattle.std.proofs.Math.Seq.{drop-length}
use Rattle.outside.specs.declared.disk.Disk.{Ghosts}
use Rattle.node_events.specs.declared.event.Event.{Event}
use Rattle.event_core.specs.declared.entry.Entry.{Entry}
use Rattle.event_core.specs.States.{State}
use Rattle.event_core.specs.Histories.{state_from, AreLegalFrom}
use Rattle.node_pool.specs.Free.{SplitsAlone}
use Rattle.node_pool.specs.Halting.{spends}
use Rattle.node_pool.specs.declared.halt.Halt.{Halt}
use Rattle.node_pool.specs.declared.pool.Pool.{Pool}
use Rattle.expand.specs.Laws.{entries_of}
use Rattle.worker_gate.specs.declared.entry.Opening.{Opening}
use Rattle.worker_gate.specs.declared.entry.PoolEntry.{PoolEntry}
use Rattle.worker_gate.specs.declared.entry.PoolEntry.TheVariants.{Opened, Halted}
use Rattle.worker_gate.specs.Entries.{happened, is_opened, opening_in, events_in, halt_in, state_in}
use Rattle.worker_gate.specs.Legal.{IsByOneOf, IsRecorded, IsLegalList}
use Rattle.worker_gate.specs.Limits.{cuts_limit}
use Rattle.worker_gate.specs.Calls.{entry_by}
use Rattle.worker_gate.specs.Kins.{entries_with, opening_of, list_of, IsPoolOf, IsKept}
use Rattle.worker_gate.specs.Lemmas.Lists.{events-happened, opening-append, halt-first, halt-none, halt-happened, state-append, history-append}
use Rattle.worker_gate.proofs.Following.{Follows}
use Rattle.worker_gate.proofs.Growing.{entries-grow, entries-halt, nodes_within, still_legal}
use Rattle.problem.specs.Limits.{most_cuts}
use Rattle.node_pool.specs.Lemmas.Budgets.{joined_most}

-- ---- halts
halt_same : (list : List PoolEntry) (es : List Entry) → halt_in (list ++ happened es) ≡ halt_in list
halt_same list es = step (halt_in list) refl
  where
    step : (h : Option Halt) → halt_in list ≡ h → halt_in (list ++ happened es) ≡ halt_in list
    step None e = halt-none list (happened es) e ∙ halt-happened es ∙ sym e
    step (Some c) e = halt-first list (happened es) c e ∙ sym e

-- ---- workers
-- events of a worker who is one of these
by_member : (w workers : ℕ) (es : List Event) → w < workers → All (IsByOneOf workers) (entries_of w es)
by_member w workers [] m = All-nil (IsByOneOf workers)
by_member w workers (e ∷ es) m = All-cons (IsByOneOf workers) (entry_by w e) (entries_of w es) m (by_member w workers es m)

module _ {D : Type 0} {d : Ghosts D} where
  -- ---- a list begins
  module _ (pool : Pool D d) (n cuts workers : ℕ) (counted : n ≡ length pool.state.history) (unhalted : pool.halt ≡ None) where
    pub list_begins : list_of pool pool n cuts workers ≡ Opened (opening_of pool cuts workers) ∷ []
    list_begins = ap (λ (xs : List PoolEntry). Opened (opening_of pool cuts workers) ∷ xs)
        (ap (λ (h : Option Halt). entries_with (length pool.state.history) h n pool.state.history) unhalted ∙ ap happened (drop-length pool.state.history))

    legal_begins : IsRecorded pool.state → IsLegalList (Opened (opening_of pool cuts workers) ∷ [])
    legal_begins h = record {
      opened = refl;
      recorded = h;
      events = tt;
      workers = All-nil (IsByOneOf workers);
      few_cuts = le-max_right cuts (length pool.state.state.cuts);
      few_nodes = le-max_right pool.budget (length pool.state.state.nodes);
    }

    pool_begins : IsPoolOf (Opened (opening_of pool cuts workers) ∷ []) pool
    pool_begins = record {
      history = sym (append-nil pool.state.history);
      state = refl;
      halt = unhalted;
      moments = λ told i m q. q;
      model = λ told. refl;
      opened = refl;
      budget = refl;
      faults = refl;
    }

    pub kept_begins : cuts ≤ most_cuts → IsRecorded pool.state → IsKept pool pool n n cuts workers
    kept_begins few h = record {
      counted = counted;
      after = omega arith;
      before = omega (arith, counted);
      few = few;
      legal = subst IsLegalList (sym list_begins) (legal_begins h);
      same = subst (λ (l : List PoolEntry). IsPoolOf l pool) (sym list_begins) pool_begins;
    }

  -- ---- the pool is as the list says
  pub still_pool : (list own : List PoolEntry) (a b : Pool D d) → is_opened list ≡ true → IsPoolOf list a → Follows a b (events_in own) → b.halt ≡ halt_in (list ++ own) → IsPoolOf (list ++ own) b
  still_pool list own a b opened h f halt =
      let same : opening_in (list ++ own) ≡ opening_in list = opening-append list own opened in
      record {
        history = f.history ∙ ap (λ (es : List Entry). es ++ events_in own) h.history ∙ sym (history-append list own opened);
        state = f.state ∙ ap (λ (s : State). state_from s (events_in own)) h.state ∙ sym (state-append list own opened);
        halt = halt;
        moments = λ told i m q. f.lasts.moments told i m (h.moments told i m (subst (λ (o : Opening). slice_get o.moments i ≡ Some m) same q));
        model = λ told. f.lasts.model told ∙ h.model told ∙ ap (λ (o : Opening). o.model) (sym same);
        opened = f.lasts.opened ∙ h.opened ∙ ap (λ (o : Opening). o.opened) (sym same);
        budget = f.lasts.budget ∙ h.budget ∙ ap (λ (o : Opening). o.budget) (sym same);
        faults = f.lasts.faults ∙ h.faults ∙ ap (λ (o : Opening). o.faults) (sym same);
      }

  module _ (first a b : Pool D d) (count stop cuts workers : ℕ) (kept : IsKept first a count stop cuts workers) where
    abbrev list : List PoolEntry
    list = list_of first a stop cuts workers

    -- ---- events
    module _ (es : List Entry) (f : Follows a b es) (halt : b.halt ≡ a.halt) where
      pub list_grows : list_of first b stop cuts workers ≡ list ++ happened es
      list_grows =
          ap (λ (xs : List PoolEntry). Opened (opening_of first cuts workers) ∷ xs)
          (ap (λ (h : Option Halt). entries_with (length first.state.history) h stop b.state.history) halt
          ∙ ap (λ (hs : List Entry). entries_with (length first.state.history) a.halt stop hs) f.history
          ∙ entries-grow (length first.state.history) stop a.halt a.state.history es (omega (arith, kept.counted, kept.after)) kept.before)

      pub events_kept : AreLegalFrom (state_in list) es → All (IsByOneOf workers) es → length (state_from (state_in list) es).cuts ≤ cuts_limit list
          → length (state_from (state_in list) es).nodes ≤ max first.budget (length first.state.state.nodes) → IsKept first b count stop cuts workers
      events_kept events by cuts_few nodes_few = record {
        counted = kept.counted;
        after = kept.after;
        before = (let n = ap (λ (hs : List Entry). length hs) f.history in omega (arith, kept.before, n, length-append a.state.history es));
        few = kept.few;
        legal = subst IsLegalList (sym list_grows) (still_legal list (happened es) kept.legal
            (subst (λ (fs : List Entry). AreLegalFrom (state_in list) fs) same events)
            (subst (λ (fs : List Entry). All (IsByOneOf workers) fs) same by)
            (subst (λ (fs : List Entry). length (state_from (state_in list) fs).cuts ≤ cuts_limit list) same cuts_few)
            (subst (λ (fs : List Entry). length (state_from (state_in list) fs).nodes ≤ max first.budget (length first.state.state.nodes)) same nodes_few));
        same = subst (λ (l : List PoolEntry). IsPoolOf l b) (sym list_grows) (still_pool list (happened es) a b kept.legal.opened kept.same
            (subst (λ (fs : List Entry). Follows a b fs) same f) (halt ∙ kept.same.halt ∙ sym (halt_same list es)));
      }
        where
          same : es ≡ events_in (happened es)
          same = sym (events-happened es)

    -- ---- a halt
    module _ (f : Follows a b []) (c : Halt) (unhalted : a.halt ≡ None) (halt : b.halt ≡ Some c) where
      pub list_halts : list_of first b (length a.state.history) cuts workers ≡ list ++ Halted c ∷ []
      list_halts =
          ap (λ (xs : List PoolEntry). Opened (opening_of first cuts workers) ∷ xs)
          (ap (λ (h : Option Halt). entries_with (length first.state.history) h (length a.state.history) b.state.history) halt
          ∙ ap (λ (hs : List Entry). entries_with (length first.state.history) (Some c) (length a.state.history) hs) (f.history ∙ append-nil a.state.history)
          ∙ entries-halt (length first.state.history) stop c a.state.history
          ∙ ap (λ (h : Option Halt). entries_with (length first.state.history) h stop a.state.history ++ Halted c ∷ []) (sym unhalted))

      pub halt_kept : IsKept first b count (length a.state.history) cuts workers
      halt_kept = record {
        counted = kept.counted;
        after = omega (arith, kept.after, kept.before);
        before = (let n = ap (λ (hs : List Entry). length hs) (f.history ∙ append-nil a.state.history) in omega (arith, n));
        few = kept.few;
        legal = subst IsLegalList (sym list_halts) (still_legal list (Halted c ∷ []) kept.legal tt (All-nil (IsByOneOf workers)) kept.legal.few_cuts kept.legal.few_nodes);
        same = subst (λ (l : List PoolEntry). IsPoolOf l b) (sym list_halts) (still_pool list (Halted c ∷ []) a b kept.legal.opened kept.same f
            (halt ∙ sym (halt-none list (Halted c ∷ []) (sym kept.same.halt ∙ unhalted))));
      }

    -- ---- events of a worker
    module _ (w : ℕ) (es : List Event) (f : Follows a b (entries_of w es)) (halt : b.halt ≡ a.halt) (legal : AreLegalFrom (state_in list) (entries_of w es)) (member : w < workers)
        (cuts_few : length (state_from (state_in list) (entries_of w es)).cuts ≤ cuts_limit list) (alone : SplitsAlone es) (within : spends a.budget (length (state_in list).nodes) es ≡ false) where
      pub several_kept : IsKept first b count stop cuts workers
      several_kept = events_kept (entries_of w es) f halt legal (by_member w workers es member) cuts_few
          (joined_most first.budget (length first.state.state.nodes) (length (state_in list).nodes) (length (state_from (state_in list) (entries_of w es)).nodes) kept.legal.few_nodes
          (subst (λ n. length (state_from (state_in list) (entries_of w es)).nodes ≤ max n (length (state_in list).nodes)) kept.same.budget (nodes_within a.budget (state_in list) (Some w) es alone within)))
