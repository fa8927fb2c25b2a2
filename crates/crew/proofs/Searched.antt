-- A pool that workers searched on in, by its list.
use Rattle.std.specs.Prelude.{◌≡◌, ◌<◌, ◌≤◌, ℕ, List, [], ◌∷◌, ◌++◌, max, length, All, Some, IsSome, is_some, slice_get, refl}
use Rattle.std.proofs.Common.{inl, inr, ⊎_elim, sym, ap, ◌∙◌, subst, arith}
use Rattle.std.proofs.lemmas.List.{append-nil}
use Rattle.std.proofs.lemmas.List.Elements.{All-nil}
use Rattle.outside.specs.declared.disk.Disk.{Ghosts}
use Rattle.node_journal.specs.declared.journal.Journal.{Journal}
use Rattle.node_journal.specs.History.{ExtendsMoments}
use Rattle.node_journal.specs.Whole.{payloads_in}
use Rattle.event_core.specs.declared.entry.Entry.{Entry}
use Rattle.event_core.specs.States.{State, open_count}
use Rattle.event_core.specs.Holds.{is_holding}
use Rattle.event_core.specs.Histories.{state_from}
use Rattle.event_core.specs.Rooms.{Recorded}
use Rattle.event_core.specs.Lemmas.Running.{from-problem}
use Rattle.node_pool.specs.Payloads.{model_in}
use Rattle.node_pool.specs.declared.halt.Halt.{Halt}
use Rattle.node_pool.specs.declared.pool.Pool.{Pool}
use Rattle.worker_gate.specs.declared.entry.Opening.{Opening}
use Rattle.worker_gate.specs.declared.entry.PoolEntry.{PoolEntry}
use Rattle.worker_gate.specs.declared.entry.PoolEntry.TheVariants.{Opened}
use Rattle.worker_gate.specs.Conditions.{HoldsNone}
use Rattle.worker_gate.specs.Entries.{opening_in, events_in, halt_in, state_in}
use Rattle.worker_gate.specs.Kins.{opening_of, moments_of, IsPoolOf}
use Rattle.worker_gate.specs.Legal.{IsByOneOf, IsLegalList}
use Rattle.crew.specs.Lists.{IsFront, IsOver}
use Rattle.crew.specs.Runs.{IsSearched}
use Rattle.crew.proofs.Ending.{nobody_holds}
use Rattle.crew.proofs.Fronts.{front_opening}

module _ {D : Type 0} {d : Ghosts D} (old : Pool D d) (workers cuts : ℕ) (unheld : old.state.state.holds ≡ []) where
  -- ---- by the list of the pool
  module _ (new : Pool D d) (list : List PoolEntry) (front : IsFront (Opened (opening_of old cuts workers) ∷ []) list) (legal : IsLegalList list) (same : IsPoolOf list new)
      (none : (w : ℕ) → w < workers → HoldsNone w list) (over : IsOver list) where
    abbrev first : Opening
    first = opening_of old cuts workers

    abbrev events : List Entry
    events = events_in list

    opening : opening_in list ≡ first
    opening = front_opening (Opened first ∷ []) list front refl

    leads : state_in list ≡ state_from old.state.state events
    leads = ap (λ (o : Opening). state_from o.state.state events) opening

    state : new.state.state ≡ state_from old.state.state events
    state = same.state ∙ leads

    of_workers : All (IsByOneOf workers) events
    of_workers = subst (λ (o : Opening). All (IsByOneOf o.workers) events) opening legal.workers

    nodes_list : length (state_in list).nodes ≤ max old.budget (length old.state.state.nodes)
    nodes_list = subst (λ (o : Opening). length (state_in list).nodes ≤ max o.budget (length o.state.state.nodes)) opening legal.few_nodes

    cuts_list : length (state_in list).cuts ≤ max cuts (length old.state.state.cuts)
    cuts_list = subst (λ (o : Opening). length (state_in list).cuts ≤ max o.cuts (length o.state.state.cuts)) opening legal.few_cuts

    pub searched : IsSearched workers cuts old new
    searched = record {
      history = record {
        entries = events;
        history = same.history ∙ ap (λ (o : Opening). o.state.history ++ events) opening;
        state = state;
        of_workers = of_workers;
      };
      problem = ap (λ (s : State). s.problem) state ∙ from-problem old.state.state events;
      unheld = ap (λ (s : State). s.holds) state ∙ nobody_holds workers old.state.state events unheld of_workers (λ w h. ap (λ (s : State). is_holding s w) (sym leads) ∙ none w h);
      few_nodes = subst (λ (s : State). length s.nodes ≤ max old.budget (length old.state.state.nodes)) (sym same.state) nodes_list;
      few_cuts = subst (λ (s : State). length s.cuts ≤ max cuts (length old.state.state.cuts)) (sym same.state) cuts_list;
      over = ⊎_elim
          (λ (h : IsSome (halt_in list)). inl (ap is_some same.halt ∙ h))
          (λ (z : open_count (state_in list) ≡ 0). inr (ap open_count same.state ∙ z))
          over;
      moments = λ told. subst (λ (o : Opening). ExtendsMoments o.moments (moments_of new)) opening (same.moments told);
      model = λ told. same.model told ∙ ap (λ (o : Opening). o.model) opening;
      opened = same.opened ∙ ap (λ (o : Opening). o.opened) opening;
      budget = same.budget ∙ ap (λ (o : Opening). o.budget) opening;
      faults = same.faults ∙ ap (λ (o : Opening). o.faults) opening;
    }

  -- ---- a pool that was halted at once
  module _ (new : Pool D d) (h : Halt) (halt : new.halt ≡ Some h) (state : new.state ≡ old.state) (journal : new.journal ≡ old.journal) (budget : new.budget ≡ old.budget) (faults : new.faults ≡ old.faults) where
    pub halted_at_once : IsSearched workers cuts old new
    halted_at_once = record {
      history = record {
        entries = [];
        history = ap (λ (r : Recorded). r.history) state ∙ sym (append-nil old.state.history);
        state = ap (λ (r : Recorded). r.state) state;
        of_workers = All-nil (IsByOneOf workers);
      };
      problem = ap (λ (r : Recorded). r.state.problem) state;
      unheld = ap (λ (r : Recorded). r.state.holds) state ∙ unheld;
      few_nodes = subst (λ (r : Recorded). length r.state.nodes ≤ max old.budget (length old.state.state.nodes)) (sym state) (few old.budget (length old.state.state.nodes));
      few_cuts = subst (λ (r : Recorded). length r.state.cuts ≤ max cuts (length old.state.state.cuts)) (sym state) (few cuts (length old.state.state.cuts));
      over = inl (ap is_some halt);
      moments = λ told i m q. subst (λ (j : Journal D d). slice_get (d.past j.disk ++ d.now j.disk ∷ []) i ≡ Some m) (sym journal) q;
      model = λ told. ap (λ (j : Journal D d). model_in (payloads_in (d.now j.disk))) journal;
      opened = ap (λ (j : Journal D d). j.opened) journal;
      budget = budget;
      faults = faults;
    }
      where
        few : (a b : ℕ) → b ≤ max a b
        few a b = grind arith
