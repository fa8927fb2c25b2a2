-- What a commit of events makes of a pool's list.
use Rattle.std.specs.Prelude.{◌≡◌, ◌↔◌, ◌≤◌, ◌<◌, ℕ, Bool, true, false, List, [], ◌∷◌, length, Option, Some, None, IsSome, Result, Ok, Err, OnOk, OnErr, IfOk, IsErrOf, refl}
use Rattle.std.proofs.Common.{sym, ap, ◌∙◌, subst, arith}
use Rattle.std.proofs.lemmas.List.{length-map}
use Rattle.outside.specs.Faults.{Rose}
use Rattle.outside.specs.declared.disk.Disk.{Ghosts}
use Rattle.node_events.specs.declared.event.Event.{Event}
use Rattle.event_core.specs.States.{State}
use Rattle.event_core.specs.Histories.{state_from, AreLegalFrom}
use Rattle.node_pool.specs.Applied.{AppliesAll, AppliesNothing}
use Rattle.node_pool.specs.Free.{SplitsAlone}
use Rattle.node_pool.specs.Halting.{spends, halt_after, IsHalt, IsDiskHalt}
use Rattle.node_pool.specs.Lemmas.Budgets.{some_split, over_alone}
use Rattle.node_pool.specs.declared.halt.Halt.{Halt}
use Rattle.node_pool.specs.declared.halt.Halt.TheVariants as stop_by
use Rattle.node_pool.specs.declared.answers.Receipt.{Receipt}
use Rattle.node_pool.specs.declared.answers.CommitFault.{CommitFault}
use Rattle.node_pool.specs.declared.answers.CommitFault.TheVariants as fault
use Rattle.node_pool.specs.declared.pool.Pool.{Pool}
use Rattle.expand.specs.Laws.{entries_of}
use Rattle.worker_gate.specs.declared.entry.PoolEntry.{PoolEntry}
use Rattle.worker_gate.specs.declared.entry.PoolEntry.TheVariants.{Opened, Halted}
use Rattle.worker_gate.specs.Entries.{opening_in, halt_in, state_in}
use Rattle.worker_gate.specs.Limits.{cuts_limit}
use Rattle.worker_gate.specs.Gates.{Makes}
use Rattle.worker_gate.specs.Calls.{entry_by, AreAllMade, AreUnmade, AreHalted, IsHaltBy, MakesOf}
use Rattle.worker_gate.specs.Kins.{entries_with, opening_of, list_of, IsPoolOf, IsKept}
use Rattle.worker_gate.specs.Legal.{IsLegalList}
use Rattle.worker_gate.proofs.Following.{Lasts, follows_nothing, follows_all}
use Rattle.worker_gate.proofs.Keeping.{several_kept, list_grows, halt_kept, list_halts}
use Rattle.worker_gate.proofs.Making.{made_nothing, made_events, made_halt}
use Rattle.worker_gate.proofs.Asking.{same_kept, same_list}

-- ---- no event, for want of memory
pub nothing_made : (w : ℕ) (at : List PoolEntry) → IsLegalList at → halt_in at ≡ None → Makes w at at (AreUnmade at)
nothing_made w at legal unhalted = made_nothing w at at (AreUnmade at) refl legal (record { unhalted = unhalted; made = refl })

module _ {D : Type 0} {d : Ghosts D} (first a : Pool D d) (count cuts workers : ℕ) where
  -- while the pool isn't halted, it is all the same where it would have been
  module _ (stop : ℕ) (kept : IsKept first a count stop cuts workers) (unhalted : a.halt ≡ None) where
    list_here : list_of first a (length a.state.history) cuts workers ≡ list_of first a stop cuts workers
    list_here =
        ap (λ (xs : List PoolEntry). Opened (opening_of first cuts workers) ∷ xs)
        (ap (λ (h : Option Halt). entries_with (length first.state.history) h (length a.state.history) a.state.history) unhalted
        ∙ ap (λ (h : Option Halt). entries_with (length first.state.history) h stop a.state.history) (sym unhalted))

    kept_here : IsKept first a count (length a.state.history) cuts workers
    kept_here = record {
      counted = kept.counted;
      after = omega (arith, kept.after, kept.before);
      before = omega arith;
      few = kept.few;
      legal = subst IsLegalList (sym list_here) kept.legal;
      same = subst (λ (l : List PoolEntry). IsPoolOf l a) (sym list_here) kept.same;
    }

  abbrev here : List PoolEntry
  here = list_of first a (length a.state.history) cuts workers

  module _ (kept : IsKept first a count (length a.state.history) cuts workers) (unhalted : a.halt ≡ None) (w : ℕ) (member : w < workers) (es : List Event) (legal : AreLegalFrom (state_in here) (entries_of w es))
      (alone : SplitsAlone es) (few : length (state_from (state_in here) (entries_of w es)).cuts ≤ cuts_limit here) (b : Pool D d) (lasts : Lasts a b) where
    abbrev grown : List PoolEntry
    grown = list_of first b (length a.state.history) cuts workers

    -- what the pool keeps then, and what was made
    abbrev IsAdded : Result Receipt CommitFault → Type 0
    IsAdded r = IsKept first b count (length a.state.history) cuts workers × Makes w here grown (MakesOf w es r here)

    unhalted_there : halt_in here ≡ None
    unhalted_there = sym kept.same.halt ∙ unhalted

    added : (r : Receipt) → AppliesAll a.state (Some w) es b.state → b.halt ≡ a.halt → spends a.budget (length (state_in here).nodes) es ≡ false → r.count ≡ length es → IsAdded (Ok r)
    added r s same within all =
        let f = follows_all a b w es s lasts in
        let k = several_kept first a b count (length a.state.history) cuts workers kept w es f same legal member few alone within in
        let m : AreAllMade (entries_of w es) r here _ = record { unhalted = unhalted_there; made = refl; count = all ∙ sym (length-map es (entry_by w)) } in
        (k, made_events w here grown (MakesOf w es (Ok r) here) es (list_grows first a b count (length a.state.history) cuts workers kept (entries_of w es) f same) k.legal m)

    refused : AppliesNothing a.state b.state → b.halt ≡ a.halt → IsAdded (Err fault.Memory)
    refused s same =
        let f = follows_nothing a b s lasts in
        let k = same_kept first a count (length a.state.history) cuts workers w kept b f same in
        let m : AreUnmade here [] = record { unhalted = unhalted_there; made = refl } in
        (k, made_nothing w here grown (MakesOf w es (Err fault.Memory) here) (same_list first a count (length a.state.history) cuts workers w kept b f same) k.legal m)

    module _ (s : AppliesNothing a.state b.state) (c : Halt) (halt : b.halt ≡ Some c) where
      k : IsKept first b count (length a.state.history) cuts workers
      k = halt_kept first a b count (length a.state.history) cuts workers kept (follows_nothing a b s lasts) c unhalted halt

      stopped : (f : CommitFault) → IsHaltBy f es c here → AreHalted es f here (Halted c ∷ [])
      stopped f cause = record { halt = c; unhalted = unhalted_there; cause = cause; made = refl }

      halted : (f : CommitFault) → MakesOf w es (Err f) here (Halted c ∷ []) → IsAdded (Err f)
      halted f made = (
        k,
        made_halt w here grown (MakesOf w es (Err f) here) c (list_halts first a b count (length a.state.history) cuts workers kept (follows_nothing a b s lasts) c unhalted halt) k.legal made,
      )

    -- the disk's count of faults rose since the list began
    rose : (count : ℕ) (failed : Option ℕ) (h : Option Halt) → IsHalt b.faults b.budget count failed b.state.state h → h ≡ Some (stop_by.Disk count es) → Rose (opening_in here).faults count
    rose count failed h is same =
        let disk : IsDiskHalt b.faults b.budget count failed b.state.state count es = subst (IsHalt b.faults b.budget count failed b.state.state) same is in
        subst (λ n. Rose n count) (lasts.faults ∙ kept.same.faults) disk.rose

    -- the budget and the nodes are those of the list
    spent_there : (t : Bool) → spends a.budget (length a.state.state.nodes) es ≡ t → spends (opening_in here).budget (length (state_in here).nodes) es ≡ t
    spent_there t q =
        subst (λ n. spends n (length (state_in here).nodes) es ≡ t) kept.same.budget (subst (λ (u : State). spends a.budget (length u.nodes) es ≡ t) kept.same.state q)

    -- a split that is past the budget of the list
    over : spends a.budget (length a.state.state.nodes) es ≡ true → b.halt ≡ halt_after a.halt (Err fault.Budget) es count → AppliesNothing a.state b.state → IsAdded (Err fault.Budget)
    over q halt stays =
        let budget = (opening_in here).budget in
        let nodes = length (state_in here).nodes in
        let spent = spent_there true q in
        let one = over_alone budget nodes es (alone (some_split budget nodes es spent)) spent in
        let is : b.halt ≡ Some (stop_by.Budget one.0) = halt ∙ ap (λ (fs : List Event). halt_after a.halt (Err fault.Budget) fs count) one.1 in
        halted stays (stop_by.Budget one.0) is fault.Budget (stopped stays (stop_by.Budget one.0) is fault.Budget (one.0, one.1, refl, one.2))

    added_by : (faults : ℕ) (failed : Option ℕ) → IsHalt b.faults b.budget faults failed b.state.state b.halt → (r : Result Receipt CommitFault) → OnOk r (AppliesAll a.state (Some w) es b.state) → IfOk r (λ q. q.count ≡ length es)
        → OnErr r (AppliesNothing a.state b.state) → (IsErrOf r fault.Halted ↔ IsSome a.halt) → (IsErrOf r fault.Budget ↔ ((a.halt ≡ None) × (spends a.budget (length a.state.state.nodes) es ≡ true)))
        → b.halt ≡ halt_after a.halt r es faults → IsAdded r
    added_by faults failed is (Ok r) applied all stays none spent halt =
        added r applied halt (within (spends a.budget (length a.state.state.nodes) es) refl) all
      where
        never : ◌≡◌ {A = Result Receipt CommitFault} (Ok r) (Err fault.Budget) → ⊥
        never q = cc

        within : (t : Bool) → spends a.budget (length a.state.state.nodes) es ≡ t → spends a.budget (length (state_in here).nodes) es ≡ false
        within true q = absurd (never (spent.1 (unhalted, q)))
        within false q = subst (λ (u : State). spends a.budget (length u.nodes) es ≡ false) kept.same.state q
    added_by faults failed is (Err fault.Memory) applied all stays none spent halt = refused stays halt
    added_by faults failed is (Err fault.Budget) applied all stays none spent halt = over (spent.0 refl).1 halt stays
    added_by faults failed is (Err fault.Disk) applied all stays none spent halt =
        halted stays (stop_by.Disk faults es) halt fault.Disk (stopped stays (stop_by.Disk faults es) halt fault.Disk (faults, refl, rose faults failed b.halt is halt))
    added_by faults failed is (Err fault.Halted) applied all stays none spent halt = absurd (some_not a.halt unhalted (none.0 refl))
      where
        some_not : (o : Option Halt) → o ≡ None → IsSome o → ⊥
        some_not None e i = cc
        some_not (Some c) e i = cc

  -- the whole call, from a list that is halted nowhere yet
  pub add_call : (stop : ℕ) → IsKept first a count stop cuts workers → (at : List PoolEntry) → at ≡ list_of first a stop cuts workers → (w : ℕ) (es : List Event) → w < (opening_in at).workers → halt_in at ≡ None
      → AreLegalFrom (state_in at) (entries_of w es) → SplitsAlone es → length (state_from (state_in at) (entries_of w es)).cuts ≤ cuts_limit at → (b : Pool D d) → Lasts a b → (n : ℕ) → n ≡ length a.state.history
      → (faults : ℕ) (failed : Option ℕ) → IsHalt b.faults b.budget faults failed b.state.state b.halt → (r : Result Receipt CommitFault)
      → OnOk r (AppliesAll a.state (Some w) es b.state) → IfOk r (λ q. q.count ≡ length es) → OnErr r (AppliesNothing a.state b.state)
      → (IsErrOf r fault.Halted ↔ IsSome a.halt) → (IsErrOf r fault.Budget ↔ ((a.halt ≡ None) × (spends a.budget (length a.state.state.nodes) es ≡ true))) → b.halt ≡ halt_after a.halt r es faults
      → IsKept first b count n cuts workers × Makes w at (list_of first b n cuts workers) (MakesOf w es r at)
  add_call stop kept at is w es member unhalted legal alone few b lasts n counted faults failed halted_as r applied all stays none spent halt =
      let u : a.halt ≡ None = kept.same.halt ∙ ap halt_in (sym is) ∙ unhalted in
      let same : here ≡ at = list_here stop kept u ∙ sym is in
      let m = subst (λ (l : List PoolEntry). w < (opening_in l).workers) (sym same) member in
      let l = subst (λ (z : List PoolEntry). AreLegalFrom (state_in z) (entries_of w es)) (sym same) legal in
      let f = subst (λ (z : List PoolEntry). length (state_from (state_in z) (entries_of w es)).cuts ≤ cuts_limit z) (sym same) few in
      let k = added_by (kept_here stop kept u) u w m es l alone f b lasts faults failed halted_as r applied all stays none spent halt in (
        subst (λ j. IsKept first b count j cuts workers) (sym counted) k.0,
        subst (λ j. Makes w at (list_of first b j cuts workers) (MakesOf w es r at)) (sym counted)
            (subst (λ (z : List PoolEntry). Makes w z (list_of first b (length a.state.history) cuts workers) (MakesOf w es r z)) same k.1),
      )
