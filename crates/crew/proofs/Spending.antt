-- A pool that was halted by its budget.
use Rattle.std.specs.Prelude.{◌≡◌, ◌⊎◌, ◌<◌, ◌≤◌, ◌+◌, ℕ, true, false, List, [], length, Option, Some, None, IsSome, nat_lt, Bool, ◌&&◌, refl}
use Rattle.std.proofs.Common.{⊎_elim, sym, ap, subst}
use borrow.Author.Tests.{ltb-true}
use Rattle.node_events.specs.declared.event.Event.{Event}
use Rattle.node_events.specs.declared.event.Event.TheVariants.{Split}
use Rattle.event_core.specs.declared.admit.Admit.TheVariants.{Yes}
use Rattle.event_core.specs.States.{State, open_count}
use Rattle.event_core.specs.Judging.{judged}
use Rattle.event_core.specs.Laws.{unheld}
use Rattle.event_core.specs.Lemmas.Passing.{split_passed}
use Rattle.node_pool.specs.declared.halt.Halt.{Halt}
use Rattle.node_pool.specs.declared.halt.Halt.TheVariants as halt
use Rattle.outside.specs.Faults.{Rose}
use Rattle.node_pool.specs.Halting.{IsHalt, IsBudgetHalt, IsDiskHalt}
use Rattle.core_search.specs.Endings.{IsSpent}
use Rattle.event_core.specs.Frames.{is_split}
use Rattle.event_core.specs.Lemmas.Frames.{some_open, split_is}

module _ (faults budget count : ℕ) (fault : Option ℕ) (s : State) (nobody : s.holds ≡ []) where
  still : unheld s ≡ s
  still = ap (λ hs. record s { holds = hs }) (sym nobody)

  spent_by : (e : Event) → IsBudgetHalt faults budget count fault s e → IsSpent budget s × (0 < open_count s)
  spent_by e h =
      let over = both (is_split e) (nat_lt budget (length s.nodes + 2)) h.over in
      let split = split_is e over.0 in
      let admitted : judged s None (Split split.0 split.1 split.2 split.3) ≡ Yes = subst (λ t. judged t None (Split split.0 split.1 split.2 split.3) ≡ Yes) still (subst (λ d. judged (unheld s) None d ≡ Yes) split.4 h.next.admitted) in (
        record { splits = record { node = split.0; column = split.1; bound = split.2; reason = split.3; admitted = admitted }; full = ltb-true budget (length s.nodes + 2) over.1 },
        some_open s split.0 (split_passed s None split.0 split.1 split.2 split.3 admitted).opened,
      )
    where
      both : (a b : Bool) → (a && b) ≡ true → (a ≡ true) × (b ≡ true)
      both true b e = (refl, e)
      both false b e = cc

  pub budget_spent : (h : Option Halt) (e : Event) → h ≡ Some (halt.Budget e) → IsHalt faults budget count fault s h → IsSpent budget s × (0 < open_count s)
  budget_spent h e is held = spent_by e (subst (IsHalt faults budget count fault s) is held)

  rose_by : (n : ℕ) (es : List Event) → faults ≤ count → IsDiskHalt faults budget count fault s n es → (faults ≤ count) × Rose faults count
  rose_by n es rising h = (rising, rw h.counted h.rose)

  pub disk_rose : (h : Option Halt) (n : ℕ) (es : List Event) → h ≡ Some (halt.Disk n es) → faults ≤ count → IsHalt faults budget count fault s h → (faults ≤ count) × Rose faults count
  disk_rose h n es is rising held = rose_by n es rising (subst (IsHalt faults budget count fault s) is held)

  pub none_open : (h : Option Halt) → h ≡ None → IsSome h ⊎ (open_count s ≡ 0) → open_count s ≡ 0
  none_open None e over = ⊎_elim (λ (bad : false ≡ true). cc) (λ z. z) over
  none_open (Some h) e over = cc
