use denote.Exit.{no}
use denote.Param.Send.{param_send, arg_send}
use Rattle.std.specs.Prelude.{◌≡◌, ℕ, Bool, true, nat_eq, []}
use Rattle.std.specs.List.{list_any}
use Rattle.std.proofs.Common.{sym, ap, ◌∙◌, subst}
use Rattle.problem.specs.Problem.{Problem}
use Rattle.event_core.specs.declared.entry.Holder.{Holder}
use Rattle.worker_gate.specs.declared.lock_gate.LockGate.{LockGate}
use Rattle.worker_gate.specs.Conditions.{HoldsNone}
use Rattle.worker_gate.specs.Entries.{is_opened, state_in}
use Rattle.worker_gate.specs.Passes.{seen_in}
use Rattle.crew.specs.Gates.{PoolLock, first_list, IsNewGate, IsDoneGate, IsReadyGate}
use Rattle.crew.specs.Lists.{Worked, IsOver}
use Rattle.crew.proofs.Sending.{gate_send}
use Rattle.crew.proofs.threads.work_all.Goals as goal

module _ {D : Type 0} (lock : PoolLock) (w : ℕ) (old : LockGate D) (new : IsNewGate lock w old) where
  ready : (p : Problem) → is_opened (first_list lock) ≡ true → (state_in (first_list lock)).holds ≡ [] → (state_in (first_list lock)).problem ≡ p → IsReadyGate p w old.worker (seen_in old.pass)
  ready p opened unheld problem =
      let by : Holder → Bool = λ (k : Holder). nat_eq k.worker old.worker in
      record {
        number = new.worker;
        opened = subst (λ l. is_opened l ≡ true) (sym new.seen) opened;
        problem = subst (λ l. (state_in l).problem ≡ p) (sym new.seen) problem;
        none = subst (HoldsNone old.worker) (sym new.seen) (ap (list_any by) unheld);
      }

  done : (now : LockGate D) → now.worker ≡ old.worker → now.lock ≡ old.lock → Worked old.worker (seen_in old.pass) (seen_in now.pass) → IsOver (seen_in now.pass) → IsDoneGate lock w now
  done now same stays worked over = record {
    home = ap (λ b. b.now) stays ∙ new.home;
    worker = same ∙ new.worker;
    worked = subst (λ n. Worked n (first_list lock) (seen_in now.pass)) new.worker (subst (λ l. Worked old.worker l (seen_in now.pass)) new.seen worked);
    over = over;
  }

pub work_each-requires-send-G : goal.work_each-requires-send-G
work_each-requires-send-G g c = λ κs ties. param_send 0 _ (arg_send _ no _ (gate_send _ _ (param_send 0 _ c.type_bounds.send-D) _))
