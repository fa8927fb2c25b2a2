-- Entries that a call makes behind a list.
use Rattle.std.specs.Prelude.{◌≡◌, ℕ, List, [], ◌∷◌, ◌++◌, Contains, Some, None}
use Rattle.std.proofs.Common.{sym, ap, ◌∙◌, subst, ⊎_elim}
use Rattle.std.proofs.lemmas.List.{append-nil}
use Rattle.std.proofs.lemmas.List.Elements.{Contains-append_cases}
use Rattle.turn_lock.specs.Lists.{OwnOrNone}
use Rattle.turn_lock.specs.Lemmas.Names.{nothing, head_in, only_in}
use Rattle.node_events.specs.declared.event.Event.{Event}
use Rattle.node_pool.specs.declared.halt.Halt.{Halt}
use Rattle.expand.specs.Laws.{entries_of}
use Rattle.worker_gate.specs.declared.entry.PoolEntry.{PoolEntry}
use Rattle.worker_gate.specs.declared.entry.PoolEntry.TheVariants.{Happened, Halted}
use Rattle.worker_gate.specs.Entries.{name_of, happened}
use Rattle.worker_gate.specs.Legal.{IsLegalList}
use Rattle.worker_gate.specs.Calls.{entry_by}
use Rattle.worker_gate.specs.Gates.{Makes}

module _ (w : ℕ) where
  named_none : OwnOrNone name_of (w ∷ []) []
  named_none e n c is = absurd (nothing e c)

  named_event : (e : Event) → OwnOrNone name_of (w ∷ []) (Happened (entry_by w e) ∷ [])
  named_event e x n c is =
      let same : Some w ≡ Some n = sym (ap name_of (only_in (Happened (entry_by w e)) x c)) ∙ is in
      let eq : w ≡ n = cc in
      subst (Contains (w ∷ [])) eq (head_in w [])

  named_halt : (h : Halt) → OwnOrNone name_of (w ∷ []) (Halted h ∷ [])
  named_halt h x n c is = let same : None ≡ Some n = sym (ap name_of (only_in (Halted h) x c)) ∙ is in cc

  named_both : (xs ys : List PoolEntry) → OwnOrNone name_of (w ∷ []) xs → OwnOrNone name_of (w ∷ []) ys → OwnOrNone name_of (w ∷ []) (xs ++ ys)
  named_both xs ys a b x n c is = ⊎_elim (λ (h : Contains xs x). a x n h is) (λ (h : Contains ys x). b x n h is) (Contains-append_cases xs ys x c)

  -- events of the worker
  named_events : (es : List Event) → OwnOrNone name_of (w ∷ []) (happened (entries_of w es))
  named_events [] = named_none
  named_events (e ∷ es) = named_both (Happened (entry_by w e) ∷ []) (happened (entries_of w es)) (named_event e) (named_events es)

  -- ---- calls
  pub made_nothing : (at new : List PoolEntry) (Made : List PoolEntry → Type 0) → new ≡ at → IsLegalList new → Made [] → Makes w at new Made
  made_nothing at new Made same legal made = record { own = []; all = same ∙ sym (append-nil at); legal = legal; named = named_none; does = made }

  pub made_events : (at new : List PoolEntry) (Made : List PoolEntry → Type 0) (es : List Event) → new ≡ at ++ happened (entries_of w es) → IsLegalList new → Made (happened (entries_of w es)) → Makes w at new Made
  made_events at new Made es grown legal made = record { own = happened (entries_of w es); all = grown; legal = legal; named = named_events es; does = made }

  pub made_halt : (at new : List PoolEntry) (Made : List PoolEntry → Type 0) (h : Halt) → new ≡ at ++ Halted h ∷ [] → IsLegalList new → Made (Halted h ∷ []) → Makes w at new Made
  made_halt at new Made h grown legal made = record { own = Halted h ∷ []; all = grown; legal = legal; named = named_halt h; does = made }
