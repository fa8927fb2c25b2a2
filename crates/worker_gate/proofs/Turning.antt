-- A call under a turn, from what `enter`, the pool and `leave` say.
use Rattle.std.specs.Prelude.{◌≡◌, ◌<◌, ℕ, true, List, [], ◌∷◌}
use Rattle.std.proofs.Common.{sym, ap, ◌∙◌, subst}
use Rattle.std.proofs.lemmas.List.{append-nil}
use Rattle.turn_lock.specs.Lists.{GoesOn, Grows}
use Rattle.worker_gate.specs.declared.entry.Opening.{Opening}
use Rattle.worker_gate.specs.declared.entry.PoolEntry.{PoolEntry}
use Rattle.worker_gate.specs.Entries.{name_of, is_opened, opening_in}
use Rattle.worker_gate.specs.Legal.{IsLegalList}
use Rattle.worker_gate.specs.Gates.{Makes, Stepped}
use Rattle.worker_gate.specs.Laws.{KeepsConditions}
use Rattle.worker_gate.specs.Lemmas.Lists.{opening-append}
use Rattle.worker_gate.specs.Lemmas.Staying.{conditions_stay}
use Rattle.turn_lock.specs.Lemmas.Names.{nothing}

-- nobody else asks
pub goes_itself : (w : ℕ) (list : List PoolEntry) → GoesOn name_of (w ∷ []) list list
goes_itself w list = ([], sym (append-nil list), λ e n c is has. nothing e c)

pub step_alone : (w : ℕ) (at new : List PoolEntry) (Made : List PoolEntry → List PoolEntry → Type 0) → IsLegalList at → Makes w at new (Made at) → Stepped w at new Made
step_alone w at new Made legal makes = record { at = at; goes_on = goes_itself w at; found = legal; makes = makes }

-- the opening stays
pub same_opening : (w : ℕ) (at new : List PoolEntry) (Made : List PoolEntry → Type 0) → is_opened at ≡ true → Makes w at new Made → opening_in new ≡ opening_in at
same_opening w at new Made opened makes = ap opening_in makes.all ∙ opening-append at makes.own opened

pub still_member : (w : ℕ) (at new : List PoolEntry) (Made : List PoolEntry → Type 0) → IsLegalList at → Makes w at new Made → w < (opening_in at).workers → w < (opening_in new).workers
still_member w at new Made legal makes member = subst (λ (o : Opening). w < o.workers) (sym (same_opening w at new Made legal.opened makes)) member

-- under a turn
module _ (w : ℕ) (names : List ℕ) (named : names ≡ w ∷ []) (old found at : List PoolEntry) (goes : GoesOn name_of names old found) (same : at ≡ found) (opened : is_opened old ≡ true) (legal : IsLegalList at) where
  goes_to : GoesOn name_of (w ∷ []) old at
  goes_to = subst (λ (l : List PoolEntry). GoesOn name_of (w ∷ []) old l) (sym same) (subst (λ (ns : List ℕ). GoesOn name_of ns old found) named goes)

  pub stays_under : KeepsConditions w old at
  stays_under = conditions_stay w old at opened legal goes_to

  pub member_under : w < (opening_in old).workers → w < (opening_in at).workers
  member_under member = subst (λ (o : Opening). w < o.workers) (sym (ap opening_in goes_to.1 ∙ opening-append old goes_to.0 opened)) member

  module _ (new : List PoolEntry) (Made : List PoolEntry → List PoolEntry → Type 0) (makes : Makes w at new (Made at)) where
    pub step_under : (seen : List PoolEntry) → seen ≡ new → Stepped w old seen Made
    step_under seen is = subst (λ (l : List PoolEntry). Stepped w old l Made) (sym is) (record { at = at; goes_on = goes_to; found = legal; makes = makes })

    pub grown_under : Grows name_of names found new
    grown_under = subst (λ (ns : List ℕ). Grows name_of ns found new) (sym named) (subst (λ (l : List PoolEntry). Grows name_of (w ∷ []) l new) same (makes.own, makes.all, makes.named))

    pub opened_under : (seen : List PoolEntry) → seen ≡ new → is_opened seen ≡ true
    opened_under seen is = ap is_opened is ∙ makes.legal.opened

    pub member_after : (seen : List PoolEntry) → seen ≡ new → w < (opening_in old).workers → w < (opening_in seen).workers
    member_after seen is member = subst (λ (l : List PoolEntry). w < (opening_in l).workers) (sym is) (still_member w at new (Made at) legal makes (member_under member))
