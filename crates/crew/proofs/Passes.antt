-- Passes that are split and joined again.
use Rattle.std.specs.Prelude.{◌≡◌, ◌⊎◌, ◌<◌, ◌+◌, ◌-◌, ℕ, Bool, true, false, List, [], ◌∷◌, ◌++◌, length, Contains, nat_le, cond}
use Rattle.std.proofs.Common.{⊎_elim, sym, ap, ◌∙◌, subst, arith}
use Rattle.turn_lock.specs.Lists.{GoesOn, longer}
use Rattle.std.proofs.lemmas.List.{append-nil, length-append}
use Rattle.event_core.specs.States.{State}
use Rattle.turn_lock.specs.Names.{names_below}
use Rattle.turn_lock.specs.Lemmas.Names.{nothing, head_in, only_in}
use Rattle.turn_lock.specs.Passes.{IsPassOf, names_of, seen_by}
use Rattle.turn_lock.specs.declared.pass.Pass.{Pass}
use Rattle.worker_gate.specs.declared.entry.PoolEntry.{PoolEntry}
use Rattle.worker_gate.specs.Calls.{Halts}
use Rattle.worker_gate.specs.Conditions.{HoldsNone}
use Rattle.worker_gate.specs.Entries.{name_of, is_opened, events_in, halt_in, state_in}
use Rattle.worker_gate.specs.Gates.{Makes, Stepped}
use Rattle.worker_gate.specs.Legal.{IsLegalList}
use Rattle.worker_gate.specs.Lemmas.Staying.{conditions_stay}
use Rattle.worker_gate.specs.declared.lock_gate.LockGate.{LockGate}
use Rattle.crew.specs.Gates.{PoolLock, first_list, worker_at, EachAt, IsDoneGate, AreDoneGates, IsDonePass}
use Rattle.crew.specs.Lists.{IsFront, IsOver, Worked}
use Rattle.crew.proofs.Calling.{quiet, halt_over, state_new}
use Rattle.crew.proofs.Fronts.{front_on}
use Rattle.crew.proofs.Halting.{over_stays}
use Rattle.crew.proofs.Places.{each_first, each_last}
use Rattle.crew.proofs.Names.{in_below, below_more}

-- what goes on by entries of none of many workers goes on by entries that aren't this one's
pub goes_by : (many : List ℕ) (w : ℕ) (a b : List PoolEntry) → Contains many w → GoesOn name_of many a b → GoesOn name_of (w ∷ []) a b
goes_by many w a b among goes = (goes.0, goes.1, λ e n c is one. goes.2 e n c is (subst (Contains many) (sym (only_in w n one)) among))

pub longer_has : (P : List PoolEntry → Type 0) (a b : List PoolEntry) → P a → P b → P (longer a b)
longer_has P a b p q = step (nat_le (length a) (length b))
  where
    step : (c : Bool) → P (cond c b a)
    step true = q
    step false = p

-- a worker who held none holds none in a list that goes on by entries of others
pub none_goes : (many : List ℕ) (w : ℕ) (a b : List PoolEntry) → Contains many w → is_opened a ≡ true → IsLegalList b → GoesOn name_of many a b → HoldsNone w a → HoldsNone w b
none_goes many w a b among opened legal goes none = (conditions_stay w a b opened legal (goes_by many w a b among goes)).none none

pub over_goes : (many : List ℕ) (a b : List PoolEntry) → is_opened a ≡ true → IsLegalList b → GoesOn name_of many a b → IsOver a → IsOver b
over_goes many a b opened legal goes over = over_stays a b (goes.0, goes.1) opened legal over

-- one more worker
parted : (w k : ℕ) → w < k + 1 → (w < k) ⊎ (w ≡ k)
parted w k h = grind arith

module _ (k : ℕ) (a b c : List PoolEntry) (opened_a : is_opened a ≡ true) (opened_b : is_opened b ≡ true) (legal : IsLegalList c)
    (left : GoesOn name_of (names_below k) a c) (right : GoesOn name_of (k ∷ []) b c) where
  pub none_joined : ((w : ℕ) → w < k → HoldsNone w a) → HoldsNone k b → (w : ℕ) → w < k + 1 → HoldsNone w c
  none_joined before here w h = ⊎_elim
      (λ (l : w < k). none_goes (names_below k) w a c (in_below k w l) opened_a legal left (before w l))
      (λ (e : w ≡ k). subst (λ n. HoldsNone n c) (sym e) (none_goes (k ∷ []) k b c (head_in k []) opened_b legal right here))
      (parted w k h)

-- the passes of the first k workers and of worker k, joined
pub joined_pass : (lock : PoolLock) (k : ℕ) (a b c : Pass (List PoolEntry) PoolEntry) → is_opened (first_list lock) ≡ true → IsDonePass lock k a → names_of b ≡ k ∷ [] → Worked k (first_list lock) (seen_by b)
    → IsPassOf lock c → names_of c ≡ names_of a ++ names_of b → seen_by c ≡ longer (seen_by a) (seen_by b)
    → GoesOn name_of (names_of a) (seen_by a) (seen_by c) → GoesOn name_of (names_of b) (seen_by b) (seen_by c) → IsDonePass lock (k + 1) c
joined_pass lock k a b c opened done named worked own names seen left right =
    let legal : IsLegalList (seen_by c) = subst IsLegalList (sym seen) (longer_has IsLegalList (seen_by a) (seen_by b) done.legal worked.legal) in
    record {
      own = own;
      named = names ∙ (ap (λ l. l ++ names_of b) done.named ∙ (ap (λ l. names_below k ++ l) named ∙ sym (below_more k)));
      front = front_on (first_list lock) (seen_by a) (seen_by c) done.front (left.0, left.1);
      legal = legal;
      none = none_joined k (seen_by a) (seen_by b) (seen_by c) done.legal.opened worked.legal.opened legal
          (subst (λ l. GoesOn name_of l (seen_by a) (seen_by c)) done.named left) (subst (λ l. GoesOn name_of l (seen_by b) (seen_by c)) named right) done.none worked.none;
      over = over_goes (names_of a) (seen_by a) (seen_by c) done.legal.opened legal left done.over;
    }

-- ---- a pool that is halted once its lock is gone
module _ (old new : List PoolEntry) (legal : IsLegalList old) (makes : Makes 0 old new (Halts old)) where
  abbrev step : Stepped 0 old new Halts
  step = record { at = old; goes_on = ([], sym (append-nil old), λ e n c is among. nothing e c); found = legal; makes = makes }

  pub halted_front : IsFront old new
  halted_front = (makes.own, makes.all)

  pub halted_over : IsOver new
  halted_over = halt_over 0 old new step

  pub halted_holds : (state_in new).holds ≡ (state_in old).holds
  halted_holds = ap (λ (s : State). s.holds) (state_new 0 old new Halts step [] (ap events_in makes.does ∙ quiet (halt_in old)))

-- ---- the last of some gates
module _ {D : Type 0} (lock : PoolLock) (workers worker : ℕ) (all rest : List (LockGate D)) (gate : LockGate D) (popped : all ≡ rest ++ gate ∷ []) (count : length all ≡ workers - worker)
    (less : worker < workers) (done : AreDoneGates lock workers all) where
  abbrev IsAt : ℕ → LockGate D → Type 0
  IsAt i g = IsDoneGate lock (worker_at workers i) g

  each : EachAt IsAt (rest ++ gate ∷ [])
  each = subst (EachAt IsAt) popped done

  longer_by_one : length rest + 1 ≡ workers - worker
  longer_by_one = let n = length-append rest (gate ∷ []) in omega (arith, n, ap (λ (l : List (LockGate D)). length l) popped, count)

  pub rest_count : length rest ≡ workers - (worker + 1)
  rest_count = omega (arith, longer_by_one, less)

  pub rest_done : AreDoneGates lock workers rest
  rest_done = each_first IsAt rest gate each

  pub last_done : IsDoneGate lock worker gate
  last_done = subst (λ w. IsDoneGate lock w gate) (omega (arith, longer_by_one, less)) (each_last IsAt rest gate each)
