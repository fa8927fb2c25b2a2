-- What follows from one call of a gate, whatever gate it is.
use Rattle.std.specs.Prelude.{◌≡◌, ◌⊎◌, ℕ, ◌-◌, length, take, true, false, nat_eq, ◌&&◌, List, [], ◌∷◌, ◌++◌, Option, Some, None, IsSome, is_some, Ok, Err, refl}
use Rattle.std.proofs.Common.{inl, inr, sym, ap, ◌∙◌, subst}
use Rattle.std.specs.declared.alloc.AllocError.{AllocError}
use Rattle.std.specs.List.{list_any}
use Rattle.std.proofs.lemmas.List.{append-nil}
use Rattle.node_events.specs.declared.event.Event.TheVariants as event
use Rattle.event_core.specs.declared.entry.Entry.{Entry}
use Rattle.event_core.specs.declared.entry.Holder.{Holder}
use Rattle.event_core.specs.States.{State, box_of, is_open, open_count}
use Rattle.event_core.specs.Holds.{is_holding, holds_node}
use Rattle.event_core.specs.Histories.{state_from}
use Rattle.event_core.specs.Lemmas.Sounding.{IsKept}
use Rattle.node_pool.specs.declared.halt.Halt.{Halt}
use Rattle.node_pool.specs.Answers.{IsClaim, IsIdle}
use Rattle.node_pool.specs.declared.answers.Claim.TheVariants as claim
use Rattle.node_pool.specs.declared.answers.Receipt.{Receipt}
use Rattle.node_pool.specs.declared.answers.CommitFault.{CommitFault}
use Rattle.node_pool.specs.declared.answers.CommitFault.TheVariants as fault
use Rattle.expand.specs.declared.finding.Finding.{Finding}
use Rattle.expand.specs.declared.finding.Finding.TheVariants.{Cuts, Shut, Whole, Solved, Loose}
use Rattle.expand.specs.Settling.{settled}
use Rattle.expand.specs.Laws.{entries_of}
use Rattle.expand.specs.Lemmas.Rooms.{IsNoCuts, without_cuts}
use Rattle.worker_gate.specs.declared.entry.PoolEntry.{PoolEntry}
use Rattle.worker_gate.specs.Calls.{entry_by, Claims, Commits, Releases, Halts, halting, settling}
use Rattle.worker_gate.specs.Conditions.{HoldsNone, HoldsNode}
use Rattle.worker_gate.specs.Entries.{is_opened, opening_in, events_in, halt_in, state_in}
use Rattle.worker_gate.specs.Gates.{Stepped}
use Rattle.worker_gate.specs.Laws.{KeepsConditions}
use Rattle.worker_gate.specs.Lemmas.Holding.{held_open}
use Rattle.worker_gate.specs.Lemmas.Lists.{events-happened, halt-first, halt-none, state-append}
use Rattle.worker_gate.specs.Lemmas.Staying.{kept_in, conditions_stay}
use Rattle.crew.specs.declared.node_work.Step.{Step}
use Rattle.crew.specs.declared.node_work.Step.TheVariants.{Ended, Separated, Refused}
use Rattle.crew.specs.Lists.{IsFront, Worked, IsHolding, IsOver}
use Rattle.crew.specs.WorkerSteps.{Leaves, AreAllHeld, step_of}
use Rattle.crew.proofs.Fronts.{front_on}
use Rattle.crew.proofs.Holding.{separated_holds, ended_none, ended_closed, claimed_held, lone}

module _ (w : ℕ) (old new : List PoolEntry) (Made : List PoolEntry → List PoolEntry → Type 0) (step : Stepped w old new Made) where
  abbrev pub found : List PoolEntry
  found = step.at

  pub front_of : IsFront old new
  front_of = front_on old step.at new (step.goes_on.0, step.goes_on.1) (step.makes.own, step.makes.all)

  pub kept_at : IsKept (state_in step.at)
  kept_at = kept_in step.at step.found

  pub stays_at : is_opened old ≡ true → KeepsConditions w old step.at
  stays_at opened = conditions_stay w old step.at opened step.found step.goes_on

  pub same_if : step.makes.own ≡ [] → new ≡ step.at
  same_if empty = step.makes.all ∙ (ap (λ (l : List PoolEntry). step.at ++ l) empty ∙ append-nil step.at)

  -- the state after the call's entries, by their events
  pub state_new : (es : List Entry) → events_in step.makes.own ≡ es → state_in new ≡ state_from (state_in step.at) es
  state_new es e = ap state_in step.makes.all ∙ (state-append step.at step.makes.own step.found.opened ∙ ap (state_from (state_in step.at)) e)

  -- a call that made no entry
  pub rests : is_opened old ≡ true → step.makes.own ≡ [] → HoldsNone w old → Worked w old new
  rests opened empty none = record {
    front = front_of;
    legal = step.makes.legal;
    none = subst (HoldsNone w) (sym (same_if empty)) ((stays_at opened).none none);
  }

  pub still_holds : (node : ℕ) → is_opened old ≡ true → step.makes.own ≡ [] → HoldsNode w node old → IsHolding w node old new
  still_holds node opened empty holds = record {
    front = front_of;
    legal = step.makes.legal;
    holds = subst (HoldsNode w node) (sym (same_if empty)) ((stays_at opened).node node holds);
  }

  -- a call whose events left the holds as they were
  pub held_still : (node : ℕ) (es : List Entry) → is_opened old ≡ true → events_in step.makes.own ≡ es → (state_from (state_in step.at) es).holds ≡ (state_in step.at).holds → HoldsNode w node old → IsHolding w node old new
  held_still node es opened is same holds = record {
    front = front_of;
    legal = step.makes.legal;
    holds = ap (λ (s : State). holds_node s w node) (state_new es is) ∙ (ap (λ (hs : List Holder). list_any (λ (h : Holder). nat_eq h.worker w && nat_eq h.node node) hs) same ∙ (stays_at opened).node node holds);
  }

  -- a call after whose events the worker holds none
  pub none_now : (es : List Entry) → events_in step.makes.own ≡ es → is_holding (state_from (state_in step.at) es) w ≡ false → Worked w old new
  none_now es is none = record {
    front = front_of;
    legal = step.makes.legal;
    none = ap (λ (s : State). is_holding s w) (state_new es is) ∙ none;
  }

-- ---- claim
pub claimed_holds : (w node : ℕ) (old new : List PoolEntry) → Stepped w old new (Claims w (Ok (claim.Node node))) → IsHolding w node old new
claimed_holds w node old new step =
    let Made = Claims w (Ok (claim.Node node)) in
    let e = entry_by w (event.Claim node) in
    record {
      front = front_of w old new Made step;
      legal = step.makes.legal;
      holds = ap (λ (s : State). holds_node s w node) (state_new w old new Made step (e ∷ []) (ap events_in step.makes.does.1)) ∙ claimed_held (state_in step.at) w node;
    }

no_open : (h : Option Halt) (s : State) → IsClaim h s claim.Done → IsSome h ⊎ (open_count s ≡ 0)
no_open None s is = inr is
no_open (Some h) s is = let bad : claim.Done ≡ claim.Halted = is in cc

is_halted : (h : Option Halt) (s : State) → IsClaim h s claim.Halted → IsSome h ⊎ (open_count s ≡ 0)
is_halted None s is = absurd is
is_halted (Some h) s is = inl refl

open_held : (h : Option Halt) (s : State) → IsClaim h s claim.Idle → (h ≡ None) × IsIdle s
open_held None s is = (refl, is)
open_held (Some h) s is = let bad : claim.Idle ≡ claim.Halted = is in cc

all_held : (list : List PoolEntry) → IsClaim (halt_in list) (state_in list) claim.Idle → AreAllHeld list
all_held list is = let h = open_held (halt_in list) (state_in list) is in record { unhalted = h.0; idle = h.1 }

pub idle_held : (w : ℕ) (old new : List PoolEntry) → Stepped w old new (Claims w (Ok claim.Idle)) → AreAllHeld new
idle_held w old new step = subst AreAllHeld (sym (same_if w old new (Claims w (Ok claim.Idle)) step step.makes.does.1)) (all_held step.at step.makes.does.0)

pub done_over : (w : ℕ) (old new : List PoolEntry) → Stepped w old new (Claims w (Ok claim.Done)) → IsOver new
done_over w old new step = subst IsOver (sym (same_if w old new (Claims w (Ok claim.Done)) step step.makes.does.1)) (no_open (halt_in step.at) (state_in step.at) step.makes.does.0)

pub halted_over : (w : ℕ) (old new : List PoolEntry) → Stepped w old new (Claims w (Ok claim.Halted)) → IsOver new
halted_over w old new step = subst IsOver (sym (same_if w old new (Claims w (Ok claim.Halted)) step step.makes.does.1)) (is_halted (halt_in step.at) (state_in step.at) step.makes.does.0)

-- ---- release
pub released : (w node : ℕ) (old new : List PoolEntry) → is_opened old ≡ true → HoldsNode w node old → Stepped w old new (Releases w node) → Worked w old new
released w node old new opened holds step =
    let Made = Releases w node in
    let e = entry_by w (event.Release node) in
    none_now w old new Made step (e ∷ []) (ap events_in step.makes.does)
    (lone w node (state_in step.at).holds (kept_at w old new Made step).apart ((stays_at w old new Made step opened).node node holds))

-- ---- halt
pub quiet : (h : Option Halt) → events_in (halting h) ≡ []
quiet None = refl
quiet (Some h) = refl

module _ (w : ℕ) (old new : List PoolEntry) (step : Stepped w old new Halts) where
  there : (at own : List PoolEntry) (h : Option Halt) → halt_in at ≡ h → own ≡ halting h → IsSome (halt_in (at ++ own))
  there at own None e is = ap is_some (halt-none at own e ∙ ap halt_in is)
  there at own (Some h) e is = ap is_some (halt-first at own h e)

  pub halt_over : IsOver new
  halt_over = inl (subst (λ (l : List PoolEntry). IsSome (halt_in l)) (sym step.makes.all) (there step.at step.makes.own (halt_in step.at) refl step.makes.does))

  pub halt_rests : is_opened old ≡ true → HoldsNone w old → Worked w old new
  halt_rests opened none =
      none_now w old new Halts step [] (ap events_in step.makes.does ∙ quiet (halt_in step.at)) ((stays_at w old new Halts step opened).none none)

-- ---- commit
-- a finding that isn't cuts
no_cuts : (f : Finding) → step_of f ≡ Ended → IsNoCuts f
no_cuts (Cuts ms) e = cc
no_cuts (Shut proof) e = λ mults q. cc
no_cuts (Whole x) e = λ mults q. cc
no_cuts (Solved k x mult v column) e = λ mults q. cc
no_cuts (Loose reason j b) e = λ mults q. cc

module _ (w node : ℕ) (f : Finding) (old new : List PoolEntry) (opened : is_opened old ≡ true) (holds : HoldsNode w node old) where
  -- all events were made
  module _ (r : Receipt) (step : Stepped w old new (Commits w node f (Ok r))) where
    abbrev Made : List PoolEntry → List PoolEntry → Type 0
    Made = Commits w node f (Ok r)

    events_are : events_in step.makes.own ≡ entries_of w (settling node f step.at)
    events_are = ap events_in step.makes.does.made ∙ events-happened (entries_of w (settling node f step.at))

    ended : IsNoCuts f → Worked w old new × (is_open (state_in new) node ≡ false)
    ended n =
        let s = state_in step.at in
        let g = settled s (box_of s node) (opening_in step.at).cuts f in
        let kept = kept_at w old new Made step in
        let here = (stays_at w old new Made step opened).node node holds in
        let not_separated = without_cuts s (box_of s node) (opening_in step.at).cuts f n in (
          none_now w old new Made step (entries_of w (settling node f step.at)) events_are (ended_none s w node g not_separated kept.apart here),
          ap (λ (t : State). is_open t node) (state_new w old new Made step (entries_of w (settling node f step.at)) events_are)
              ∙ ended_closed s w node g not_separated (held_open w node s.ended s.holds kept.holds_open here),
        )

  pub committed : (r : Receipt) → Stepped w old new (Commits w node f (Ok r)) → Leaves w node old new (step_of f)
  committed r step = by_step (step_of f) refl
    where
      by_step : (t : Step) → step_of f ≡ t → Leaves w node old new t
      by_step Ended e = ended r step (no_cuts f e)
      by_step Separated e = separated f e r step
        where
          separated : (g : Finding) → step_of g ≡ Separated → (r : Receipt) → Stepped w old new (Commits w node g (Ok r)) → IsHolding w node old new
          separated (Cuts ms) e r step =
              held_still w old new (Commits w node (Cuts ms) (Ok r)) step node (entries_of w (settling node (Cuts ms) step.at)) opened
              (ap events_in step.makes.does.made ∙ events-happened (entries_of w (settling node (Cuts ms) step.at)))
              (separated_holds (state_in step.at) w node (take ((opening_in step.at).cuts - length (state_in step.at).cuts) ms)) holds
          separated (Shut proof) e r step = cc
          separated (Whole x) e r step = cc
          separated (Solved k x mult v column) e r step = cc
          separated (Loose reason j b) e r step = cc
      by_step Refused e = absurd (never f e)
        where
          never : (g : Finding) → step_of g ≡ Refused → ⊥
          never (Cuts ms) e = cc
          never (Shut proof) e = cc
          never (Whole x) e = cc
          never (Solved k x mult v column) e = cc
          never (Loose reason j b) e = cc

  -- none of them was made
  pub refused : (fault : CommitFault) → Stepped w old new (Commits w node f (Err fault)) → IsHolding w node old new
  refused fault.Memory step = still_holds w old new (Commits w node f (Err fault.Memory)) step node opened step.makes.does.made holds
  refused fault.Disk step = held_still w old new (Commits w node f (Err fault.Disk)) step node [] opened (ap events_in step.makes.does.made) refl holds
  refused fault.Budget step = held_still w old new (Commits w node f (Err fault.Budget)) step node [] opened (ap events_in step.makes.does.made) refl holds
  refused fault.Halted step = still_holds w old new (Commits w node f (Err fault.Halted)) step node opened step.makes.does.1 holds

-- ---- one after the other
pub worked_on : (w : ℕ) (a b c : List PoolEntry) → IsFront a b → Worked w b c → Worked w a c
worked_on w a b c ab bc = record { front = front_on a b c ab bc.front; legal = bc.legal; none = bc.none }

pub holding_on : (w node : ℕ) (a b c : List PoolEntry) → IsFront a b → IsHolding w node b c → IsHolding w node a c
holding_on w node a b c ab bc = record { front = front_on a b c ab bc.front; legal = bc.legal; holds = bc.holds }

pub leaves_front : (w node : ℕ) (a b : List PoolEntry) (t : Step) → Leaves w node a b t → IsFront a b
leaves_front w node a b Ended l = l.0.front
leaves_front w node a b Separated l = l.front
leaves_front w node a b Refused l = l.front

pub leaves_on : (w node : ℕ) (a b c : List PoolEntry) (t : Step) → IsFront a b → Leaves w node b c t → Leaves w node a c t
leaves_on w node a b c Ended ab l = (worked_on w a b c ab l.0, l.1)
leaves_on w node a b c Separated ab l = holding_on w node a b c ab l
leaves_on w node a b c Refused ab l = holding_on w node a b c ab l

-- ---- a claim that failed, and the halt after it
module _ (w : ℕ) (old mid new : List PoolEntry) (e : AllocError) (opened : is_opened old ≡ true) (none : HoldsNone w old) (step : Stepped w old mid (Claims w (Err e))) (halt : Stepped w mid new Halts) where
  pub failed_rests : Worked w old mid
  failed_rests = rests w old mid (Claims w (Err e)) step opened step.makes.does none

  pub failed_worked : Worked w old new × IsOver new
  failed_worked = (worked_on w old mid new failed_rests.front (halt_rests w mid new halt failed_rests.legal.opened failed_rests.none), halt_over w mid new halt)
