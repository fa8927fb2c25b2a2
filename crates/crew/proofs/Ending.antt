-- A pool whose workers have ended.
use Rattle.std.specs.Prelude.{◌≡◌, ◌<◌, ℕ, Bool, false, nat_eq, ◌||◌, List, [], ◌∷◌, All, Option, Some, None, refl}
use Rattle.std.specs.List.{list_any}
use Rattle.std.proofs.Common.{sym, ap, ◌∙◌, subst}
use Rattle.std.proofs.lemmas.Bool.{eq-eqb}
use Rattle.std.proofs.lemmas.List.Elements.{All-nil, All-cons, All-head, All-tail}
use Rattle.node_events.specs.declared.event.Event.{Event}
use Rattle.event_core.specs.declared.entry.Entry.{Entry}
use Rattle.event_core.specs.declared.entry.Holder.{Holder}
use Rattle.event_core.specs.States.{State}
use Rattle.event_core.specs.Holds.{is_holding}
use Rattle.event_core.specs.After.{after}
use Rattle.event_core.specs.Histories.{state_from}
use Rattle.worker_gate.specs.Legal.{IsOneOf, IsByOneOf}
use Rattle.event_core.specs.Lemmas.Frames.{all_holds}

abbrev pub IsHeldBelow : ℕ → Holder → Type 0
IsHeldBelow n h = h.worker < n

-- ---- who holds a node is one of the workers
below_after : (n : ℕ) (s : State) (w : Option ℕ) (e : Event) → IsOneOf n w → All (IsHeldBelow n) s.holds → All (IsHeldBelow n) (after s w e).holds
below_after n s None e m a = absurd m
below_after n s (Some w) e m a = all_holds (IsHeldBelow n) s (Some w) e (λ i. All-cons (IsHeldBelow n) (record { worker = w; node = i }) [] m (All-nil (IsHeldBelow n))) a

below_from : (n : ℕ) (s : State) (es : List Entry) → All (IsByOneOf n) es → All (IsHeldBelow n) s.holds → All (IsHeldBelow n) (state_from s es).holds
below_from n s [] m a = a
below_from n s (e ∷ es) m a = below_from n (after s e.worker e.event) es (All-tail (IsByOneOf n) e es m) (below_after n s e.worker e.event (All-head (IsByOneOf n) e es m) a)

-- where none of the workers holds a node, nobody does
nobody : (n : ℕ) (hs : List Holder) → All (IsHeldBelow n) hs → ((w : ℕ) → w < n → list_any (λ (h : Holder). nat_eq h.worker w) hs ≡ false) → hs ≡ []
nobody n [] a none = refl
nobody n (h ∷ hs) a none =
    let bad = sym (ap (λ (b : Bool). b || list_any (λ (k : Holder). nat_eq k.worker h.worker) hs) (eq-eqb h.worker h.worker refl)) ∙ none h.worker (All-head (IsHeldBelow n) h hs a) in
    cc

pub nobody_holds : (n : ℕ) (s : State) (es : List Entry) → s.holds ≡ [] → All (IsByOneOf n) es → ((w : ℕ) → w < n → is_holding (state_from s es) w ≡ false) → (state_from s es).holds ≡ []
nobody_holds n s es unheld m none =
    nobody n (state_from s es).holds (below_from n s es m (subst (All (IsHeldBelow n)) (sym unheld) (All-nil (IsHeldBelow n)))) none
