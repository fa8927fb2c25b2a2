-- Lemmas: who holds a node, while others do something.
use Rattle.std.specs.Prelude.{◌≡◌, ℕ, Bool, true, false, not, nat_eq, ◌&&◌, ◌||◌, cond, List, [], ◌∷◌, All, Option, Some, None, refl}
use Rattle.std.specs.List.{list_any}
use Rattle.std.proofs.Common.{sym, ap, ◌∙◌}
use Rattle.std.proofs.lemmas.Bool.{and_parts, or_parts, or_left, or_right, eq-eqb, eqb-true, eqb-false, ne_eqb}
use Rattle.std.proofs.lemmas.List.Elements.{All-head, All-tail}
use Rattle.std.proofs.lemmas.List.Folds.{list_any-append}
use Rattle.node_events.specs.declared.event.Event.{Event}
use Rattle.event_core.specs.declared.entry.Holder.{Holder}
use Rattle.event_core.specs.States.{State}
use Rattle.event_core.specs.Holds.{is_holding, holds_node, is_yours, without_hold}
use Rattle.event_core.specs.After.{after}
use Rattle.event_core.specs.Histories.{IsLegal, MayStand}
use Rattle.event_core.specs.Sound.{AreApart}
use Rattle.event_core.specs.Lemmas.Ended.{is_left}
use Rattle.event_core.specs.Lemmas.Sounding.{HoldsOpen}
use Rattle.event_core.specs.Frames.{claimed_by, freed_by, without_holds, holds_of}
use Rattle.event_core.specs.Lemmas.Frames.{keeps_frame, freed_yours}

abbrev is_of : ℕ → ℕ → Holder → Bool
is_of w i h = nat_eq h.worker w && nat_eq h.node i

abbrev is_by : ℕ → Holder → Bool
is_by w h = nat_eq h.worker w

-- it isn't this worker
abbrev pub IsOther : ℕ → Option ℕ → Type 0
IsOther w o = (n : ℕ) → o ≡ Some n → n ≡ w → ⊥

any_weaker : (p q : Holder → Bool) → ((h : Holder) → p h ≡ true → q h ≡ true) → (hs : List Holder) → list_any p hs ≡ true → list_any q hs ≡ true
any_weaker p q f [] e = cc
any_weaker p q f (h ∷ hs) e = step (p h) refl e (any_weaker p q f hs)
  where
    step : (b : Bool) → p h ≡ b → (b || list_any p hs) ≡ true → (list_any p hs ≡ true → list_any q hs ≡ true) → (q h || list_any q hs) ≡ true
    step true is k r = or_left (q h) (list_any q hs) (f h is)
    step false is k r = or_right (q h) (list_any q hs) (r k)

-- ---- no hold
pub none_without : (w i : ℕ) (hs : List Holder) → list_any (is_by w) hs ≡ false → list_any (is_by w) (without_hold i hs) ≡ false
none_without w i [] e = refl
none_without w i (h ∷ hs) e = let k = or_parts (is_by w h) (list_any (is_by w) hs) e in step (nat_eq h.node i) k.0 (none_without w i hs k.1)
  where
    step : (b : Bool) → is_by w h ≡ false → list_any (is_by w) (without_hold i hs) ≡ false → list_any (is_by w) (cond (not b) (h ∷ without_hold i hs) (without_hold i hs)) ≡ false
    step true e r = r
    step false e r = ap (λ c. c || list_any (is_by w) (without_hold i hs)) e ∙ r

none_given : (w : ℕ) (o : Option ℕ) (k : Option ℕ) → IsOther w o → list_any (is_by w) (holds_of o k) ≡ false
none_given w o None n = refl
none_given w None (Some i) n = refl
none_given w (Some x) (Some i) n = ap (λ b. b || false) (ne_eqb x w (n x refl))

-- a worker who holds no node holds none after an event of another
pub none_after : (w : ℕ) (s : State) (o : Option ℕ) (e : Event) → IsOther w o → is_holding s w ≡ false → is_holding (after s o e) w ≡ false
none_after w s o e n h =
    ap (list_any (is_by w)) (keeps_frame s o e).holds
    ∙ (list_any-append (is_by w) (without_holds (freed_by e) s.holds) (holds_of o (claimed_by e))
    ∙ (ap (λ b. b || list_any (is_by w) (holds_of o (claimed_by e))) (left (freed_by e)) ∙ none_given w o (claimed_by e) n))
  where
    left : (k : Option ℕ) → list_any (is_by w) (without_holds k s.holds) ≡ false
    left None = h
    left (Some i) = none_without w i s.holds h

-- ---- a hold
-- no two hold one node
one_holder : (x w i : ℕ) (hs : List Holder) → AreApart hs → list_any (is_of x i) hs ≡ true → list_any (is_of w i) hs ≡ true → x ≡ w
one_holder x w i [] a e f = cc
one_holder x w i (h ∷ hs) a e f = step (is_of x i h) (is_of w i h) refl refl e f (one_holder x w i hs a.2)
  where
    at : (v : ℕ) → list_any (is_of v i) hs ≡ true → h.node ≡ i → ⊥
    at v k here =
        let found = any_weaker (is_of v i) (λ (g : Holder). nat_eq g.node h.node) (λ g q. eq-eqb g.node h.node (eqb-true g.node i (and_parts (nat_eq g.worker v) (nat_eq g.node i) q).1 ∙ sym here)) hs k in
        let bad = sym found ∙ a.1 in
        cc

    worker_is : (v : ℕ) → is_of v i h ≡ true → h.worker ≡ v
    worker_is v q = eqb-true h.worker v (and_parts (nat_eq h.worker v) (nat_eq h.node i) q).0

    node_is : (v : ℕ) → is_of v i h ≡ true → h.node ≡ i
    node_is v q = eqb-true h.node i (and_parts (nat_eq h.worker v) (nat_eq h.node i) q).1

    step : (b c : Bool) → is_of x i h ≡ b → is_of w i h ≡ c → (b || list_any (is_of x i) hs) ≡ true → (c || list_any (is_of w i) hs) ≡ true
        → (list_any (is_of x i) hs ≡ true → list_any (is_of w i) hs ≡ true → x ≡ w) → x ≡ w
    step true true p q e f r = sym (worker_is x p) ∙ worker_is w q
    step true false p q e f r = absurd (at w f (node_is x p))
    step false true p q e f r = absurd (at x e (node_is w q))
    step false false p q e f r = r e f

-- another node's hold goes away
other_without : (w node i : ℕ) (hs : List Holder) → (node ≡ i → ⊥) → list_any (is_of w node) hs ≡ true → list_any (is_of w node) (without_hold i hs) ≡ true
other_without w node i [] n e = cc
other_without w node i (h ∷ hs) n e = step (is_of w node h) refl (nat_eq h.node i) refl e (λ k. other_without w node i hs n k)
  where
    step : (b : Bool) → is_of w node h ≡ b → (c : Bool) → nat_eq h.node i ≡ c → (b || list_any (is_of w node) hs) ≡ true → (list_any (is_of w node) hs ≡ true → list_any (is_of w node) (without_hold i hs) ≡ true)
        → list_any (is_of w node) (cond (not c) (h ∷ without_hold i hs) (without_hold i hs)) ≡ true
    step true p true q k f = absurd (n (sym (eqb-true h.node node (and_parts (nat_eq h.worker w) (nat_eq h.node node) p).1) ∙ eqb-true h.node i q))
    step true p false q k f = or_left (is_of w node h) (list_any (is_of w node) (without_hold i hs)) p
    step false p true q k f = f k
    step false p false q k f = or_right (is_of w node h) (list_any (is_of w node) (without_hold i hs)) (f k)

still_held : (w node : ℕ) (s : State) (o : Option ℕ) (e : Event) (i : ℕ) → AreApart s.holds → MayStand s o e → is_yours s o i ≡ true → IsOther w o → holds_node s w node ≡ true
    → list_any (is_of w node) (without_hold i s.holds) ≡ true
still_held w node s None e i a m y n h = let bad = sym (ap (list_any (is_of w node)) m.0) ∙ h in cc
still_held w node s (Some x) e i a m y n h = step (nat_eq node i) refl
  where
    step : (b : Bool) → nat_eq node i ≡ b → list_any (is_of w node) (without_hold i s.holds) ≡ true
    step true q = absurd (n x refl (one_holder x w i s.holds a y (ap (λ k. holds_node s w k) (sym (eqb-true node i q)) ∙ h)))
    step false q = other_without w node i s.holds (eqb-false node i q) h

-- a worker who holds a node holds it after an event of another
pub node_after : (w node : ℕ) (s : State) (o : Option ℕ) (e : Event) → AreApart s.holds → IsLegal s o e → IsOther w o → holds_node s w node ≡ true → holds_node (after s o e) w node ≡ true
node_after w node s o e a l n h =
    ap (list_any (is_of w node)) (keeps_frame s o e).holds
    ∙ (list_any-append (is_of w node) (without_holds (freed_by e) s.holds) (holds_of o (claimed_by e))
    ∙ or_left (list_any (is_of w node) (without_holds (freed_by e) s.holds)) _ (left (freed_by e) refl))
  where
    left : (k : Option ℕ) → freed_by e ≡ k → list_any (is_of w node) (without_holds k s.holds) ≡ true
    left None q = h
    left (Some i) q = still_held w node s o e i a l.stands (freed_yours s o e i l.admitted q) n h

-- ---- a node that is held is open
pub held_open : (w i : ℕ) (es : List Bool) (hs : List Holder) → All (HoldsOpen es) hs → list_any (is_of w i) hs ≡ true → is_left es i ≡ true
held_open w i es [] a e = cc
held_open w i es (h ∷ hs) a e = step (is_of w i h) refl e (held_open w i es hs (All-tail (HoldsOpen es) h hs a))
  where
    step : (b : Bool) → is_of w i h ≡ b → (b || list_any (is_of w i) hs) ≡ true → (list_any (is_of w i) hs ≡ true → is_left es i ≡ true) → is_left es i ≡ true
    step true q k r = ap (is_left es) (sym (eqb-true h.node i (and_parts (nat_eq h.worker w) (nat_eq h.node i) q).1)) ∙ All-head (HoldsOpen es) h hs a
    step false q k r = r k
