-- Which nodes are open and which are held, as truth values.
use Rattle.std.specs.Prelude.{◌≡◌, ◌+◌, ℕ, zero, suc, Bool, true, false, not, ◌&&◌, ◌||◌, cond, nat_eq, List, [], ◌∷◌, ◌++◌, length, All, slice_set, refl}
use Rattle.std.specs.List.{list_any}
use Rattle.std.proofs.Common.{sym, ap, ◌∙◌, arith}
use Rattle.std.proofs.Math.Dec.{eqb-suc-zero, eqb-zero-suc, eqb-suc-suc}
use Rattle.std.proofs.lemmas.Bool.{false_from_ne_true, eqb-true, eqb-false, eq-eqb}
use Rattle.std.proofs.lemmas.List.Folds.{list_any-append, Any-from_list_any}
use Rattle.event_core.specs.declared.entry.Holder.{Holder}
use Rattle.event_core.specs.Holds.{without_hold}
use Rattle.event_core.specs.Lemmas.Ended.{is_left}
use Rattle.node_pool.proofs.RisingLists.{or_end}

-- ---- open nodes
pub and_yes : (a : Bool) → a ≡ (a && true)
and_yes true = refl
and_yes false = refl

pub and_no : (a : Bool) → false ≡ (a && false)
and_no true = refl
and_no false = refl

-- a node has ended
pub left-set : (es : List Bool) (i k : ℕ) → is_left (slice_set es i true) k ≡ (is_left es k && not (nat_eq i k))
left-set [] i k = refl
left-set (e ∷ es) zero zero = and_no (not e) ∙ ap (λ b. not e && not b) (sym (eq-eqb zero zero refl))
left-set (e ∷ es) zero (suc k) = and_yes (is_left es k) ∙ ap (λ b. is_left es k && not b) (sym (eqb-zero-suc k))
left-set (e ∷ es) (suc i) zero = and_yes (not e) ∙ ap (λ b. not e && not b) (sym (eqb-suc-zero i))
left-set (e ∷ es) (suc i) (suc k) = left-set es i k ∙ ap (λ b. is_left es k && not b) (sym (eqb-suc-suc i k))

-- it is one of the two nodes from n on
abbrev pub is_of_two : ℕ → ℕ → Bool
is_of_two n k = nat_eq n k || nat_eq (n + 1) k

of_two-suc : (n k : ℕ) → is_of_two (suc n) (suc k) ≡ is_of_two n k
of_two-suc n k = ap (λ b. b || nat_eq (suc n + 1) (suc k)) (eqb-suc-suc n k) ∙ ap (λ b. nat_eq n k || b) (ap (λ m. nat_eq m (suc k)) (let e : suc n + 1 ≡ suc (n + 1) = omega arith in e) ∙ eqb-suc-suc (n + 1) k)

of_two-zero : (n : ℕ) → is_of_two (suc n) zero ≡ false
of_two-zero n = ap (λ b. b || nat_eq (suc n + 1) zero) (eqb-suc-zero n) ∙ false_from_ne_true (nat_eq (suc n + 1) zero) (λ e. let q = eqb-true (suc n + 1) zero e in omega (arith, q))

pub or_no : (a b : Bool) → b ≡ false → a ≡ (a || b)
or_no true b e = refl
or_no false b e = sym e

-- two open nodes more
pub left-two : (es : List Bool) (k : ℕ) → is_left (es ++ false ∷ false ∷ []) k ≡ (is_left es k || is_of_two (length es) k)
left-two [] zero = refl
left-two [] (suc zero) = refl
left-two [] (suc (suc k)) = sym (false_from_ne_true (is_of_two 0 (suc (suc k))) (λ e. two e))
  where
    two : is_of_two 0 (suc (suc k)) ≡ true → ⊥
    two e = step (nat_eq 0 (suc (suc k))) (nat_eq 1 (suc (suc k))) refl refl e
      where
        step : (a b : Bool) → nat_eq 0 (suc (suc k)) ≡ a → nat_eq 1 (suc (suc k)) ≡ b → (a || b) ≡ true → ⊥
        step true b p q r = let l = eqb-true 0 (suc (suc k)) p in omega (arith, l)
        step false true p q r = let l = eqb-true 1 (suc (suc k)) q in omega (arith, l)
        step false false p q r = cc
left-two (e ∷ es) zero = or_no (not e) (is_of_two (suc (length es)) zero) (of_two-zero (length es))
left-two (e ∷ es) (suc k) = left-two es k ∙ ap (λ b. is_left es k || b) (sym (of_two-suc (length es) k))

-- ---- held nodes
abbrev pub has_hold : List Holder → ℕ → Bool
has_hold hs i = list_any (λ (h : Holder). nat_eq h.node i) hs

pub held-push : (hs : List Holder) (h : Holder) (i : ℕ) → has_hold (hs ++ h ∷ []) i ≡ (has_hold hs i || nat_eq h.node i)
held-push hs h i = list_any-append (λ (k : Holder). nat_eq k.node i) hs (h ∷ []) ∙ or_end (has_hold hs i) (nat_eq h.node i)

pub held-without : (i k : ℕ) (hs : List Holder) → has_hold (without_hold i hs) k ≡ (has_hold hs k && not (nat_eq i k))
held-without i k [] = refl
held-without i k (h ∷ hs) = step (nat_eq h.node i) (nat_eq h.node k) (has_hold hs k) (nat_eq i k) (held-without i k hs)
    (λ e. ap (λ m. nat_eq m k) (eqb-true h.node i e))
    (λ e f. false_from_ne_true (nat_eq i k) (λ q. eqb-false h.node i e (eqb-true h.node k f ∙ sym (eqb-true i k q)))) refl
  where
    step : (b c any e : Bool) → has_hold (without_hold i hs) k ≡ (any && not e) → (b ≡ true → c ≡ e) → (b ≡ false → c ≡ true → e ≡ false) → nat_eq h.node k ≡ c
        → has_hold (cond (not b) (h ∷ without_hold i hs) (without_hold i hs)) k ≡ ((c || any) && not e)
    step true c any true ih p q n = ih ∙ sym (and_no any) ∙ and_no (c || any)
    step true c any false ih p q n = ih ∙ ap (λ x. (x || any) && true) (sym (p refl))
    step false true any e ih p q n = ap (λ x. x || has_hold (without_hold i hs) k) n ∙ ap (λ x. true && not x) (sym (q refl refl))
    step false false any e ih p q n = ap (λ x. x || has_hold (without_hold i hs) k) n ∙ ih

-- who holds a node, holds one
pub held_by : (w i : ℕ) (hs : List Holder) → list_any (λ (h : Holder). nat_eq h.worker w && nat_eq h.node i) hs ≡ true → has_hold hs i ≡ true
held_by w i [] e = cc
held_by w i (h ∷ hs) e = step (nat_eq h.worker w) (nat_eq h.node i) (list_any (λ (k : Holder). nat_eq k.worker w && nat_eq k.node i) hs) (held_by w i hs) e
  where
    step : (a b c : Bool) → (c ≡ true → has_hold hs i ≡ true) → ((a && b) || c) ≡ true → (b || has_hold hs i) ≡ true
    step a true c k f = refl
    step true false c k f = k f
    step false false c k f = k f

-- held nodes are open
pub held_open : (es : List Bool) (hs : List Holder) (i : ℕ) → All (λ (h : Holder). is_left es h.node ≡ true) hs → has_hold hs i ≡ true → is_left es i ≡ true
held_open es hs i all e =
    let w = Any-from_list_any (λ (h : Holder). nat_eq h.node i) hs e in
    ap (λ m. is_left es m) (sym (eqb-true w.1.node i w.4)) ∙ ap (λ (h : Holder). is_left es h.node) (sym w.3) ∙ all w.0 w.1 w.2

-- ---- how an event changes which nodes are free: a node is listed, open, held, the event's, and new
pub given : (listed opened held claimed : Bool) → (listed || claimed) ≡ (opened && not held) → (claimed ≡ true → listed ≡ false) → listed ≡ (opened && not (held || claimed))
given true opened held true e f = absurd (cc (f refl))
given false true true true e f = refl
given false true false true e f = refl
given false false held true e f = refl
given true opened held false e f = e ∙ ap (λ b. opened && not b) (or_no held false refl)
given false opened held false e f = e ∙ ap (λ b. opened && not b) (or_no held false refl)

pub given_back : (listed opened held released : Bool) → listed ≡ (opened && not held) → (released ≡ true → opened ≡ true) → (listed || released) ≡ (opened && not (held && not released))
given_back listed true true true e f = or_yes listed
  where
    or_yes : (a : Bool) → (a || true) ≡ true
    or_yes true = refl
    or_yes false = refl
given_back listed true false true e f = or_yes listed
  where
    or_yes : (a : Bool) → (a || true) ≡ true
    or_yes true = refl
    or_yes false = refl
given_back listed false held true e f = absurd (cc (f refl))
given_back listed opened held false e f = sym (or_no listed false refl) ∙ e ∙ ap (λ b. opened && not b) (and_yes held)

pub split_off : (listed opened held ended new : Bool) → listed ≡ (opened && not held) → (ended ≡ true → held ≡ true) → (new ≡ true → held ≡ false)
    → (listed || new) ≡ (((opened && not ended) || new) && not (held && not ended))
split_off listed opened true ended true e f g = absurd (cc (g refl))
split_off true true false true new e f g = absurd (cc (f refl))
split_off true true false false new e f g = refl
split_off true false false ended new e f g = cc
split_off false true false ended new e f g = cc
split_off false false false ended true e f g = refl
split_off false false false ended false e f g = refl
split_off true opened true ended false e f g = absurd (cc (e ∙ sym (and_no opened)))
split_off false true true true false e f g = refl
split_off false true true false false e f g = refl
split_off false false true ended false e f g = refl
