-- Lemmas: holds that are given and taken away.
use Rattle.std.specs.Prelude.{◌≡◌, ◌≤◌, ◌+◌, ℕ, Bool, true, false, not, nat_eq, ◌&&◌, ◌||◌, cond, List, [], ◌∷◌, ◌++◌, length, All, refl}
use Rattle.std.specs.List.{list_any}
use Rattle.std.proofs.Common.{sym, ap, ◌∙◌, arith}
use Rattle.std.proofs.lemmas.Bool.{or_parts, eqb-true, eqb-false}
use Rattle.std.proofs.lemmas.List.Elements.{All-nil, All-cons, All-head, All-tail}
use Rattle.event_core.specs.declared.entry.Holder.{Holder}
use Rattle.event_core.specs.Holds.{without_hold}
use Rattle.event_core.specs.Sound.{AreApart}

abbrev is_of : ℕ → ℕ → Holder → Bool
is_of w i h = nat_eq h.worker w && nat_eq h.node i

abbrev is_at : ℕ → Holder → Bool
is_at i h = nat_eq h.node i

abbrev is_by : ℕ → Holder → Bool
is_by w h = nat_eq h.worker w

-- ---- how many
pub length-without_hold : (i : ℕ) (hs : List Holder) → length (without_hold i hs) ≤ length hs
length-without_hold i [] = omega arith
length-without_hold i (h ∷ hs) = step (nat_eq h.node i) (length-without_hold i hs)
  where
    step : (b : Bool) → length (without_hold i hs) ≤ length hs → length (cond (not b) (h ∷ without_hold i hs) (without_hold i hs)) ≤ length (h ∷ hs)
    step true l = omega (arith, l)
    step false l = omega (arith, l)

-- a hold that is there is taken away
pub fewer-without_hold : (w i : ℕ) (hs : List Holder) → list_any (is_of w i) hs ≡ true → length (without_hold i hs) + 1 ≤ length hs
fewer-without_hold w i [] e = cc
fewer-without_hold w i (h ∷ hs) e = step (nat_eq h.worker w) (nat_eq h.node i) (length-without_hold i hs) (λ f. fewer-without_hold w i hs f) e
  where
    step : (a b : Bool) → length (without_hold i hs) ≤ length hs → (list_any (is_of w i) hs ≡ true → length (without_hold i hs) + 1 ≤ length hs) → ((a && b) || list_any (is_of w i) hs) ≡ true
        → length (cond (not b) (h ∷ without_hold i hs) (without_hold i hs)) + 1 ≤ length (h ∷ hs)
    step a true l k f = omega (arith, l)
    step true false l k f = let m = k f in omega (arith, m)
    step false false l k f = let m = k f in omega (arith, m)

-- ---- who
pub All-without_hold : (P : Holder → Type 0) (i : ℕ) (hs : List Holder) → All P hs → All (λ (h : Holder). P h × (nat_eq h.node i ≡ false)) (without_hold i hs)
All-without_hold P i [] a = All-nil (λ (h : Holder). P h × (nat_eq h.node i ≡ false))
All-without_hold P i (h ∷ hs) a = step (nat_eq h.node i) refl (All-without_hold P i hs (All-tail P h hs a))
  where
    step : (b : Bool) → nat_eq h.node i ≡ b → All (λ (h : Holder). P h × (nat_eq h.node i ≡ false)) (without_hold i hs)
        → All (λ (h : Holder). P h × (nat_eq h.node i ≡ false)) (cond (not b) (h ∷ without_hold i hs) (without_hold i hs))
    step true e r = r
    step false e r = All-cons (λ (h : Holder). P h × (nat_eq h.node i ≡ false)) h (without_hold i hs) (All-head P h hs a, e) r

any-without_hold : (p : Holder → Bool) (i : ℕ) (hs : List Holder) → list_any p hs ≡ false → list_any p (without_hold i hs) ≡ false
any-without_hold p i [] e = refl
any-without_hold p i (h ∷ hs) e = step (nat_eq h.node i) (p h) refl e (λ f. any-without_hold p i hs f)
  where
    step : (b c : Bool) → p h ≡ c → (c || list_any p hs) ≡ false → (list_any p hs ≡ false → list_any p (without_hold i hs) ≡ false)
        → list_any p (cond (not b) (h ∷ without_hold i hs) (without_hold i hs)) ≡ false
    step b true q f k = cc
    step true false q f k = k f
    step false false q f k = ap (λ c. c || list_any p (without_hold i hs)) q ∙ k f

pub AreApart-without_hold : (i : ℕ) (hs : List Holder) → AreApart hs → AreApart (without_hold i hs)
AreApart-without_hold i [] a = tt
AreApart-without_hold i (h ∷ hs) a = step (nat_eq h.node i) (AreApart-without_hold i hs a.2)
  where
    step : (b : Bool) → AreApart (without_hold i hs) → AreApart (cond (not b) (h ∷ without_hold i hs) (without_hold i hs))
    step true r = r
    step false r = (any-without_hold (is_by h.worker) i hs a.0, any-without_hold (is_at h.node) i hs a.1, r)

-- one more, of a worker and a node that have none
not_eq : (a b : ℕ) → nat_eq a b ≡ false → nat_eq b a ≡ false
not_eq a b e = step (nat_eq b a) refl
  where
    step : (c : Bool) → nat_eq b a ≡ c → c ≡ false
    step true q = absurd (eqb-false a b e (sym (eqb-true b a q)))
    step false q = refl

any-push : (p : Holder → Bool) (hs : List Holder) (k : Holder) → list_any p hs ≡ false → p k ≡ false → list_any p (hs ++ k ∷ []) ≡ false
any-push p [] k e f = ap (λ c. c || false) f
any-push p (h ∷ hs) k e f = let b = or_parts (p h) (list_any p hs) e in ap (λ c. c || list_any p (hs ++ k ∷ [])) b.0 ∙ any-push p hs k b.1 f

pub AreApart-push : (hs : List Holder) (k : Holder) → AreApart hs → list_any (is_by k.worker) hs ≡ false → list_any (is_at k.node) hs ≡ false → AreApart (hs ++ k ∷ [])
AreApart-push [] k a e f = (refl, refl, tt)
AreApart-push (h ∷ hs) k a e f =
    let b = or_parts (is_by k.worker h) (list_any (is_by k.worker) hs) e in
    let c = or_parts (is_at k.node h) (list_any (is_at k.node) hs) f in (
      any-push (is_by h.worker) hs k a.0 (not_eq h.worker k.worker b.0),
      any-push (is_at h.node) hs k a.1 (not_eq h.node k.node c.0),
      AreApart-push hs k a.2 b.1 c.1,
    )
