-- Lemmas: boxes of nodes.
use Rattle.std.specs.Prelude.{◌≡◌, ◌<◌, ℕ, zero, suc, ℤ, ◌≤ℤ◌, ◌<ℤ◌, ◌+ℤ◌, int_le, int_lt, Bool, true, false, not, ◌&&◌, nat_eq, List, [], ◌∷◌, All, take, length, Option, Some, None, slice_get, Result, Ok, Err, IfOk, refl}
use Rattle.std.specs.Option.{ForSome}
use Rattle.std.specs.Ordering.{int_eq}
use Rattle.std.specs.Bool.{one_answer}
use Rattle.std.specs.declared.alloc.AllocError.{AllocError}
use Rattle.std.proofs.Common.{sym, ap, ◌∙◌, subst, arith}
use Rattle.std.proofs.lemmas.Int.{ints}
use Rattle.std.proofs.lemmas.Bool.{and_parts, eqb-true}
use Rattle.std.proofs.lemmas.Bool.Decides.{Decides-eqb}
use Rattle.std.proofs.lemmas.Option.{same_Some, none-some}
use Rattle.std.proofs.lemmas.List.Elements.{All-nil, All-cons, All-head, All-tail}
use Rattle.fraction.specs.Rational.{floor_div}
use Rattle.problem_box.specs.declared.span.Span.{Span}
use Rattle.problem_box.specs.Changes.{IsFirstFree}
use Rattle.problem.specs.Limited.{IsModestSpan}
use Rattle.node_tree.specs.Nodes.{Tree}
use Rattle.node_tree.specs.Paths.{box_at, box_along, path_at}
use Rattle.event_core.specs.Splits.{has_both, is_first_free, is_half}

-- a result that is a modest box
pub modest_result : (r : Result (List Span) AllocError) (b : List Span) → IfOk r (λ c. c ≡ b) → All IsModestSpan b → IfOk r (λ c. All IsModestSpan c)
modest_result (Ok c) b e h = subst (All IsModestSpan) (sym e) h
modest_result (Err x) b e h = tt

-- the box of a node is that of the tree with an equal root
pub same_box : (t : Tree) (ss : List Span) (i : ℕ) → t.root ≡ ss → box_at (record { root = ss; nodes = t.nodes; room = 0 }) i ≡ box_at t i
same_box t ss i e = ap (λ (r : List Span). box_along (path_at t i) 0 r) (sym e)

-- ---- spans that have a bound and the number after it
pub both_within : (ss : List Span) (j : ℕ) (b : ℤ) → has_both (slice_get ss j) b ≡ true → j < length ss
both_within [] j b h = cc
both_within (s ∷ ss) zero b h = omega arith
both_within (s ∷ ss) (suc j) b h = let l = both_within ss j b h in omega (arith, l)

both_at : (s : Span) (b : ℤ) → int_le s.lo b ≡ true → int_lt b s.hi ≡ true → (s.lo ≤ℤ b) × (b <ℤ s.hi)
both_at s b p q = (grind (arith, ints), grind (arith, ints))

pub both_tells : (o : Option Span) (b : ℤ) → has_both o b ≡ true → ForSome o (λ s. (s.lo ≤ℤ b) × (b <ℤ s.hi))
both_tells None b h = cc
both_tells (Some s) b h =
    let k = and_parts (int_le s.lo b) (int_lt b s.hi) h in
    λ t e. subst (λ (u : Span). (u.lo ≤ℤ b) × (b <ℤ u.hi)) (same_Some s t e) (both_at s b k.0 k.1)

-- ---- the first free column
free_test : (s : Span) → s.lo <ℤ s.hi → int_lt s.lo s.hi ≡ true
free_test s h = grind (arith, ints)

fixed_test : (s : Span) → s.hi ≤ℤ s.lo → int_lt s.lo s.hi ≡ false
fixed_test s h = grind (arith, ints)

pub first_at : (ss : List Span) (k : ℕ) → IsFirstFree ss k → is_first_free ss k ≡ true
first_at [] k h = absurd (none-some h.span h.there)
first_at (s ∷ ss) zero h = free_test s (subst (λ (t : Span). t.lo <ℤ t.hi) (sym (same_Some s h.span h.there)) h.free)
first_at (s ∷ ss) (suc k) h =
    let here = fixed_test s (All-head (λ (t : Span). t.hi ≤ℤ t.lo) s (take k ss) h.before) in
    let later = first_at ss k (record { span = h.span; there = h.there; free = h.free; before = All-tail (λ (t : Span). t.hi ≤ℤ t.lo) s (take k ss) h.before }) in
    ap (λ b. not b && is_first_free ss k) here ∙ later

-- and the other way round
pub free_at : (ss : List Span) (k : ℕ) → is_first_free ss k ≡ true → IsFirstFree ss k
free_at [] k e = cc
free_at (s ∷ ss) zero e = record { span = s; there = refl; free = grind (arith, ints); before = All-nil (λ (t : Span). t.hi ≤ℤ t.lo) }
free_at (s ∷ ss) (suc k) e =
    let h = and_parts (not (int_lt s.lo s.hi)) (is_first_free ss k) e in
    let later = free_at ss k h.1 in
    record { span = later.span; there = later.there; free = later.free; before = All-cons (λ (t : Span). t.hi ≤ℤ t.lo) s (take k ss) (fixed_at s (flipped (int_lt s.lo s.hi) h.0)) later.before }
  where
    flipped : (b : Bool) → not b ≡ true → b ≡ false
    flipped true e = cc
    flipped false e = refl

    fixed_at : (t : Span) → int_lt t.lo t.hi ≡ false → t.hi ≤ℤ t.lo
    fixed_at t e = grind (arith, ints)

first_only : (ss : List Span) (j k : ℕ) → is_first_free ss j ≡ true → is_first_free ss k ≡ true → j ≡ k
first_only [] j k p q = cc
first_only (s ∷ ss) zero zero p q = refl
first_only (s ∷ ss) zero (suc k) p q = absurd (clash (int_lt s.lo s.hi) (is_first_free ss k) p q)
  where
    clash : (a b : Bool) → a ≡ true → (not a && b) ≡ true → ⊥
    clash true b p q = cc
    clash false b p q = cc
first_only (s ∷ ss) (suc j) zero p q = absurd (clash (int_lt s.lo s.hi) (is_first_free ss j) q p)
  where
    clash : (a b : Bool) → a ≡ true → (not a && b) ≡ true → ⊥
    clash true b p q = cc
    clash false b p q = cc
first_only (s ∷ ss) (suc j) (suc k) p q =
    ap suc (first_only ss j k (and_parts (not (int_lt s.lo s.hi)) (is_first_free ss j) p).1 (and_parts (not (int_lt s.lo s.hi)) (is_first_free ss k) q).1)

-- where the first free column is known, the test compares with it
pub first_tells : (ss : List Span) (k j : ℕ) → IsFirstFree ss k → nat_eq k j ≡ is_first_free ss j
first_tells ss k j h =
    one_answer (nat_eq k j) (is_first_free ss j) (Decides-eqb k j)
    (λ e. first_only ss k j (first_at ss k h) e, λ (e : k ≡ j). subst (λ i. is_first_free ss i ≡ true) e (first_at ss k h))

pub none_tells : (ss : List Span) (j : ℕ) → All (λ s. s.hi ≤ℤ s.lo) ss → is_first_free ss j ≡ false
none_tells [] j h = refl
none_tells (s ∷ ss) zero h = fixed_test s (All-head (λ (t : Span). t.hi ≤ℤ t.lo) s ss h)
none_tells (s ∷ ss) (suc j) h =
    let r = none_tells ss j (All-tail (λ (t : Span). t.hi ≤ℤ t.lo) s ss h) in
    both_false (not (int_lt s.lo s.hi)) (is_first_free ss j) r
  where
    both_false : (a b : Bool) → b ≡ false → (a && b) ≡ false
    both_false true b e = e
    both_false false b e = refl

-- ---- the middle of the first free column
pub middle_then : (ss : List Span) (k j : ℕ) (s : Span) (b : ℤ) (r : Bool) → IsFirstFree ss k → k ≡ j → slice_get ss k ≡ Some s → r ≡ int_eq b (floor_div (s.lo +ℤ s.hi) 2)
    → r ≡ (is_first_free ss j && is_half (slice_get ss j) b)
middle_then ss k j s b r h e t q =
    let first : is_first_free ss j ≡ true = subst (λ i. is_first_free ss i ≡ true) e (first_at ss k h) in
    let there : slice_get ss j ≡ Some s = subst (λ i. slice_get ss i ≡ Some s) e t in
    q ∙ sym (λ i. first i && is_half (there i) b)

pub middle_else : (ss : List Span) (k j : ℕ) (h : Bool) → IsFirstFree ss k → (k ≡ j → ⊥) → nat_eq k j ≡ (is_first_free ss j && h)
middle_else ss k j h f n = step (nat_eq k j) refl
  where
    step : (b : Bool) → nat_eq k j ≡ b → nat_eq k j ≡ (is_first_free ss j && h)
    step true e = absurd (n (eqb-true k j e))
    step false e = e ∙ sym (ap (λ c. c && h) (sym (first_tells ss k j f) ∙ e))

pub middle_none : (ss : List Span) (j : ℕ) (h : Bool) → All (λ s. s.hi ≤ℤ s.lo) ss → false ≡ (is_first_free ss j && h)
middle_none ss j h a = sym (ap (λ c. c && h) (none_tells ss j a))
