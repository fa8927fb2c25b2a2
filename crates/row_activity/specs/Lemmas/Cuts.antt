-- Boxes that are cut from a modest box are modest.
use Rattle.std.specs.Prelude.{◌≡◌, ◌≤◌, ℕ, zero, suc, ℤ, ◌≤ℤ◌, ◌<ℤ◌, nat_abs, List, [], ◌∷◌, All, length, slice_get, refl}
use Rattle.std.specs.Option.{ForSome}
use Rattle.std.proofs.Common.{arith}
use Rattle.std.proofs.lemmas.Int.{ints}
use Rattle.std.proofs.lemmas.List.Elements.{All-cons, All-head, All-tail}
use Rattle.problem_box.specs.declared.span.Span.{Span}
use Rattle.problem_box.specs.Changes.{cut_high, cut_low}
use Rattle.problem.specs.Limited.{IsModestSpan}
use Rattle.problem.specs.Limits.{largest_bound}

pub length-cut_high : (ss : List Span) (j : ℕ) (b : ℤ) → length (cut_high ss j b) ≡ length ss
length-cut_high [] j b = refl
length-cut_high (s ∷ ss) zero b = omega arith
length-cut_high (s ∷ ss) (suc j) b = omega (arith, length-cut_high ss j b)

pub length-cut_low : (ss : List Span) (j : ℕ) (b : ℤ) → length (cut_low ss j b) ≡ length ss
length-cut_low [] j b = refl
length-cut_low (s ∷ ss) zero b = omega arith
length-cut_low (s ∷ ss) (suc j) b = omega (arith, length-cut_low ss j b)

between : (lo hi b : ℤ) → nat_abs lo ≤ largest_bound → nat_abs hi ≤ largest_bound → lo ≤ℤ b → b ≤ℤ hi → nat_abs b ≤ largest_bound
between lo hi b h k l m = omega (arith, ints, h, k, l, m)

pub modest-cut_high : (ss : List Span) (j : ℕ) (b : ℤ) → All IsModestSpan ss → ForSome (slice_get ss j) (λ s. (s.lo ≤ℤ b) × (b <ℤ s.hi)) → All IsModestSpan (cut_high ss j b)
modest-cut_high [] j b h k = h
modest-cut_high (s ∷ ss) zero b h k =
    let m = All-head IsModestSpan s ss h in
    let i = k s refl in
    All-cons IsModestSpan (record s { hi = b }) ss (m.0, between s.lo s.hi b m.0 m.1 i.0 (let l : b ≤ℤ s.hi = omega (arith, ints, i.1) in l)) (All-tail IsModestSpan s ss h)
modest-cut_high (s ∷ ss) (suc j) b h k = All-cons IsModestSpan s (cut_high ss j b) (All-head IsModestSpan s ss h) (modest-cut_high ss j b (All-tail IsModestSpan s ss h) k)

pub modest-cut_low : (ss : List Span) (j : ℕ) (b : ℤ) → All IsModestSpan ss → ForSome (slice_get ss j) (λ s. (s.lo <ℤ b) × (b ≤ℤ s.hi)) → All IsModestSpan (cut_low ss j b)
modest-cut_low [] j b h k = h
modest-cut_low (s ∷ ss) zero b h k =
    let m = All-head IsModestSpan s ss h in
    let i = k s refl in
    All-cons IsModestSpan (record s { lo = b }) ss (between s.lo s.hi b m.0 m.1 (let l : s.lo ≤ℤ b = omega (arith, ints, i.0) in l) i.1, m.1) (All-tail IsModestSpan s ss h)
modest-cut_low (s ∷ ss) (suc j) b h k = All-cons IsModestSpan s (cut_low ss j b) (All-head IsModestSpan s ss h) (modest-cut_low ss j b (All-tail IsModestSpan s ss h) k)
