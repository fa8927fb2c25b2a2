-- The middle of the first free column of a box.
use Rattle.std.specs.Prelude.{◌≡◌, ◌≤◌, ℕ, ℤ, ◌≤ℤ◌, ◌<ℤ◌, ◌+ℤ◌, int_le, int_lt, nat_abs, true, ◌&&◌, List, All, Option, Some, slice_get}
use Rattle.std.proofs.Common.{sym, ap, ◌∙◌, subst, arith}
use Rattle.std.proofs.lemmas.Int.{ints}
use Rattle.std.proofs.lemmas.List.Elements.{All-get_or}
use Rattle.std.proofs.lemmas.Option.{same_Some, slice_get_within, get_or_from_slice_get}
use Rattle.fraction.specs.Rational.{floor_div}
use Rattle.fraction.specs.Lemmas.Rational.{floor_below, floor_least}
use Rattle.problem_box.specs.declared.span.Span.{Span}
use Rattle.problem_box.specs.Changes.{IsFirstFree}
use Rattle.problem.specs.Limited.{IsModestSpan}
use Rattle.problem.specs.Limits.{largest_bound}
use Rattle.event_core.specs.Splits.{has_both}

-- a box that is split at the middle of its first free column
module _ (ss : List Span) (j : ℕ) (free : IsFirstFree ss j) (b : ℤ) (middle : b ≡ floor_div (free.span.lo +ℤ free.span.hi) 2) where
  middle_low : free.span.lo ≤ℤ b
  middle_low = subst (λ z. free.span.lo ≤ℤ z) (sym middle) (low free.span.lo free.span.hi free.free)
    where
      low : (lo hi : ℤ) → lo <ℤ hi → lo ≤ℤ floor_div (lo +ℤ hi) 2
      low lo hi h = floor_least (lo +ℤ hi) lo 2 (omega arith) (omega (arith, ints, h))

  middle_high : b <ℤ free.span.hi
  middle_high = subst (λ z. z <ℤ free.span.hi) (sym middle) (high free.span.lo free.span.hi free.free)
    where
      high : (lo hi : ℤ) → lo <ℤ hi → floor_div (lo +ℤ hi) 2 <ℤ hi
      high lo hi h = let k = floor_below (lo +ℤ hi) 2 (omega arith) in omega (arith, ints, h, k)

  pub has_both_here : has_both (slice_get ss j) b ≡ true
  has_both_here = ap (λ (o : Option Span). has_both o b) free.there ∙ both free.span.lo b free.span.hi middle_low middle_high
    where
      both : (lo z hi : ℤ) → lo ≤ℤ z → z <ℤ hi → (int_le lo z && int_lt z hi) ≡ true
      both lo z hi h k =
          let p : int_le lo z ≡ true = grind (arith, ints) in
          let q : int_lt z hi ≡ true = grind (arith, ints) in
          λ i. p i && q i

  pub middle_modest : All IsModestSpan ss → nat_abs b ≤ largest_bound
  middle_modest m =
      let k : IsModestSpan free.span =
      subst IsModestSpan (get_or_from_slice_get ss j free.span free.span free.there) (All-get_or IsModestSpan ss j free.span (slice_get_within ss j free.span free.there) m)
      in
      within free.span.lo b free.span.hi middle_low middle_high k.0 k.1
    where
      within : (lo z hi : ℤ) → lo ≤ℤ z → z <ℤ hi → nat_abs lo ≤ largest_bound → nat_abs hi ≤ largest_bound → nat_abs z ≤ largest_bound
      within lo z hi h k l m = omega (arith, ints, h, k, l, m)

-- the span of the first free column, where it was read
module _ (ss : List Span) (j : ℕ) (free : IsFirstFree ss j) (s : Span) (there : slice_get ss j ≡ Some s) where
  pub same_span : free.span ≡ s
  same_span = same_Some free.span s (sym free.there ∙ there)

  pub span_free : s.lo <ℤ s.hi
  span_free = subst (λ (t : Span). t.lo <ℤ t.hi) same_span free.free

  pub span_modest : All IsModestSpan ss → IsModestSpan s
  span_modest m = subst IsModestSpan (get_or_from_slice_get ss j s s there) (All-get_or IsModestSpan ss j s (slice_get_within ss j s there) m)

  pub middle_is : (b : ℤ) → b ≡ floor_div (s.lo +ℤ s.hi) 2 → b ≡ floor_div (free.span.lo +ℤ free.span.hi) 2
  middle_is b e = e ∙ ap (λ (t : Span). floor_div (t.lo +ℤ t.hi) 2) (sym same_span)
