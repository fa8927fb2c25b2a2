-- Lemmas: the points of a box are numbered column by column, as digits are, and the halves of a box share its points out.
use Rattle.std.specs.Prelude.{◌≡◌, ◌<◌, ◌≤◌, ◌+◌, ◌*◌, ◌/◌, ◌%◌, ℕ, zero, suc, ℤ, pos, ◌+ℤ◌, ◌-ℤ◌, ◌≤ℤ◌, ◌<ℤ◌, nat_abs, int_lt, Bool, true, false, cond, List, [], ◌∷◌, All, Some, slice_get, refl}
use Rattle.std.proofs.Common.{sym, ap, ◌∙◌, subst, inl, inr, arith}
use Rattle.std.proofs.Math.Nat.{add-mul, mul-add, mul-pos, mul-le-mul_right, mod-lt, div-lt_iff_lt-mul}
use Rattle.std.proofs.lemmas.Nat.{div-add-mod'}
use Rattle.std.proofs.lemmas.Bool.{cases_lt}
use Rattle.std.proofs.lemmas.Int.{ints}
use Rattle.std.proofs.lemmas.List.Elements.{All-head, All-tail}
use Rattle.std.proofs.lemmas.Option.{same_Some, none-some}
use Rattle.problem_box.specs.declared.span.Span.{Span}
use Rattle.problem_box.specs.Boxes.{IsWithin, IsInBox}
use Rattle.problem_box.specs.Changes.{cut_low, cut_high}
use Rattle.problem_box.specs.PointCount.{span_count, point_count, PointsAreCounted}

-- ---- one span
module _ (s : Span) where
  digit_below : (x : ℤ) → IsWithin s x → nat_abs (x -ℤ s.lo) < span_count s
  digit_below x h = at (int_lt s.hi s.lo) refl
    where
      at : (b : Bool) → int_lt s.hi s.lo ≡ b → nat_abs (x -ℤ s.lo) < cond b zero (nat_abs (s.hi -ℤ s.lo) + 1)
      at true e = absurd (grind (arith, ints, h.0, h.1))
      at false e = omega (arith, ints, h.0, h.1)

  digit_within : (d : ℕ) → d < span_count s → IsWithin s (s.lo +ℤ pos d)
  digit_within d h = at (int_lt s.hi s.lo) refl h
    where
      at : (b : Bool) → int_lt s.hi s.lo ≡ b → d < cond b zero (nat_abs (s.hi -ℤ s.lo) + 1) → IsWithin s (s.lo +ℤ pos d)
      at true e l = absurd (omega (arith, l))
      at false e l =
          let order : s.lo ≤ℤ s.hi = grind (arith, ints) in
          (omega (arith, ints), omega (arith, ints, l, order))

-- ---- digits
place_below : (d n r c : ℕ) → d < n → r < c → d * c + r < n * c
place_below d n r c h l = omega (arith, l, add-mul d 1 c, mul-le-mul_right c (let k : d + 1 ≤ n = omega (arith, h) in k))

same_digit : (a b r t c : ℕ) → r < c → t < c → a * c + r ≡ b * c + t → a ≡ b
same_digit a b r t c h l e = elim (cases_lt a b) [
  | inl q ↦ (let k = place_below a b r c q h in absurd (omega (arith, k, e)))
  | inr q ↦ elim (cases_lt b a) [
    | inl m ↦ (let k = place_below b a t c m l in absurd (omega (arith, k, e)))
    | inr m ↦ omega (arith, q, m)
  ]
]

same_rest : (a b r t c : ℕ) → a ≡ b → a * c + r ≡ b * c + t → r ≡ t
same_rest a b r t c h e = let k : a * c ≡ b * c = ap (λ n. n * c) h in omega (arith, k, e)

-- ---- a box
abbrev number : List Span → List ℤ → ℕ
number [] xs = 0
number (s ∷ ss) [] = 0
number (s ∷ ss) (x ∷ xs) = nat_abs (x -ℤ s.lo) * point_count ss + number ss xs

number_below : (ss : List Span) (xs : List ℤ) → IsInBox ss xs → number ss xs < point_count ss
number_below [] [] h = omega arith
number_below [] (x ∷ xs) h = absurd h
number_below (s ∷ ss) [] h = absurd h
number_below (s ∷ ss) (x ∷ xs) h = place_below (nat_abs (x -ℤ s.lo)) (span_count s) (number ss xs) (point_count ss) (digit_below s x h.0) (number_below ss xs h.1)

one_point : (ss : List Span) (xs ys : List ℤ) → IsInBox ss xs → IsInBox ss ys → number ss xs ≡ number ss ys → xs ≡ ys
one_point [] [] [] h l e = refl
one_point [] [] (y ∷ ys) h l e = absurd l
one_point [] (x ∷ xs) ys h l e = absurd h
one_point (s ∷ ss) [] ys h l e = absurd h
one_point (s ∷ ss) (x ∷ xs) [] h l e = absurd l
one_point (s ∷ ss) (x ∷ xs) (y ∷ ys) h l e =
    let digits = same_digit (nat_abs (x -ℤ s.lo)) (nat_abs (y -ℤ s.lo)) (number ss xs) (number ss ys) (point_count ss) (number_below ss xs h.1) (number_below ss ys l.1) e in
    let first : x ≡ y = omega (arith, ints, digits, h.0.0, l.0.0) in
    let rest = one_point ss xs ys h.1 l.1 (same_rest (nat_abs (x -ℤ s.lo)) (nat_abs (y -ℤ s.lo)) (number ss xs) (number ss ys) (point_count ss) digits e) in
    (λ i. first i ∷ rest i)

each_number : (ss : List Span) (k : ℕ) → k < point_count ss → (x : List ℤ) × IsInBox ss x × (number ss x ≡ k)
each_number [] k h = ([], tt, omega (arith, h))
each_number (s ∷ ss) k h = by_count (point_count ss) refl (each_number ss)
  where
    by_count : (c : ℕ) → point_count ss ≡ c → ((r : ℕ) → r < point_count ss → (x : List ℤ) × IsInBox ss x × (number ss x ≡ r)) → (x : List ℤ) × IsInBox (s ∷ ss) x × (number (s ∷ ss) x ≡ k)
    by_count zero e later =
        let none : span_count s * point_count ss ≡ 0 = ap (λ n. span_count s * n) e ∙ omega arith in
        absurd (omega (arith, h, none))
    by_count (suc n) e later =
        let c = point_count ss in
        let some : 0 < c = omega (arith, e) in
        let d : ℕ = k / c in
        let digit_is : d < span_count s = (div-lt_iff_lt-mul some).1 h in
        let r = later (k % c) (mod-lt k some) in
        let here : nat_abs ((s.lo +ℤ pos d) -ℤ s.lo) ≡ d = omega (arith, ints) in
        (((s.lo +ℤ pos d) ∷ r.0), (digit_within s d digit_is, r.1), ap (λ n. n * c + number ss r.0) here ∙ ap (λ n. d * c + n) r.2 ∙ div-add-mod' k c)

pub points_counted : (ss : List Span) → PointsAreCounted ss
points_counted ss = (number ss, record { below = number_below ss; one_point = one_point ss; each = each_number ss })

-- ---- the halves of a box
span_counted : (s : Span) → s.lo ≤ℤ s.hi → span_count s ≡ nat_abs (s.hi -ℤ s.lo) + 1
span_counted s h = at (int_lt s.hi s.lo) refl
  where
    at : (b : Bool) → int_lt s.hi s.lo ≡ b → cond b zero (nat_abs (s.hi -ℤ s.lo) + 1) ≡ nat_abs (s.hi -ℤ s.lo) + 1
    at true e = absurd (grind (arith, ints, h))
    at false e = refl

-- each of two boxes has a point, and together they have those of the third
pub record AreHalves (left right whole : List Span) : Type 0 where
  pub left_some : 0 < point_count left
  pub right_some : 0 < point_count right
  pub together : point_count left + point_count right ≡ point_count whole

some_point : (ss : List Span) → All (λ s. s.lo ≤ℤ s.hi) ss → 0 < point_count ss
some_point [] h = omega arith
some_point (s ∷ ss) h =
    let l = All-head (λ (s : Span). s.lo ≤ℤ s.hi) s ss h in
    let here : 0 < span_count s = omega (arith, span_counted s l) in
    mul-pos here (some_point ss (All-tail (λ (s : Span). s.lo ≤ℤ s.hi) s ss h))

pub are_halves : (ss : List Span) (j : ℕ) (b : ℤ) (t : Span) → slice_get ss j ≡ Some t → t.lo ≤ℤ b → b <ℤ t.hi → All (λ s. s.lo ≤ℤ s.hi) ss → AreHalves (cut_high ss j b) (cut_low ss j (b +ℤ pos 1)) ss
are_halves [] j b t e l h n = absurd (none-some t e)
are_halves (s ∷ ss) zero b t e l h n =
    let same : t ≡ s = sym (same_Some s t e) in
    let l' : s.lo ≤ℤ b = subst (λ (u : Span). u.lo ≤ℤ b) same l in
    let h' : b <ℤ s.hi = subst (λ (u : Span). b <ℤ u.hi) same h in
    let rest = some_point ss (All-tail (λ (s : Span). s.lo ≤ℤ s.hi) s ss n) in
    let left : Span = record { lo = s.lo; hi = b } in
    let right : Span = record { lo = b +ℤ pos 1; hi = s.hi } in
    let a : span_count left ≡ nat_abs (b -ℤ s.lo) + 1 = span_counted left l' in
    let c : span_count right ≡ nat_abs (s.hi -ℤ (b +ℤ pos 1)) + 1 = span_counted right (omega (arith, ints, h')) in
    let d : span_count s ≡ nat_abs (s.hi -ℤ s.lo) + 1 = span_counted s (omega (arith, ints, l', h')) in
    let sum : span_count left + span_count right ≡ span_count s = omega (arith, ints, a, c, d, l', h') in
    record {
      left_some = mul-pos (omega (arith, a)) rest;
      right_some = mul-pos (omega (arith, c)) rest;
      together = sym (add-mul (span_count left) (span_count right) (point_count ss)) ∙ ap (λ k. k * point_count ss) sum;
    }
are_halves (s ∷ ss) (suc j) b t e l h n =
    let r = are_halves ss j b t e l h (All-tail (λ (s : Span). s.lo ≤ℤ s.hi) s ss n) in
    let here : 0 < span_count s = omega (arith, span_counted s (All-head (λ (s : Span). s.lo ≤ℤ s.hi) s ss n)) in
    record {
      left_some = mul-pos here r.left_some;
      right_some = mul-pos here r.right_some;
      together = sym (mul-add (span_count s) (point_count (cut_high ss j b)) (point_count (cut_low ss j (b +ℤ pos 1)))) ∙ ap (λ k. span_count s * k) r.together;
    }
