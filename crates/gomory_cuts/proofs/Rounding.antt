-- The whole numbers below and above a fraction, by its numerator.
use Rattle.std.proofs.Common.{◌≡◌, ℕ, suc, ◌+◌, ◌*◌, ◌/◌, ◌%◌, ◌<◌, arith, refl, Bool, true, false}
use Rattle.std.specs.Prelude.{ℤ, pos, negsuc, ◌+ℤ◌, ◌*ℤ◌, ◌≤ℤ◌, ◌<ℤ◌, int_le, if◌then◌else◌}
use Rattle.std.specs.Int.{int_div_euclid, int_rem_euclid}
use Rattle.std.proofs.Math.Nat.{mod-lt}
use Rattle.std.proofs.lemmas.Int.{ints}
use Rattle.std.proofs.lemmas.Nat.{div-add-mod'}
use Rattle.fraction.specs.Rational.{whole, frac, floor, ceil}
use Rattle.fraction.specs.Lemmas.Integers.{mul-le_ℤ, add-mul_ℤ}
use Rattle.fraction.specs.Lemmas.Rational.{lit_one, frac-≤ℚ, ≤ℚ_frac, floor-≤ℚ, ceil_least}
use Rattle.fraction.specs.Lemmas.Order.{floor_greatest, ceil-≤ℚ}

not_above : (a w : ℤ) (d : ℕ) → (a *ℤ pos d) <ℤ (w *ℤ pos d +ℤ pos d) → a ≤ℤ w
not_above a w d h = at (int_le a w) refl
  where
    at : (b : Bool) → int_le a w ≡ b → a ≤ℤ w
    at true e = grind (arith, ints)
    at false e =
        let l : (w +ℤ pos 1) ≤ℤ a = grind (arith, ints) in
        absurd (omega (arith, ints, h, mul-le_ℤ (w +ℤ pos 1) a d l, add-mul_ℤ w (pos 1) (pos d)))

pub floor_of : (z w : ℤ) (d : ℕ) → 0 < d → (w *ℤ pos d) ≤ℤ z → z <ℤ (w *ℤ pos d +ℤ pos d) → floor (frac z d) ≡ w
floor_of z w d o h k =
    let low : w ≤ℤ floor (frac z d) = floor_greatest (frac z d) w (frac-≤ℚ w z 1 d lit_one o (omega (arith, ints, h))) in
    let top : floor (frac z d) ≤ℤ w = not_above (floor (frac z d)) w d (omega (arith, ints, k, ≤ℚ_frac (floor (frac z d)) z 1 d lit_one o (floor-≤ℚ (frac z d)))) in
    omega (arith, ints, low, top)

pub ceil_of : (z w : ℤ) (d : ℕ) → 0 < d → z ≤ℤ (w *ℤ pos d) → (w *ℤ pos d) <ℤ (z +ℤ pos d) → ceil (frac z d) ≡ w
ceil_of z w d o h k =
    let top : ceil (frac z d) ≤ℤ w = ceil_least (frac z d) w (frac-≤ℚ z w d 1 o lit_one (omega (arith, ints, h))) in
    let low : w ≤ℤ ceil (frac z d) = not_above w (ceil (frac z d)) d (omega (arith, ints, k, ≤ℚ_frac z (ceil (frac z d)) d 1 o lit_one (ceil-≤ℚ (frac z d)))) in
    omega (arith, ints, low, top)

pub floor_of_whole : (z : ℤ) → floor (whole z) ≡ z
floor_of_whole z = floor_of z z 1 lit_one (omega (arith, ints)) (omega (arith, ints))

pub ceil_of_whole : (z : ℤ) → ceil (whole z) ≡ z
ceil_of_whole z = ceil_of z z 1 lit_one (omega (arith, ints)) (omega (arith, ints))

-- ---- the quotient that is rounded down, and its remainder
pub quotient_sum : (z : ℤ) (d : ℕ) → 0 < d → int_div_euclid z (pos d) *ℤ pos d +ℤ int_rem_euclid z (pos d) ≡ z
quotient_sum (pos a) d o = let k : a / d * d + a % d ≡ a = div-add-mod' a d in omega (arith, ints)
quotient_sum (negsuc a) d o =
    let k : a / d * d + a % d ≡ a = div-add-mod' a d in
    let l : a % d < d = mod-lt a o in
    let s : suc (a / d) * d ≡ a / d * d + d = omega arith in
    omega (arith, ints)

pub remainder_small : (z : ℤ) (d : ℕ) → 0 < d → (pos 0 ≤ℤ int_rem_euclid z (pos d)) × (int_rem_euclid z (pos d) <ℤ pos d)
remainder_small (pos a) d o = let l : a % d < d = mod-lt a o in (omega (arith, ints), omega (arith, ints))
remainder_small (negsuc a) d o = let l : a % d < d = mod-lt a o in (omega (arith, ints), omega (arith, ints))

pub floor_is : (z : ℤ) (d : ℕ) → 0 < d → floor (frac z d) ≡ int_div_euclid z (pos d)
floor_is z d o =
    let s = quotient_sum z d o in
    let r = remainder_small z d o in
    floor_of z (int_div_euclid z (pos d)) d o (omega (arith, ints, s, r.0, r.1)) (omega (arith, ints, s, r.0, r.1))

pub ceil_exact : (z : ℤ) (d : ℕ) → 0 < d → int_rem_euclid z (pos d) ≡ pos 0 → ceil (frac z d) ≡ int_div_euclid z (pos d)
ceil_exact z d o e =
    let s = quotient_sum z d o in ceil_of z (int_div_euclid z (pos d)) d o (omega (arith, ints, s, e)) (omega (arith, ints, s, e))

pub next_product : (q : ℤ) (d : ℕ) → (q +ℤ pos 1) *ℤ pos d ≡ q *ℤ pos d +ℤ pos d
next_product q d = omega (arith, ints, add-mul_ℤ q (pos 1) (pos d))

pub ceil_above : (z : ℤ) (d : ℕ) → 0 < d → (int_rem_euclid z (pos d) ≡ pos 0 → ⊥) → ceil (frac z d) ≡ int_div_euclid z (pos d) +ℤ pos 1
ceil_above z d o h =
    let s = quotient_sum z d o in
    let r = remainder_small z d o in
    let n = next_product (int_div_euclid z (pos d)) d in
    let p : pos 0 <ℤ int_rem_euclid z (pos d) = positive (int_rem_euclid z (pos d)) r.0 h in
    ceil_of z (int_div_euclid z (pos d) +ℤ pos 1) d o (omega (arith, ints, s, r.0, r.1, n)) (omega (arith, ints, s, p, n))
  where
    positive : (y : ℤ) → pos 0 ≤ℤ y → (y ≡ pos 0 → ⊥) → pos 0 <ℤ y
    positive y l h = grind (arith, ints)

-- where nothing is left, both are the quotient
pub exact_to : (b : Bool) (z : ℤ) (d : ℕ) → 0 < d → int_rem_euclid z (pos d) ≡ pos 0 → (if b then floor (frac z d) else ceil (frac z d)) ≡ int_div_euclid z (pos d)
exact_to true z d o e = floor_is z d o
exact_to false z d o e = ceil_exact z d o e
