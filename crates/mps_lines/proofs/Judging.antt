-- What the parts of a number say of its limits.
use Rattle.std.proofs.Common.{◌≡◌, ℕ, ◌+◌, ◌*◌, ◌^◌, ◌<◌, ◌≤◌, ◌%◌, Bool, true, false, ◌==◌, ◌&&◌, refl, sym, ap, ◌∙◌, arith, ◌⊎◌, inl, inr, Ok, Err, pos, neg_ℤ}
use Rattle.std.proofs.lemmas.Bool.Decides.{nat_tests}
use Rattle.std.proofs.lemmas.Bool.{cases_lt, lt-ltb, le-ltb}
use Rattle.std.proofs.Math.Bool.{and-false}
use Rattle.std.proofs.lemmas.Nat.{mod-mul-add}
use Rattle.std.proofs.Math.Nat.{one-le-pow, mul-le-mul_right}
use Rattle.std.specs.Bool.{MatchBool}
use Rattle.fraction.specs.Rational.{frac}
use Rattle.fraction.specs.Lemmas.Rational.{frac_same}
use Rattle.fraction.specs.Lemmas.Integers.{neg-mul_ℤ}
use Rattle.problem.specs.Limits.{largest_bound, finest}
use Rattle.mps_lines.specs.Decimals.{with_sign, within_limits}
use Rattle.mps_lines.proofs.Places.{Parts}
use Rattle.mps_lines.specs.Weights.{judged}
use Rattle.mps_lines.specs.declared.decimals.Sum.{Sum}
use Rattle.mps_lines.specs.declared.decimals.NumFault.TheVariants.{TooLarge, TooFine}

module _ (size p h m low : ℕ) (is : size * finest ≡ h * (p * 10 ^ 25) + m * p + low) (hp : 0 < p) (below : low < p) where
  large_high : 0 < h → largest_bound * p < size
  large_high k = let e : 1 * (p * 10 ^ 25) ≤ h * (p * 10 ^ 25) = mul-le-mul_right _ k in omega arith

  large_middle : largest_bound * finest < m → largest_bound * p < size
  large_middle k = let e : (largest_bound * finest + 1) * p ≤ m * p = mul-le-mul_right p (omega arith) in let j : 0 ≤ h * (p * 10 ^ 25) = omega arith in omega arith

  large_low : m ≡ largest_bound * finest → 0 < low → largest_bound * p < size
  large_low k j = let e : largest_bound * finest * p ≤ m * p = mul-le-mul_right p (omega arith) in omega arith

  not_large : h ≡ 0 → m < largest_bound * finest → size ≤ largest_bound * p
  not_large k j = let e : (m + 1) * p ≤ largest_bound * finest * p = mul-le-mul_right p (omega arith) in let z : h * (p * 10 ^ 25) ≡ 0 = rw k (omega arith) in omega arith

  not_large_whole : h ≡ 0 → m ≤ largest_bound * finest → low ≡ 0 → size ≤ largest_bound * p
  not_large_whole k j l = let e : m * p ≤ largest_bound * finest * p = mul-le-mul_right p j in let z : h * (p * 10 ^ 25) ≡ 0 = rw k (omega arith) in omega arith

  rest_is : h ≡ 0 → size * finest % p ≡ low
  rest_is k = ap (λ n. n % p) (is ∙ rw k (omega arith)) ∙ mod-mul-add m p low below

same_amount : (negative : Bool) (size p m : ℕ) → 0 < p → size * finest ≡ m * p → frac (with_sign negative size) p ≡ frac (with_sign negative m) finest
same_amount false size p m hp e = frac_same (pos size) (pos m) p finest hp (omega arith) (ap pos e)
same_amount true size p m hp e = frac_same (neg_ℤ (pos size)) (neg_ℤ (pos m)) p finest hp (omega arith) (neg-mul_ℤ (pos size) (pos finest) ∙ ap (λ n. neg_ℤ (pos n)) e ∙ sym (neg-mul_ℤ (pos m) (pos p)))

pub within_large : (negative : Bool) (size p : ℕ) → largest_bound * p < size → within_limits negative size p ≡ Err TooLarge
unfolding within_limits
within_large negative size p h = rw (lt-ltb (largest_bound * p) size h) refl

pub within_fine : (negative : Bool) (size p n : ℕ) → size ≤ largest_bound * p → size * finest % p ≡ n → 0 < n → within_limits negative size p ≡ Err TooFine
unfolding within_limits
within_fine negative size p n h e k = rw (le-ltb (largest_bound * p) size h, e) (let j : (n == 0) ≡ false = grind (arith, nat_tests) in rw j refl)

pub within_ok : (negative : Bool) (size p : ℕ) → size ≤ largest_bound * p → size * finest % p ≡ 0 → within_limits negative size p ≡ Ok (frac (with_sign negative size) p)
unfolding within_limits
within_ok negative size p h e = rw (le-ltb (largest_bound * p) size h, e) refl

judged_plain : (negative : Bool) (size p h m low : ℕ) (hi lo : Bool) → size * finest ≡ h * (p * 10 ^ 25) + m * p + low → 0 < p → low < p
    → MatchBool hi (0 < h) (h ≡ 0) → MatchBool lo (0 < low) (low ≡ 0) → (largest_bound * finest < m) ⊎ (m ≤ largest_bound * finest) → (m < largest_bound * finest) ⊎ (largest_bound * finest ≤ m)
    → within_limits negative size p ≡ judged negative (record { high = hi; middle = m; low = lo })
unfolding judged
judged_plain negative size p h m low true lo is hp below a b j k = within_large negative size p (large_high size p h m low is hp below a)
judged_plain negative size p h m low false lo is hp below a b (inl j) k = rw (lt-ltb (largest_bound * finest) m j) (within_large negative size p (large_middle size p h m low is hp below j))
judged_plain negative size p h m low false true is hp below a b (inr j) (inl k) =
    let t : (m == largest_bound * finest) ≡ false = grind (arith, nat_tests) in
    rw (le-ltb (largest_bound * finest) m j, t) (within_fine negative size p low (not_large size p h m low is hp below a k) (rest_is size p h m low is hp below a) b)
judged_plain negative size p h m low false true is hp below a b (inr j) (inr k) =
    let t : (m == largest_bound * finest) ≡ true = grind (arith, nat_tests) in
    rw (le-ltb (largest_bound * finest) m j, t) (within_large negative size p (large_low size p h m low is hp below (omega arith) b))
judged_plain negative size p h m low false false is hp below a b (inr j) k =
    let t : ((m == largest_bound * finest) && false) ≡ false = and-false (m == largest_bound * finest) in
    let e : size * finest ≡ m * p = is ∙ rw (a, b) (omega arith) in
    rw (le-ltb (largest_bound * finest) m j, t) (within_ok negative size p (not_large_whole size p h m low is hp below a j b) (rest_is size p h m low is hp below a ∙ b) ∙ ap Ok (same_amount negative size p m hp e))

pub judged_is : (negative : Bool) (size unit : ℕ) (s : Sum) → Parts (size * finest) (10 ^ unit) s → within_limits negative size (10 ^ unit) ≡ judged negative s
judged_is negative size unit s h = judged_plain negative size (10 ^ unit) h.high s.middle h.low s.high s.low h.is (one-le-pow unit 10 (omega arith)) h.below h.is_high h.is_low (cases_lt (largest_bound * finest) s.middle) (cases_lt s.middle (largest_bound * finest))
