-- The digits by their places give the number that is defined, whatever the exponent.
use Rattle.std.proofs.Common.{◌≡◌, ℕ, ◌+◌, ◌*◌, ◌^◌, ◌<◌, ◌≤◌, ◌%◌, Bool, true, false, List, ◌++◌, length, length-append, refl, sym, ap, ◌∙◌, subst, arith, ◌⊎◌, inl, inr, Ok, Err, pos}
use Rattle.std.proofs.Math.IntN.{zero-*ℤ}
use Rattle.std.proofs.lemmas.Bool.{cases_lt, le-leb, lt-leb}
use Rattle.std.proofs.lemmas.Nat.{pow-add}
use Rattle.std.proofs.lemmas.Int.Digits.{digits_value-lt}
use Rattle.std.proofs.lemmas.List.Folds.{list_all-append}
use Rattle.std.proofs.Math.Nat.{pow-le-pow_right, one-le-pow, mul-le-mul_right, mod-eq_of_lt}
use Rattle.std.specs.List.{list_all}
use Rattle.std.specs.Str.Parse.{digits_value}
use Rattle.fraction.specs.Rational.{frac}
use Rattle.fraction.specs.Lemmas.Rational.{frac_same}
use Rattle.problem.specs.Limits.{finest}
use Rattle.mps_lines.specs.Decimals.{is_digit, with_sign, within_limits, amount, spelt_of, capped}
use Rattle.mps_lines.proofs.Judging.{judged_is, within_large, within_fine, within_ok}
use Rattle.mps_lines.proofs.Places.{Parts, parts, all_digits}
use Rattle.mps_lines.specs.Weights.{judged, weighed}
use Rattle.mps_lines.specs.declared.decimals.NumFault.TheVariants as NumFault

shift : (d a b n m : ℕ) → m ≡ a * b → n ≡ m → d * n ≡ d * a * b
shift d a b n m e f = rw (f, e) (omega arith)

amount_is : (negative : Bool) (cs : List ℕ) (up down : ℕ) → list_all is_digit cs ≡ true
    → within_limits negative (digits_value 10 cs * 10 ^ up) (10 ^ down) ≡ judged negative (weighed down (up + 15) cs)
amount_is negative cs up down h =
    judged_is negative (digits_value 10 cs * 10 ^ up) down _
    (subst (λ n. Parts n (10 ^ down) (weighed down (up + 15) cs)) (shift (digits_value 10 cs) (10 ^ up) finest _ _ (pow-add 10 up 15) refl) (parts down (up + 15) cs h))

huge : (negative : Bool) (d k q : ℕ) → 0 < d → k + 10 ≤ q → within_limits negative (d * 10 ^ q) (10 ^ k) ≡ Err NumFault.TooLarge
huge negative d k q hd h =
    let a : 10 ^ (k + 10) ≤ 10 ^ q = pow-le-pow_right {n = 10} (omega arith) {i = k + 10} {j = q} h in
    let b : 10 ^ (k + 10) ≡ 10 ^ k * 10 ^ 10 = pow-add 10 k 10 in
    let c : 1 ≤ 10 ^ k = one-le-pow k 10 (omega arith) in
    let e : 1 * 10 ^ q ≤ d * 10 ^ q = mul-le-mul_right (10 ^ q) hd in
    within_large negative (d * 10 ^ q) (10 ^ k) (omega arith)

tiny : (negative : Bool) (d l k : ℕ) → 0 < d → d < 10 ^ l → l + 15 ≤ k → within_limits negative (d * 10 ^ 0) (10 ^ k) ≡ Err NumFault.TooFine
tiny negative d l k hd hl h =
    let a : 10 ^ (l + 15) ≤ 10 ^ k = pow-le-pow_right {n = 10} (omega arith) {i = l + 15} {j = k} h in
    let b : 10 ^ (l + 15) ≡ 10 ^ l * finest = pow-add 10 l 15 in
    let small : d * 10 ^ 0 * finest < 10 ^ k = omega arith in
    within_fine negative (d * 10 ^ 0) (10 ^ k) (d * 10 ^ 0 * finest) (omega arith) (mod-eq_of_lt small) (omega arith)

pub none_above : (negative : Bool) (d k p q : ℕ) → d ≡ 0 → within_limits negative (d * 10 ^ p) (10 ^ k) ≡ within_limits negative (d * 10 ^ q) (10 ^ k)
none_above negative d k p q h = rw h (ap (λ n. within_limits negative n (10 ^ k)) (omega arith))

nothing_over : (negative : Bool) → with_sign negative 0 ≡ pos 0
nothing_over false = refl
nothing_over true = refl

zero_plain : (negative : Bool) (n p : ℕ) → n ≡ 0 → 0 < p → within_limits negative n p ≡ Ok (frac (pos 0) 1)
zero_plain negative n p e hp =
    let m : 0 % p ≡ 0 = mod-eq_of_lt hp in
    rw e (within_ok negative 0 p (omega arith) m ∙ ap Ok (rw (nothing_over negative) (frac_same (pos 0) (pos 0) p 1 hp (omega arith) (zero-*ℤ (pos 1) ∙ sym (zero-*ℤ (pos p))))))

zero_at : (negative : Bool) (d k : ℕ) → d ≡ 0 → within_limits negative (d * 10 ^ 0) (10 ^ k) ≡ Ok (frac (pos 0) 1)
zero_at negative d k h = zero_plain negative (d * 10 ^ 0) (10 ^ k) (omega arith) (one-le-pow k 10 (omega arith))

none_below : (negative : Bool) (d k j : ℕ) → d ≡ 0 → within_limits negative (d * 10 ^ 0) (10 ^ k) ≡ within_limits negative (d * 10 ^ 0) (10 ^ j)
none_below negative d k j h = zero_at negative d k h ∙ sym (zero_at negative d j h)

same_above : (negative : Bool) (d k p q : ℕ) → k + 10 ≤ p → k + 10 ≤ q → (0 < d) ⊎ (d ≤ 0) → within_limits negative (d * 10 ^ p) (10 ^ k) ≡ within_limits negative (d * 10 ^ q) (10 ^ k)
same_above negative d k p q hp hq (inl h) = huge negative d k p h hp ∙ sym (huge negative d k q h hq)
same_above negative d k p q hp hq (inr h) = none_above negative d k p q (omega arith)

same_below : (negative : Bool) (d l k j : ℕ) → d < 10 ^ l → l + 15 ≤ k → l + 15 ≤ j → (0 < d) ⊎ (d ≤ 0) → within_limits negative (d * 10 ^ 0) (10 ^ k) ≡ within_limits negative (d * 10 ^ 0) (10 ^ j)
same_below negative d l k j hd hk hj (inl h) = tiny negative d l k h hd hk ∙ sym (tiny negative d l j h hd hj)
same_below negative d l k j hd hk hj (inr h) = none_below negative d k j (omega arith)

capped_by : (p q : ℕ) → q ≡ capped p → (p < 2 ^ 100) ⊎ (2 ^ 100 ≤ p) → (p ≡ q) ⊎ ((2 ^ 100 ≤ p) × (2 ^ 100 ≤ q))
capped_by p q e (inl h) = let f : capped p ≡ p = rw (lt-leb (2 ^ 100) p h) refl in inl (sym (e ∙ f))
capped_by p q e (inr h) = let f : capped p ≡ 2 ^ 100 = rw (le-leb (2 ^ 100) p h) refl in inr (h, omega (arith, e ∙ f))

pub capped_cases : (p q : ℕ) → q ≡ capped p → (p ≡ q) ⊎ ((2 ^ 100 ≤ p) × (2 ^ 100 ≤ q))
capped_cases p q e = capped_by p q e (cases_lt p (2 ^ 100))

pub joined : (whole part : List ℕ) → list_all is_digit whole ≡ true → list_all is_digit part ≡ true → list_all is_digit (whole ++ part) ≡ true
joined whole part h k = rw (list_all-append is_digit whole part, h, k) refl

capped_above : (negative : Bool) (whole part : List ℕ) (p q : ℕ) → length part < 2 ^ 64 → (p ≡ q) ⊎ ((2 ^ 100 ≤ p) × (2 ^ 100 ≤ q))
    → amount (spelt_of negative whole part (false, p)) ≡ amount (spelt_of negative whole part (false, q))
unfolding amount
capped_above negative whole part p q hl (inl e) = ap (λ p. amount (spelt_of negative whole part (false, p))) e
capped_above negative whole part p q hl (inr h) = same_above negative (digits_value 10 (whole ++ part)) (length part + 0) p q (omega arith) (omega arith) (cases_lt 0 _)

capped_below : (negative : Bool) (whole part : List ℕ) (p q : ℕ) → list_all is_digit (whole ++ part) ≡ true → length whole < 2 ^ 64 → length part < 2 ^ 64 → (p ≡ q) ⊎ ((2 ^ 100 ≤ p) × (2 ^ 100 ≤ q))
    → amount (spelt_of negative whole part (true, p)) ≡ amount (spelt_of negative whole part (true, q))
unfolding amount
capped_below negative whole part p q hd hw hp (inl e) = ap (λ p. amount (spelt_of negative whole part (true, p))) e
capped_below negative whole part p q hd hw hp (inr h) =
    let l = length-append whole part in
    same_below negative (digits_value 10 (whole ++ part)) (length (whole ++ part)) (length part + p) (length part + q) (digits_value-lt 10 _ (all_digits _ hd)) (omega arith) (omega arith) (cases_lt 0 _)

pub amount_above : (negative : Bool) (whole part : List ℕ) (p q : ℕ) → list_all is_digit whole ≡ true → list_all is_digit part ≡ true → length part < 2 ^ 64 → q ≡ capped p
    → judged negative (weighed (length part) (q + 15) (whole ++ part)) ≡ amount (spelt_of negative whole part (false, p))
unfolding amount
amount_above negative whole part p q hw hp hl e =
    sym (capped_above negative whole part p q hl (capped_cases p q e) ∙ ap (λ k. within_limits negative (digits_value 10 (whole ++ part) * 10 ^ q) (10 ^ k)) (omega arith)
    ∙ amount_is negative (whole ++ part) q (length part) (joined whole part hw hp))

pub amount_below : (negative : Bool) (whole part : List ℕ) (p q : ℕ) → list_all is_digit whole ≡ true → list_all is_digit part ≡ true → length whole < 2 ^ 64 → length part < 2 ^ 64 → q ≡ capped p
    → judged negative (weighed (length part + q) 15 (whole ++ part)) ≡ amount (spelt_of negative whole part (true, p))
unfolding amount
amount_below negative whole part p q hw hp kw kp e =
    sym (capped_below negative whole part p q (joined whole part hw hp) kw kp (capped_cases p q e)
    ∙ amount_is negative (whole ++ part) 0 (length part + q) (joined whole part hw hp))
