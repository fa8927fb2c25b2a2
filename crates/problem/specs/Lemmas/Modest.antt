-- Lemmas: numbers that are small enough for sums over whole points of a box.
use Rattle.std.proofs.Math.Nat.{one-dvd}
use Rattle.std.specs.Prelude.{Some, None, ◌≡◌, ◌<◌, ◌≤◌, ◌+◌, ◌*◌, ℕ, ℤ, pos, nat_abs, true, List, [], ◌∷◌, All, length}
use Rattle.std.proofs.Common.{sym, ap, ◌∙◌, subst, arith}
use Rattle.std.proofs.lemmas.List.Elements.{All-head, All-tail}
use Rattle.fraction.specs.Rational.{ℚ, whole, ◌+ℚ◌, ◌*ℚ◌}
use Rattle.fraction.specs.Lemmas.Rational.{+ℚ_assoc, zero-+ℚ}
use Rattle.fraction.specs.Checked.{add_fits, mul_fits, add_checked}
use Rattle.fraction.specs.Bounds.{Within}
use Rattle.fraction.specs.Lemmas.Bounds.{mul_is, add_is, add_fits_within, Within-+ℚ, mul_fits_within, Within-*ℚ, whole_parts}
use Rattle.problem.specs.Linear.{number_at, value}
use Rattle.fraction.specs.Lemmas.Ring.{+ℚ-zero}
use Rattle.problem.specs.Checked.{add_product, terms_from, checked_value}
use Rattle.std.specs.Option.{option_and_then}
use Rattle.problem.specs.Modest.{IsModest, IsModestPoint, AreModest}
use Rattle.problem.specs.Limits.{most_columns, largest_bound, finest}

-- a whole number is a multiple of 1 / finest
pub whole_within : (z : ℤ) (a : ℕ) → nat_abs z * finest ≤ a → Within finest a (whole z)
whole_within z a h = record { divides = rw (whole_parts z).1 (one-dvd finest); size = rw (whole_parts z).0 (rw (whole_parts z).1 (omega arith)) }

-- the largest numerator, over finest, of a term's value: a coefficient times a column's number
abbrev pub largest_term : ℕ
largest_term = largest_bound * (largest_bound * finest)

-- a sum of k products
abbrev pub IsSumOf : ℕ → ℚ → Type 0
IsSumOf k x = Within finest (k * largest_term) x

pub product_fits : (c : ℚ) (x : ℤ) → IsModest c → nat_abs x ≤ largest_bound → mul_fits c (whole x) ≡ true
product_fits c x h k = mul_fits_within c x finest (largest_bound * finest) largest_bound (omega arith) (omega arith) (omega arith) h k

pub product_within : (c : ℚ) (x : ℤ) → IsModest c → nat_abs x ≤ largest_bound → Within finest largest_term (c *ℚ whole x)
product_within c x h k = Within-*ℚ c x finest (largest_bound * finest) largest_bound (omega arith) h k

pub sum_fits : (s c : ℚ) (x : ℤ) (k : ℕ) → k < most_columns → IsSumOf k s → IsModest c → nat_abs x ≤ largest_bound → add_fits s (c *ℚ whole x) ≡ true
sum_fits s c x k l h m b = add_fits_within s (c *ℚ whole x) finest (k * largest_term) largest_term (omega arith) (omega arith) (omega arith) h (product_within c x m b)

pub sum_within : (s c : ℚ) (x : ℤ) (k : ℕ) → IsSumOf k s → IsModest c → nat_abs x ≤ largest_bound → IsSumOf (k + 1) (s +ℚ c *ℚ whole x)
sum_within s c x k h m b = subst (λ a. Within finest a (s +ℚ c *ℚ whole x)) (omega arith) (Within-+ℚ s (c *ℚ whole x) finest (k * largest_term) largest_term (omega arith) h (product_within c x m b))

with_term_is : (s c : ℚ) (x : ℤ) → mul_fits c (whole x) ≡ true → add_fits s (c *ℚ whole x) ≡ true → add_product s c x ≡ Some (s +ℚ c *ℚ whole x)
with_term_is s c x h k = ap (option_and_then (λ v. add_checked s v)) (mul_is c (whole x) h) ∙ add_is s (c *ℚ whole x) k

exact_from : (s : ℚ) (ts : List (ℕ × ℚ)) (p : List ℤ) (k : ℕ) → IsSumOf k s → k + length ts ≤ most_columns → All (λ t. IsModest t.1) ts → All (λ t. t.0 < length p) ts → IsModestPoint p
    → terms_from s ts p ≡ Some (s +ℚ value ts p)
exact_from s [] p k h l m c b = ap Some (sym (+ℚ-zero s))
exact_from s (t ∷ ts) p k h l m c b =
    let modest = All-head (λ (t : ℕ × ℚ). IsModest t.1) t ts m in
    let there = All-head (λ (t : ℕ × ℚ). t.0 < length p) t ts c in
    let x = number_at p t.0 in
    let small : nat_abs x ≤ largest_bound = b t.0 (pos 0) there in
    ap (option_and_then (λ r. terms_from r ts p)) (with_term_is s t.1 x (product_fits t.1 x modest small) (sum_fits s t.1 x k (omega arith) h modest small))
    ∙ exact_from (s +ℚ t.1 *ℚ whole x) ts p (k + 1) (sum_within s t.1 x k h modest small) (omega arith)
    (All-tail (λ (t : ℕ × ℚ). IsModest t.1) t ts m) (All-tail (λ (t : ℕ × ℚ). t.0 < length p) t ts c) b
    ∙ ap Some (+ℚ_assoc s _ _)

zero_within : IsSumOf 0 (whole (pos 0))
zero_within = whole_within (pos 0) (0 * largest_term) (omega arith)

-- the checked value is there, and exact
pub checked_value_is : (ts : List (ℕ × ℚ)) (p : List ℤ) → All (λ t. t.0 < length p) ts → AreModest ts → IsModestPoint p → checked_value ts p ≡ Some (value ts p)
checked_value_is ts p c m b = exact_from (whole (pos 0)) ts p 0 zero_within (omega (arith, m.few)) m.modest c b ∙ ap Some (zero-+ℚ _)

pub some_value : (ts : List (ℕ × ℚ)) (p : List ℤ) (v : ℚ) → All (λ t. t.0 < length p) ts → AreModest ts → IsModestPoint p → Some v ≡ checked_value ts p → v ≡ value ts p
some_value ts p v c m b e = let f = e ∙ checked_value_is ts p c m b in cc

pub none_value : (ts : List (ℕ × ℚ)) (p : List ℤ) → All (λ t. t.0 < length p) ts → AreModest ts → IsModestPoint p → None ≡ checked_value ts p → ⊥
none_value ts p c m b e = let f = e ∙ checked_value_is ts p c m b in cc
