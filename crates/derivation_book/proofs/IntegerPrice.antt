-- Prices over one denominator: the fractions that the whole numbers stand for, and that no step on the way to them is cramped.
use Rattle.std.specs.Prelude.{ℤ, pos, negsuc, neg_ℤ, ◌+ℤ◌, ◌-ℤ◌, ◌*ℤ◌, nat_abs, int_lt, if◌then◌else◌}
use Rattle.std.proofs.Common.{◌≡◌, ℕ, ◌+◌, ◌*◌, ◌^◌, ◌<◌, ◌≤◌, arith, refl, ap, sym, ◌∙◌, subst, Bool, true, false, Some}
use Rattle.std.specs.Int.{w128}
use Rattle.std.specs.Option.{option_and_then}
use Rattle.std.proofs.lemmas.Int.{ints, unsigned_abs-mul}
use Rattle.std.proofs.Math.Nat.{mul-le-mul}
use mir.Val.{SFits}
use lib.Signed.{mag}
use Rattle.fraction.specs.Rational.{ℚ, frac, whole}
use Rattle.fraction.specs.Checked.{add_checked, sub_checked}
use Rattle.fraction.specs.Lemmas.Checked.{zero_test, zero_from_test}
use Rattle.fraction.specs.Lemmas.Order.{same_le, above_zero}
use Rattle.fraction.specs.Lemmas.Rational.{lit_one, ≤ℚ_frac, frac_same, neg_ℚ-frac, ℚ_is}
use Rattle.problem_box.specs.declared.span.Span.{Span}
use Rattle.derivation_book.specs.Sums.{with_product}
use Rattle.derivation_book.specs.Rounded.{is_zero}
use Rattle.derivation_book.specs.Price.{bound_for, with_bound}
use Rattle.derivation_book.specs.Lemmas.OneDenominator.{add_over, mul_over, zero_over}
use Rattle.derivation_book.specs.Sizes.{denominator_limit, largest_left, largest_price_bound, largest_addend}
use Rattle.problem.specs.Limits.{most_columns}

-- ---- sizes
pub bound_product_small : (z b : ℤ) → nat_abs z ≤ largest_left → nat_abs b ≤ largest_price_bound → nat_abs (z *ℤ b) ≤ largest_addend
bound_product_small z b h k = rw (unsigned_abs-mul z b) (omega (arith, mul-le-mul h k))

pub bound_product_fits : (z : ℤ) → nat_abs z ≤ largest_addend → SFits w128 z
bound_product_fits (pos n) h = record { sfits = omega arith }
bound_product_fits (negsuc n) h = record { sfits = omega arith }

pub wide_fits : (z : ℤ) → mag z < 2 ^ 127 → SFits w128 z
wide_fits z h = record { sfits = h }

-- ---- signs
-- a fraction is 0 only where its numerator is
is_zero_not : (z : ℤ) (d : ℕ) → 0 < d → (z ≡ pos 0 → ⊥) → is_zero (frac z d) ≡ false
is_zero_not z d o n = at (is_zero (frac z d)) refl
  where
    zero : frac z d ≡ whole (pos 0) → z ≡ pos 0
    zero e =
        let h = ≤ℚ_frac z (pos 0) d 1 o lit_one (same_le (frac z d) (whole (pos 0)) e) in
        let k = ≤ℚ_frac (pos 0) z 1 d lit_one o (same_le (whole (pos 0)) (frac z d) (sym e)) in
        omega (arith, ints)

    at : (b : Bool) → is_zero (frac z d) ≡ b → is_zero (frac z d) ≡ false
    at true e = absurd (n (zero (zero_from_test (frac z d) e)))
    at false e = e

-- ---- a column
-- what a numerator over d leaves of a whole number
pub left_over : (d : ℕ) (a : ℚ) (n z : ℤ) → 0 < d → d < denominator_limit → a.den ≡ 1 → nat_abs (a.num *ℤ pos d) < 2 ^ 126 → nat_abs n ≤ largest_left → z ≡ a.num *ℤ pos d -ℤ n → nat_abs z ≤ largest_left
    → sub_checked a (frac n d) ≡ Some (frac z d)
left_over d a n z o s w ha hn e hz =
    let k = a.num *ℤ pos d in
    let same : z ≡ k +ℤ neg_ℤ n = omega (arith, ints, e) in
    (λ i. add_checked (over_d i) (neg_ℚ-frac n d o i))
    ∙ add_over k (neg_ℤ n) d o (omega arith) (omega (arith, ha)) (omega (arith, ints, hn)) (subst (λ x. nat_abs x < 2 ^ 127) same (omega arith))
    ∙ ap (λ x. Some (frac x d)) (sym same)
  where
    over_d : a ≡ frac (a.num *ℤ pos d) d
    over_d = ℚ_is a ∙ ap (frac a.num) w ∙ frac_same a.num (a.num *ℤ pos d) 1 d lit_one o (let f : a.num *ℤ pos d ≡ a.num *ℤ pos d *ℤ pos 1 = omega (arith, ints) in f)

-- where nothing is left
pub nothing_left : (d : ℕ) (t z : ℤ) (s : Span) → 0 < d → z ≡ pos 0 → with_bound (frac t d) (frac z d) s ≡ Some (frac t d)
nothing_left d t z s o e =
    let f : is_zero (frac z d) ≡ true = ap (λ y. is_zero (frac y d)) e ∙ ap is_zero (sym (zero_over d o)) ∙ zero_test in
    ap (λ b. if b then Some (frac t d) else with_product (frac t d) (frac z d) (whole (bound_for (frac z d) s))) f

-- where something is left
pub times_bound : (d : ℕ) (t z u b : ℤ) (s : Span) → 0 < d → d < denominator_limit → (z ≡ pos 0 → ⊥) → nat_abs t ≤ (most_columns + 1) * largest_addend → nat_abs (z *ℤ b) ≤ largest_addend → b ≡ (if int_lt (pos 0) z then s.lo else s.hi) → u ≡ t +ℤ z *ℤ b
    → with_bound (frac t d) (frac z d) s ≡ Some (frac u d)
times_bound d t z u b s o small n ht hb e f =
    let bound : bound_for (frac z d) s ≡ b = ap (λ (c : Bool). if c then s.lo else s.hi) (above_zero z d o) ∙ sym e in
    ap (λ c. if c then Some (frac t d) else with_product (frac t d) (frac z d) (whole (bound_for (frac z d) s))) (is_zero_not z d o n)
    ∙ ap (λ y. with_product (frac t d) (frac z d) (whole y)) bound
    ∙ ap (option_and_then (λ v. add_checked (frac t d) v)) (mul_over z b d o (omega arith) (omega (arith, hb)))
    ∙ add_over t (z *ℤ b) d o (omega arith) (omega (arith, ht)) (omega (arith, hb)) (omega (arith, ints, ht, hb))
    ∙ ap (λ x. Some (frac x d)) (sym f)
