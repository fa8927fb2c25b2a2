-- When a fraction keeps its denominator.
use Rattle.std.proofs.Common.{◌≡◌, ℕ, zero, suc, ◌*◌, ◌/◌, ◌<◌, ◌≤◌, inl, inr, true, false, eqb, Some, None, refl, sym, ap, subst, ◌∙◌, arith}
use Rattle.std.specs.Prelude.{ℤ, pos, ◌<ℤ◌, int_lt, nat_abs, if◌then◌else◌}
use Rattle.std.proofs.lemmas.Int.{ints}
use Rattle.event_codec.specs.Reading.{is_lowest}
use Rattle.std.proofs.lemmas.Bool.{cases_eq, eq-eqb, ne_eqb, cases_lt}
use Rattle.std.proofs.lemmas.Nat.{mul-le}
use Rattle.std.proofs.Math.Nat.{mul-div-le, div-one}
use Rattle.fraction.specs.Rational.{ℚ, frac, whole}
use Rattle.fraction.specs.Lemmas.Bounds.{whole_parts}
use Rattle.fraction.specs.Gcd.{gcd}
use Rattle.fraction.specs.Lemmas.Gcd.{gcd_pos}

den_is : (z : ℤ) (d : ℕ) → 0 < d → (frac z d).den ≡ d / gcd (nat_abs z) d
unfolding frac
den_is z zero some = absurd (omega arith)
den_is z (suc n) some = refl

-- a divisor of at least 2 leaves less
not_by : (d g : ℕ) → 0 < d → 0 < g → d / g ≡ d → g ≡ 1
not_by d g some positive e =
    let back : g * d ≤ d = subst (λ (q : ℕ). g * q ≤ d) e (mul-div-le d g) in
    elim (cases_lt g 2) [
      | inl lt ↦ omega arith
      | inr le ↦ let more : 2 * d ≤ g * d = mul-le 2 d g d le (omega arith) in absurd (omega arith)
    ]

pub kept_den : (z : ℤ) (d : ℕ) → 0 < d → (frac z d).den ≡ d → gcd (nat_abs z) d ≡ 1
kept_den z d some e = not_by d (gcd (nat_abs z) d) some (gcd_pos (nat_abs z) d some) (sym (den_is z d some) ∙ e)

pub keeps_den : (z : ℤ) (d : ℕ) → 0 < d → gcd (nat_abs z) d ≡ 1 → (frac z d).den ≡ d
keeps_den z d some e = den_is z d some ∙ ap (λ g. d / g) e ∙ div-one d

-- ---- the fraction that is made keeps its denominator exactly where the parts were in lowest terms

pub lowest_kept : (num den : ℤ) (f : ℚ) → pos 0 <ℤ den → f ≡ frac num (nat_abs den) → f.den ≡ nat_abs den → Some f ≡ (if is_lowest num den then Some (frac num (nat_abs den)) else None)
lowest_kept num den f positive is e =
    let some : 0 < nat_abs den = omega (arith, ints) in
    let test : int_lt (pos 0) den ≡ true = grind (arith, ints) in
    let one : eqb (gcd (nat_abs num) (nat_abs den)) 1 ≡ true = eq-eqb _ _ (kept_den num (nat_abs den) some (ap (λ (q : ℚ). q.den) (sym is) ∙ e)) in
    rw (test, one, is) refl

pub whole_kept : (num den : ℤ) (f : ℚ) → den ≡ pos 1 → f ≡ whole num → Some f ≡ (if is_lowest num den then Some (frac num (nat_abs den)) else None)
whole_kept num den f one is =
    let back : 1 ≡ nat_abs den = sym (ap nat_abs one) in
    lowest_kept num den f (omega (arith, ints, one)) (is ∙ ap (frac num) back) (ap (λ (q : ℚ). q.den) is ∙ (whole_parts num).1 ∙ back)

pub not_lowest : (num den : ℤ) (f : ℚ) → pos 0 <ℤ den → f ≡ frac num (nat_abs den) → (f.den ≡ nat_abs den → ⊥) → None ≡ (if is_lowest num den then Some (frac num (nat_abs den)) else None)
not_lowest num den f positive is differs =
    let some : 0 < nat_abs den = omega (arith, ints) in
    let test : int_lt (pos 0) den ≡ true = grind (arith, ints) in
    let one : eqb (gcd (nat_abs num) (nat_abs den)) 1 ≡ false = elim (cases_eq (gcd (nat_abs num) (nat_abs den)) 1) [
      | inl e ↦ absurd (differs (ap (λ (q : ℚ). q.den) is ∙ keeps_den num (nat_abs den) some e))
      | inr e ↦ ne_eqb _ _ e
    ] in
    rw (test, one) refl
