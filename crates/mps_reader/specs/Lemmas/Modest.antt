-- Numbers of a text are modest.
use Rattle.std.specs.Prelude.{◌≡◌, ℕ, ◌*◌, ◌^◌, ◌%◌, ◌<◌, ◌≤◌, ℤ, pos, nat_abs, ◌*ℤ◌, Bool, true, false, ◌==◌, nat_le, nat_lt, cond, List, Option, Some, None, is_some, Result, Ok, Err}
use Rattle.std.proofs.Common.{refl, sym, ap, ◌∙◌, subst, arith}
use Rattle.std.proofs.lemmas.Int.{ints, unsigned_abs-mul}
use Rattle.std.proofs.lemmas.Bool.{eqb-true, and_from}
use Rattle.std.proofs.lemmas.Nat.Gcd.{dvd_of_mod-eq-zero, mod-eq-zero_of_dvd, le_of_dvd}
use Rattle.std.proofs.Math.Nat.{mul-dvd-mul_left, dvd_of_mul-dvd-mul_right, mul-le-mul_right, le_of_mul-le-mul_right, one-le-pow}
use Prim.Native.Nat.{◌∣◌}
use Rattle.fraction.specs.Gcd.{gcd}
use Rattle.fraction.specs.Lemmas.Gcd.{dvd_of_coprime}
use Rattle.fraction.specs.Rational.{ℚ, frac, whole}
use Rattle.fraction.specs.Lemmas.Rational.{frac_is}
use Rattle.fraction.specs.Lemmas.Bounds.{whole_parts}
use Rattle.mps_lines.specs.Decimals.{Spelt, spelling, decimal, amount, amount_of, within_limits, with_sign}
use Rattle.mps_lines.specs.declared.decimals.NumFault.{NumFault}
use Rattle.mps_lines.specs.declared.decimals.NumFault.TheVariants as num
use Rattle.mps_reader.specs.Faults.{number_fault, fault_of_number}
use Rattle.mps_reader.specs.Sections.{number, amount_in}
use Rattle.mps_reader.specs.Lemmas.Limits.{is_modest}
use Rattle.problem.specs.Limits.{largest_bound, finest}

over_ℕ : (z w : ℤ) (d e : ℕ) → z *ℤ pos d ≡ w *ℤ pos e → nat_abs z * d ≡ nat_abs w * e
over_ℕ z w d e h = sym (unsigned_abs-mul z (pos d)) ∙ ap nat_abs h ∙ unsigned_abs-mul w (pos e)

-- n over d is a over e in lowest terms
lowest_divides : (n d a e u : ℕ) → 0 < e → 0 < u → gcd n d ≡ 1 → n * e ≡ a * d → a * u % e ≡ 0 → d ∣ u
lowest_divides n d a e u l o g h m =
    let whole_multiple : d * e ∣ d * (a * u) = mul-dvd-mul_left e d (dvd_of_mod-eq-zero e m) in
    let same : d * (a * u) ≡ n * u * e = omega (arith, ap (λ x. x * u) h) in
    dvd_of_coprime n d u o g (dvd_of_mul-dvd-mul_right d l (subst (λ x. d * e ∣ x) same whole_multiple))

lowest_size : (n d a e w : ℕ) → 0 < e → n * e ≡ a * d → a ≤ w * e → n ≤ w * d
lowest_size n d a e w l h s = le_of_mul-le-mul_right (let k : a * d ≤ w * e * d = mul-le-mul_right d s in let j : n * e ≤ w * d * e = omega (arith, h, k) in j) l

abs_sign : (negative : Bool) (size : ℕ) → nat_abs (with_sign negative size) ≡ size
abs_sign true size = omega (arith, ints)
abs_sign false size = refl

-- a number that is modest by its parts
modest_by : (q : ℚ) → q.den ∣ finest → nat_abs q.num ≤ largest_bound * q.den → is_modest q ≡ true
modest_by q d s =
    let small : nat_le q.den finest ≡ true = (let l : q.den ≤ finest = le_of_dvd (omega arith) d in grind arith) in
    let divides : (finest % q.den == 0) ≡ true = ap (λ n. n == 0) (mod-eq-zero_of_dvd q.den d) in
    let size : nat_le (nat_abs q.num) (largest_bound * q.den) ≡ true = grind arith in
    and_from _ _ small (and_from _ _ divides size)

modest_frac : (negative : Bool) (size unit : ℕ) → 0 < unit → size ≤ largest_bound * unit → size * finest % unit ≡ 0 → is_modest (frac (with_sign negative size) unit) ≡ true
modest_frac negative size unit o s m =
    let q = frac (with_sign negative size) unit in
    let h : nat_abs q.num * unit ≡ size * q.den = over_ℕ q.num (with_sign negative size) unit q.den (frac_is (with_sign negative size) unit o) ∙ ap (λ n. n * q.den) (abs_sign negative size) in
    modest_by q (lowest_divides _ q.den size unit finest o (omega arith) q.lowest.1 h m) (lowest_size _ q.den size unit largest_bound o h s)

ok_if : (b : Bool) (e : NumFault) (p q : ℚ) → cond b (Ok p) (Err e) ≡ Ok q → (b ≡ true) × (p ≡ q)
ok_if true e p q h = (refl, same_ok p q h)
  where
    same_ok : (p q : ℚ) → (let r : Result ℚ NumFault = Ok p in r ≡ Ok q) → p ≡ q
    same_ok p q h = cc
ok_if false e p q h = cc

modest_limits : (negative : Bool) (size unit : ℕ) (q : ℚ) → 0 < unit → within_limits negative size unit ≡ Ok q → is_modest q ≡ true
unfolding within_limits
modest_limits negative size unit q o h = step (nat_lt (largest_bound * unit) size) refl h
  where
    step : (b : Bool) → nat_lt (largest_bound * unit) size ≡ b → cond b (Err num.TooLarge) (cond (size * finest % unit == 0) (Ok (frac (with_sign negative size) unit)) (Err num.TooFine)) ≡ Ok q → is_modest q ≡ true
    step true e h = cc
    step false e h =
        let k = ok_if (size * finest % unit == 0) num.TooFine (frac (with_sign negative size) unit) q h in
        let s : size ≤ largest_bound * unit = grind arith in
        subst (λ (p : ℚ). is_modest p ≡ true) k.1 (modest_frac negative size unit o s (eqb-true _ 0 k.0))

modest_amount : (s : Spelt) (q : ℚ) → amount s ≡ Ok q → is_modest q ≡ true
unfolding amount
modest_amount s q h = modest_limits s.negative _ (10 ^ s.down) q (one-le-pow s.down 10 (omega arith)) h

modest_spelling : (o : Option Spelt) (q : ℚ) → amount_of o ≡ Ok q → is_modest q ≡ true
unfolding amount_of
modest_spelling None q h = cc
modest_spelling (Some s) q h = modest_amount s q h

pub modest_decimal : (field : List ℕ) (q : ℚ) → decimal field ≡ Ok q → is_modest q ≡ true
unfolding decimal
modest_decimal field q h = modest_spelling (spelling field) q h

-- a field's number is modest where it has no fault
modest_result : (r : Result ℚ NumFault) → ((q : ℚ) → r ≡ Ok q → is_modest q ≡ true) → is_some (fault_of_number r) ≡ false → is_modest (amount_in r) ≡ true
modest_result (Ok q) m h = m q refl
modest_result (Err num.BadNumber) m h = cc
modest_result (Err num.TooLarge) m h = cc
modest_result (Err num.TooFine) m h = cc

pub modest_number : (field : List ℕ) → is_some (number_fault field) ≡ false → is_modest (number field) ≡ true
modest_number field h = modest_result (decimal field) (modest_decimal field) h

pub modest_zero : is_modest (whole (pos 0)) ≡ true
modest_zero = modest_by (whole (pos 0)) (subst (λ d. d ∣ finest) (sym (whole_parts (pos 0)).1) one_divides) (subst (λ z. nat_abs z ≤ largest_bound * (whole (pos 0)).den) (sym (whole_parts (pos 0)).0) (omega arith))
  where
    one_divides : 1 ∣ finest
    one_divides = dvd_of_mod-eq-zero 1 refl
