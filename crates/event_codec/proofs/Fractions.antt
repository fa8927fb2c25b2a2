-- The law of fractions as fields.
use Rattle.std.proofs.Common.{◌≡◌, ℕ, ◌^◌, ◌<◌, Bool, true, false, eqb, List, ◌++◌, Ok, refl, sym, ap, subst, ◌∙◌, append_assoc, arith, eq-eqb}
use Rattle.std.specs.Prelude.{ℤ, pos, negsuc, ◌<ℤ◌, int_lt, nat_abs, ◌≢◌, not}
use Rattle.std.specs.Int.{w128}
use Rattle.std.specs.Int.RustNames.{FitsSigned}
use Rattle.std.proofs.lemmas.Bool.{ltb-true, eqb-true, and_parts, false_from_ne_true, not-true}
use Rattle.std.proofs.lemmas.Int.{ints}
use Rattle.std.specs.Ordering.{int_eq}
use Rattle.fraction.specs.Rational.{ℚ, frac, whole}
use Rattle.fraction.specs.Gcd.{gcd}
use Rattle.fraction.specs.Lowest.{IsLowest}
use Rattle.fraction.specs.Fits.{FitsFraction}
use Rattle.fraction.specs.Checked.{is_small}
use Rattle.fraction.specs.Lemmas.Rational.{made, ℚ_at, ℚ_is}
use Rattle.fraction.specs.Lemmas.Checked.{zero_test, zero_from_test}
use Rattle.fraction.specs.Lemmas.Bounds.{is_small_from}
use Rattle.event_codec.specs.declared.enc.Enc.{Enc}
use Rattle.event_codec.specs.declared.fault.CodecFault.TheVariants.{BadValue}
use Rattle.event_codec.specs.Places.{Place}
use Rattle.event_codec.specs.ReadResults.{◌>>=◌, test}
use Rattle.event_codec.specs.Codes.{i128_code, fraction_code}
use Rattle.event_codec.specs.Reading.{is_lowest, is_factor, i128_at, denominator_at, fraction_at}
use Rattle.event_codec.proofs.Binds.{bind_ok, test_ok, ok_is, ok_then}
use Rattle.event_codec.proofs.Numbers.{IsBytes}
use Rattle.event_codec.proofs.Fields.{Takes, Takes-then, IsField, at_place, i128_field}

-- what the test says
pub record IsReduced (num den : ℤ) : Type 0 where
  pub den_is : den ≡ pos (nat_abs den)
  pub lowest : IsLowest num (nat_abs den)

pub reduced : (num den : ℤ) → is_lowest num den ≡ true → IsReduced num den
reduced num den e =
    let both = and_parts (int_lt (pos 0) den) (eqb (gcd (nat_abs num) (nat_abs den)) 1) e in
    let positive : int_lt (pos 0) den ≡ true = both.0 in
    let some : pos 0 <ℤ den = grind (arith, ints) in
    record { den_is = omega (arith, ints); lowest = (omega (arith, ints), eqb-true _ _ both.1) }

-- the fraction of parts in lowest terms has these parts
pub parts_kept : (num : ℤ) (d : ℕ) → IsLowest num d → ((frac num d).num ≡ num) × ((frac num d).den ≡ d)
parts_kept num d lowest =
    let e : made num d lowest ≡ frac num d = ℚ_at num num d lowest refl in
    (ap (λ (q : ℚ). q.num) (sym e), ap (λ (q : ℚ). q.den) (sym e))

lowest_holds : (x : ℚ) → is_lowest x.num (pos x.den) ≡ true
lowest_holds x =
    let some : 0 < x.den = x.lowest.0 in
    let positive : int_lt (pos 0) (pos x.den) ≡ true = grind (arith, ints) in
    let one : eqb (gcd (nat_abs x.num) x.den) 1 ≡ true = eq-eqb _ _ x.lowest.1 in
    rw (positive, one) refl

signed : (z : ℤ) → nat_abs z < 2 ^ 127 → FitsSigned w128 z
signed (pos n) h = record { sfits = omega arith }
signed (negsuc n) h = record { sfits = omega arith }

-- A fraction with a test of its numerator, which leaves only small ones.
pub record IsPassed (passes : ℤ → Bool) (x : ℚ) : Type 0 where
  pub fits : FitsFraction x
  pub passed : passes x.num ≡ true

small_passes : (x : ℚ) → FitsFraction x → IsPassed is_small x
small_passes x fits = record { fits = fits; passed = is_small_from x.num fits.0 }

-- ---- a fraction that isn't 0

pub nonzero : (x : ℚ) → int_eq x.num (pos 0) ≡ false → x ≢ whole (pos 0)
nonzero x e zero_is = let test : true ≡ false = sym (ap (λ (q : ℚ). int_eq q.num (pos 0)) zero_is ∙ zero_test) ∙ e in absurd cc

pub nonzero_passes : (x : ℚ) → FitsFraction x → x ≢ whole (pos 0) → IsPassed is_factor x
nonzero_passes x fits some =
    let small : is_small x.num ≡ true = is_small_from x.num fits.0 in
    let differs : int_eq x.num (pos 0) ≡ false = false_from_ne_true (int_eq x.num (pos 0)) (λ e. some (zero_from_test x e)) in
    record { fits = fits; passed = rw (small, differs) refl }

pub factor_passes : (num : ℤ) → is_factor num ≡ true → (is_small num ≡ true) × (int_eq num (pos 0) ≡ false)
factor_passes num e = let both = and_parts (is_small num) (not (int_eq num (pos 0))) e in (both.0, not-true (int_eq num (pos 0)) both.1)

module _ (enc : Enc) where
  -- the numerator of a fraction that was read is the one that was read
  denominator_keeps : (place : ℕ) (num : ℤ) (p : Place) (y : ℚ × Place) → denominator_at enc place num p ≡ Ok y → y.0.num ≡ num
  unfolding denominator_at
  denominator_keeps place num p y e =
      let b = bind_ok (i128_at enc p) (λ (den : ℤ × Place). test (is_lowest num den.0) (BadValue place) >>= λ u. Ok (frac num (nat_abs den.0), den.1)) y e in
      let t = test_ok (is_lowest num b.0.0) (BadValue place) (Ok (frac num (nat_abs b.0.0), b.0.1)) y b.2 in
      ap (λ (x : ℚ × Place). x.0.num) (sym (ok_is (frac num (nat_abs b.0.0), b.0.1) y t.1)) ∙ (parts_kept num (nat_abs b.0.0) (reduced num b.0.0 t.0).lowest).0

  pub passed_num : (passes : ℤ → Bool) (p : Place) (y : ℚ × Place) → fraction_at enc passes p ≡ Ok y → passes y.0.num ≡ true
  unfolding fraction_at
  passed_num passes p y e =
      let b = bind_ok (i128_at enc p) (λ (num : ℤ × Place). test (passes num.0) (BadValue p.at) >>= λ u. denominator_at enc p.at num.0 num.1) y e in
      let t = test_ok (passes b.0.0) (BadValue p.at) (denominator_at enc p.at b.0.0 b.0.1) y b.2 in
      rw (denominator_keeps p.at b.0.0 b.0.1 y t.1) t.0

  -- a denominator behind a numerator
  denominator_takes : (place : ℕ) (num : ℤ) (p q : Place) (x : ℚ) → IsBytes p.rest → denominator_at enc place num p ≡ Ok (x, q)
      → Takes p.rest (i128_code enc (pos x.den)) q.rest × (x.num ≡ num) × (x.den < 2 ^ 127)
  unfolding denominator_at
  denominator_takes place num p q x fits e =
      let b = bind_ok (i128_at enc p) (λ (den : ℤ × Place). test (is_lowest num den.0) (BadValue place) >>= λ u. Ok (frac num (nat_abs den.0), den.1)) (x, q) e in
      let t = test_ok (is_lowest num b.0.0) (BadValue place) (Ok (frac num (nat_abs b.0.0), b.0.1)) (x, q) b.2 in
      let field = (i128_field enc).takes p b.0.1 b.0.0 fits b.1 in
      let good = reduced num b.0.0 t.0 in
      let kept = parts_kept num (nat_abs b.0.0) good.lowest in
      let text : i128_code enc (pos (frac num (nat_abs b.0.0)).den) ≡ i128_code enc b.0.0 = ap (λ (d : ℕ). i128_code enc (pos d)) kept.1 ∙ ap (i128_code enc) (sym good.den_is) in
      let sized : FitsSigned w128 (pos (nat_abs b.0.0)) = subst (λ (z : ℤ). FitsSigned w128 z) good.den_is field.1 in
      let taken : Takes p.rest (i128_code enc (pos (frac num (nat_abs b.0.0)).den)) b.0.1.rest = rw text field.0 in
      let limit : (frac num (nat_abs b.0.0)).den < 2 ^ 127 = rw kept.1 (omega (arith, ints, sized.sfits)) in
      ok_then (λ (y : ℚ × Place). Takes p.rest (i128_code enc (pos y.0.den)) y.1.rest × (y.0.num ≡ num) × (y.0.den < 2 ^ 127)) (frac num (nat_abs b.0.0), b.0.1) (x, q) t.1 (taken, kept.0, limit)

  denominator_again : (place : ℕ) (x : ℚ) (at : ℕ) (rest : List ℕ) → FitsFraction x → (to : ℕ) × (denominator_at enc place x.num (at_place at (i128_code enc (pos x.den) ++ rest)) ≡ Ok (x, at_place to rest))
  unfolding denominator_at
  denominator_again place x at rest fits =
      let small : x.den < 2 ^ 127 = fits.1 in
      let b = (i128_field enc).again (pos x.den) at rest (record { sfits = omega (arith, ints) }) in
      (b.0, rw (b.1, lowest_holds x) (ap (λ (y : ℚ). Ok (y, at_place b.0 rest)) (sym (ℚ_is x))))

  pub fraction_field : (passes : ℤ → Bool) → ((num : ℤ) → passes num ≡ true → is_small num ≡ true) → IsField (fraction_at enc passes) (fraction_code enc) (IsPassed passes)
  unfolding fraction_at
  fraction_field passes small = record {
    takes = λ p q x fits e.
        let b = bind_ok (i128_at enc p) (λ (num : ℤ × Place). test (passes num.0) (BadValue p.at) >>= λ u. denominator_at enc p.at num.0 num.1) (x, q) e in
        let t = test_ok (passes b.0.0) (BadValue p.at) (denominator_at enc p.at b.0.0 b.0.1) (x, q) b.2 in
        let num = (i128_field enc).takes p b.0.1 b.0.0 fits b.1 in
        let den = denominator_takes p.at b.0.0 b.0.1 q x num.0.rest_fits t.1 in
        let passed : passes x.num ≡ true = rw den.1 t.0 in
        let front : Takes p.rest (i128_code enc x.num) b.0.1.rest = subst (λ (z : ℤ). Takes p.rest (i128_code enc z) b.0.1.rest) (sym den.1) num.0 in (
          Takes-then p.rest (i128_code enc x.num) b.0.1.rest (i128_code enc (pos x.den)) q.rest front den.0,
          record { fits = (ltb-true _ _ (small x.num passed), den.2); passed = passed },
        );
    again = λ x place rest is.
        let b = (i128_field enc).again x.num place (i128_code enc (pos x.den) ++ rest) (signed x.num is.fits.0) in
        let d = denominator_again place x b.0 rest is.fits in
        let regrouped : fraction_code enc x ++ rest ≡ i128_code enc x.num ++ (i128_code enc (pos x.den) ++ rest) = append_assoc (i128_code enc x.num) (i128_code enc (pos x.den)) rest in
        (d.0, rw (regrouped, b.1, is.passed) d.1);
  }

  -- a fraction with any numerator
  pub plain_field : IsField (fraction_at enc is_small) (fraction_code enc) FitsFraction
  plain_field =
      let field = fraction_field is_small (λ num e. e) in
      record {
        takes = λ p q x fits e. let t = field.takes p q x fits e in (t.0, t.1.fits);
        again = λ x place rest fits. field.again x place rest (small_passes x fits);
      }

  pub nonzero_field : IsField (fraction_at enc is_factor) (fraction_code enc) (IsPassed is_factor)
  nonzero_field = fraction_field is_factor (λ num e. (factor_passes num e).0)
