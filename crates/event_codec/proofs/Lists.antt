-- The laws of lists as fields.
use Rattle.std.proofs.Common.{◌≡◌, ℕ, zero, suc, ◌^◌, ◌<◌, true, List, [], ◌∷◌, ◌++◌, length, Ok, refl, sym, ap, subst, ◌∙◌, append_assoc, arith}
use Rattle.std.specs.Prelude.{nat_le}
use Rattle.std.specs.List.{flat_map, AllByRecursion}
use Rattle.std.proofs.lemmas.Bool.{leb-true, le-leb}
use Rattle.std.proofs.lemmas.List.Concat.{flat_map-cons}
use Rattle.fraction.specs.Rational.{ℚ}
use Rattle.fraction.specs.Checked.{is_small}
use Rattle.fraction.specs.Fits.{FitsFraction}
use Rattle.event_codec.specs.declared.enc.Enc.{Enc}
use Rattle.event_codec.specs.declared.fault.CodecFault.TheVariants.{BadValue}
use Rattle.event_codec.specs.Places.{Place}
use Rattle.event_codec.specs.ReadResults.{Read, ◌>>=◌, test}
use Rattle.event_codec.specs.Codes.{u32_code, i64_code, fraction_code, factor_code, list_code, mult_code, IsShort}
use Rattle.event_codec.specs.Types.{IsFactor, AreFactors, IsMult, IsPoint}
use Rattle.event_codec.specs.Reading.{is_factor, u32_at, i64_at, fraction_at, elements_at, point_at, rational_point_at, factor_at, factors_at, mult_at}
use Rattle.event_codec.proofs.Binds.{bind_ok, test_ok, ok_then}
use Rattle.event_codec.proofs.Numbers.{IsBytes}
use Rattle.event_codec.proofs.Fields.{Takes, Takes-then, IsField, at_place, u32_field, i64_field}
use Rattle.event_codec.proofs.Fractions.{plain_field, nonzero_field, nonzero, nonzero_passes, factor_passes}

-- ---- so many elements
module _ {A : Type 0} (read : Place → Read A) (spell : A → List ℕ) (Is : A → Type 0) (one : IsField read spell Is) where
  pub elements_take : (n : ℕ) (p q : Place) (xs : List A) → IsBytes p.rest → elements_at read n p ≡ Ok (xs, q) → Takes p.rest (flat_map spell xs) q.rest × (length xs ≡ n) × AllByRecursion Is xs
  unfolding elements_at
  elements_take zero p q xs fits e =
      ok_then (λ (y : List A × Place). Takes p.rest (flat_map spell y.0) y.1.rest × (length y.0 ≡ 0) × AllByRecursion Is y.0) ([], p) (xs, q) e (record { parts = refl; rest_fits = fits }, refl, tt)
  elements_take (suc n) p q xs fits e =
      let a = bind_ok (read p) (λ (first : A × Place). elements_at read n first.1 >>= λ others. Ok (first.0 ∷ others.0, others.1)) (xs, q) e in
      let b = bind_ok (elements_at read n a.0.1) (λ (others : List A × Place). Ok (a.0.0 ∷ others.0, others.1)) (xs, q) a.2 in
      let first = one.takes p a.0.1 a.0.0 fits a.1 in
      let second = elements_take n a.0.1 b.0.1 b.0.0 first.0.rest_fits b.1 in
      let both = Takes-then p.rest (spell a.0.0) a.0.1.rest (flat_map spell b.0.0) b.0.1.rest first.0 second.0 in
      ok_then (λ (y : List A × Place). Takes p.rest (flat_map spell y.0) y.1.rest × (length y.0 ≡ suc n) × AllByRecursion Is y.0) (a.0.0 ∷ b.0.0, b.0.1) (xs, q) b.2 (rw flat_map-cons both, ap suc second.1, (first.1, second.2))

  pub elements_again : (xs : List A) (place : ℕ) (rest : List ℕ) → AllByRecursion Is xs → (to : ℕ) × (elements_at read (length xs) (at_place place (flat_map spell xs ++ rest)) ≡ Ok (xs, at_place to rest))
  unfolding elements_at
  elements_again [] place rest are = (place, refl)
  elements_again (x ∷ xs) place rest are =
      let regrouped : flat_map spell (x ∷ xs) ++ rest ≡ spell x ++ (flat_map spell xs ++ rest) = ap (λ (y : List ℕ). y ++ rest) (flat_map-cons spell x xs) ∙ append_assoc (spell x) (flat_map spell xs) rest in
      let first = one.again x place (flat_map spell xs ++ rest) are.0 in
      let others = elements_again xs first.0 rest are.1 in
      (others.0, ap (λ (y : List ℕ). elements_at read (suc (length xs)) (at_place place y)) regrouped ∙ rw (first.1, others.1) refl)

-- ---- how many there are, and the elements
module _ (enc : Enc) {A : Type 0} (read : Place → Read A) (spell : A → List ℕ) (Is : A → Type 0) (one : IsField read spell Is) where
  abbrev pub counted : Place → Read (List A)
  counted p = u32_at enc p >>= λ count. elements_at read count.0 count.1

  abbrev pub AreShort : List A → Type 0
  AreShort xs = IsShort xs × AllByRecursion Is xs

  pub list_field : IsField counted (list_code enc spell) AreShort
  unfolding list_code
  list_field = record {
    takes = λ p q xs fits e.
        let a = bind_ok (u32_at enc p) (λ (count : ℕ × Place). elements_at read count.0 count.1) (xs, q) e in
        let count = (u32_field enc).takes p a.0.1 a.0.0 fits a.1 in
        let all = elements_take read spell Is one a.0.0 a.0.1 q xs count.0.rest_fits a.2 in
        let both = Takes-then p.rest (u32_code enc a.0.0) a.0.1.rest (flat_map spell xs) q.rest count.0 all.0 in
        let short : length xs < 2 ^ 32 = omega (arith, all.1, count.1) in
        (subst (λ (n : ℕ). Takes p.rest (u32_code enc n ++ flat_map spell xs) q.rest) (sym all.1) both, (short, all.2));
    again = λ xs place rest are.
        let count = (u32_field enc).again (length xs) place (flat_map spell xs ++ rest) are.0 in
        let all = elements_again read spell Is one xs count.0 rest are.1 in
        (all.0, rw (append_assoc (u32_code enc (length xs)) (flat_map spell xs) rest, count.1) all.1);
  }

module _ (enc : Enc) where
  pub point_field : IsField (point_at enc) (list_code enc (i64_code enc)) (λ z. IsShort z × IsPoint z)
  unfolding point_at
  point_field = list_field enc (i64_at enc) (i64_code enc) _ (i64_field enc)

  pub rational_point_field : IsField (rational_point_at enc) (list_code enc (fraction_code enc)) (λ x. IsShort x × AllByRecursion FitsFraction x)
  unfolding rational_point_at
  rational_point_field = list_field enc (fraction_at enc is_small) (fraction_code enc) FitsFraction (plain_field enc)

  -- ---- rows with their factors

  factor_field : (least : ℕ) → IsField (factor_at enc least) (factor_code enc) (IsFactor least)
  unfolding factor_at
  factor_field least = record {
    takes = λ p q x fits e.
        let a = bind_ok (u32_at enc p) (λ (row : ℕ × Place). test (nat_le least row.0) (BadValue p.at) >>= λ u. fraction_at enc is_factor row.1 >>= λ factor. Ok ((row.0, factor.0), factor.1)) (x, q) e in
        let t = test_ok (nat_le least a.0.0) (BadValue p.at) (fraction_at enc is_factor a.0.1 >>= λ factor. Ok ((a.0.0, factor.0), factor.1)) (x, q) a.2 in
        let b = bind_ok (fraction_at enc is_factor a.0.1) (λ (factor : ℚ × Place). Ok ((a.0.0, factor.0), factor.1)) (x, q) t.1 in
        let row = (u32_field enc).takes p a.0.1 a.0.0 fits a.1 in
        let factor = (nonzero_field enc).takes a.0.1 b.0.1 b.0.0 row.0.rest_fits b.1 in
        let both = Takes-then p.rest (u32_code enc a.0.0) a.0.1.rest (fraction_code enc b.0.0) b.0.1.rest row.0 factor.0 in
        let is : IsFactor least (a.0.0, b.0.0) = record { rises = leb-true _ _ t.0; row = row.1; nonzero = nonzero b.0.0 (factor_passes b.0.0.num factor.1.passed).1; factor = factor.1.fits } in
        ok_then (λ (y : (ℕ × ℚ) × Place). Takes p.rest (factor_code enc y.0) y.1.rest × IsFactor least y.0) ((a.0.0, b.0.0), b.0.1) (x, q) b.2 (both, is);
    again = λ x place rest is.
        let row = (u32_field enc).again x.0 place (fraction_code enc x.1 ++ rest) is.row in
        let factor = (nonzero_field enc).again x.1 row.0 rest (nonzero_passes x.1 is.factor is.nonzero) in
        let rises : nat_le least x.0 ≡ true = le-leb _ _ is.rises in
        (factor.0, rw (append_assoc (u32_code enc x.0) (fraction_code enc x.1) rest, row.1, rises, factor.1) refl);
  }

  factors_take : (n least : ℕ) (p q : Place) (xs : List (ℕ × ℚ)) → IsBytes p.rest → factors_at enc least n p ≡ Ok (xs, q) → Takes p.rest (flat_map (factor_code enc) xs) q.rest × (length xs ≡ n) × AreFactors least xs
  unfolding factors_at
  factors_take zero least p q xs fits e =
      ok_then (λ (y : List (ℕ × ℚ) × Place). Takes p.rest (flat_map (factor_code enc) y.0) y.1.rest × (length y.0 ≡ 0) × AreFactors least y.0) ([], p) (xs, q) e (record { parts = refl; rest_fits = fits }, refl, tt)
  factors_take (suc n) least p q xs fits e =
      let a = bind_ok (factor_at enc least p) (λ (first : (ℕ × ℚ) × Place). factors_at enc (suc first.0.0) n first.1 >>= λ others. Ok (first.0 ∷ others.0, others.1)) (xs, q) e in
      let b = bind_ok (factors_at enc (suc a.0.0.0) n a.0.1) (λ (others : List (ℕ × ℚ) × Place). Ok (a.0.0 ∷ others.0, others.1)) (xs, q) a.2 in
      let first = (factor_field least).takes p a.0.1 a.0.0 fits a.1 in
      let second = factors_take n (suc a.0.0.0) a.0.1 b.0.1 b.0.0 first.0.rest_fits b.1 in
      let both = Takes-then p.rest (factor_code enc a.0.0) a.0.1.rest (flat_map (factor_code enc) b.0.0) b.0.1.rest first.0 second.0 in
      ok_then (λ (y : List (ℕ × ℚ) × Place). Takes p.rest (flat_map (factor_code enc) y.0) y.1.rest × (length y.0 ≡ suc n) × AreFactors least y.0) (a.0.0 ∷ b.0.0, b.0.1) (xs, q) b.2 (rw flat_map-cons both, ap suc second.1, (first.1, second.2))

  factors_again : (xs : List (ℕ × ℚ)) (least place : ℕ) (rest : List ℕ) → AreFactors least xs → (to : ℕ) × (factors_at enc least (length xs) (at_place place (flat_map (factor_code enc) xs ++ rest)) ≡ Ok (xs, at_place to rest))
  unfolding factors_at
  factors_again [] least place rest are = (place, refl)
  factors_again (x ∷ xs) least place rest are =
      let regrouped : flat_map (factor_code enc) (x ∷ xs) ++ rest ≡ factor_code enc x ++ (flat_map (factor_code enc) xs ++ rest) = ap (λ (y : List ℕ). y ++ rest) (flat_map-cons (factor_code enc) x xs) ∙ append_assoc (factor_code enc x) (flat_map (factor_code enc) xs) rest in
      let first = (factor_field least).again x place (flat_map (factor_code enc) xs ++ rest) are.0 in
      let others = factors_again xs (suc x.0) first.0 rest are.1 in
      (others.0, ap (λ (y : List ℕ). factors_at enc least (suc (length xs)) (at_place place y)) regrouped ∙ rw (first.1, others.1) refl)

  pub mult_field : IsField (mult_at enc) (mult_code enc) (λ ms. IsShort ms × IsMult ms)
  unfolding mult_at list_code
  mult_field = record {
    takes = λ p q xs fits e.
        let a = bind_ok (u32_at enc p) (λ (count : ℕ × Place). factors_at enc 0 count.0 count.1) (xs, q) e in
        let count = (u32_field enc).takes p a.0.1 a.0.0 fits a.1 in
        let all = factors_take a.0.0 0 a.0.1 q xs count.0.rest_fits a.2 in
        let both = Takes-then p.rest (u32_code enc a.0.0) a.0.1.rest (flat_map (factor_code enc) xs) q.rest count.0 all.0 in
        let short : length xs < 2 ^ 32 = omega (arith, all.1, count.1) in
        (subst (λ (n : ℕ). Takes p.rest (u32_code enc n ++ flat_map (factor_code enc) xs) q.rest) (sym all.1) both, (short, all.2));
    again = λ xs place rest are.
        let count = (u32_field enc).again (length xs) place (flat_map (factor_code enc) xs ++ rest) are.0 in
        let all = factors_again xs 0 count.0 rest are.1 in
        (all.0, rw (append_assoc (u32_code enc (length xs)) (flat_map (factor_code enc) xs) rest, count.1) all.1);
  }
