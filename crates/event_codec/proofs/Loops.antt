-- Reading elements one after the other, as a loop does.
use Rattle.std.proofs.Common.{◌≡◌, ℕ, suc, ◌-◌, ◌+◌, ◌≤◌, ◌<◌, List, [], ◌∷◌, ◌++◌, Ok, Err, refl, sym, ap, ◌∙◌, append_assoc, arith}
use Rattle.std.proofs.lemmas.List.{append-nil}
use Rattle.fraction.specs.Rational.{ℚ}
use Rattle.event_codec.specs.declared.enc.Enc.{Enc}
use Rattle.event_codec.specs.declared.fault.CodecFault.{CodecFault}
use Rattle.event_codec.specs.Places.{Place}
use Rattle.event_codec.specs.declared.fault.CodecError.{CodecError}
use Rattle.event_codec.specs.declared.fault.CodecError.TheVariants.{Memory, Fault}
use Rattle.event_codec.specs.ReadResults.{Read, ◌>>=◌, Fails}
use Rattle.event_codec.specs.Reading.{elements_at, factor_at, factors_at}

-- what was read before, and what is still read
abbrev pub with_front : {A : Type 0} → List A → Read (List A) → Read (List A)
with_front front read = read >>= λ x. Ok (front ++ x.0, x.1)

regroup : {A : Type 0} (front : List A) (n : A) (read : Read (List A)) → with_front front (read >>= λ x. Ok (n ∷ x.0, x.1)) ≡ with_front (front ++ n ∷ []) read
regroup {A = A} front n (Ok x) = ap (λ (ns : List A). Ok (ns, x.1)) (simp append_assoc)
regroup front n (Err f) = refl

pub goes_on : {A : Type 0} (read : Place → Read A) (front : List A) (count i : ℕ) (p : Place) (n : A) (after : Place) (total : Read (List A)) → i < count → read p ≡ Ok (n, after)
    → with_front front (elements_at read (count - i) p) ≡ total → with_front (front ++ n ∷ []) (elements_at read (count - (i + 1)) after) ≡ total
unfolding elements_at
goes_on read front count i p n after total lt h so_far =
    let k : count - i ≡ suc (count - (i + 1)) = omega arith in
    let one : with_front front (elements_at read (count - i) p) ≡ with_front (front ++ n ∷ []) (elements_at read (count - (i + 1)) after) = rw (k, h) (regroup front n (elements_at read (count - (i + 1)) after)) in
    sym one ∙ so_far

pub ends : {A : Type 0} (read : Place → Read A) (f : CodecFault) (front : List A) (count i : ℕ) (p : Place) (total : Read (List A)) → i < count → read p ≡ Err f
    → with_front front (elements_at read (count - i) p) ≡ total → total ≡ Err f
unfolding elements_at
ends read f front count i p total lt h so_far =
    let k : count - i ≡ suc (count - (i + 1)) = omega arith in
    let one : with_front front (elements_at read (count - i) p) ≡ Err f = rw (k, h) refl in
    sym so_far ∙ one

-- the same where memory may have run out
pub fails : {A : Type 0} (read : Place → Read A) (e : CodecError) (front : List A) (count i : ℕ) (p : Place) (total : Read (List A)) → i < count → Fails e (read p)
    → with_front front (elements_at read (count - i) p) ≡ total → Fails e total
fails read Memory front count i p total lt h so_far = tt
fails read (Fault f) front count i p total lt h so_far = ends read f front count i p total lt h so_far

pub is_done : {A : Type 0} (read : Place → Read A) (front : List A) (count i : ℕ) (p : Place) (total : Read (List A)) → count ≤ i
    → with_front front (elements_at read (count - i) p) ≡ total → total ≡ Ok (front, p)
unfolding elements_at
is_done {A = A} read front count i p total le so_far =
    let k : count - i ≡ 0 = omega arith in
    let one : with_front front (elements_at read (count - i) p) ≡ Ok (front, p) = rw k (ap (λ (ns : List A). Ok (ns, p)) (append-nil front)) in
    sym so_far ∙ one

module _ (enc : Enc) where
  -- ---- the same of rows that rise

  pub rises_on : (front : List (ℕ × ℚ)) (least count i : ℕ) (p : Place) (n : ℕ × ℚ) (after : Place) (total : Read (List (ℕ × ℚ))) → i < count → factor_at enc least p ≡ Ok (n, after)
      → with_front front (factors_at enc least (count - i) p) ≡ total → with_front (front ++ n ∷ []) (factors_at enc (suc n.0) (count - (i + 1)) after) ≡ total
  unfolding factors_at
  rises_on front least count i p n after total lt h so_far =
      let k : count - i ≡ suc (count - (i + 1)) = omega arith in
      let one : with_front front (factors_at enc least (count - i) p) ≡ with_front (front ++ n ∷ []) (factors_at enc (suc n.0) (count - (i + 1)) after) = rw (k, h) (regroup front n (factors_at enc (suc n.0) (count - (i + 1)) after)) in
      sym one ∙ so_far

  pub row_ends : (f : CodecFault) (front : List (ℕ × ℚ)) (least count i : ℕ) (p : Place) (total : Read (List (ℕ × ℚ))) → i < count → factor_at enc least p ≡ Err f
      → with_front front (factors_at enc least (count - i) p) ≡ total → total ≡ Err f
  unfolding factors_at
  row_ends f front least count i p total lt h so_far =
      let k : count - i ≡ suc (count - (i + 1)) = omega arith in
      let one : with_front front (factors_at enc least (count - i) p) ≡ Err f = rw (k, h) refl in
      sym so_far ∙ one

  pub rows_are_done : (front : List (ℕ × ℚ)) (least count i : ℕ) (p : Place) (total : Read (List (ℕ × ℚ))) → count ≤ i
      → with_front front (factors_at enc least (count - i) p) ≡ total → total ≡ Ok (front, p)
  unfolding factors_at
  rows_are_done front least count i p total le so_far =
      let k : count - i ≡ 0 = omega arith in
      let one : with_front front (factors_at enc least (count - i) p) ≡ Ok (front, p) = rw k (ap (λ (ns : List (ℕ × ℚ)). Ok (ns, p)) (append-nil front)) in
      sym so_far ∙ one
