-- A field that is read is the field that was spelled, and what was spelled is read again.
use Rattle.std.proofs.Common.{◌≡◌, ℕ, zero, suc, ◌+◌, ◌-◌, ◌^◌, ◌<◌, ◌≤◌, Bool, true, false, cond, eqb, ltb, List, [], ◌∷◌, ◌++◌, length, take, drop, Option, Some, None, Ok, Err, refl, sym, ap, subst, ◌∙◌, append_assoc, arith, inl, inr}
use Rattle.std.specs.Prelude.{◌&&◌, nat_le}
use Rattle.std.specs.Int.{w8, w32, w64, w128, from_le_bytes, to_le_bytes, cast_signed, cast_unsigned}
use Rattle.std.specs.Int.RustNames.{FitsSigned}
use Rattle.std.proofs.lemmas.Bool.{cases_lt, ltb-false, ltb-true, le-ltb, leb-true, le-leb, and_parts}
use Rattle.std.proofs.lemmas.List.{take_at, drop_at, take-append-drop, length-append, length-take, get_or-drop, get_or-take, get_or_past}
use Rattle.std.proofs.Math.Facts.{sfits_to_z, Fits-of_z, Fits-of_lt}
use Rattle.std.proofs.lemmas.Int.{to_z-of_z, of_z-to_z}
use Rattle.event_codec.specs.declared.fault.CodecFault.{CodecFault}
use Rattle.event_codec.specs.declared.fault.CodecFault.TheVariants.{Short, BadValue}
use Rattle.event_codec.specs.declared.enc.Enc.{Enc}
use Rattle.event_codec.specs.declared.enc.Enc.TheVariants.{One, Two}
use Rattle.event_codec.specs.Places.{Place, further}
use Rattle.event_codec.specs.ReadResults.{Read, ◌>>=◌, test}
use Rattle.event_codec.specs.Codes.{u32_code, i64_code, i128_code, flag_code}
use Rattle.event_codec.specs.Types.{FitsU32}
use Rattle.event_codec.specs.Varints.{varint_code, zigzag, varint_size, varint_value, is_fewest, from_zigzag}
use Rattle.event_codec.specs.Reading.{bytes_at, byte_at, bytes_if, varint_bytes_at, varint_at, u32_at, i64_at, i128_at, flag_at}
use Rattle.event_codec.proofs.Binds.{bind_ok, test_ok, ok_then}
use Rattle.event_codec.proofs.Numbers.{IsBytes, IsWide, wide}
use Rattle.event_codec.proofs.Varints.{size_of_front, value-code, size-code, fewest-code, code-value, from-zigzag, zigzag-from, zigzag_fits64, fits64_zigzag, zigzag_fits128, fits128_zigzag}

pub IsBytes-drop : (n : ℕ) (bytes : List ℕ) → IsBytes bytes → IsBytes (drop n bytes)
IsBytes-drop n bytes h i = rw get_or-drop (h (n + i))

pub IsBytes-take : (n : ℕ) (bytes : List ℕ) → IsBytes bytes → IsBytes (take n bytes)
IsBytes-take n bytes h i =
    elim (cases_lt i n) [
      | inl lt ↦ rw (get_or-take n bytes i 0 lt) (h i)
      | inr le ↦ rw (get_or_past (take n bytes) i 0 (omega (arith, length-take n bytes))) (omega arith)
    ]

-- what a reader took from the front
pub record Takes (bytes text rest : List ℕ) : Type 0 where
  pub parts : bytes ≡ text ++ rest
  pub rest_fits : IsBytes rest

pub Takes-then : (a x b y c : List ℕ) → Takes a x b → Takes b y c → Takes a (x ++ y) c
Takes-then a x b y c p q = record { parts = p.parts ∙ ap (λ (t : List ℕ). x ++ t) q.parts ∙ sym (append_assoc x y c); rest_fits = q.rest_fits }

abbrev pub at_place : ℕ → List ℕ → Place
at_place n bytes = record { at = n; rest = bytes }

-- A reader and a spelling of the same values: each value that is read is spelled so, and each that is spelled is read.
pub record IsField {A : Type 0} (read : Place → Read A) (spell : A → List ℕ) (Is : A → Type 0) : Type 0 where
  pub takes : (p q : Place) (x : A) → IsBytes p.rest → read p ≡ Ok (x, q) → Takes p.rest (spell x) q.rest × Is x
  pub again : (x : A) (place : ℕ) (rest : List ℕ) → Is x → (to : ℕ) × (read (at_place place (spell x ++ rest)) ≡ Ok (x, at_place to rest))

-- ---- so many bytes

pub record TakesBytes (n : ℕ) (p q : Place) (b : List ℕ) : Type 0 where
  pub taken : Takes p.rest b q.rest
  pub len : length b ≡ n
  pub fits : IsBytes b

guard_ok : {A : Type 0} (b : Bool) (d : CodecFault) (x y : A) → cond b (Err d) (Ok x) ≡ Ok y → (b ≡ false) × (x ≡ y)
guard_ok true d x y e = absurd cc
guard_ok false d x y e = (refl, cc)

pub bytes_take : (n : ℕ) (p q : Place) (b : List ℕ) → IsBytes p.rest → bytes_at n p ≡ Ok (b, q) → TakesBytes n p q b
unfolding bytes_at
bytes_take n p q b fits e =
    let g = guard_ok (ltb (length p.rest) n) (Short p.at) (take n p.rest, further n p) (b, q) e in
    let long : n ≤ length p.rest = ltb-false _ _ g.0 in
    let made : TakesBytes n p (further n p) (take n p.rest) = record {
      taken = record { parts = sym (take-append-drop n p.rest); rest_fits = IsBytes-drop n p.rest fits };
      len = omega (arith, length-take n p.rest);
      fits = IsBytes-take n p.rest fits;
    } in
    subst (λ (x : List ℕ × Place). TakesBytes n p x.1 x.0) g.1 made

pub bytes_again : (n place : ℕ) (b rest : List ℕ) → length b ≡ n → bytes_at n (at_place place (b ++ rest)) ≡ Ok (b, at_place (place + n) rest)
unfolding bytes_at
bytes_again n place b rest len =
    let long : ltb (length (b ++ rest)) n ≡ false = le-ltb _ _ (omega (arith, length-append b rest)) in
    rw (long, take_at b rest n len, drop_at b rest n len) refl

-- ---- bytes and flags

byte_of : (b : List ℕ) → length b ≡ 1 → from_le_bytes w8 b ∷ [] ≡ b
byte_of [] l = absurd (omega arith)
byte_of (x ∷ []) l = refl
byte_of (x ∷ y ∷ b) l = absurd (omega arith)

pub byte_field : IsField byte_at (λ n. n ∷ []) (λ n. Unit {0})
unfolding byte_at
byte_field = record {
  takes = λ p q x fits e.
      let b = bind_ok (bytes_at 1 p) (λ (b : List ℕ × Place). Ok (from_le_bytes w8 b.0, b.1)) (x, q) e in
      let t = bytes_take 1 p b.0.1 b.0.0 fits b.1 in
      let made : Takes p.rest (from_le_bytes w8 b.0.0 ∷ []) b.0.1.rest = rw (byte_of b.0.0 t.len) t.taken in
      ok_then (λ (y : ℕ × Place). Takes p.rest (y.0 ∷ []) y.1.rest × Unit {0}) (from_le_bytes w8 b.0.0, b.0.1) (x, q) b.2 (made, tt);
  again = λ x place rest is. (place + 1, rw (bytes_again 1 place (x ∷ []) rest refl) refl);
}

-- ---- numbers

wide32 : IsWide w32 (2 ^ 32)
wide32 = wide w32 3 refl

wide64 : IsWide w64 (2 ^ 64)
wide64 = wide w64 7 refl

wide128 : IsWide w128 (2 ^ 128)
wide128 = wide w128 15 refl

-- what the readers of numbers are: so many bytes, and a number of them
abbrev pub number_at : {A : Type 0} → ℕ → (List ℕ → A) → Place → Read A
number_at n from p = bytes_at n p >>= λ b. Ok (from b.0, b.1)

number_field : {A : Type 0} (n : ℕ) (from : List ℕ → A) (spell : A → List ℕ) (Is : A → Type 0)
    → ((b : List ℕ) → length b ≡ n → IsBytes b → (spell (from b) ≡ b) × Is (from b))
    → ((x : A) → Is x → (length (spell x) ≡ n) × (from (spell x) ≡ x))
    → IsField (number_at n from) spell Is
number_field {A = A} n from spell Is there back = record {
  takes = λ p q x fits e.
      let b = bind_ok (bytes_at n p) (λ (b : List ℕ × Place). Ok (from b.0, b.1)) (x, q) e in
      let t = bytes_take n p b.0.1 b.0.0 fits b.1 in
      let h = there b.0.0 t.len t.fits in
      let made : Takes p.rest (spell (from b.0.0)) b.0.1.rest = rw h.0 t.taken in
      ok_then (λ (y : A × Place). Takes p.rest (spell y.0) y.1.rest × Is y.0) (from b.0.0, b.0.1) (x, q) b.2 (made, h.1);
  again = λ x place rest is.
      let h = back x is in
      (place + n, rw (bytes_again n place (spell x) rest h.0, h.1) refl);
}

-- a field of the same values, by another word for which they are
same_field : {A : Type 0} (read : Place → Read A) (spell : A → List ℕ) (Was Is : A → Type 0) → ((x : A) → Was x → Is x) → ((x : A) → Is x → Was x) → IsField read spell Was → IsField read spell Is
same_field read spell Was Is to from field = record {
  takes = λ p q x fits e. let t = field.takes p q x fits e in (t.0, to x t.1);
  again = λ x place rest is. field.again x place rest (from x is);
}

-- a field of values that stand for others
mapped_field : {A B : Type 0} (read : Place → Read A) (spell : A → List ℕ) (Was : A → Type 0) (f : A → B) (g : B → A) (Is : B → Type 0)
    → ((x : A) → Was x → (g (f x) ≡ x) × Is (f x)) → ((y : B) → Is y → Was (g y) × (f (g y) ≡ y))
    → IsField read spell Was → IsField (λ p. read p >>= λ x. Ok (f x.0, x.1)) (λ y. spell (g y)) Is
mapped_field {A = A} {B = B} read spell Was f g Is there back field = record {
  takes = λ p q y fits e.
      let a = bind_ok (read p) (λ (x : A × Place). Ok (f x.0, x.1)) (y, q) e in
      let t = field.takes p a.0.1 a.0.0 fits a.1 in
      let h = there a.0.0 t.1 in
      let made : Takes p.rest (spell (g (f a.0.0))) a.0.1.rest = rw h.0 t.0 in
      ok_then (λ (x : B × Place). Takes p.rest (spell (g x.0)) x.1.rest × Is x.0) (f a.0.0, a.0.1) (y, q) a.2 (made, h.1);
  again = λ y place rest is.
      let h = back y is in
      let t = field.again (g y) place rest h.0 in
      (t.0, rw (t.1, h.1) refl);
}

-- the bytes of a varint that was read
record TakesVarint (p q : Place) (b : List ℕ) : Type 0 where
  taken : Takes p.rest b q.rest
  size : varint_size b ≡ Some (length b)
  fits : IsBytes b

sized_take : (o : Option ℕ) (p q : Place) (b : List ℕ) → varint_size p.rest ≡ o → IsBytes p.rest → bytes_if o p ≡ Ok (b, q) → TakesVarint p q b
sized_take None p q b size fits e = absurd cc
sized_take (Some n) p q b size fits e =
    let t = bytes_take n p q b fits e in
    let front : varint_size (b ++ q.rest) ≡ Some (length b) = ap varint_size (sym t.taken.parts) ∙ size ∙ ap (λ (k : ℕ). Some k) (sym t.len) in
    record { taken = t.taken; size = size_of_front b q.rest front; fits = t.fits }

varint_take : (p q : Place) (b : List ℕ) → IsBytes p.rest → varint_bytes_at p ≡ Ok (b, q) → TakesVarint p q b
unfolding varint_bytes_at
varint_take p q b fits e = sized_take (varint_size p.rest) p q b refl fits e

varint_bytes_again : (n place : ℕ) (rest : List ℕ) → varint_bytes_at (at_place place (varint_code n ++ rest)) ≡ Ok (varint_code n, at_place (place + length (varint_code n)) rest)
unfolding varint_bytes_at
varint_bytes_again n place rest =
    ap (λ (o : Option ℕ). bytes_if o (at_place place (varint_code n ++ rest))) (size-code n rest) ∙ bytes_again (length (varint_code n)) place (varint_code n) rest refl

varint_field : (most : ℕ) → IsField (varint_at most) varint_code (λ n. n ≤ most)
unfolding varint_at
varint_field most = record {
  takes = λ p q x fits e.
      let b = bind_ok (varint_bytes_at p) (λ (b : List ℕ × Place). test (is_fewest b.0 && nat_le (varint_value b.0) most) (BadValue p.at) >>= λ u. Ok (varint_value b.0, b.1)) (x, q) e in
      let t = test_ok (is_fewest b.0.0 && nat_le (varint_value b.0.0) most) (BadValue p.at) (Ok (varint_value b.0.0, b.0.1)) (x, q) b.2 in
      let both = and_parts (is_fewest b.0.0) (nat_le (varint_value b.0.0) most) t.0 in
      let bytes = varint_take p b.0.1 b.0.0 fits b.1 in
      let spelled = code-value b.0.0 bytes.fits bytes.size both.0 in
      let made : Takes p.rest (varint_code (varint_value b.0.0)) b.0.1.rest = subst (λ (l : List ℕ). Takes p.rest l b.0.1.rest) (sym spelled) bytes.taken in
      ok_then (λ (y : ℕ × Place). Takes p.rest (varint_code y.0) y.1.rest × (y.0 ≤ most)) (varint_value b.0.0, b.0.1) (x, q) t.1 (made, leb-true _ _ both.1);
  again = λ x place rest is.
      let fewest = fewest-code x in
      let value = value-code x in
      let small : nat_le x most ≡ true = le-leb _ _ is in
      (place + length (varint_code x), rw (varint_bytes_again x place rest, fewest, value, small) refl);
}

-- a number that was read is at most the limit
pub varint_limited : (most : ℕ) (p q : Place) (x : ℕ) → varint_at most p ≡ Ok (x, q) → x ≤ most
unfolding varint_at
varint_limited most p q x e =
    let b = bind_ok (varint_bytes_at p) (λ (b : List ℕ × Place). test (is_fewest b.0 && nat_le (varint_value b.0) most) (BadValue p.at) >>= λ u. Ok (varint_value b.0, b.1)) (x, q) e in
    let t = test_ok (is_fewest b.0.0 && nat_le (varint_value b.0.0) most) (BadValue p.at) (Ok (varint_value b.0.0, b.0.1)) (x, q) b.2 in
    let both = and_parts (is_fewest b.0.0) (nat_le (varint_value b.0.0) most) t.0 in
    ok_then (λ (y : ℕ × Place). y.0 ≤ most) (varint_value b.0.0, b.0.1) (x, q) t.1 (leb-true _ _ both.1)

pub u32_field : (enc : Enc) → IsField (u32_at enc) (u32_code enc) FitsU32
unfolding u32_at u32_code
u32_field One = number_field 4 (from_le_bytes w32) (to_le_bytes w32) FitsU32 (λ b len fits. (wide32.back b len fits, wide32.below b len fits)) (λ x is. (wide32.len x, wide32.again x is))
u32_field Two = same_field (varint_at (2 ^ 32 - 1)) varint_code (λ n. n ≤ 2 ^ 32 - 1) FitsU32 (λ x is. omega (arith, is)) (λ x is. omega (arith, is)) (varint_field (2 ^ 32 - 1))

pub i64_field : (enc : Enc) → IsField (i64_at enc) (i64_code enc) (λ z. FitsSigned w64 z)
unfolding i64_at i64_code
i64_field One = number_field 8 (λ b. cast_signed w64 (from_le_bytes w64 b)) (λ z. to_le_bytes w64 (cast_unsigned w64 z)) (λ z. FitsSigned w64 z)
    (λ b len fits. (ap (to_le_bytes w64) (of_z-to_z w64 (from_le_bytes w64 b) (wide64.below b len fits)) ∙ wide64.back b len fits, sfits_to_z {w = w64} (Fits-of_lt {w = w64} (wide64.below b len fits))))
    (λ z is. (wide64.len (cast_unsigned w64 z), ap (cast_signed w64) (wide64.again (cast_unsigned w64 z) (Fits-of_z {w = w64} is).fits) ∙ to_z-of_z w64 z is))
i64_field Two = mapped_field (varint_at (2 ^ 64 - 1)) varint_code (λ n. n ≤ 2 ^ 64 - 1) from_zigzag zigzag (λ z. FitsSigned w64 z)
    (λ n is. (zigzag-from n, fits64_zigzag (from_zigzag n) (subst (λ (m : ℕ). m ≤ 2 ^ 64 - 1) (sym (zigzag-from n)) is))) (λ z is. (zigzag_fits64 z is, from-zigzag z)) (varint_field (2 ^ 64 - 1))

pub i128_field : (enc : Enc) → IsField (i128_at enc) (i128_code enc) (λ z. FitsSigned w128 z)
unfolding i128_at i128_code
i128_field One = number_field 16 (λ b. cast_signed w128 (from_le_bytes w128 b)) (λ z. to_le_bytes w128 (cast_unsigned w128 z)) (λ z. FitsSigned w128 z)
    (λ b len fits. (ap (to_le_bytes w128) (of_z-to_z w128 (from_le_bytes w128 b) (wide128.below b len fits)) ∙ wide128.back b len fits, sfits_to_z {w = w128} (Fits-of_lt {w = w128} (wide128.below b len fits))))
    (λ z is. (wide128.len (cast_unsigned w128 z), ap (cast_signed w128) (wide128.again (cast_unsigned w128 z) (Fits-of_z {w = w128} is).fits) ∙ to_z-of_z w128 z is))
i128_field Two = mapped_field (varint_at (2 ^ 128 - 1)) varint_code (λ n. n ≤ 2 ^ 128 - 1) from_zigzag zigzag (λ z. FitsSigned w128 z)
    (λ n is. (zigzag-from n, fits128_zigzag (from_zigzag n) (subst (λ (m : ℕ). m ≤ 2 ^ 128 - 1) (sym (zigzag-from n)) is))) (λ z is. (zigzag_fits128 z is, from-zigzag z)) (varint_field (2 ^ 128 - 1))

-- ---- flags

flag_is : (n : ℕ) → n < 2 → flag_code (eqb n 1) ≡ n ∷ []
flag_is zero lt = refl
flag_is (suc zero) lt = refl
flag_is (suc (suc n)) lt = absurd (omega arith)

flag_again : (x : Bool) (place : ℕ) (rest : List ℕ) → (to : ℕ) × (flag_at (at_place place (flag_code x ++ rest)) ≡ Ok (x, at_place to rest))
unfolding flag_at
flag_again false place rest = let b = byte_field.again 0 place rest tt in (b.0, rw b.1 refl)
flag_again true place rest = let b = byte_field.again 1 place rest tt in (b.0, rw b.1 refl)

pub flag_field : IsField flag_at flag_code (λ b. Unit {0})
unfolding flag_at
flag_field = record {
  takes = λ p q x fits e.
      let b = bind_ok (byte_at p) (λ (n : ℕ × Place). test (ltb n.0 2) (BadValue p.at) >>= λ u. Ok (eqb n.0 1, n.1)) (x, q) e in
      let t = test_ok (ltb b.0.0 2) (BadValue p.at) (Ok (eqb b.0.0 1, b.0.1)) (x, q) b.2 in
      let byte = byte_field.takes p b.0.1 b.0.0 fits b.1 in
      let made : Takes p.rest (flag_code (eqb b.0.0 1)) b.0.1.rest = rw (flag_is b.0.0 (ltb-true _ _ t.0)) byte.0 in
      ok_then (λ (y : Bool × Place). Takes p.rest (flag_code y.0) y.1.rest × Unit {0}) (eqb b.0.0 1, b.0.1) (x, q) t.1 (made, tt);
  again = λ x place rest is. flag_again x place rest;
}
