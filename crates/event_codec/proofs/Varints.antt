-- Varints: what is spelled is read, and the other way round.
use Rattle.std.proofs.Common.{◌≡◌, ℕ, zero, suc, ◌+◌, ◌-◌, ◌*◌, ◌/◌, ◌%◌, ◌^◌, ◌<◌, ◌≤◌, Bool, true, false, cond, ltb, List, [], ◌∷◌, ◌++◌, length, drop, get_or, Option, Some, None, refl, sym, ap, subst, ◌∙◌, append_assoc, add-one, arith, inl, inr}
use Rattle.std.specs.Prelude.{ℤ, pos, negsuc, ◌||◌, nat_lt, nat_le, slice_index, option_map}
use Rattle.std.specs.Int.{w64, w128}
use Rattle.std.specs.Int.RustNames.{FitsSigned}
use Rattle.std.proofs.lemmas.Bool.{cases_lt, lt-ltb, le-ltb, ltb-true, lt-leb}
use Rattle.std.proofs.lemmas.Bool.Decides.{eqb_tells}
use Rattle.std.proofs.lemmas.List.{drop_all}
use Rattle.std.proofs.Math.Seq.{drop-cons}
use Rattle.event_codec.specs.Varints.{groups_of_7, varint_code, zigzag, varint_size, varint_value, is_fewest, from_zigzag}
use Rattle.event_codec.proofs.Numbers.{IsBytes}

-- ---- the groups of a number

groups-small : (k n : ℕ) → n < 128 → groups_of_7 k n ≡ n ∷ []
unfolding groups_of_7
groups-small zero n lt = refl
groups-small (suc k) n lt = rw (lt-ltb n 128 lt) refl

groups-more : (k n : ℕ) → 128 ≤ n → groups_of_7 (suc k) n ≡ (n % 128 + 128) ∷ groups_of_7 k (n / 128)
unfolding groups_of_7
groups-more k n ge = rw (le-ltb n 128 ge) refl

-- where the first numbers are enough, it doesn't matter which they are
enough : (j k n : ℕ) → n ≤ j → n ≤ k → groups_of_7 j n ≡ groups_of_7 k n
enough zero k n le le' = groups-small zero n (omega (arith, le)) ∙ sym (groups-small k n (omega (arith, le)))
enough (suc j) zero n le le' = groups-small (suc j) n (omega (arith, le')) ∙ sym (groups-small zero n (omega (arith, le')))
enough (suc j) (suc k) n le le' = elim (cases_lt n 128) [
  | inl lt ↦ groups-small (suc j) n lt ∙ sym (groups-small (suc k) n lt)
  | inr ge ↦ groups-more j n ge ∙ ap (λ (l : List ℕ). (n % 128 + 128) ∷ l) (enough j k (n / 128) (omega (arith, le, ge)) (omega (arith, le', ge))) ∙ sym (groups-more k n ge)
]

-- a number of one byte
pub varint-small : (n : ℕ) → n < 128 → varint_code n ≡ n ∷ []
unfolding varint_code
varint-small n lt = groups-small n n lt

-- a number of more bytes
pub varint-more : (n : ℕ) → 128 ≤ n → varint_code n ≡ (n % 128 + 128) ∷ varint_code (n / 128)
unfolding varint_code
varint-more zero ge = absurd (omega (arith, ge))
varint-more (suc m) ge = groups-more m (suc m) ge ∙ ap (λ (l : List ℕ). (suc m % 128 + 128) ∷ l) (enough m (suc m / 128) (suc m / 128) (omega (arith, ge)) (omega arith))

-- what holds of the bytes of small numbers, and of one byte more where it holds of those behind it, holds of those of each number
by_fuel : (P : ℕ → List ℕ → Type 0) → ((n : ℕ) → n < 128 → P n (n ∷ [])) → ((n : ℕ) (others : List ℕ) → 128 ≤ n → P (n / 128) others → P n ((n % 128 + 128) ∷ others)) → (k n : ℕ) → n ≤ k → P n (varint_code n)
by_fuel P one more zero n le = let small : n < 128 = omega (arith, le) in subst (λ (l : List ℕ). P n l) (sym (varint-small n small)) (one n small)
by_fuel P one more (suc k) n le = elim (cases_lt n 128) [
  | inl lt ↦ subst (λ (l : List ℕ). P n l) (sym (varint-small n lt)) (one n lt)
  | inr ge ↦ subst (λ (l : List ℕ). P n l) (sym (varint-more n ge)) (more n (varint_code (n / 128)) ge (by_fuel P one more k (n / 128) (omega (arith, le, ge))))
]

pub by_bytes : (P : ℕ → List ℕ → Type 0) → ((n : ℕ) → n < 128 → P n (n ∷ [])) → ((n : ℕ) (others : List ℕ) → 128 ≤ n → P (n / 128) others → P n ((n % 128 + 128) ∷ others)) → (n : ℕ) → P n (varint_code n)
by_bytes P one more n = by_fuel P one more n n (omega arith)

-- ---- sizes

some_is : (x y : ℕ) → Some x ≡ Some y → x ≡ y
some_is x y e = cc

size-last : (b : ℕ) (bs : List ℕ) → b < 128 → varint_size (b ∷ bs) ≡ Some 1
size-last b bs lt = rw (lt-ltb b 128 lt) refl

size-step : (b : ℕ) (bs : List ℕ) → 128 ≤ b → varint_size (b ∷ bs) ≡ option_map (λ n. suc n) (varint_size bs)
size-step b bs ge = rw (le-ltb b 128 ge) refl

mapped_is : (o : Option ℕ) (n : ℕ) → option_map (λ k. suc k) o ≡ Some (suc n) → o ≡ Some n
mapped_is None n e = absurd cc
mapped_is (Some m) n e = let same : m ≡ n = omega (arith, some_is (suc m) (suc n) e) in ap (λ (k : ℕ). Some k) same

mapped_some : (o : Option ℕ) → option_map (λ k. suc k) o ≡ Some 0 → ⊥
mapped_some None e = absurd cc
mapped_some (Some m) e = absurd (omega (arith, some_is (suc m) 0 e))

size_some : (bs : List ℕ) → varint_size bs ≡ Some 0 → ⊥
size_some [] e = absurd cc
size_some (b ∷ bs) e = elim (cases_lt b 128) [
  | inl lt ↦ absurd (omega (arith, some_is 1 0 (sym (size-last b bs lt) ∙ e)))
  | inr ge ↦ mapped_some (varint_size bs) (sym (size-step b bs ge) ∙ e)
]

-- the size is that of the bytes in front
pub size_of_front : (b rest : List ℕ) → varint_size (b ++ rest) ≡ Some (length b) → varint_size b ≡ Some (length b)
size_of_front [] rest e = absurd (size_some rest e)
size_of_front (b ∷ bs) rest e = elim (cases_lt b 128) [
  | inl lt ↦ size-last b bs lt ∙ sym (size-last b (bs ++ rest) lt) ∙ e
  | inr ge ↦
      let front = size_of_front bs rest (mapped_is (varint_size (bs ++ rest)) (length bs) (sym (size-step b (bs ++ rest) ge) ∙ e)) in
      size-step b bs ge ∙ ap (λ (o : Option ℕ). option_map (λ n. suc n) o) front
]

size_at_suc : (bs : List ℕ) (i : ℕ) → i < length bs → ((k : ℕ) → k < i → 128 ≤ get_or bs k 0) → get_or bs i 0 < 128 → varint_size bs ≡ Some (suc i)
size_at_suc [] i within before here = absurd (omega arith)
size_at_suc (b ∷ bs) zero within before here = size-last b bs here
size_at_suc (b ∷ bs) (suc i) within before here =
    let first : 128 ≤ b = before 0 (omega arith) in
    let within' : i < length bs = omega arith in
    size-step b bs first ∙ ap (λ (o : Option ℕ). option_map (λ n. suc n) o) (size_at_suc bs i within' (λ k lt. before (suc k) (omega (arith, lt))) here)

-- the first byte below 128 is the last
pub size_at : (bs : List ℕ) (i : ℕ) → i < length bs → ((k : ℕ) → k < i → 128 ≤ get_or bs k 0) → get_or bs i 0 < 128 → varint_size bs ≡ Some (i + 1)
size_at bs i within before here = size_at_suc bs i within before here ∙ ap (λ (n : ℕ). Some n) (sym (add-one i))

pub size_none : (bs : List ℕ) → ((k : ℕ) → k < length bs → 128 ≤ get_or bs k 0) → varint_size bs ≡ None
size_none [] large = refl
size_none (b ∷ bs) large =
    let first : 128 ≤ b = large 0 (omega arith) in
    size-step b bs first ∙ ap (λ (o : Option ℕ). option_map (λ n. suc n) o) (size_none bs (λ k lt. large (suc k) (omega (arith, lt))))

-- ---- what is spelled is read

pub value-code : (n : ℕ) → varint_value (varint_code n) ≡ n
value-code n = by_bytes (λ m l. varint_value l ≡ m) (λ m lt. omega (arith, lt)) (λ m others ge is. omega (arith, is, ge)) n

size_more : (b : ℕ) (others rest : List ℕ) → 128 ≤ b → varint_size (others ++ rest) ≡ Some (length others) → varint_size ((b ∷ others) ++ rest) ≡ Some (length (b ∷ others))
size_more b others rest ge is = size-step b (others ++ rest) ge ∙ ap (λ (o : Option ℕ). option_map (λ n. suc n) o) is

pub size-code : (n : ℕ) (rest : List ℕ) → varint_size (varint_code n ++ rest) ≡ Some (length (varint_code n))
size-code n rest = by_bytes (λ m l. varint_size (l ++ rest) ≡ Some (length l)) (λ m lt. size-last m rest lt) (λ m others ge is. size_more (m % 128 + 128) others rest (omega arith) is) n

-- ---- the last byte

abbrev last_of : List ℕ → ℕ
last_of [] = 0
last_of (b ∷ []) = b
last_of (b ∷ c ∷ bs) = last_of (c ∷ bs)

last_is : (b : ℕ) (bs : List ℕ) → get_or (b ∷ bs) (length bs) 0 ≡ last_of (b ∷ bs)
last_is b [] = refl
last_is b (c ∷ bs) = last_is c bs

-- of several bytes none is needless where the last isn't 0
fewest_by_last : (b c : ℕ) (bs : List ℕ) → is_fewest (b ∷ c ∷ bs) ≡ ltb 0 (last_of (c ∷ bs))
fewest_by_last b c bs =
    let many : nat_le (length (b ∷ c ∷ bs)) 1 ≡ false = lt-leb _ _ (omega arith) in
    let place : length (b ∷ c ∷ bs) - 1 ≡ suc (length bs) = omega arith in
    let last : slice_index (b ∷ c ∷ bs) (length (b ∷ c ∷ bs) - 1) ≡ last_of (c ∷ bs) = ap (λ (n : ℕ). get_or (b ∷ c ∷ bs) n 0) place ∙ last_is c bs in
    λ i. many i || nat_lt 0 (last i)

abbrev EndsIn : ℕ → List ℕ → Type 0
EndsIn n [] = ⊥
EndsIn n (b ∷ bs) = (0 < n → 0 < last_of (b ∷ bs)) × (is_fewest (b ∷ bs) ≡ true)

ends_more : (n b : ℕ) (others : List ℕ) → 128 ≤ n → EndsIn (n / 128) others → EndsIn n (b ∷ others)
ends_more n b [] ge h = absurd h
ends_more n b (c ∷ bs) ge h = let some : 0 < last_of (c ∷ bs) = h.0 (omega (arith, ge)) in (λ positive. some, fewest_by_last b c bs ∙ lt-ltb 0 (last_of (c ∷ bs)) some)

ends_fewest : (n : ℕ) (l : List ℕ) → EndsIn n l → is_fewest l ≡ true
ends_fewest n [] h = absurd h
ends_fewest n (b ∷ bs) h = h.1

pub fewest-code : (n : ℕ) → is_fewest (varint_code n) ≡ true
fewest-code n = ends_fewest n (varint_code n) (by_bytes EndsIn (λ m lt. (λ positive. positive, refl)) (λ m others ge is. ends_more m (m % 128 + 128) others ge is) n)

-- ---- what is read is spelled so

-- the bytes of one varint
abbrev IsWhole : ℕ → List ℕ → Type 0
IsWhole b [] = b < 128
IsWhole b (c ∷ bs) = (128 ≤ b) × IsWhole c bs

whole : (b : ℕ) (bs : List ℕ) → varint_size (b ∷ bs) ≡ Some (length (b ∷ bs)) → IsWhole b bs
whole b [] e = elim (cases_lt b 128) [
  | inl lt ↦ lt
  | inr ge ↦ absurd (size_some [] (mapped_is (varint_size []) 0 (sym (size-step b [] ge) ∙ e)))
]
whole b (c ∷ bs) e = elim (cases_lt b 128) [
  | inl lt ↦ absurd (omega (arith, some_is 1 (length (b ∷ c ∷ bs)) (sym (size-last b (c ∷ bs) lt) ∙ e)))
  | inr ge ↦ (ge, whole c bs (mapped_is (varint_size (c ∷ bs)) (length (c ∷ bs)) (sym (size-step b (c ∷ bs) ge) ∙ e)))
]

value_some : (b : ℕ) (bs : List ℕ) → IsWhole b bs → 0 < last_of (b ∷ bs) → 0 < varint_value (b ∷ bs)
value_some b [] is some = omega (arith, is, some)
value_some b (c ∷ bs) is some = let rest = value_some c bs is.1 some in omega (arith, rest)

byte_more : (b v : ℕ) (bs : List ℕ) → 128 ≤ b → b < 256 → 0 < v → varint_code v ≡ bs → varint_code (b % 128 + 128 * v) ≡ b ∷ bs
byte_more b v bs ge lt some e =
    let large : 128 ≤ b % 128 + 128 * v = omega arith in
    let low : (b % 128 + 128 * v) % 128 + 128 ≡ b = omega arith in
    let high : (b % 128 + 128 * v) / 128 ≡ v = omega arith in
    let rest : varint_code ((b % 128 + 128 * v) / 128) ≡ bs = ap varint_code high ∙ e in
    varint-more (b % 128 + 128 * v) large ∙ (λ i. low i ∷ rest i)

code_one : (b : ℕ) → b < 128 → varint_code (varint_value (b ∷ [])) ≡ b ∷ []
code_one b lt = let same : b % 128 + 128 * 0 ≡ b = omega arith in ap varint_code same ∙ varint-small b lt

code_some : (b : ℕ) (bs : List ℕ) → IsWhole b bs → IsBytes (b ∷ bs) → 0 < last_of (b ∷ bs) → varint_code (varint_value (b ∷ bs)) ≡ b ∷ bs
code_some b [] is fits some = code_one b is
code_some b (c ∷ bs) is fits some = byte_more b (varint_value (c ∷ bs)) (c ∷ bs) is.0 (fits 0) (value_some c bs is.1 some) (code_some c bs is.1 (λ i. fits (suc i)) some)

pub code-value : (bs : List ℕ) → IsBytes bs → varint_size bs ≡ Some (length bs) → is_fewest bs ≡ true → varint_code (varint_value bs) ≡ bs
code-value [] fits size fewest = absurd (size_some [] size)
code-value (b ∷ []) fits size fewest = code_one b (whole b [] size)
code-value (b ∷ c ∷ bs) fits size fewest = code_some b (c ∷ bs) (whole b (c ∷ bs) size) fits (ltb-true 0 (last_of (c ∷ bs)) (sym (fewest_by_last b c bs) ∙ fewest))

-- ---- values from the last byte on

-- a number whose last bytes are large is larger
pub value_behind : (bs : List ℕ) (k : ℕ) → 0 < k → 128 * varint_value (drop k bs) ≤ varint_value bs
value_behind bs zero some = absurd (omega arith)
value_behind [] (suc k) some = omega arith
value_behind (b ∷ bs) (suc zero) some = omega arith
value_behind (b ∷ bs) (suc (suc k)) some = let rest = value_behind bs (suc k) (omega arith) in omega (arith, rest)

-- one byte more
pub value_more : (bs : List ℕ) (place value : ℕ) → place < length bs → value ≡ varint_value (drop (length bs - place) bs)
    → value * 128 + get_or bs (length bs - 1 - place) 0 % 128 ≡ varint_value (drop (length bs - (place + 1)) bs)
value_more bs place value lt is =
    let here : length bs - (place + 1) ≡ length bs - 1 - place = omega arith in
    let next : suc (length bs - 1 - place) ≡ length bs - place = omega arith in
    let within : length bs - 1 - place < length bs = omega arith in
    let step : varint_value (drop (length bs - (place + 1)) bs) ≡ get_or bs (length bs - 1 - place) 0 % 128 + 128 * varint_value (drop (length bs - place) bs) =
    ap (λ (n : ℕ). varint_value (drop n bs)) here ∙ ap varint_value (drop-cons bs (length bs - 1 - place) 0 within)
    ∙ ap (λ (n : ℕ). get_or bs (length bs - 1 - place) 0 % 128 + 128 * varint_value (drop n bs)) next in
    omega (arith, step, is)

-- no byte so far
pub value_of_none : (bs : List ℕ) → 0 ≡ varint_value (drop (length bs - 0) bs)
value_of_none bs = sym (ap varint_value (drop_all (length bs - 0) bs (omega arith)))

-- the value of all bytes, where it fits
pub value_done : (bs : List ℕ) (place value limit : ℕ) → length bs ≤ place → value < limit → value ≡ varint_value (drop (length bs - place) bs)
    → Some value ≡ cond (ltb (varint_value bs) limit) (Some (varint_value bs)) None
value_done bs place value limit all lt is =
    let nothing : length bs - place ≡ 0 = omega arith in
    let same : value ≡ varint_value bs = is ∙ ap (λ (n : ℕ). varint_value (drop n bs)) nothing in
    let below : ltb (varint_value bs) limit ≡ true = lt-ltb _ _ (subst (λ (n : ℕ). n < limit) same lt) in
    ap (λ (n : ℕ). Some n) same ∙ sym (ap (λ (b : Bool). cond b (Some (varint_value bs)) None) below)

-- one byte more makes it too large
pub value_too_large : (bs : List ℕ) (place value limit : ℕ) → place < length bs → limit ≤ 128 * value → value ≡ varint_value (drop (length bs - place) bs)
    → None ≡ cond (ltb (varint_value bs) limit) (Some (varint_value bs)) None
value_too_large bs place value limit lt large is =
    let behind = value_behind bs (length bs - place) (omega arith) in
    let above : limit ≤ varint_value bs = omega (arith, behind, is, large) in
    sym (ap (λ (b : Bool). cond b (Some (varint_value bs)) None) (le-ltb _ _ above))

-- a value of few bits is the same of more bits
pub value_widened : (n value small large : ℕ) → small ≤ large → Some value ≡ cond (ltb n small) (Some n) None → Some value ≡ cond (ltb n large) (Some n) None
value_widened n value small large le e = elim (cases_lt n small) [
  | inl lt ↦
      let below : ltb n large ≡ true = lt-ltb _ _ (omega (arith, lt, le)) in
      e ∙ ap (λ (b : Bool). cond b (Some n) None) (lt-ltb _ _ lt) ∙ sym (ap (λ (b : Bool). cond b (Some n) None) below)
  | inr ge ↦ let none : Some value ≡ None = e ∙ ap (λ (b : Bool). cond b (Some n) None) (le-ltb _ _ ge) in absurd cc
]

-- ---- spelling by steps

pub put_more : (before out code : List ℕ) (rest : ℕ) → 128 ≤ rest → out ++ varint_code rest ≡ before ++ code → (out ++ (rest % 128 + 128) ∷ []) ++ varint_code (rest / 128) ≡ before ++ code
put_more before out code rest ge so_far =
    append_assoc out ((rest % 128 + 128) ∷ []) (varint_code (rest / 128)) ∙ ap (λ (l : List ℕ). out ++ l) (sym (varint-more rest ge)) ∙ so_far

pub put_last : (before out code : List ℕ) (rest : ℕ) → rest < 128 → out ++ varint_code rest ≡ before ++ code → out ++ rest ∷ [] ≡ before ++ code
put_last before out code rest lt so_far = ap (λ (l : List ℕ). out ++ l) (sym (varint-small rest lt)) ∙ so_far

-- ---- zigzag

pub from-zigzag : (z : ℤ) → from_zigzag (zigzag z) ≡ z
from-zigzag (pos n) =
    let even : 2 * n % 2 ≡ 0 = omega arith in
    let half : 2 * n / 2 ≡ n = omega arith in
    rw (even, half) refl
from-zigzag (negsuc n) =
    let odd : (2 * n + 1) % 2 ≡ 1 = omega arith in
    let half : (2 * n + 1) / 2 ≡ n = omega arith in
    rw (odd, half) refl

pub zigzag-from : (n : ℕ) → zigzag (from_zigzag n) ≡ n
zigzag-from n = elim (eqb_tells (n % 2) 0) [
  | inl t ↦ rw t.0 (omega (arith, t.1))
  | inr t ↦ rw t.0 (omega (arith, t.1))
]

pub zigzag_fits64 : (z : ℤ) → FitsSigned w64 z → zigzag z ≤ 2 ^ 64 - 1
zigzag_fits64 (pos n) h = omega (arith, h.sfits)
zigzag_fits64 (negsuc n) h = omega (arith, h.sfits)

pub fits64_zigzag : (z : ℤ) → zigzag z ≤ 2 ^ 64 - 1 → FitsSigned w64 z
fits64_zigzag (pos n) h = record { sfits = omega (arith, h) }
fits64_zigzag (negsuc n) h = record { sfits = omega (arith, h) }

pub zigzag_fits128 : (z : ℤ) → FitsSigned w128 z → zigzag z ≤ 2 ^ 128 - 1
zigzag_fits128 (pos n) h = omega (arith, h.sfits)
zigzag_fits128 (negsuc n) h = omega (arith, h.sfits)

pub fits128_zigzag : (z : ℤ) → zigzag z ≤ 2 ^ 128 - 1 → FitsSigned w128 z
fits128_zigzag (pos n) h = record { sfits = omega (arith, h) }
fits128_zigzag (negsuc n) h = record { sfits = omega (arith, h) }
