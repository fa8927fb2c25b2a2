-- Numbers as bytes, the lowest first: bytes of a number and back, for each width.
use Rattle.std.proofs.Common.{◌≡◌, ℕ, zero, suc, ◌+◌, ◌-◌, ◌*◌, ◌/◌, ◌%◌, ◌^◌, ◌<◌, List, [], ◌∷◌, ◌++◌, length, get_or, refl, sym, ap, subst, ◌∙◌, add_assoc, arith}
use Rattle.std.specs.Int.{Width, w64, w128, byte_len, byte_at, byte_worth, bytes_low_first, sum_through, to_le_bytes, from_le_bytes}
use Rattle.std.proofs.Math.Nat.{div-div-eq-div-mul, pow-suc, mul_assoc, mul_comm}

abbrev pub IsBytes : List ℕ → Type 0
IsBytes bytes = (i : ℕ) → get_or bytes i 0 < 256

-- k bytes of a number, and the number of bytes
abbrev digits : ℕ → ℕ → List ℕ
digits zero n = []
digits (suc k) n = n % 256 ∷ digits k (n / 256)

abbrev number_of : List ℕ → ℕ
number_of [] = 0
number_of (b ∷ bs) = b + number_of bs * 256

-- ---- each is the other's inverse

number-digits : (k n : ℕ) → n < 256 ^ k → number_of (digits k n) ≡ n
number-digits zero n lt = omega arith
number-digits (suc k) n lt =
    let below : n / 256 < 256 ^ k = omega (arith, pow-suc 256 k) in
    ap (λ m. n % 256 + m * 256) (number-digits k (n / 256) below) ∙ omega arith

digits-number : (bs : List ℕ) → IsBytes bs → digits (length bs) (number_of bs) ≡ bs
digits-number [] small = refl
digits-number (b ∷ bs) small =
    let lt : b < 256 = small 0 in
    let low : (b + number_of bs * 256) % 256 ≡ b = omega arith in
    let high : (b + number_of bs * 256) / 256 ≡ number_of bs = omega arith in
    let rest : digits (length bs) ((b + number_of bs * 256) / 256) ≡ bs = ap (digits (length bs)) high ∙ digits-number bs (λ i. small (suc i)) in
    λ i. low i ∷ rest i

number_below : (bs : List ℕ) → IsBytes bs → number_of bs < 256 ^ length bs
number_below [] small = omega arith
number_below (b ∷ bs) small =
    let lt : b < 256 = small 0 in
    let rest : number_of bs < 256 ^ length bs = number_below bs (λ i. small (suc i)) in
    omega (arith, pow-suc 256 (length bs))

length-digits : (k n : ℕ) → length (digits k n) ≡ k
length-digits zero n = refl
length-digits (suc k) n = ap suc (length-digits k (n / 256))

-- ---- the same as std's words

byte_above : (i n : ℕ) → byte_at (suc i) n ≡ byte_at i (n / 256)
byte_above zero n = refl
byte_above (suc i) n = ap (λ m. n / m % 256) (pow-suc 256 (suc i) ∙ mul_comm (256 ^ suc i) 256) ∙ ap (λ m. m % 256) (sym (div-div-eq-div-mul n 256 (256 ^ suc i)))

shifted : (i k n : ℕ) → bytes_low_first (suc i) k n ≡ bytes_low_first i k (n / 256)
shifted i zero n = refl
shifted i (suc k) n = λ j. byte_above i n j ∷ shifted (suc i) k n j

low_first : (k n : ℕ) → bytes_low_first 0 k n ≡ digits k n
low_first zero n = refl
low_first (suc k) n = ap (λ bs. n % 256 ∷ bs) (shifted 0 k n ∙ low_first k (n / 256))

worth_above : (i b : ℕ) → byte_worth (suc i) b ≡ byte_worth i b * 256
worth_above zero b = refl
worth_above (suc i) b = ap (λ m. b * m) (pow-suc 256 (suc i)) ∙ sym (mul_assoc b (256 ^ suc i) 256)

sum_front : (f : ℕ → ℕ) (k : ℕ) → sum_through f (suc k) ≡ f 0 + sum_through (λ i. f (suc i)) k
sum_front f zero = refl
sum_front f (suc k) = ap (λ m. m + f (suc (suc k))) (sum_front f k) ∙ add_assoc (f 0) (sum_through (λ i. f (suc i)) k) (f (suc (suc k)))

sum_times : (f g : ℕ → ℕ) (k : ℕ) → ((i : ℕ) → g i ≡ f i * 256) → sum_through g k ≡ sum_through f k * 256
sum_times f g zero h = h 0
sum_times f g (suc k) h = omega (arith, sum_times f g k h, h (suc k))

sum_is : (bs : List ℕ) (k : ℕ) → length bs ≡ suc k → sum_through (λ i. byte_worth i (get_or bs i 0)) k ≡ number_of bs
sum_is [] k len = absurd (omega arith)
sum_is (b ∷ []) zero len = omega arith
sum_is (b ∷ c ∷ bs) zero len = absurd (omega arith)
sum_is (b ∷ bs) (suc k) len =
    let rest = sum_is bs k (omega arith) in
    let times = sum_times (λ i. byte_worth i (get_or bs i 0)) (λ i. byte_worth (suc i) (get_or bs i 0)) k (λ i. worth_above i (get_or bs i 0)) in
    sum_front (λ i. byte_worth i (get_or (b ∷ bs) i 0)) k ∙ ap (λ m. b + m) (times ∙ ap (λ m. m * 256) rest)

-- two parts
number-append : (xs ys : List ℕ) → number_of (xs ++ ys) ≡ number_of xs + number_of ys * 256 ^ length xs
number-append [] ys = omega arith
number-append (x ∷ xs) ys =
    omega (arith, number-append xs ys, ap (λ m. number_of ys * m) (pow-suc 256 (length xs)), mul_assoc (number_of ys) (256 ^ length xs) 256)

-- ---- numbers of a width

from_is : (w : Width) (k : ℕ) → byte_len w ≡ suc k → (bs : List ℕ) → length bs ≡ suc k → from_le_bytes w bs ≡ number_of bs
from_is w k size bs len =
    let last : byte_len w - 1 ≡ k = omega arith in
    ap (sum_through (λ i. byte_worth i (get_or bs i 0))) last ∙ sum_is bs k len

pub two_words : (bs low high : List ℕ) → bs ≡ low ++ high → length low ≡ 8 → length high ≡ 8 → length bs ≡ 16
    → from_le_bytes w128 bs ≡ from_le_bytes w64 low + from_le_bytes w64 high * 2 ^ 64
two_words bs low high is low_len high_len len =
    from_is w128 15 refl bs len ∙ ap number_of is ∙ number-append low high
    ∙ (λ i. sym (from_is w64 7 refl low low_len) i + sym (from_is w64 7 refl high high_len) i * 256 ^ low_len i)

pub record IsWide (w : Width) (limit : ℕ) : Type 0 where
  pub len : (n : ℕ) → length (to_le_bytes w n) ≡ byte_len w
  pub back : (bytes : List ℕ) → length bytes ≡ byte_len w → IsBytes bytes → to_le_bytes w (from_le_bytes w bytes) ≡ bytes
  pub again : (n : ℕ) → n < limit → from_le_bytes w (to_le_bytes w n) ≡ n
  pub below : (bytes : List ℕ) → length bytes ≡ byte_len w → IsBytes bytes → from_le_bytes w bytes < limit

pub wide : (w : Width) (k : ℕ) → byte_len w ≡ suc k → IsWide w (256 ^ suc k)
wide w k size =
    let last : byte_len w - 1 ≡ k = omega arith in
    let to : (n : ℕ) → to_le_bytes w n ≡ digits (suc k) n = λ n. low_first (byte_len w) n ∙ ap (λ m. digits m n) size in
    let from : (bs : List ℕ) → length bs ≡ suc k → from_le_bytes w bs ≡ number_of bs = λ bs l. ap (sum_through (λ i. byte_worth i (get_or bs i 0))) last ∙ sum_is bs k l in
    record {
      len = λ n. ap length (to n) ∙ length-digits (suc k) n ∙ sym size;
      back = λ bs l small. ap (to_le_bytes w) (from bs (l ∙ size)) ∙ to (number_of bs) ∙ ap (λ m. digits m (number_of bs)) (sym (l ∙ size)) ∙ digits-number bs small;
      again = λ n lt. ap (from_le_bytes w) (to n) ∙ from (digits (suc k) n) (length-digits (suc k) n) ∙ number-digits (suc k) n lt;
      below = λ bs l small. subst (λ m. m < 256 ^ suc k) (sym (from bs (l ∙ size))) (subst (λ m. number_of bs < 256 ^ m) (l ∙ size) (number_below bs small));
    }
