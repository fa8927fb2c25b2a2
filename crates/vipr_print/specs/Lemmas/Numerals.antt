-- The bytes that spell a number are those of digits, so a number is a word.
use Rattle.std.specs.Prelude.{◌<◌, ◌≤◌, ◌+◌, ◌==◌, ◌/◌, ◌%◌, ℕ, zero, suc, Bool, true, false, cond, nat_lt, List, [], ◌∷◌, All}
use Rattle.std.specs.Fmt.{decimal, digits, digits_onto, digit_glyph}
use Rattle.std.proofs.Common.{arith}
use Rattle.std.proofs.lemmas.List.Elements.{All-nil, All-cons, All-weaker}
use Rattle.vipr_print.specs.Unique.{IsWord}

-- from `0` on
abbrev AreDigits : List ℕ → Type 0
AreDigits ds = All (λ c. 48 ≤ c) ds

glyph_is_digit : (d : ℕ) → 48 ≤ digit_glyph false d
glyph_is_digit d = by (nat_lt d 10)
  where
    by : (b : Bool) → 48 ≤ cond b (48 + d) (87 + d)
    by true = omega arith
    by false = omega arith

digits_are : (k n : ℕ) (after : List ℕ) → AreDigits after → AreDigits (digits_onto k 10 false n after)
digits_are zero n after h = h
digits_are (suc k) n after h = by (n / 10 == 0) (digits_are k (n / 10) (digit_glyph false (n % 10) ∷ after) more)
  where
    more : AreDigits (digit_glyph false (n % 10) ∷ after)
    more = All-cons (λ c. 48 ≤ c) (digit_glyph false (n % 10)) after (glyph_is_digit (n % 10)) h

    by : (b : Bool) → AreDigits (digits_onto k 10 false (n / 10) (digit_glyph false (n % 10) ∷ after))
        → AreDigits (cond b (digit_glyph false (n % 10) ∷ after) (digits_onto k 10 false (n / 10) (digit_glyph false (n % 10) ∷ after)))
    by true rest = more
    by false rest = rest

-- what holds of each byte from `0` on holds of each that spells a number
pub decimal_all : (P : ℕ → Type 0) → ((c : ℕ) → 48 ≤ c → P c) → (n : ℕ) → All P (decimal n)
unfolding digits
decimal_all P f n = All-weaker (λ c. 48 ≤ c) P f (decimal n) (digits_are 64 n [] (All-nil (λ c. 48 ≤ c)))

pub decimal_word : (n : ℕ) → IsWord (decimal n)
decimal_word n = decimal_all (λ b. 32 < b) (λ c h. omega (arith, h)) n
