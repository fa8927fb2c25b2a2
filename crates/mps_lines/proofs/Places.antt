-- What digits by their places say of the number that they spell.
use Rattle.std.proofs.Common.{◌≡◌, ℕ, zero, suc, ◌+◌, ◌-◌, ◌*◌, ◌^◌, ◌<◌, ◌≤◌, Bool, true, false, ◌==◌, ◌||◌, not, nat_le, List, [], ◌∷◌, ◌++◌, length, refl, sym, ap, ◌∙◌, subst, arith, ◌⊎◌, inl, inr, add-one, take, drop, cond, get_or}
use Rattle.std.proofs.lemmas.Bool.Decides.{nat_tests}
use Rattle.std.proofs.lemmas.Nat.{pow-add}
use Rattle.std.proofs.lemmas.Grind.{pow_more}
use Rattle.std.proofs.Math.Nat.{pow-le-pow_right, one-le-pow, mul-pos, mul-le-mul_right, lt_of_mul-lt-mul_right, mul-lt-mul_of_pos_right}
use Rattle.std.proofs.lemmas.Int.Digits.{digits_value-lt, digits_value_more}
use Rattle.std.proofs.lemmas.Bool.{cases_lt, le-leb, lt-leb, and_parts}
use Rattle.std.specs.Bool.{MatchBool}
use Rattle.std.specs.List.{list_all, take_while, prefix_len}
use Rattle.std.specs.Char.{digit_value}
use Rattle.std.specs.Str.Parse.{digits_value, digits_value_after, AllDigits}
use Rattle.std.proofs.Math.Seq.{drop-nil}
use Rattle.std.proofs.lemmas.List.Sums.{take_while-cons}
use Rattle.std.proofs.lemmas.List.Folds.{list_all_at, list_all-append}
use Rattle.mps_lines.specs.Decimals.{is_digit, capped}
use Rattle.mps_lines.specs.Weights.{weighed, with_digit}
use Rattle.mps_lines.specs.declared.decimals.Sum.{Sum}

pub pow-suc : (n k : ℕ) → n ^ suc k ≡ n ^ k * n
pow-suc n k = ap (λ m. n ^ m) (sym (add-one k)) ∙ pow_more n k

added : (n d w a b z v : ℕ) → a ≡ (n * 10 + d) * w + z → b ≡ (0 * 10 + d) * w + z → v ≡ w * 10 → a ≡ n * v + b
added n d w a b z v e f g = rw (e, f, g) (omega arith)

after_is : (n : ℕ) (cs : List ℕ) → digits_value_after 10 n cs ≡ n * 10 ^ length cs + digits_value_after 10 0 cs
after_is n [] = omega arith
after_is n (c ∷ cs) =
    added n (digit_value c) (10 ^ length cs) _ _ _ (10 ^ suc (length cs)) (after_is (n * 10 + digit_value c) cs) (after_is (0 * 10 + digit_value c) cs) (pow-suc 10 (length cs))

pub value-cons : (c : ℕ) (cs : List ℕ) → digits_value 10 (c ∷ cs) ≡ digit_value c * 10 ^ length cs + digits_value 10 cs
value-cons c cs = after_is (0 * 10 + digit_value c) cs ∙ omega arith

pub digit_is : (c : ℕ) → is_digit c ≡ true → (48 ≤ c) × (c ≤ 57) × (digit_value c ≡ c - 48)
digit_is c h = grind (arith, nat_tests)

-- what stands at places above, at and below those of the middle
pub record Parts (n p : ℕ) (s : Sum) : Type 0 where
  pub high : ℕ
  pub low : ℕ
  pub is : n ≡ high * (p * 10 ^ 25) + s.middle * p + low
  pub middle : s.middle < 10 ^ 25
  pub below : low < p
  pub is_high : MatchBool s.high (0 < high) (high ≡ 0)
  pub is_low : MatchBool s.low (0 < low) (low ≡ 0)

or_match : (a b : Bool) (m n : ℕ) → MatchBool a (0 < m) (m ≡ 0) → MatchBool b (0 < n) (n ≡ 0) → MatchBool (a || b) (0 < m + n) (m + n ≡ 0)
or_match true true m n h k = omega arith
or_match true false m n h k = omega arith
or_match false true m n h k = omega arith
or_match false false m n h k = omega arith

times_match : (b : Bool) (n q : ℕ) → 0 < q → MatchBool b (0 < n) (n ≡ 0) → MatchBool b (0 < n * q) (n * q ≡ 0)
times_match true n q p h = mul-pos h p
times_match false n q p h = rw h (omega arith)

digit_match : (c : ℕ) → 48 ≤ c → MatchBool (not (c == 48)) (0 < c - 48) (c - 48 ≡ 0)
digit_match c h = grind (arith, nat_tests)

lt_of_mul : (m r p : ℕ) → m * p < r * p → m < r
lt_of_mul m r p h = lt_of_mul-lt-mul_right p h

step_high : (n p d q : ℕ) (s : Sum) (t : Bool) → 0 < q → MatchBool t (0 < d) (d ≡ 0) → Parts n p s
    → Parts (d * (q * (p * 10 ^ 25)) + n) p (record { high = s.high || t; middle = s.middle; low = s.low })
step_high n p d q s t hq ht h = record {
  high = h.high + d * q;
  low = h.low;
  is = let e = h.is in omega arith;
  middle = h.middle;
  below = h.below;
  is_high = or_match s.high t h.high (d * q) h.is_high (times_match t d q hq ht);
  is_low = h.is_low;
}

-- n is below p: it is all low
record Low (n : ℕ) (p : ℕ) (s : Sum) (h : Parts n p s) : Type 0 where
  none : h.high ≡ 0
  rest : s.middle < 1
  all : n ≡ h.low

-- below r * p, where r is at most 10^25, nothing is high
nothing_high : (n p r h m l : ℕ) → 0 < p → n < r * p → r ≤ 10 ^ 25 → n ≡ h * (p * 10 ^ 25) + m * p + l → (h ≡ 0) × (m < r)
nothing_high n p r zero m l hp hn hr e = (refl, lt_of_mul m r p (omega arith))
nothing_high n p r (suc h) m l hp hn hr e =
    let k : r * p ≤ 10 ^ 25 * p = mul-le-mul_right p hr in
    let j : zero ≤ h * (p * 10 ^ 25) = omega arith in
    absurd (omega arith)

step_middle : (n p d r : ℕ) (s : Sum) → 0 < p → d ≤ 9 → r * 10 ≤ 10 ^ 25 → n < r * p → Parts n p s
    → Parts (d * (r * p) + n) p (record { high = s.high; middle = s.middle + d * r; low = s.low })
step_middle n p d r s hp hd hr hn h =
    let k : (h.high ≡ 0) × (s.middle < r) = nothing_high n p r h.high s.middle h.low hp hn (omega arith) h.is in
    let e : d * r ≤ 9 * r = mul-le-mul_right r hd in
    record {
      high = h.high;
      low = h.low;
      is = let e = h.is in omega arith;
      middle = omega arith;
      below = h.below;
      is_high = h.is_high;
      is_low = h.is_low;
    }

step_low : (n p d w : ℕ) (s : Sum) (t : Bool) → d ≤ 9 → 0 < w → w * 10 ≤ p → n < w → MatchBool t (0 < d) (d ≡ 0) → Parts n p s
    → Parts (d * w + n) p (record { high = s.high; middle = s.middle; low = s.low || t })
step_low n p d w s t hd hw hp hn ht h =
    let k : (h.high ≡ 0) × (s.middle < 1) = nothing_high n p 1 h.high s.middle h.low (omega arith) (omega arith) (omega arith) h.is in
    let e : d * w ≤ 9 * w = mul-le-mul_right w hd in
    let m : s.middle ≡ 0 = omega arith in
    let all : n ≡ h.low = h.is ∙ (rw (k.0, m) (omega arith)) in
    record {
      high = h.high;
      low = h.low + d * w;
      is = rw (k.0, m) (omega arith);
      middle = h.middle;
      below = omega arith;
      is_high = h.is_high;
      is_low = or_match s.low t h.low (d * w) h.is_low (times_match t d w hw ht);
    }

lt-leb_false : (a b : ℕ) → b < a → nat_le a b ≡ false
lt-leb_false a b h = grind (arith, nat_tests)

power_parts : (i j k : ℕ) → i + j ≡ k → 10 ^ k ≡ 10 ^ i * 10 ^ j
power_parts i j k e = ap (λ n. 10 ^ n) (sym e) ∙ pow-add 10 i j

at_high : (n unit at c : ℕ) (s : Sum) → is_digit c ≡ true → n < 10 ^ at → Parts n (10 ^ unit) s → unit + 25 ≤ at
    → Parts ((c - 48) * 10 ^ at + n) (10 ^ unit) (with_digit unit at c s)
at_high n unit at c s hc hn h k =
    let d = digit_is c hc in
    let e : 10 ^ at ≡ 10 ^ (at - (unit + 25)) * (10 ^ unit * 10 ^ 25) = power_parts (at - (unit + 25)) (unit + 25) at (omega arith) ∙ ap (λ n. 10 ^ (at - (unit + 25)) * n) (pow-add 10 unit 25) in
    rw (le-leb (unit + 25) at k) (subst (λ w. Parts ((c - 48) * w + n) (10 ^ unit) (record { high = s.high || not (c == 48); middle = s.middle; low = s.low })) (sym e)
    (step_high n (10 ^ unit) (c - 48) (10 ^ (at - (unit + 25))) s (not (c == 48)) (one-le-pow _ 10 (omega arith)) (digit_match c d.0) h))

at_middle : (n unit at c : ℕ) (s : Sum) → is_digit c ≡ true → n < 10 ^ at → Parts n (10 ^ unit) s → at < unit + 25 → unit ≤ at
    → Parts ((c - 48) * 10 ^ at + n) (10 ^ unit) (with_digit unit at c s)
at_middle n unit at c s hc hn h k j =
    let d = digit_is c hc in
    let e : 10 ^ at ≡ 10 ^ (at - unit) * 10 ^ unit = power_parts (at - unit) unit at (omega arith) in
    let b : 10 ^ (at - unit) ≤ 10 ^ 24 = pow-le-pow_right {n = 10} (omega arith) {i = at - unit} {j = 24} (omega arith) in
    rw (lt-leb_false (unit + 25) at k, le-leb unit at j) (subst (λ w. Parts ((c - 48) * w + n) (10 ^ unit) (record { high = s.high; middle = s.middle + (c - 48) * 10 ^ (at - unit); low = s.low })) (sym e)
    (step_middle n (10 ^ unit) (c - 48) (10 ^ (at - unit)) s (one-le-pow _ 10 (omega arith)) (omega arith) (omega arith) (omega arith) h))

at_low : (n unit at c : ℕ) (s : Sum) → is_digit c ≡ true → n < 10 ^ at → Parts n (10 ^ unit) s → at < unit
    → Parts ((c - 48) * 10 ^ at + n) (10 ^ unit) (with_digit unit at c s)
at_low n unit at c s hc hn h k =
    let d = digit_is c hc in
    let j : at < unit + 25 = omega arith in
    let e : 10 ^ unit ≡ 10 ^ (unit - suc at) * 10 ^ suc at = power_parts (unit - suc at) (suc at) unit (omega arith) in
    let b : 1 ≤ 10 ^ (unit - suc at) = one-le-pow _ 10 (omega arith) in
    let m : 1 * 10 ^ suc at ≤ 10 ^ (unit - suc at) * 10 ^ suc at = mul-le-mul_right (10 ^ suc at) b in
    let q : 10 ^ suc at ≡ 10 ^ at * 10 = pow-suc 10 at in
    rw (lt-leb_false (unit + 25) at j, lt-leb_false unit at k)
    (step_low n (10 ^ unit) (c - 48) (10 ^ at) s (not (c == 48)) (omega arith) (one-le-pow _ 10 (omega arith)) (omega arith) hn (digit_match c d.0) h)

placed : (n unit at c : ℕ) (s : Sum) → is_digit c ≡ true → n < 10 ^ at → Parts n (10 ^ unit) s → (at < unit + 25) ⊎ (unit + 25 ≤ at) → (at < unit) ⊎ (unit ≤ at)
    → Parts ((c - 48) * 10 ^ at + n) (10 ^ unit) (with_digit unit at c s)
placed n unit at c s hc hn h (inr k) j = at_high n unit at c s hc hn h k
placed n unit at c s hc hn h (inl k) (inr j) = at_middle n unit at c s hc hn h k j
placed n unit at c s hc hn h (inl k) (inl j) = at_low n unit at c s hc hn h j

pub step : (n unit at c : ℕ) (s : Sum) → is_digit c ≡ true → n < 10 ^ at → Parts n (10 ^ unit) s
    → Parts (digit_value c * 10 ^ at + n) (10 ^ unit) (with_digit unit at c s)
step n unit at c s hc hn h = rw ((digit_is c hc).2) (placed n unit at c s hc hn h (cases_lt at (unit + 25)) (cases_lt at unit))

pub all_digits : (cs : List ℕ) → list_all is_digit cs ≡ true → AllDigits 10 cs
all_digits [] h = tt
all_digits (c ∷ cs) h =
    let k = and_parts _ _ h in
    let d = digit_is c k.0 in
    (rw (d.2) (omega arith), all_digits cs k.1)

grown : (d l a v w u : ℕ) → w ≡ l * a → u ≡ d * l + v → d * w + v * a ≡ u * a
grown d l a v w u e f = rw (e, f) (omega arith)

pub parts : (unit at : ℕ) (cs : List ℕ) → list_all is_digit cs ≡ true → Parts (digits_value 10 cs * 10 ^ at) (10 ^ unit) (weighed unit at cs)
parts unit at [] h = record { high = 0; low = 0; is = omega arith; middle = omega arith; below = one-le-pow unit 10 (omega arith); is_high = refl; is_low = refl }
parts unit at (c ∷ cs) h =
    let k = and_parts _ _ h in
    let v : digits_value 10 cs < 10 ^ length cs = digits_value-lt 10 cs (all_digits cs k.1) in
    let e : 10 ^ (at + length cs) ≡ 10 ^ length cs * 10 ^ at = power_parts (length cs) at (at + length cs) (omega arith) in
    let small : digits_value 10 cs * 10 ^ at < 10 ^ (at + length cs) = rw e (mul-lt-mul_of_pos_right v (one-le-pow at 10 (omega arith))) in
    subst (λ n. Parts n (10 ^ unit) (with_digit unit (at + length cs) c (weighed unit at cs)))
    (grown (digit_value c) (10 ^ length cs) (10 ^ at) (digits_value 10 cs) (10 ^ (at + length cs)) (digits_value 10 (c ∷ cs)) e (value-cons c cs))
    (step (digits_value 10 cs * 10 ^ at) unit (at + length cs) c (weighed unit at cs) k.0 small (parts unit at cs k.1))

pub power_small : (e : ℕ) → e < 25 → 10 ^ e ≤ 10 ^ 24
power_small e h = pow-le-pow_right {n = 10} (omega arith) {i = e} {j = 24} (omega arith)

-- `w` comes first, so that a call shows it
pub digit_times : (c w : ℕ) → is_digit c ≡ true → w ≤ 10 ^ 24 → (c - 48) * w ≤ 9 * 10 ^ 24
digit_times c w h k =
    let d = digit_is c h in
    let e : (c - 48) * w ≤ 9 * w = mul-le-mul_right w (omega arith) in
    omega arith

list_all-drop : (p : ℕ → Bool) (xs : List ℕ) (i : ℕ) → list_all p xs ≡ true → list_all p (drop i xs) ≡ true
list_all-drop p [] i h = rw drop-nil refl
list_all-drop p (x ∷ xs) zero h = h
list_all-drop p (x ∷ xs) (suc i) h = list_all-drop p xs i (and_parts _ _ h).1

prefix_by : (p : ℕ → Bool) (x : ℕ) (ys : List ℕ) (b : Bool) → p x ≡ b → list_all p ys ≡ true → list_all p (cond b (x ∷ ys) []) ≡ true
prefix_by p x ys true e h = rw (e, h) refl
prefix_by p x ys false e h = refl

pub list_all_prefix : (p : ℕ → Bool) (xs : List ℕ) → list_all p (take (prefix_len p xs) xs) ≡ true
list_all_prefix p [] = refl
list_all_prefix p (x ∷ xs) = rw (take_while-cons p x xs) (prefix_by p x (take_while p xs) (p x) refl (list_all_prefix p xs))

-- the digits from a place on never fill the middle
pub tail_small : (unit at : ℕ) (part : List ℕ) (i : ℕ) (s : Sum) → list_all is_digit part ≡ true → s ≡ weighed unit at (drop i part) → s.middle < 10 ^ 25
tail_small unit at part i s h e = rw e ((parts unit at (drop i part) (list_all-drop is_digit part i h)).middle)

pub both_small : (unit at : ℕ) (whole part : List ℕ) (i : ℕ) (s : Sum) → list_all is_digit whole ≡ true → list_all is_digit part ≡ true → s ≡ weighed unit at (drop i whole ++ part) → s.middle < 10 ^ 25
both_small unit at whole part i s h k e =
    rw e ((parts unit at (drop i whole ++ part) (rw (list_all-append is_digit (drop i whole) part, list_all-drop is_digit whole i h, k) refl)).middle)

capped_by : (v d : ℕ) → (v < 2 ^ 100) ⊎ (2 ^ 100 ≤ v) → capped (capped v * 10 + d) ≡ capped (v * 10 + d)
capped_by v d (inl h) = let e : capped v ≡ v = rw (lt-leb (2 ^ 100) v h) refl in ap (λ n. capped (n * 10 + d)) e
capped_by v d (inr h) =
    let e : capped v ≡ 2 ^ 100 = rw (le-leb (2 ^ 100) v h) refl in
    let a : capped (2 ^ 100 * 10 + d) ≡ 2 ^ 100 = rw (le-leb (2 ^ 100) (2 ^ 100 * 10 + d) (omega arith)) refl in
    let b : capped (v * 10 + d) ≡ 2 ^ 100 = rw (le-leb (2 ^ 100) (v * 10 + d) (omega arith)) refl in
    ap (λ n. capped (n * 10 + d)) e ∙ a ∙ sym b

digit_at : (digits : List ℕ) (i : ℕ) → i < length digits → list_all is_digit digits ≡ true → is_digit (get_or digits i 0) ≡ true
digit_at digits i h k = digit_by (is_digit (get_or digits i 0)) refl where
  digit_by : (b : Bool) → is_digit (get_or digits i 0) ≡ b → b ≡ true
  digit_by true e = refl
  digit_by false e = sym (list_all_at is_digit digits i 0 h e) ∙ k

-- one more digit after the cap
pub capped_more : (digits : List ℕ) (i n c m : ℕ) → i < length digits → list_all is_digit digits ≡ true → n ≡ capped (digits_value 10 (take i digits)) → c ≡ get_or digits i 0 → m ≡ capped (n * 10 + (c - 48))
    → m ≡ capped (digits_value 10 (take (i + 1) digits))
capped_more digits i n c m hi hd hn hc hm =
    let k : is_digit (get_or digits i 0) ≡ true = digit_at digits i hi hd in
    hm ∙ ap (λ x. capped (x * 10 + (c - 48))) hn ∙ capped_by (digits_value 10 (take i digits)) (c - 48) (cases_lt _ _)
    ∙ ap capped (ap (λ x. digits_value 10 (take i digits) * 10 + x) (ap (λ x. x - 48) hc ∙ sym (digit_is _ k).2) ∙ sym (digits_value_more 10 digits i hi))
