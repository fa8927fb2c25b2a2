-- Lemmas: sizes from 10^20 on, by the digits.
use Rattle.std.specs.Prelude.{◌≡◌, ℕ, suc, ◌+◌, ◌-◌, ◌*◌, ◌^◌, ◌<◌, ◌≤◌, Bool, true, false, ◌==◌, ◌&&◌, nat_lt, nat_le, if◌then◌else◌, cond, List, [], ◌∷◌, ◌++◌, length, ◌⊎◌, Option, Some, None}
use Rattle.std.specs.List.{list_all}
use Rattle.std.specs.Char.{digit_value}
use Rattle.std.specs.Option.{option_map}
use Rattle.std.specs.Str.Parse.{digits_value}
use Rattle.std.proofs.Common.{refl, sym, ap, ◌∙◌, arith, subst, inl, inr, length-append}
use Rattle.std.proofs.lemmas.Bool.{cases_lt, le-leb, lt-leb, and_parts}
use Rattle.std.proofs.lemmas.Int.Digits.{digits_value-lt}
use Rattle.std.proofs.lemmas.Nat.{pow-add}
use Rattle.std.proofs.Math.Nat.{pow-le-pow_right, one-le-pow, mul-le-mul_right, mul-lt-mul_of_pos_right}
use Rattle.mps_lines.specs.Decimals.{Spelt, is_digit, capped, spelt_of, sign_at, front_digits, behind_digits, point_at, exponent_at, spelling, unsigned_spelling}
use Rattle.mps_lines.proofs.Amounts.{capped_cases, joined}
use Rattle.mps_lines.proofs.Places.{value-cons, digit_is, all_digits}
use Rattle.mps_lines.specs.Infinities.{is_vast, vast}
use Rattle.mps_lines.specs.Vast.{significant, all_significant, vast_above, vast_below}

-- which power of ten a number with that many digits has reached
data Sized (n s : ℕ) : Type 0 where
  none : n ≡ 0 → s ≡ 0 → Sized n s
  some : (k : ℕ) → s ≡ suc k → 10 ^ k ≤ n → n < 10 ^ suc k → Sized n s

leading_zero : (c : ℕ) → (c == 48) ≡ true → c ≡ 48
leading_zero c h = grind arith

leading_digit : (c : ℕ) → (c == 48) ≡ false → 48 ≤ c → 1 ≤ c - 48
leading_digit c h l = grind arith

sized : (cs : List ℕ) → list_all is_digit cs ≡ true → Sized (digits_value 10 cs) (significant cs)
sized [] h = none refl refl
sized (c ∷ cs) h = by (sized cs parts.1) (c == 48) refl
  where
    parts : (is_digit c ≡ true) × (list_all is_digit cs ≡ true)
    parts = and_parts (is_digit c) (list_all is_digit cs) h

    by : Sized (digits_value 10 cs) (significant cs) → (b : Bool) → (c == 48) ≡ b → Sized (digits_value 10 (c ∷ cs)) (cond b (significant cs) (suc (length cs)))
    by rest true e =
        let d = digit_is c parts.0 in
        let z : c ≡ 48 = leading_zero c e in
        let v : digits_value 10 (c ∷ cs) ≡ digits_value 10 cs = value-cons c cs ∙ ap (λ n. n * 10 ^ length cs + digits_value 10 cs) (d.2 ∙ ap (λ n. n - 48) z) ∙ omega arith in
        subst (λ n. Sized n (significant cs)) (sym v) rest
    by rest false e =
        let d = digit_is c parts.0 in
        let one : 1 ≤ digit_value c = omega (arith, leading_digit c e d.0) in
        let v = value-cons c cs in
        let m : 1 * 10 ^ length cs ≤ digit_value c * 10 ^ length cs = mul-le-mul_right (10 ^ length cs) one in
        some (length cs) refl (omega arith) (digits_value-lt 10 (c ∷ cs) (all_digits (c ∷ cs) h))

module _ (n s up down : ℕ) where
  abbrev Vast_is : Type 0
  Vast_is = nat_le (10 ^ 20 * 10 ^ down) (n * 10 ^ up) ≡ (nat_lt 0 s && nat_le (21 + down) (s + up))

  lowest : 10 ^ (20 + down) ≡ 10 ^ 20 * 10 ^ down
  lowest = pow-add 10 20 down

  reached : (k : ℕ) → s ≡ suc k → 10 ^ k ≤ n → 21 + down ≤ s + up → Vast_is
  reached k e l h =
      let a : 10 ^ (20 + down) ≤ 10 ^ (k + up) = pow-le-pow_right {n = 10} (omega arith) {i = 20 + down} {j = k + up} (omega arith) in
      let b : 10 ^ (k + up) ≡ 10 ^ k * 10 ^ up = pow-add 10 k up in
      let c : 10 ^ k * 10 ^ up ≤ n * 10 ^ up = mul-le-mul_right (10 ^ up) l in
      let q : 10 ^ 20 * 10 ^ down ≤ n * 10 ^ up = omega (arith, lowest) in
      let z : nat_lt 0 s ≡ true = grind arith in
      le-leb _ _ q ∙ sym (λ i. z i && le-leb _ _ h i)

  missed : (k : ℕ) → s ≡ suc k → n < 10 ^ suc k → s + up < 21 + down → Vast_is
  missed k e l h =
      let a : 10 ^ (suc k + up) ≤ 10 ^ (20 + down) = pow-le-pow_right {n = 10} (omega arith) {i = suc k + up} {j = 20 + down} (omega arith) in
      let b : 10 ^ (suc k + up) ≡ 10 ^ suc k * 10 ^ up = pow-add 10 (suc k) up in
      let c : n * 10 ^ up < 10 ^ suc k * 10 ^ up = mul-lt-mul_of_pos_right l (one-le-pow up 10 (omega arith)) in
      let q : n * 10 ^ up < 10 ^ 20 * 10 ^ down = omega (arith, lowest) in
      let z : nat_lt 0 s ≡ true = grind arith in
      lt-leb _ _ q ∙ sym (λ i. z i && lt-leb _ _ h i)

  nothing : n ≡ 0 → s ≡ 0 → Vast_is
  nothing e f =
      let a : 1 ≤ 10 ^ down = one-le-pow down 10 (omega arith) in
      let m : n * 10 ^ up ≡ 0 = ap (λ n. n * 10 ^ up) e ∙ omega arith in
      let q : n * 10 ^ up < 10 ^ 20 * 10 ^ down = omega arith in
      let z : nat_lt 0 s ≡ false = grind arith in
      lt-leb _ _ q ∙ sym (λ i. z i && nat_le (21 + down) (s + up))

  vast_by : Sized n s → Vast_is
  vast_by (none e f) = nothing e f
  vast_by (some k e l u) = by (cases_lt (s + up) (21 + down))
    where
      by : (s + up < 21 + down) ⊎ (21 + down ≤ s + up) → Vast_is
      by (inl h) = missed k e u h
      by (inr h) = reached k e l h

next : (a b : ℕ) → suc (a + b) ≡ suc a + b
next a b = omega arith

pub significant-append : (whole part : List ℕ) → significant (whole ++ part) ≡ all_significant (significant whole) part
significant-append [] part = refl
significant-append (c ∷ whole) part = by (c == 48) (significant-append whole part)
  where
    by : (b : Bool) → significant (whole ++ part) ≡ all_significant (significant whole) part
        → cond b (significant (whole ++ part)) (suc (length (whole ++ part))) ≡ all_significant (cond b (significant whole) (suc (length whole))) part
    by true h = h
    by false h =
        let z : (suc (length whole) == 0) ≡ false = grind arith in
        ap (λ n. suc n) (length-append whole part) ∙ next (length whole) (length part) ∙ sym (ap (λ (c : Bool). cond c (significant part) (suc (length whole) + length part)) z)

module _ (negative : Bool) (whole part : List ℕ) (p q : ℕ) (hw : list_all is_digit whole ≡ true) (hp : list_all is_digit part ≡ true) (e : q ≡ capped p) where
  pub count : significant (whole ++ part) ≡ all_significant (significant whole) part
  count = significant-append whole part

  above_by : (s : ℕ) → length part < 2 ^ 64 → (p ≡ q) ⊎ ((2 ^ 100 ≤ p) × (2 ^ 100 ≤ q)) → (nat_lt 0 s && nat_le (21 + (length part + 0)) (s + p)) ≡ vast_above s (length part) q
  above_by s l (inl h) = let z : length part + 0 ≡ length part = omega arith in λ i. nat_lt 0 s && nat_le (21 + z i) (s + h i)
  above_by s l (inr h) =
      let a : 21 + (length part + 0) ≤ s + p = omega (arith, h.0) in
      let b : 21 + length part ≤ s + q = omega (arith, h.1) in
      λ i. nat_lt 0 s && (le-leb _ _ a ∙ sym (le-leb _ _ b)) i

  pub vast_above_is : length part < 2 ^ 64 → vast_above (all_significant (significant whole) part) (length part) q ≡ is_vast (spelt_of negative whole part (false, p))
  unfolding is_vast
  vast_above_is l =
      sym (vast_by (digits_value 10 (whole ++ part)) (significant (whole ++ part)) p (length part + 0) (sized (whole ++ part) (joined whole part hw hp))
      ∙ above_by (significant (whole ++ part)) l (capped_cases p q e) ∙ ap (λ s. vast_above s (length part) q) count)

  below_by : (s : ℕ) → s < 2 ^ 66 → (p ≡ q) ⊎ ((2 ^ 100 ≤ p) × (2 ^ 100 ≤ q)) → (nat_lt 0 s && nat_le (21 + (length part + p)) (s + 0)) ≡ vast_below s (length part) q
  below_by s l (inl h) = by (cases_lt s (21 + length part + q))
    where
      by : (s < 21 + length part + q) ⊎ (21 + length part + q ≤ s) → (nat_lt 0 s && nat_le (21 + (length part + p)) (s + 0)) ≡ vast_below s (length part) q
      by (inl k) =
          let a : s + 0 < 21 + (length part + p) = omega (arith, h) in
          and_last (nat_lt 0 s) _ (lt-leb _ _ a) ∙ sym (lt-leb _ _ k)
        where
          and_last : (a b : Bool) → b ≡ false → (a && b) ≡ false
          and_last true b h = h
          and_last false b h = refl
      by (inr k) =
          let a : 21 + (length part + p) ≤ s + 0 = omega (arith, h) in
          let z : nat_lt 0 s ≡ true = grind arith in
          (λ i. z i && le-leb _ _ a i) ∙ sym (le-leb _ _ k)
  below_by s l (inr h) =
      let a : s + 0 < 21 + (length part + p) = omega (arith, h.0) in
      let b : s < 21 + length part + q = omega (arith, h.1) in
      and_last (nat_lt 0 s) _ (lt-leb _ _ a) ∙ sym (lt-leb _ _ b)
    where
      and_last : (a b : Bool) → b ≡ false → (a && b) ≡ false
      and_last true b h = h
      and_last false b h = refl

  pub vast_below_is : all_significant (significant whole) part < 2 ^ 66 → vast_below (all_significant (significant whole) part) (length part) q ≡ is_vast (spelt_of negative whole part (true, p))
  unfolding is_vast
  vast_below_is l =
      let c = count in
      let s : significant (whole ++ part) < 2 ^ 66 = subst (λ n. n < 2 ^ 66) (sym c) l in
      sym (vast_by (digits_value 10 (whole ++ part)) (significant (whole ++ part)) 0 (length part + p) (sized (whole ++ part) (joined whole part hw hp))
      ∙ below_by (significant (whole ++ part)) s (capped_cases p q e) ∙ ap (λ s. vast_below s (length part) q) c)

-- ---- a field by its parts
abbrev spelled : Bool → List ℕ → List ℕ × List ℕ → Option Spelt
spelled negative whole part = if (length whole == 0) && (length part.0 == 0) then None else option_map (spelt_of negative whole part.0) (exponent_at part.1)

vast_by_power : (negative : Bool) (whole part : List ℕ) (power : Bool × ℕ) (o : Option (Bool × ℕ)) (r : Option Bool) → Some power ≡ option_map (λ p. (p.0, capped p.1)) o
    → ((p : Bool × ℕ) → power ≡ (p.0, capped p.1) → r ≡ vast (Some (spelt_of negative whole part p))) → r ≡ vast (option_map (spelt_of negative whole part) o)
vast_by_power negative whole part power None r e f = cc
vast_by_power negative whole part power (Some p) r e f = f p (same power (p.0, capped p.1) e)
  where
    same : (a b : Bool × ℕ) → Some a ≡ Some b → a ≡ b
    same a b e = cc

pub vast_parts : (field rest whole behind part left : List ℕ) (negative : Bool) (power : Bool × ℕ) (r : Option Bool) → (negative, rest) ≡ sign_at field → whole ≡ front_digits rest → behind ≡ behind_digits rest
    → (part, left) ≡ point_at behind → ((length whole == 0) && (length part == 0)) ≡ false → Some power ≡ option_map (λ p. (p.0, capped p.1)) (exponent_at left)
    → ((p : Bool × ℕ) → power ≡ (p.0, capped p.1) → r ≡ vast (Some (spelt_of negative whole part p))) → r ≡ vast (spelling field)
vast_parts field rest whole behind part left negative power r s w b p n x f =
    vast_by_power negative whole part power (exponent_at left) r x f
    ∙ sym (ap vast ((λ i. unsigned_spelling (sym s i).0 (sym s i).1) ∙ (λ i. spelled negative (sym w i) ((ap point_at (sym b) ∙ sym p) i))
    ∙ ap (λ (c : Bool). cond c None (option_map (spelt_of negative whole part) (exponent_at left))) n))
