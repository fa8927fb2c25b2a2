-- The steps of the inner loop.
use Rattle.std.proofs.Common.{◌≡◌, ◌≢◌, ℕ, ◌+◌, ◌-◌, ◌*◌, ◌%◌, ◌^◌, ◌<◌, ◌≤◌, ℤ, pos, to_z, of_z, List, length, set, arith, ap, ◌∙◌, get_or-set_other, get_or-set_same, below_more, sym, subst, inl, inr}
use Rattle.std.specs.Prelude.{nat_abs, neg_ℤ, ◌+ℤ◌, ◌-ℤ◌, ◌*ℤ◌}
use Rattle.std.specs.Int.{w64, w128}
use Rattle.std.proofs.lemmas.Int.{ints, to_z-of_z, fits_signed_from_abs}
use Rattle.std.proofs.lemmas.List.{get_or_past}
use Rattle.std.proofs.lemmas.Bool.{cases_lt}
use Rattle.std.proofs.lemmas.Nat.{le_or_l, le_or_r, or_mod}
use Rattle.std.specs.Int.Bits.{bit_or}
use Rattle.std.proofs.Math.Nat.{mul-le-mul_right}
use lib.IntN.{*ℤ_comm}
use Rattle.fraction.specs.Lemmas.Integers.{neg-mul_ℤ}
use Rattle.integer_tableau.specs.Numbers.{number_at}
use Rattle.integer_tableau.specs.Range.{size_limit}
use Rattle.integer_tableau.specs.Substitution.{IsDifference, IsSubstituted}

pub back64 : (z : ℤ) → nat_abs z < 2 ^ 63 → to_z w64 (of_z w64 z) ≡ z
back64 z h = to_z-of_z w64 z (fits_signed_from_abs w64 z h)

pub back64_within : (z : ℤ) → nat_abs z ≤ size_limit - 1 → to_z w64 (of_z w64 z) ≡ z
back64_within z h = back64 z (omega arith)

pub difference_is : (x y p q : ℤ) → nat_abs x ≤ 2 ^ 125 → nat_abs y ≤ 2 ^ 125 → x ≡ p → y ≡ q
    → to_z w128 (of_z w128 (to_z w128 (of_z w128 x) -ℤ to_z w128 (of_z w128 y))) ≡ p -ℤ q
difference_is x y p q h k e f = omega (arith, ints)

abbrev IsDifferenceAt : ℤ → ℤ → ℤ → List ℤ → List ℤ → List ℤ → ℕ → Type 0
IsDifferenceAt d m q row source new k = number_at new k *ℤ d ≡ number_at source k *ℤ q -ℤ number_at row k *ℤ m

or_zero : (a b : ℕ) → bit_or a b ≡ 0 → (a ≡ 0) × (b ≡ 0)
or_zero a b e = (omega (arith, le_or_l a b, e), omega (arith, le_or_r a b, e))

pub done_more : (new row source : List ℤ) (i : ℕ) (t d e q : ℤ) (off more : ℕ) → i < length new
    → (off ≡ 0 → (k : ℕ) → k < i → IsDifferenceAt d e q row source new k)
    → (more ≡ 0 → t *ℤ d ≡ number_at source i *ℤ q -ℤ number_at row i *ℤ e)
    → bit_or off more ≡ 0 → (k : ℕ) → k < i + 1 → IsDifferenceAt d e q row source (set new i t) k
done_more new row source i t d e q off more l h o a =
    let z = or_zero off more a in
    below_more (IsDifferenceAt d e q row source (set new i t)) i
    (λ k m. let ne : k ≢ i = omega arith in ap (λ z. z *ℤ d) (get_or-set_other new i k t (pos 0) ne) ∙ h z.0 k m)
    (ap (λ z. z *ℤ d) (get_or-set_same new i t (pos 0) l) ∙ o z.1)

pub left_more : (new row : List ℤ) (i : ℕ) (t : ℤ) → ((k : ℕ) → i ≤ k → number_at new k ≡ number_at row k) → (k : ℕ) → i + 1 ≤ k → number_at (set new i t) k ≡ number_at row k
left_more new row i t h k m = let ne : k ≢ i = omega arith in get_or-set_other new i k t (pos 0) ne ∙ h k (omega arith)

pub all_done : (new row source : List ℤ) (d e q : ℤ) → length new ≡ length row → length row ≡ length source
    → ((k : ℕ) → k < length row → IsDifferenceAt d e q row source new k) → (k : ℕ) → IsDifferenceAt d e q row source new k
all_done new row source d e q l m h k = elim (cases_lt k (length row)) [
  | inl p ↦ h k p
  | inr p ↦ past k p
]
  where
    past : (k : ℕ) → length row ≤ k → IsDifferenceAt d e q row source new k
    past k p =
        ap (λ z. z *ℤ d) (get_or_past new k (pos 0) (omega arith)) ∙ zeros d e q
        ∙ sym (λ i. get_or_past source k (pos 0) (omega arith) i *ℤ q -ℤ get_or_past row k (pos 0) p i *ℤ e)
      where
        zeros : (d e q : ℤ) → pos 0 *ℤ d ≡ pos 0 *ℤ q -ℤ pos 0 *ℤ e
        zeros d e q = omega (arith, ints)

-- where m is -e
pub substituted_from : (d d' e m q q' : ℤ) (row source new : List ℤ) → d' ≡ d → m ≡ neg_ℤ e → q' ≡ q → IsDifference d' m q' row source new → IsSubstituted d e q row source new
substituted_from d d' e m q q' row source new p h r t k =
    ap (λ z. number_at new k *ℤ z) (sym p) ∙ t k ∙ (λ i. number_at source k *ℤ r i -ℤ number_at row k *ℤ h i)
    ∙ ap (λ z. number_at source k *ℤ q -ℤ z) (*ℤ_comm (number_at row k) (neg_ℤ e) ∙ neg-mul_ℤ e (number_at row k) ∙ ap neg_ℤ (*ℤ_comm e (number_at row k)))
    ∙ turn (number_at source k *ℤ q) (number_at row k *ℤ e)
  where
    turn : (a b : ℤ) → a -ℤ neg_ℤ b ≡ b +ℤ a
    turn a b = omega (arith, ints)

pub difference_below : (x y : ℤ) → nat_abs x ≤ 2 ^ 125 → nat_abs y ≤ 2 ^ 126 → nat_abs (x -ℤ y) < 2 ^ 127
difference_below x y h k = omega (arith, ints)

pub difference_small : (x y : ℤ) → nat_abs x ≤ 2 ^ 125 → nat_abs y ≤ 2 ^ 125
    → nat_abs (to_z w128 (of_z w128 (to_z w128 (of_z w128 x) -ℤ to_z w128 (of_z w128 y)))) ≤ 2 ^ 126
difference_small x y h k = omega (arith, ints)

pub back_neg : (e : ℤ) → nat_abs e < size_limit → to_z w64 (of_z w64 (pos 0 -ℤ to_z w64 (of_z w64 e))) ≡ neg_ℤ e
back_neg e h = omega (arith, ints)

-- ---- with numbers of 64 bits
abbrev IsSumAt : ℤ → ℤ → ℤ → List ℤ → List ℤ → List ℤ → ℕ → Type 0
IsSumAt d e q row source new k = number_at new k *ℤ d ≡ number_at row k *ℤ e +ℤ number_at source k *ℤ q

-- the numbers below i are substituted, where the raised sums say so; those from i on are still the row's
pub record AreSubstitutedTo (i high limit zeros : ℕ) (d e q : ℤ) (row source new : List ℤ) : Type 0 where
  pub done : high < limit → high % 2 ^ zeros ≡ 0 → (k : ℕ) → k < i → IsSumAt d e q row source new k
  pub left : (k : ℕ) → i ≤ k → number_at new k ≡ number_at row k

-- the number at i is substituted too
pub one_more : (i j high far limit zeros : ℕ) (d e q : ℤ) (row source new after : List ℤ) → j ≡ i + 1 → after ≡ set new i (number_at after i)
    → AreSubstitutedTo i high limit zeros d e q row source new
    → (nat_abs (number_at new i) * nat_abs e + nat_abs (number_at source i) * nat_abs q < 2 ^ 63 → far < limit → far % 2 ^ zeros ≡ 0 → number_at after i *ℤ d ≡ number_at new i *ℤ e +ℤ number_at source i *ℤ q)
    → nat_abs (number_at row i) * nat_abs e + nat_abs (number_at source i) * nat_abs q < 2 ^ 63
    → AreSubstitutedTo j (bit_or high far) limit zeros d e q row source after
one_more i j high far limit zeros d e q row source new after n same before exact fits =
    let still = before.left i (omega arith) in
    let other = λ (k : ℕ) (ne : k ≢ i). ap (λ xs. number_at xs k) same ∙ get_or-set_other new i k (number_at after i) (pos 0) ne in
    record {
      done = λ a b k m.
          let z = or_zero (high % 2 ^ zeros) (far % 2 ^ zeros) (sym (or_mod high far zeros) ∙ b) in
          below_more (IsSumAt d e q row source after) i
          (λ k m. let ne : k ≢ i = omega arith in ap (λ y. y *ℤ d) (other k ne) ∙ before.done (omega (arith, a, le_or_l high far)) z.0 k m)
          (exact (subst (λ y. nat_abs y * nat_abs e + nat_abs (number_at source i) * nat_abs q < 2 ^ 63) (sym still) fits) (omega (arith, a, le_or_r high far)) z.1
          ∙ ap (λ y. y *ℤ e +ℤ number_at source i *ℤ q) still)
          k (omega (arith, m));
      left = λ k m. let ne : k ≢ i = omega arith in other k ne ∙ before.left k (omega arith);
    }

pub all_summed : (new row source : List ℤ) (d e q : ℤ) → length new ≡ length row → length row ≡ length source
    → ((k : ℕ) → k < length row → IsSumAt d e q row source new k) → (k : ℕ) → IsSumAt d e q row source new k
all_summed new row source d e q l m h k = elim (cases_lt k (length row)) [
  | inl p ↦ h k p
  | inr p ↦ past k p
]
  where
    past : (k : ℕ) → length row ≤ k → IsSumAt d e q row source new k
    past k p =
        ap (λ z. z *ℤ d) (get_or_past new k (pos 0) (omega arith)) ∙ zeros d e q
        ∙ sym (λ i. get_or_past row k (pos 0) p i *ℤ e +ℤ get_or_past source k (pos 0) (omega arith) i *ℤ q)
      where
        zeros : (d e q : ℤ) → pos 0 *ℤ d ≡ pos 0 *ℤ e +ℤ pos 0 *ℤ q
        zeros d e q = omega (arith, ints)

pub fits_at : (x e s q : ℤ) (top most : ℕ) → nat_abs x ≤ top → nat_abs s ≤ most → most * nat_abs q + top * nat_abs e < size_limit → nat_abs x * nat_abs e + nat_abs s * nat_abs q < 2 ^ 63
fits_at x e s q top most h k l = omega (arith, l, mul-le-mul_right (nat_abs e) h, mul-le-mul_right (nat_abs q) k)
