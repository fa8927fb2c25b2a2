-- Sums over one common denominator: the fractions that they stand for, and that no step on the way to them is cramped.
use Rattle.std.specs.Prelude.{ℤ, pos, negsuc, ◌+ℤ◌, ◌*ℤ◌, ◌≤ℤ◌, ◌<ℤ◌, nat_abs, nat_lt, if◌then◌else◌, option_map, slice_get, ◌⊎◌}
use Rattle.std.proofs.Common.{◌≡◌, ℕ, ◌+◌, ◌*◌, ◌^◌, ◌<◌, ◌≤◌, arith, refl, ap, sym, ◌∙◌, Bool, true, false, Some, List, [], ◌∷◌, ◌++◌, length, get_or, take, drop, inl, inr}
use Rattle.std.specs.Option.{option_and_then}
use Rattle.std.specs.declared.cmp.Ordering.{Ordering}
use Rattle.std.specs.declared.cmp.Ordering.TheVariants.{Less, Equal, Greater}
use Rattle.std.specs.Ordering.{int_cmp, MatchOrdering}
use Rattle.std.specs.Cmp.{int_cmp_is}
use Rattle.std.proofs.lemmas.Cmp.{int_ranked}
use Rattle.std.proofs.lemmas.Int.{ints, unsigned_abs-mul}
use Rattle.std.proofs.lemmas.Bool.{ltb-true, ltb-false}
use Rattle.std.proofs.lemmas.List.{get_or-map, get_or_past, length-map, map-append, take_more}
use Rattle.std.proofs.lemmas.List.Elements.{All-get_or}
use Rattle.std.proofs.lemmas.Option.{get_or_from_slice_get}
use Rattle.std.proofs.Math.Nat.{mul-le-mul}
use Rattle.std.specs.Int.{w128}
use mir.Val.{SFits}
use Rattle.fraction.specs.Rational.{ℚ, frac, whole, ◌≤ℚ◌}
use Rattle.fraction.specs.Whole.{IsWhole}
use Rattle.fraction.specs.Checked.{compare, add_checked}
use Rattle.fraction.specs.Lemmas.Integers.{diff-mul, diff-pos, diff-same, is_diff}
use Rattle.fraction.specs.Lemmas.Rational.{frac-≤ℚ, ≤ℚ_frac, frac_same, lit_one, ℚ_is}
use Rattle.problem.specs.Linear.{Terms}
use Rattle.problem.specs.Limits.{most_columns}
use Rattle.derivation_book.specs.Sums.{with_product}
use Rattle.derivation_book.specs.Lemmas.OneDenominator.{add_over, times_over}
use Rattle.derivation_book.specs.Lemmas.OptionChains.{next_item}
use Rattle.dual_simplex.specs.Relaxation.{RationalPoint, rational_at}
use Rattle.dual_simplex.specs.PointSums.{checked_sum}
use Rattle.dual_simplex.specs.Sizes.{IsIntegerTo, largest_integer}
use Rattle.dual_simplex.specs.Scaled.{point_over, numerator_at, IsDenominator, AreNumerators, IsSumOver, largest_numerator, largest_factor, largest_product}
use Rattle.dual_simplex.proofs.CommonDenominator.{integer_is}
use Rattle.dual_simplex.proofs.Sparse.{sum_of_terms}

-- ---- numerators
whole_multiple : (n z : ℤ) (k e d : ℕ) → z ≡ n *ℤ pos k → k * e ≡ d → z *ℤ pos e ≡ n *ℤ pos d
whole_multiple n z k e d p q = rw (p, ← q) (rw (is_diff n) (simp (diff-pos, diff-mul) (diff-same _ _ _ _ (omega arith))))

-- a number over a multiple of its own denominator
pub number_over : (q : ℚ) (z : ℤ) (d k : ℕ) → 0 < d → k * q.den ≡ d → z ≡ q.num *ℤ pos k → frac z d ≡ q
number_over q z d k o r e = frac_same z q.num d q.den o q.lowest.0 (whole_multiple q.num z k q.den d e r) ∙ sym (ℚ_is q)

pub numbers_more : (d : ℕ) (zs ys : List ℤ) (x : RationalPoint) (i : ℕ) (z : ℤ) (q : ℚ) → ys ≡ zs ++ z ∷ [] → slice_get x i ≡ Some q → i < length x → frac z d ≡ q
    → point_over d zs ≡ take i x → point_over d ys ≡ take (i + 1) x
numbers_more d zs ys x i z q e g l f h =
    ap (point_over d) e ∙ map-append (λ z. frac z d) zs (z ∷ []) ∙ (λ j. h j ++ (f ∙ sym (get_or_from_slice_get x i q q g)) j ∷ []) ∙ sym (take_more x i q l)

numerator_small : (zs : List ℤ) (j : ℕ) → AreNumerators zs → nat_abs (numerator_at zs j) ≤ largest_numerator
numerator_small zs j h = elim (before_or_past j (length zs)) [
  | inl l ↦ All-get_or (λ z. nat_abs z ≤ largest_numerator) zs j (pos 0) l h
  | inr l ↦ rw (get_or_past zs j (pos 0) l) (omega arith)
]
  where
    before_or_past : (j n : ℕ) → (j < n) ⊎ (n ≤ j)
    before_or_past j n = grind arith

-- ---- a term
pub product_small : (k z : ℤ) → nat_abs k ≤ largest_factor → nat_abs z ≤ largest_numerator → nat_abs (k *ℤ z) ≤ largest_product
product_small k z h l = rw (unsigned_abs-mul k z) (omega (arith, mul-le-mul h l))

pub product_fits : (z : ℤ) → nat_abs z ≤ largest_product → SFits w128 z
product_fits (pos n) h = record { sfits = omega arith }
product_fits (negsuc n) h = record { sfits = omega arith }

zero-product : (k : ℤ) → k *ℤ pos 0 ≡ pos 0
zero-product k = rw (is_diff k) (simp (diff-pos, diff-mul) (diff-same _ _ _ _ (omega arith)))

module _ (d : ℕ) (o : IsDenominator d) where
  pub term_over : (t z : ℤ) (c : ℚ) → nat_abs t ≤ most_columns * largest_product → nat_abs z ≤ largest_numerator → IsIntegerTo largest_factor c → with_product (frac t d) c (frac z d) ≡ Some (frac (t +ℤ c.num *ℤ z) d)
  term_over t z c ht hz hc =
      let small : d < 2 ^ 127 = omega (arith, o.small) in
      let size = product_small c.num z hc.is_small hz in
      ap (λ v. with_product (frac t d) v (frac z d)) (integer_is largest_factor c hc)
      ∙ ap (option_and_then (λ v. add_checked (frac t d) v)) (times_over c.num z d o.positive small (omega (arith, size)))
      ∙ add_over t (c.num *ℤ z) d o.positive small (omega (arith, ht)) (omega (arith, size)) (omega (arith, ints, ht, size))

  -- a sum with a term more, of a column of the point or of another one
  pub more_over : (s : ℤ) (t : ℕ × ℚ) (ts : Terms) (zs : List ℤ) → nat_abs s ≤ most_columns * largest_product → nat_abs (numerator_at zs t.0) ≤ largest_numerator → IsIntegerTo largest_factor t.1
      → sum_of_terms (frac s d) (t ∷ ts) (point_over d zs) ≡ sum_of_terms (frac (s +ℤ t.1.num *ℤ numerator_at zs t.0) d) ts (point_over d zs)
  more_over s t ts zs hs hz ht = at (nat_lt t.0 (length (point_over d zs))) refl
    where
      unchanged : (s k z : ℤ) → z ≡ pos 0 → s ≡ s +ℤ k *ℤ z
      unchanged s k z e = rw e (omega (arith, ints, zero-product k))

      at : (b : Bool) → nat_lt t.0 (length (point_over d zs)) ≡ b
          → (if b then option_and_then (λ u. sum_of_terms u ts (point_over d zs)) (with_product (frac s d) t.1 (rational_at (point_over d zs) t.0)) else sum_of_terms (frac s d) ts (point_over d zs))
          ≡ sum_of_terms (frac (s +ℤ t.1.num *ℤ numerator_at zs t.0) d) ts (point_over d zs)
      at true e =
          let here : t.0 < length zs = omega (arith, ltb-true _ _ e, length-map zs (λ z. frac z d)) in
          ap (λ q. option_and_then (λ u. sum_of_terms u ts (point_over d zs)) (with_product (frac s d) t.1 q)) (get_or-map (λ z. frac z d) zs t.0 (pos 0) (whole (pos 0)) here)
          ∙ ap (option_and_then (λ u. sum_of_terms u ts (point_over d zs))) (term_over s (numerator_at zs t.0) t.1 hs hz ht)
      at false e =
          let past : length zs ≤ t.0 = omega (arith, ltb-false _ _ e, length-map zs (λ z. frac z d)) in
          ap (λ z. sum_of_terms (frac z d) ts (point_over d zs)) (unchanged s t.1.num (numerator_at zs t.0) (get_or_past zs t.0 (pos 0) past))

-- the sum is the same after one term more
pub next_over : (zs : List ℤ) (ts : Terms) (i : ℕ) (t : ℕ × ℚ) (s u : ℤ) → i < length ts → i ≤ most_columns → t ≡ get_or ts i t → nat_abs s ≤ i * largest_product → AreNumerators zs → IsIntegerTo largest_factor t.1
    → u ≡ s +ℤ t.1.num *ℤ numerator_at zs t.0 → (d : ℕ) → IsDenominator d
    → sum_of_terms (frac u d) (drop (i + 1) ts) (point_over d zs) ≡ sum_of_terms (frac s d) (drop i ts) (point_over d zs)
next_over zs ts i t s u l few e hs hz ht f d o =
    ap (λ v. sum_of_terms (frac v d) (drop (i + 1) ts) (point_over d zs)) f
    ∙ sym (more_over d o s t (drop (i + 1) ts) zs (omega (arith, few, hs)) (numerator_small zs t.0 hz) ht)
    ∙ ap (λ us. sum_of_terms (frac s d) us (point_over d zs)) (sym (next_item ts i t l e))

-- ---- comparisons
same_order : (u v p q : ℤ) → (u ≤ℤ v → p ≤ℤ q) → (v ≤ℤ u → q ≤ℤ p) → (p ≤ℤ q → u ≤ℤ v) → (q ≤ℤ p → v ≤ℤ u) → int_cmp p q ≡ int_cmp u v
same_order u v p q f g h k = int_cmp_is u v (int_cmp p q) (at (int_cmp p q) refl)
  where
    at : (r : Ordering) → r ≡ int_cmp p q → MatchOrdering r (u <ℤ v) (u ≡ v) (v <ℤ u)
    at Less e = let l = int_ranked p q Less e in grind (arith, ints)
    at Equal e = let l = int_ranked p q Equal e in grind (arith, ints)
    at Greater e = let l = int_ranked p q Greater e in grind (arith, ints)

compare_fractions : (a b : ℤ) (c d : ℕ) → 0 < c → 0 < d → compare (frac a c) (frac b d) ≡ int_cmp (a *ℤ pos d) (b *ℤ pos c)
unfolding compare ◌≤ℚ◌
compare_fractions a b c d o p =
    same_order (a *ℤ pos d) (b *ℤ pos c) ((frac a c).num *ℤ pos (frac b d).den) ((frac b d).num *ℤ pos (frac a c).den)
    (λ l. frac-≤ℚ a b c d o p l) (λ l. frac-≤ℚ b a d c p o l) (λ l. ≤ℚ_frac a b c d o p l) (λ l. ≤ℚ_frac b a d c p o l)

-- a sum over a denominator and a whole number
pub compare_over : (t : ℤ) (d : ℕ) (q : ℚ) → 0 < d → IsWhole q → compare (frac t d) q ≡ int_cmp t (q.num *ℤ pos d)
compare_over t d q o w =
    ap (compare (frac t d)) (ℚ_is q ∙ ap (frac q.num) w) ∙ compare_fractions t q.num d 1 o lit_one ∙ ap (λ z. int_cmp z (q.num *ℤ pos d)) (let e : t *ℤ pos 1 ≡ t = omega (arith, ints) in e)

pub compared : (ts : Terms) (zs : List ℤ) (x : RationalPoint) (d : ℕ) (t side : ℤ) (q : ℚ) (r : Ordering) → point_over d zs ≡ x → IsDenominator d → IsSumOver ts zs t → IsIntegerTo largest_integer q
    → side ≡ q.num *ℤ pos d → r ≡ int_cmp t side → option_map (λ v. compare v q) (checked_sum ts x) ≡ Some r
compared ts zs x d t side q r e o h w f g =
    ap (λ y. option_map (λ v. compare v q) (checked_sum ts y)) (sym e) ∙ ap (option_map (λ v. compare v q)) (h d o)
    ∙ ap Some (compare_over t d q o.positive w.is_whole ∙ ap (int_cmp t) (sym f) ∙ sym g)
