-- Lemmas: the order of fractions: what is less, comparisons, floors and ceilings, products.
use Rattle.std.proofs.Common.{ℕ, ◌<◌, ap, sym, ◌∙◌, subst, arith, inl, inr}
use Rattle.std.specs.Prelude.{◌≡◌, ℤ, pos, ◌*ℤ◌, ◌≤ℤ◌, ◌<ℤ◌, neg_ℤ, Bool, true, false, cond, int_lt, eqb, ◌&&◌, ◌⊎◌, refl}
use Rattle.std.proofs.lemmas.Int.{ints}
use Rattle.std.specs.declared.cmp.Ordering.TheVariants.{Less, Equal, Greater}
use Rattle.std.specs.declared.cmp.Ordering.{Ordering}
use Rattle.std.specs.Ordering.{int_cmp, int_eq, is_eq, is_lt}
use Rattle.std.specs.Cmp.{IsTotalOrder}
use Rattle.std.specs.Bool.{Decides, one_answer}
use Rattle.std.proofs.lemmas.Cmp.{int_cmp_total, tied_itself}
use Rattle.fraction.specs.Lemmas.Integers.{mul-le_ℤ, le-mul_ℤ, neg-mul_ℤ, same_less}
use Rattle.fraction.specs.Rational.{ℚ, whole, frac, floor, ceil, floor_div, ◌≤ℚ◌, ◌+ℚ◌, ◌*ℚ◌, neg_ℚ}
use Rattle.fraction.specs.Lemmas.Rational.{lit_one, floor_least, floor_below, ℚ_is, ℚ_same, frac_is, frac_same, ℚ_equal, ≤ℚ_frac, frac-≤ℚ, ≤ℚ_refl, ≤ℚ_trans, +ℚ_assoc, +ℚ_comm, zero-+ℚ, zero-*ℚ, neg-+ℚ, +ℚ-≤ℚ, *ℚ-≤ℚ}
use Rattle.fraction.specs.Lemmas.Ring.{+ℚ-mul}
use Rattle.fraction.specs.Checked.{compare}
use Rattle.fraction.specs.Order.{◌<ℚ◌}

pub not_both : (x y : ℚ) → x ≤ℚ y → y <ℚ x → ⊥
unfolding ◌≤ℚ◌ ◌<ℚ◌
not_both x y h k = omega (arith, ints)

pub same_le : (x y : ℚ) → x ≡ y → x ≤ℚ y
same_le x y e = subst (λ v. x ≤ℚ v) e (≤ℚ_refl x)

-- an order between other names of the same numbers
pub along : (a b c d : ℚ) → a ≡ b → c ≡ d → a ≤ℚ c → b ≤ℚ d
along a b c d p q h = subst (λ v. b ≤ℚ v) q (subst (λ v. v ≤ℚ c) p h)

-- ---- comparisons
greater_int : (a b : ℤ) → Greater ≡ int_cmp a b → a ≤ℤ b → ⊥
greater_int a b e h = step (int_lt a b) (int_lt b a) refl refl e
  where
    step : (s t : Bool) → int_lt a b ≡ s → int_lt b a ≡ t → Greater ≡ cond s Less (cond t Greater Equal) → ⊥
    step true t p q e = cc
    step false true p q e = grind (arith, ints)
    step false false p q e = cc

other_int : (a b : ℤ) → (Greater ≡ int_cmp a b → ⊥) → a ≤ℤ b
other_int a b h = step (int_lt a b) (int_lt b a) refl refl h
  where
    step : (s t : Bool) → int_lt a b ≡ s → int_lt b a ≡ t → (Greater ≡ cond s Less (cond t Greater Equal) → ⊥) → a ≤ℤ b
    step true t p q e = grind (arith, ints)
    step false true p q e = absurd (e refl)
    step false false p q e = grind (arith, ints)

less_int : (a b : ℤ) → Less ≡ int_cmp a b → a <ℤ b
less_int a b e = step (int_lt a b) (int_lt b a) refl refl e
  where
    step : (s t : Bool) → int_lt a b ≡ s → int_lt b a ≡ t → Less ≡ cond s Less (cond t Greater Equal) → a <ℤ b
    step true t p q e = grind (arith, ints)
    step false true p q e = cc
    step false false p q e = cc

equal_int : (a b : ℤ) → Equal ≡ int_cmp a b → a ≡ b
equal_int a b e = step (int_lt a b) (int_lt b a) refl refl e
  where
    step : (s t : Bool) → int_lt a b ≡ s → int_lt b a ≡ t → Equal ≡ cond s Less (cond t Greater Equal) → a ≡ b
    step true t p q e = cc
    step false true p q e = cc
    step false false p q e = grind (arith, ints)

more_int : (a b : ℤ) → Greater ≡ int_cmp a b → b <ℤ a
more_int a b e = step (int_lt a b) (int_lt b a) refl refl e
  where
    step : (s t : Bool) → int_lt a b ≡ s → int_lt b a ≡ t → Greater ≡ cond s Less (cond t Greater Equal) → b <ℤ a
    step true t p q e = cc
    step false true p q e = grind (arith, ints)
    step false false p q e = cc

pub not_at_most : (x y : ℚ) → Greater ≡ compare x y → x ≤ℚ y → ⊥
unfolding compare ◌≤ℚ◌
not_at_most x y e h = greater_int _ _ e h

pub at_most : (x y : ℚ) → (Greater ≡ compare x y → ⊥) → x ≤ℚ y
unfolding compare ◌≤ℚ◌
at_most x y h = other_int _ _ h

pub less : (x y : ℚ) → Less ≡ compare x y → x <ℚ y
unfolding compare ◌<ℚ◌
less x y e = less_int _ _ e

pub greater : (x y : ℚ) → Greater ≡ compare x y → y <ℚ x
unfolding compare ◌<ℚ◌
greater x y e = more_int _ _ e

pub equal : (x y : ℚ) → Equal ≡ compare x y → x ≡ y
unfolding compare
equal x y e = ℚ_same x y (equal_int _ _ e)

-- ---- a total order
pub less_at_most : (x y : ℚ) → x <ℚ y → x ≤ℚ y
unfolding ◌<ℚ◌ ◌≤ℚ◌
less_at_most x y h = omega (arith, ints)

pub either_order : (x y : ℚ) → (x ≤ℚ y) ⊎ (y <ℚ x)
unfolding ◌<ℚ◌ ◌≤ℚ◌
either_order x y = grind (arith, ints)

pub <ℚ_trans : (x y z : ℚ) → x <ℚ y → y <ℚ z → x <ℚ z
<ℚ_trans x y z h k = elim (either_order z x) [
  | inl l ↦ absurd (not_both y x (≤ℚ_trans y z x (less_at_most y z k) l) h)
  | inr l ↦ l
]

-- the one order that passes the test
pub less_only : (o : Ordering) → is_lt o ≡ true → Less ≡ o
less_only Less e = refl
less_only Equal e = cc
less_only Greater e = cc

pub less_most : (x y z : ℚ) → x <ℚ y → y ≤ℚ z → x <ℚ z
less_most x y z h k = elim (either_order z x) [
  | inl l ↦ absurd (not_both y x (≤ℚ_trans y z x k l) h)
  | inr l ↦ l
]

less_int_back : (a b : ℤ) → a <ℤ b → int_cmp a b ≡ Less
less_int_back a b h = step (int_lt a b) refl
  where
    step : (s : Bool) → int_lt a b ≡ s → cond (int_lt a b) Less (cond (int_lt b a) Greater Equal) ≡ Less
    step true p = rw p refl
    step false p = absurd (grind (arith, ints))

less_back : (x y : ℚ) → x <ℚ y → compare x y ≡ Less
unfolding compare ◌<ℚ◌
less_back x y h = less_int_back _ _ h

pub compare_total : IsTotalOrder compare
unfolding compare
compare_total = record {
  antisymm = λ x y. int_cmp_total.antisymm (x.num *ℤ pos y.den) (y.num *ℤ pos x.den);
  trans = λ x y z p q. less_back x z (<ℚ_trans x y z (less x y (sym p)) (less y z (sym q)));
  congr = λ x y z p. ap (λ v. compare v z) (equal x y (sym p));
}

is_equal : (o : Ordering) → is_eq o ≡ true → Equal ≡ o
is_equal Less e = cc
is_equal Equal e = refl
is_equal Greater e = cc

pub compare_equal : (x y : ℚ) → Decides (is_eq (compare x y)) (x ≡ y)
compare_equal x y = (λ e. equal x y (is_equal _ e), λ p. ap is_eq (subst (λ v. compare x v ≡ Equal) p (tied_itself compare_total x)))

-- equality as code tests it, and as a comparison tells it
pub compare_ties : (x y : ℚ) → (int_eq x.num y.num && eqb x.den y.den) ≡ is_eq (compare x y)
compare_ties x y = one_answer _ _ (ℚ_equal x y) (compare_equal x y)

-- ---- signs
pub at_least_zero : (x : ℚ) → pos 0 ≤ℤ x.num → whole (pos 0) ≤ℚ x
at_least_zero x h = subst (λ y. whole (pos 0) ≤ℚ y) (sym (ℚ_is x)) (frac-≤ℚ (pos 0) x.num 1 x.den lit_one x.lowest.0 (omega (arith, ints)))

pub at_most_zero : (x : ℚ) → x.num ≤ℤ pos 0 → x ≤ℚ whole (pos 0)
at_most_zero x h = subst (λ y. y ≤ℚ whole (pos 0)) (sym (ℚ_is x)) (frac-≤ℚ x.num (pos 0) x.den 1 x.lowest.0 lit_one (omega (arith, ints)))

pub zero_from_num : (x : ℚ) → x.num ≡ pos 0 → x ≡ whole (pos 0)
zero_from_num x e = ℚ_is x ∙ ap (λ z. frac z x.den) e ∙ frac_same (pos 0) (pos 0) x.den 1 x.lowest.0 lit_one (omega (arith, ints))

-- ---- whole numbers
pub whole-≤ℚ : (a b : ℤ) → a ≤ℤ b → whole a ≤ℚ whole b
whole-≤ℚ a b h = frac-≤ℚ a b 1 1 lit_one lit_one (omega (arith, ints))

pub ≤ℚ-whole : (a b : ℤ) → whole a ≤ℚ whole b → a ≤ℤ b
≤ℚ-whole a b h = let k = ≤ℚ_frac a b 1 1 lit_one lit_one h in omega (arith, ints)

-- a whole number that is at most x is at most its floor
pub floor_greatest : (x : ℚ) (z : ℤ) → whole z ≤ℚ x → z ≤ℤ floor x
unfolding floor
floor_greatest x z h =
    let k = ≤ℚ_frac z x.num 1 x.den lit_one x.lowest.0 (rw (ℚ_is x) at h) in
    floor_least x.num z x.den x.lowest.0 (omega (arith, ints))

-- x is at most its ceiling
pub ceil-≤ℚ : (x : ℚ) → x ≤ℚ whole (ceil x)
unfolding ceil
ceil-≤ℚ x = subst (λ y. y ≤ℚ whole (neg_ℤ (floor_div (neg_ℤ x.num) x.den))) (sym (ℚ_is x))
    (frac-≤ℚ _ _ _ _ x.lowest.0 lit_one
    (let k = floor_below (neg_ℤ x.num) x.den x.lowest.0 in rw (neg-mul_ℤ (floor_div (neg_ℤ x.num) x.den) (pos x.den)) (omega (arith, ints))))

-- ---- sums and products
pub +ℚ-≤ℚ-both : (a b c d : ℚ) → a ≤ℚ b → c ≤ℚ d → (a +ℚ c) ≤ℚ (b +ℚ d)
+ℚ-≤ℚ-both a b c d h k = ≤ℚ_trans _ (b +ℚ c) _ (+ℚ-≤ℚ a b c h) (rw (+ℚ_comm b c, +ℚ_comm b d) (+ℚ-≤ℚ c d b k))

pub nonneg-neg : (m : ℚ) → m ≤ℚ whole (pos 0) → whole (pos 0) ≤ℚ neg_ℚ m
nonneg-neg m h = along _ _ _ _ (+ℚ_comm m (neg_ℚ m) ∙ neg-+ℚ m) (zero-+ℚ (neg_ℚ m)) (+ℚ-≤ℚ m (whole (pos 0)) (neg_ℚ m) h)

gone : (m x y : ℚ) → neg_ℚ m *ℚ x +ℚ (m *ℚ x +ℚ m *ℚ y) ≡ m *ℚ y
gone m x y =
    sym (+ℚ_assoc _ _ _) ∙ ap (λ v. v +ℚ m *ℚ y) (sym (+ℚ-mul (neg_ℚ m) m x) ∙ ap (λ v. v *ℚ x) (neg-+ℚ m) ∙ zero-*ℚ x) ∙ zero-+ℚ _

-- a factor that is at most 0 turns an order round
pub *ℚ-≥ℚ : (m x y : ℚ) → m ≤ℚ whole (pos 0) → x ≤ℚ y → (m *ℚ y) ≤ℚ (m *ℚ x)
*ℚ-≥ℚ m x y h k =
    along _ _ _ _ (gone m x y) (ap (λ v. neg_ℚ m *ℚ y +ℚ v) (+ℚ_comm (m *ℚ x) (m *ℚ y)) ∙ gone m y x)
    (+ℚ-≤ℚ _ _ (m *ℚ x +ℚ m *ℚ y) (*ℚ-≤ℚ (neg_ℚ m) x y (nonneg-neg m h) k))

-- ---- signs of numerators
pub above_zero : (a : ℤ) (d : ℕ) → 0 < d → int_lt (pos 0) (frac a d).num ≡ int_lt (pos 0) a
above_zero a d o = same_less (pos 0) a (pos 0) (frac a d).num
    (at_most (frac a d).num a d (frac a d).den o (frac_is a d o)) (at_most a (frac a d).num (frac a d).den d (frac a d).lowest.0 (sym (frac_is a d o)))
  where
    at_most : (n a : ℤ) (d e : ℕ) → 0 < d → n *ℤ pos d ≡ a *ℤ pos e → a ≤ℤ pos 0 → n ≤ℤ pos 0
    at_most n a d e o h l = le-mul_ℤ n (pos 0) d o (omega (arith, ints, h, mul-le_ℤ a (pos 0) e l))

pub below_zero : (a : ℤ) (d : ℕ) → 0 < d → int_lt (frac a d).num (pos 0) ≡ int_lt a (pos 0)
below_zero a d o = same_less a (pos 0) (frac a d).num (pos 0)
    (at_least (frac a d).num a d (frac a d).den o (frac_is a d o)) (at_least a (frac a d).num (frac a d).den d (frac a d).lowest.0 (sym (frac_is a d o)))
  where
    at_least : (n a : ℤ) (d e : ℕ) → 0 < d → n *ℤ pos d ≡ a *ℤ pos e → pos 0 ≤ℤ a → pos 0 ≤ℤ n
    at_least n a d e o h l = le-mul_ℤ (pos 0) n d o (omega (arith, ints, h, mul-le_ℤ (pos 0) a e l))
