-- Values of basic variables on whole numbers: a sum of products over the denominator, and how a pivot changes it.
use Rattle.std.proofs.Common.{◌≡◌, ◌≢◌, ℕ, zero, suc, ◌+◌, ◌-◌, ◌*◌, ◌^◌, ◌≤◌, ◌<◌, arith, refl, ap, sym, ◌∙◌, subst, Option, Some, None, List, [], ◌∷◌, length, get_or, set, get_or-set_other, get_or-set_same}
use Rattle.std.specs.Prelude.{ℤ, pos, negsuc, ◌+ℤ◌, ◌*ℤ◌, nat_abs, map}
use Rattle.std.specs.Option.{option_and_then}
use Rattle.std.proofs.lemmas.Int.{ints, unsigned_abs-mul}
use Rattle.std.proofs.Math.Nat.{mul-one, mul-le-mul_right}
use Rattle.std.proofs.lemmas.List.{get_or-map, length-map, length-set}
use Rattle.fraction.specs.Checked.{add_checked, dot_checked, dot_from, mul_checked}
use Rattle.fraction.specs.Lemmas.Integers.{diff-add, diff-mul, diff-neg, diff-same, is_diff}
use Rattle.fraction.specs.Lemmas.Rational.{lit_one}
use Rattle.fraction.specs.Rational.{frac, whole}
use Rattle.integer_tableau.specs.Lemmas.Fractions.{add_frac, mul_frac, zero_over}
use Rattle.integer_tableau.proofs.RowsByVariable.{agree_but, map_exchanged, number_at-set_other}
use Rattle.integer_tableau.specs.Numbers.{IsWithin, number_at, total_size}
use Rattle.integer_tableau.specs.Range.{size_limit}
use Rattle.integer_tableau.specs.Positions.{IsColumnOf, coefficient, coefficients, numerator, products, sum_over}
use Rattle.integer_tableau.proofs.Exchanges.{nonbasic_values_exchanged, positions_exchanged}
use Rattle.integer_tableau.specs.Substitution.{IsSubstituted, quotient_numerator}
use Rattle.integer_tableau.specs.declared.position.Position.{Position}
use Rattle.integer_tableau.specs.declared.position.Position.TheVariants.{InBasis, InColumn}

-- ---- the sum of fractions is that sum over the denominator, and is not cramped
pub coefficient_is : (d : ℕ) (row : List ℤ) (s : Position) → 0 < d → coefficient d row s ≡ frac (numerator row s) d
coefficient_is d row InBasis o = sym (zero_over d o)
coefficient_is d row (InColumn k) o = refl

pub numerator_within : (top : ℕ) (row : List ℤ) (s : Position) → IsWithin top row → nat_abs (numerator row s) ≤ top
numerator_within top row InBasis h = omega arith
numerator_within top row (InColumn k) h = h k

one_more : (a z x : ℤ) (d : ℕ) → 0 < d → d < size_limit → nat_abs a + nat_abs z * nat_abs x < 2 ^ 126
    → option_and_then (λ p. add_checked (frac a d) p) (mul_checked (frac z d) (whole x)) ≡ Some (frac (a +ℤ z *ℤ x) d)
one_more a z x d o hd h =
    let e : d * 1 ≡ d = mul-one d in
    let n : nat_abs (z *ℤ x) ≡ nat_abs z * nat_abs x = unsigned_abs-mul z x in
    ap (option_and_then (λ p. add_checked (frac a d) p)) (mul_frac z x d 1 o lit_one (omega arith) (omega arith))
    ∙ add_frac a (z *ℤ x) d 1 o lit_one (omega arith) (omega arith)
    ∙ (λ i. Some (frac (times_one a i +ℤ z *ℤ x) (e i)))
  where
    times_one : (a : ℤ) → a *ℤ pos 1 ≡ a
    times_one a = omega (arith, ints)

then_then : {A B C : Type 0} (f : A → Option B) (g : B → Option C) (o : Option A) → option_and_then (λ x. option_and_then g (f x)) o ≡ option_and_then g (option_and_then f o)
then_then f g None = refl
then_then f g (Some x) = refl

pub dot_coefficients : (a : ℤ) (d top : ℕ) (row : List ℤ) → 0 < d → d < size_limit → IsWithin top row → (positions : List Position) (xs : List ℤ) → nat_abs a + top * total_size xs < 2 ^ 126
    → dot_from (frac a d) (coefficients d positions row) (map whole xs) ≡ Some (frac (a +ℤ sum_over positions row xs) d)
dot_coefficients a d top row o hd h [] xs l = ap (λ z. Some (frac z d)) (omega (arith, ints))
dot_coefficients a d top row o hd h (s ∷ positions) [] l = ap (λ z. Some (frac z d)) (omega (arith, ints))
dot_coefficients a d top row o hd h (s ∷ positions) (x ∷ xs) l =
    let z = numerator row s in
    let m : nat_abs z * nat_abs x ≤ top * nat_abs x = mul-le-mul_right (nat_abs x) (numerator_within top row s h) in
    let n : nat_abs (z *ℤ x) ≡ nat_abs z * nat_abs x = unsigned_abs-mul z x in
    then_then (λ p. add_checked (frac a d) p) (λ t. dot_from t (coefficients d positions row) (map whole xs)) (mul_checked (coefficient d row s) (whole x))
    ∙ ap (λ q. option_and_then (λ t. dot_from t (coefficients d positions row) (map whole xs)) (option_and_then (λ p. add_checked (frac a d) p) (mul_checked q (whole x)))) (coefficient_is d row s o)
    ∙ ap (option_and_then (λ t. dot_from t (coefficients d positions row) (map whole xs))) (one_more a z x d o hd (omega arith))
    ∙ dot_coefficients (a +ℤ z *ℤ x) d top row o hd h positions xs (omega (arith, size a (z *ℤ x)))
    ∙ ap (λ w. Some (frac w d)) (assoc a (z *ℤ x) (sum_over positions row xs))
  where
    size : (a b : ℤ) → nat_abs (a +ℤ b) ≤ nat_abs a + nat_abs b
    size a b = omega (arith, ints)

    assoc : (a b c : ℤ) → (a +ℤ b) +ℤ c ≡ a +ℤ (b +ℤ c)
    assoc a b c = omega (arith, ints)

pub value_is : (d top : ℕ) (row : List ℤ) (positions : List Position) (xs : List ℤ) → 0 < d → d < size_limit → IsWithin top row → top * total_size xs < 2 ^ 126
    → dot_checked (coefficients d positions row) (map whole xs) ≡ Some (frac (sum_over positions row xs) d)
value_is d top row positions xs o hd h l =
    ap (λ z. dot_from z (coefficients d positions row) (map whole xs)) (sym (zero_over d o))
    ∙ dot_coefficients (pos 0) d top row o hd h positions xs (omega arith)
    ∙ ap (λ w. Some (frac w d)) (zero_plus (sum_over positions row xs))
  where
    zero_plus : (b : ℤ) → pos 0 +ℤ b ≡ b
    zero_plus b = omega (arith, ints)

-- how large it can be
pub sum_within : (size : ℕ) (row : List ℤ) → IsWithin size row → (positions : List Position) (xs : List ℤ) → nat_abs (sum_over positions row xs) ≤ size * total_size xs
sum_within size row h [] xs = omega arith
sum_within size row h (s ∷ positions) [] = omega arith
sum_within size row h (s ∷ positions) (x ∷ xs) =
    omega (arith, add_size (numerator row s *ℤ x) (sum_over positions row xs), unsigned_abs-mul (numerator row s) x, mul-le-mul_right (nat_abs x) (numerator_within size row s h), sum_within size row h positions xs)
  where
    add_size : (a b : ℤ) → nat_abs (a +ℤ b) ≤ nat_abs a + nat_abs b
    add_size a b = omega (arith, ints)

-- a value that is such a sum has 127 bits
pub value_fits : (row : List ℤ) (positions : List Position) (xs : List ℤ) (v : ℤ) → IsWithin (size_limit - 1) row → total_size xs < size_limit → v ≡ sum_over positions row xs → nat_abs v < 2 ^ 127
value_fits row positions xs v h l e = rw e (omega (arith, sum_within (size_limit - 1) row h positions xs, l))

-- ---- how it changes
products-set_left : (zs xs : List ℤ) (i : ℕ) (z : ℤ) → length zs ≡ length xs → i < length zs → products (set zs i z) xs +ℤ number_at zs i *ℤ number_at xs i ≡ products zs xs +ℤ z *ℤ number_at xs i
products-set_left [] xs i z e l = absurd (omega arith)
products-set_left (y ∷ zs) [] i z e l = absurd (omega arith)
products-set_left (y ∷ zs) (x ∷ xs) zero z e l = turn (z *ℤ x) (products zs xs) (y *ℤ x)
  where
    turn : (a b c : ℤ) → (a +ℤ b) +ℤ c ≡ (c +ℤ b) +ℤ a
    turn a b c = omega (arith, ints)
products-set_left (y ∷ zs) (x ∷ xs) (suc i) z e l = turn (y *ℤ x) _ _ _ _ (products-set_left zs xs i z (omega arith) (omega arith))
  where
    turn : (a p b q c : ℤ) → p +ℤ b ≡ q +ℤ c → (a +ℤ p) +ℤ b ≡ (a +ℤ q) +ℤ c
    turn a p b q c h = omega (arith, ints, h)

pub products-set_right : (zs xs : List ℤ) (i : ℕ) (x : ℤ) → length zs ≡ length xs → i < length zs → products zs (set xs i x) +ℤ number_at zs i *ℤ number_at xs i ≡ products zs xs +ℤ number_at zs i *ℤ x
products-set_right [] xs i x e l = absurd (omega arith)
products-set_right (y ∷ zs) [] i x e l = absurd (omega arith)
products-set_right (y ∷ zs) (w ∷ xs) zero x e l = turn (y *ℤ x) (products zs xs) (y *ℤ w)
  where
    turn : (a b c : ℤ) → (a +ℤ b) +ℤ c ≡ (c +ℤ b) +ℤ a
    turn a b c = omega (arith, ints)
products-set_right (y ∷ zs) (w ∷ xs) (suc i) x e l = turn (y *ℤ w) _ _ _ _ (products-set_right zs xs i x (omega arith) (omega arith))
  where
    turn : (a p b q c : ℤ) → p +ℤ b ≡ q +ℤ c → (a +ℤ p) +ℤ b ≡ (a +ℤ q) +ℤ c
    turn a p b q c h = omega (arith, ints, h)

-- a substitution, summed
numerator_substituted : (d e q : ℤ) (row source new : List ℤ) → IsSubstituted d e q row source new → (s : Position) → numerator new s *ℤ d ≡ numerator row s *ℤ e +ℤ numerator source s *ℤ q
numerator_substituted d e q row source new h InBasis = zeros d e q
  where
    zeros : (d e q : ℤ) → pos 0 *ℤ d ≡ pos 0 *ℤ e +ℤ pos 0 *ℤ q
    zeros d e q = omega (arith, ints)
numerator_substituted d e q row source new h (InColumn k) = h k

gather : (n r s x d e q a b c : ℤ) → n *ℤ d ≡ r *ℤ e +ℤ s *ℤ q → a *ℤ d ≡ b *ℤ e +ℤ c *ℤ q → (n *ℤ x +ℤ a) *ℤ d ≡ (r *ℤ x +ℤ b) *ℤ e +ℤ (s *ℤ x +ℤ c) *ℤ q
gather n r s x d e q a b c g h = left n x a d ∙ (λ i. g i *ℤ x +ℤ h i) ∙ right r s x b c e q
  where
    left : (n x a d : ℤ) → (n *ℤ x +ℤ a) *ℤ d ≡ (n *ℤ d) *ℤ x +ℤ a *ℤ d
    left n x a d = rw (is_diff n, is_diff x, is_diff a, is_diff d) (simp (diff-mul, diff-add) (diff-same _ _ _ _ (omega arith)))

    right : (r s x b c e q : ℤ) → (r *ℤ e +ℤ s *ℤ q) *ℤ x +ℤ (b *ℤ e +ℤ c *ℤ q) ≡ (r *ℤ x +ℤ b) *ℤ e +ℤ (s *ℤ x +ℤ c) *ℤ q
    right r s x b c e q = rw (is_diff r, is_diff s, is_diff x, is_diff b, is_diff c, is_diff e, is_diff q) (simp (diff-mul, diff-add) (diff-same _ _ _ _ (omega arith)))

pub sum_substituted : (d e q : ℤ) (row source new : List ℤ) → IsSubstituted d e q row source new → (positions : List Position) (xs : List ℤ)
    → sum_over positions new xs *ℤ d ≡ sum_over positions row xs *ℤ e +ℤ sum_over positions source xs *ℤ q
sum_substituted d e q row source new h [] xs = zeros d e q
  where
    zeros : (d e q : ℤ) → pos 0 *ℤ d ≡ pos 0 *ℤ e +ℤ pos 0 *ℤ q
    zeros d e q = omega (arith, ints)
sum_substituted d e q row source new h (s ∷ positions) [] = zeros d e q
  where
    zeros : (d e q : ℤ) → pos 0 *ℤ d ≡ pos 0 *ℤ e +ℤ pos 0 *ℤ q
    zeros d e q = omega (arith, ints)
sum_substituted d e q row source new h (s ∷ positions) (x ∷ xs) =
    gather (numerator new s) (numerator row s) (numerator source s) x d e q _ _ _ (numerator_substituted d e q row source new h s) (sum_substituted d e q row source new h positions xs)

-- the solved row, summed
quotient_plus : (p a b x : ℤ) → quotient_numerator p a *ℤ x +ℤ quotient_numerator p b ≡ quotient_numerator p (a *ℤ x +ℤ b)
quotient_plus (pos p) a b x = rw (is_diff a, is_diff b, is_diff x) (simp (diff-mul, diff-add, diff-neg) (diff-same _ _ _ _ (omega arith)))
quotient_plus (negsuc p) a b x = refl

quotient_zero : (p : ℤ) → quotient_numerator p (pos 0) ≡ pos 0
quotient_zero (pos p) = refl
quotient_zero (negsuc p) = refl

numerator_solved : (p : ℤ) (row new : List ℤ) → ((k : ℕ) → number_at new k ≡ quotient_numerator p (number_at row k)) → (s : Position) → numerator new s ≡ quotient_numerator p (numerator row s)
numerator_solved p row new h InBasis = sym (quotient_zero p)
numerator_solved p row new h (InColumn k) = h k

pub sum_solved : (p : ℤ) (row new : List ℤ) → ((k : ℕ) → number_at new k ≡ quotient_numerator p (number_at row k)) → (positions : List Position) (xs : List ℤ)
    → sum_over positions new xs ≡ quotient_numerator p (sum_over positions row xs)
sum_solved p row new h [] xs = sym (quotient_zero p)
sum_solved p row new h (s ∷ positions) [] = sym (quotient_zero p)
sum_solved p row new h (s ∷ positions) (x ∷ xs) =
    (λ i. numerator_solved p row new h s i *ℤ x +ℤ sum_solved p row new h positions xs i) ∙ quotient_plus p (numerator row s) (sum_over positions row xs) x

module _ (positions : List Position) (r c k : ℕ) (alone : IsColumnOf positions c k) (at_c : get_or positions c InBasis ≡ InColumn k) (at_r : get_or positions r InBasis ≡ InBasis)
    (c_there : c < length positions) (r_there : r < length positions) (xs : List ℤ) (same : length xs ≡ length positions) (b : ℤ) where
  -- with z in column k
  pub sum_exchanged : (row : List ℤ) (z : ℤ) → k < length row
      → sum_over (positions_exchanged r c k positions) (set row k z) (nonbasic_values_exchanged r c b xs) +ℤ number_at row k *ℤ number_at xs c ≡ sum_over positions row xs +ℤ z *ℤ b
  sum_exchanged row z l =
      ap (λ w. w +ℤ number_at row k *ℤ number_at xs c) (ap (λ ys. products ys (nonbasic_values_exchanged r c b xs)) coefs)
      ∙ ap (λ w. w +ℤ number_at row k *ℤ number_at xs c) first ∙ second ∙ third ∙ ap (λ w. w +ℤ z *ℤ b) fourth
    where
      zs : List ℤ
      zs = map (numerator row) positions

      coefs : map (numerator (set row k z)) (positions_exchanged r c k positions) ≡ set (set zs r z) c (pos 0)
      coefs =
          sym (map_exchanged (numerator (set row k z)) positions r c k)
          ∙ ap (λ y. set (set (map (numerator (set row k z)) positions) r y) c (pos 0)) (get_or-set_same row k z (pos 0) l)
          ∙ sym (agree_but (numerator row) (numerator (set row k z)) positions c k alone refl (λ j n. number_at-set_other row k j z n) r z (pos 0))

      apart : c ≢ r
      apart e = let f : InBasis ≡ InColumn k = sym at_r ∙ ap (λ v. get_or positions v InBasis) (sym e) ∙ at_c in cc

      ws : List ℤ
      ws = set zs r z

      ys : List ℤ
      ys = set xs r b

      long : length zs ≡ length positions
      long = length-map positions (numerator row)

      zs_r : number_at zs r ≡ pos 0
      zs_r = get_or-map (numerator row) positions r InBasis (pos 0) r_there ∙ ap (numerator row) at_r

      zs_c : number_at zs c ≡ number_at row k
      zs_c = get_or-map (numerator row) positions c InBasis (pos 0) c_there ∙ ap (numerator row) at_c

      no_more : (p q w x y : ℤ) → w ≡ pos 0 → p +ℤ w *ℤ x ≡ q +ℤ w *ℤ y → p ≡ q
      no_more p q w x y e h = clean (subst (λ w. p +ℤ w *ℤ x ≡ q +ℤ w *ℤ y) e h)
        where
          clean : p +ℤ pos 0 *ℤ x ≡ q +ℤ pos 0 *ℤ y → p ≡ q
          clean h = omega (arith, ints, h)

      first : products (set ws c (pos 0)) (set ys c (pos 0)) ≡ products (set ws c (pos 0)) ys
      first = no_more _ _ _ _ _ (get_or-set_same ws c (pos 0) (pos 0) (omega (arith, length-set zs r z, long)))
          (products-set_right (set ws c (pos 0)) ys c (pos 0) (omega (arith, length-set ws c (pos 0), length-set zs r z, long, length-set xs r b)) (omega (arith, length-set ws c (pos 0), length-set zs r z, long)))

      second : products (set ws c (pos 0)) ys +ℤ number_at row k *ℤ number_at xs c ≡ products ws ys
      second =
          (λ i. products (set ws c (pos 0)) ys +ℤ sym (get_or-set_other zs r c z (pos 0) apart ∙ zs_c) i *ℤ sym (get_or-set_other xs r c b (pos 0) apart) i)
          ∙ products-set_left ws ys c (pos 0) (omega (arith, length-set zs r z, long, length-set xs r b)) (omega (arith, length-set zs r z, long))
          ∙ plus_none (products ws ys) (number_at ys c)
        where
          plus_none : (p x : ℤ) → p +ℤ pos 0 *ℤ x ≡ p
          plus_none p x = omega (arith, ints)

      third : products ws ys ≡ products zs ys +ℤ z *ℤ b
      third =
          sym (plus_none (products ws ys) (number_at ys r)) ∙ ap (λ w. products ws ys +ℤ w *ℤ number_at ys r) (sym zs_r)
          ∙ products-set_left zs ys r z (omega (arith, long, length-set xs r b)) (omega (arith, long))
          ∙ ap (λ w. products zs ys +ℤ z *ℤ w) (get_or-set_same xs r b (pos 0) (omega arith))
        where
          plus_none : (p x : ℤ) → p +ℤ pos 0 *ℤ x ≡ p
          plus_none p x = omega (arith, ints)

      fourth : products zs ys ≡ products zs xs
      fourth = no_more _ _ _ _ _ zs_r (products-set_right zs xs r b (omega (arith, long)) (omega (arith, long)))
