-- The values of rows by sums over the nonbasic columns and products of the basic ones.
use Rattle.std.proofs.Common.{◌≡◌, ◌≢◌, ℕ, zero, suc, ◌+◌, ◌*◌, ◌^◌, ◌<◌, ◌≤◌, arith, refl, ap, sym, ◌∙◌, subst, Option, None, Some, List, [], ◌∷◌, ◌++◌, length, get_or, set, drop, drop-cons, get_or-set_other}
use Rattle.std.specs.Prelude.{ℤ, pos, nat_abs, neg_ℤ, map, ◌+ℤ◌, ◌*ℤ◌}
use Rattle.std.specs.Int.{w64, int_wrap}
use lib.IntN.{*ℤ_comm}
use Rattle.std.proofs.Math.Nat.{mul-le-mul_left, mul-le-mul_right}
use Rattle.std.proofs.lemmas.Int.{ints, unsigned_abs-mul, int_wrap_fits, int_wrap-add_right, int_wrap-add_same, int_wrap-mul_left, int_wrap-mul_right, fits_signed_from_abs}
use Rattle.std.proofs.lemmas.List.{drop_all, length-set}
use Rattle.fraction.specs.Lemmas.Integers.{diff-add, diff-mul, diff-same, is_diff, neg-mul_ℤ}
use Rattle.tableau.specs.Leaving.{found_or}
use Rattle.tableau.specs.declared.bounds.Direction.{Direction}
use Rattle.integer_tableau.proofs.BasicColumns.{column_of}
use Rattle.integer_tableau.proofs.Exchanges.{nonbasic_values_exchanged, positions_exchanged}
use Rattle.integer_tableau.proofs.Violations.{first_or, leaving_parts, none_after}
use Rattle.integer_tableau.specs.BasicColumns.{basic_from}
use Rattle.integer_tableau.specs.Combined.{IsCompact, combined_value, value_numerator}
use Rattle.integer_tableau.specs.IntegerTableau.{IntegerTableau}
use Rattle.integer_tableau.specs.Leaving.{leaving_by_numerators, violation_at}
use Rattle.integer_tableau.specs.Numbers.{number_at, total_size}
use Rattle.integer_tableau.specs.Positions.{products}
use Rattle.integer_tableau.specs.RowSums.{AreSummed, basic_products, nonbasic_sum, nonbasic_value}
use Rattle.integer_tableau.specs.Start.{columns_from}
use Rattle.integer_tableau.specs.declared.integer_bounds.IntegerBounds.{IntegerBounds}
use Rattle.integer_tableau.specs.declared.position.Position.{Position}
use Rattle.integer_tableau.specs.declared.position.Position.TheVariants.{InBasis, InColumn}

-- ---- a value splits
no_term : (x y : ℤ) → x *ℤ pos 0 +ℤ y ≡ y
no_term x y = omega (arith, ints)

nothing : (d : ℤ) → pos 0 ≡ d *ℤ pos 0 +ℤ pos 0
nothing d = omega (arith, ints)

behind : (x y z : ℤ) → x +ℤ (y +ℤ z) ≡ y +ℤ (x +ℤ z)
behind x y z = omega (arith, ints)

basic_gathered : (p d y z w a : ℤ) → w ≡ d *ℤ y +ℤ z → p +ℤ w ≡ d *ℤ (a *ℤ pos 0 +ℤ y) +ℤ (p +ℤ z)
basic_gathered p d y z w a e = ap (λ w. p +ℤ w) e ∙ behind p (d *ℤ y) z ∙ ap (λ u. d *ℤ u +ℤ (p +ℤ z)) (sym (no_term a y))

gathered : (a x d y z : ℤ) → a *ℤ (x *ℤ d) +ℤ (d *ℤ y +ℤ z) ≡ d *ℤ (a *ℤ x +ℤ y) +ℤ z
gathered a x d y z = rw (is_diff a, is_diff x, is_diff d, is_diff y, is_diff z) (simp (diff-mul, diff-add) (diff-same _ _ _ _ (omega arith)))

-- of columns from number j on, whose coefficients and values are those of all from there
module _ (d : ℤ) (all values : List ℤ) where
  split_from : (j : ℕ) (cs : List ℤ) (ss : List Position) (xs vs : List ℤ) → length cs ≤ length ss → length cs ≤ length xs → length cs ≤ length vs
      → ((t : ℕ) → number_at cs t ≡ number_at all (j + t)) → ((t : ℕ) → t < length cs → number_at vs t ≡ number_at values (j + t))
      → combined_value d cs ss xs vs ≡ d *ℤ nonbasic_sum cs ss xs +ℤ basic_products all values (basic_from j (length cs) ss)
  split_from j [] ss xs vs l m n c v = nothing d
  split_from j (a ∷ cs) [] xs vs l m n c v = absurd (omega (arith, l))
  split_from j (a ∷ cs) (s ∷ ss) [] vs l m n c v = absurd (omega (arith, m))
  split_from j (a ∷ cs) (s ∷ ss) (x ∷ xs) [] l m n c v = absurd (omega (arith, n))
  split_from j (a ∷ cs) (InBasis ∷ ss) (x ∷ xs) (w ∷ vs) l m n c v =
      (λ i. (c 0 ∙ ap (number_at all) (let q : j + 0 ≡ j = omega arith in q)) i *ℤ (v 0 (omega arith) ∙ ap (number_at values) (let q : j + 0 ≡ j = omega arith in q)) i +ℤ combined_value d cs ss xs vs)
      ∙ basic_gathered (number_at all j *ℤ number_at values j) d (nonbasic_sum cs ss xs) (basic_products all values (basic_from (suc j) (length cs) ss)) (combined_value d cs ss xs vs) a
      (split_from (suc j) cs ss xs vs (omega (arith, l)) (omega (arith, m)) (omega (arith, n))
      (λ t. c (suc t) ∙ ap (number_at all) (let q : j + suc t ≡ suc j + t = omega arith in q))
      (λ t o. v (suc t) (omega (arith, o)) ∙ ap (number_at values) (let q : j + suc t ≡ suc j + t = omega arith in q)))
  split_from j (a ∷ cs) (InColumn k ∷ ss) (x ∷ xs) (w ∷ vs) l m n c v =
      ap (λ z. a *ℤ (x *ℤ d) +ℤ z) (split_from (suc j) cs ss xs vs (omega (arith, l)) (omega (arith, m)) (omega (arith, n))
      (λ t. c (suc t) ∙ ap (number_at all) (let q : j + suc t ≡ suc j + t = omega arith in q))
      (λ t o. v (suc t) (omega (arith, o)) ∙ ap (number_at values) (let q : j + suc t ≡ suc j + t = omega arith in q)))
      ∙ gathered a x d (nonbasic_sum cs ss xs) (basic_products all values (basic_from (suc j) (length cs) ss))

-- into the sum over the nonbasic columns and that over the basic ones
pub value_splits : (d : ℤ) (cs : List ℤ) (ss : List Position) (xs vs : List ℤ) → length cs ≤ length ss → length cs ≤ length xs → length cs ≤ length vs
    → combined_value d cs ss xs vs ≡ d *ℤ nonbasic_sum cs ss xs +ℤ basic_products cs vs (basic_from 0 (length cs) ss)
value_splits d cs ss xs vs l m n = split_from d cs vs 0 cs ss xs vs l m n (λ t. ap (number_at cs) (let q : t ≡ 0 + t = omega arith in q)) (λ t o. ap (number_at vs) (let q : t ≡ 0 + t = omega arith in q))

-- ---- its size
size_of_sum : (a b : ℤ) → nat_abs (a +ℤ b) ≤ nat_abs a + nat_abs b
size_of_sum a b = omega (arith, ints)

pub value_within : (d : ℤ) (size : ℕ) (cs : List ℤ) (ss : List Position) (xs vs : List ℤ)
    → ((j : ℕ) → j < length cs → j < length vs → nat_abs (value_numerator d (get_or ss j InBasis) (number_at xs j) (number_at vs j)) ≤ size) → nat_abs (combined_value d cs ss xs vs) ≤ total_size cs * size
value_within d size [] ss xs vs h = omega arith
value_within d size (a ∷ cs) [] xs vs h = omega arith
value_within d size (a ∷ cs) (s ∷ ss) [] vs h = omega arith
value_within d size (a ∷ cs) (s ∷ ss) (x ∷ xs) [] h = omega arith
value_within d size (a ∷ cs) (s ∷ ss) (x ∷ xs) (v ∷ vs) h =
    let y = value_numerator d s x v in
    both (nat_abs a) (total_size cs) size (nat_abs (a *ℤ y)) (nat_abs (combined_value d cs ss xs vs)) (nat_abs (a *ℤ y +ℤ combined_value d cs ss xs vs))
    (omega (arith, unsigned_abs-mul a y, mul-le-mul_left (nat_abs a) (h 0 (omega arith) (omega arith))))
    (value_within d size cs ss xs vs (λ j l m. h (suc j) (omega (arith, l)) (omega (arith, m))))
    (size_of_sum (a *ℤ y) (combined_value d cs ss xs vs))
  where
    both : (a t size p q r : ℕ) → p ≤ a * size → q ≤ t * size → r ≤ p + q → r ≤ (a + t) * size
    both a t size p q r f g h = omega (arith, f, g, h)

-- ---- the value that a row's sum gives
module _ (ps : List (List ℤ)) (weight reach : ℕ) (ss : List Position) (xs sums vs : List ℤ) (columns : List ℕ) (d : ℤ) (are : AreSummed ps weight reach ss xs sums vs columns d) (weights : (i : ℕ) → i < length ps → total_size (get_or ps i []) ≤ weight)
    (basic : columns ≡ basic_from 0 (length vs) ss) (there : length vs ≤ length ss) where
  numerator_within : (j : ℕ) → j < length vs → nat_abs (value_numerator d (get_or ss j InBasis) (number_at xs j) (number_at vs j)) ≤ are.narrow.size
  numerator_within j l = by (get_or ss j InBasis) refl
    where
      by : (s : Position) → get_or ss j InBasis ≡ s → nat_abs (value_numerator d s (number_at xs j) (number_at vs j)) ≤ are.narrow.size
      by InBasis e =
          let p = column_of 0 (length vs) j ss l (omega (arith, l, there)) e in
          let at : get_or columns p.0 0 ≡ j = ap (λ js. get_or js p.0 0) basic ∙ p.2 ∙ (let q : 0 + j ≡ j = omega arith in q) in
          subst (λ j. nat_abs (number_at vs j) ≤ are.narrow.size) at (are.narrow.basic p.0 (subst (λ js. p.0 < length js) (sym basic) p.1))
      by (InColumn k) e = omega (arith, unsigned_abs-mul (number_at xs j) d, mul-le-mul_right (nat_abs d) (are.bounded j l), are.narrow.nonbasic)

  pub value_exact : (i : ℕ) (value sum : ℤ) → i < length ps → i < length sums → length (get_or ps i []) ≡ length vs → sum ≡ number_at sums i → int_wrap w64 value ≡ value
      → int_wrap w64 value ≡ int_wrap w64 (d *ℤ sum +ℤ basic_products (get_or ps i []) vs columns) → value ≡ combined_value d (get_or ps i []) ss xs vs
  value_exact i value sum l m full is wrapped low =
      sym wrapped ∙ low ∙ ap (λ s. int_wrap w64 (d *ℤ s +ℤ basic_products cs vs columns)) is
      ∙ sum_wrapped d (number_at sums i) (nonbasic_sum cs ss xs) (basic_products cs vs columns) (are.sums_are i m)
      ∙ ap (int_wrap w64) (sym (value_splits d cs ss xs vs (omega (arith, full, there)) (omega (arith, full, are.many)) (omega (arith, full))
      ∙ ap (λ js. d *ℤ nonbasic_sum cs ss xs +ℤ basic_products cs vs js) (ap (λ n. basic_from 0 n ss) full ∙ sym basic)))
      ∙ int_wrap_fits w64 (combined_value d cs ss xs vs) (fits_signed_from_abs w64 (combined_value d cs ss xs vs) small)
    where
      cs : List ℤ
      cs = get_or ps i []

      sum_wrapped : (d s t b : ℤ) → int_wrap w64 s ≡ int_wrap w64 t → int_wrap w64 (d *ℤ s +ℤ b) ≡ int_wrap w64 (d *ℤ t +ℤ b)
      sum_wrapped d s t b e = int_wrap-add_same w64 (d *ℤ s) (d *ℤ t) b (sym (int_wrap-mul_right w64 d s) ∙ ap (λ z. int_wrap w64 (d *ℤ z)) e ∙ int_wrap-mul_right w64 d t)

      small : nat_abs (combined_value d cs ss xs vs) < 2 ^ 63
      small = omega (arith, value_within d are.narrow.size cs ss xs vs (λ j a b. numerator_within j b), mul-le-mul_right are.narrow.size (weights i l), are.narrow.room)

-- ---- a basic column is added
pub none_plus : (z : ℤ) → pos 0 +ℤ z ≡ z
none_plus z = omega (arith, ints)

pub products_more : (cs vs : List ℤ) (columns : List ℕ) (i : ℕ) (old new whole : ℤ) → i < length columns
    → int_wrap w64 (old +ℤ basic_products cs vs (drop i columns)) ≡ int_wrap w64 whole
    → int_wrap w64 new ≡ int_wrap w64 (old +ℤ number_at cs (get_or columns i 0) *ℤ number_at vs (get_or columns i 0))
    → int_wrap w64 (new +ℤ basic_products cs vs (drop (i + 1) columns)) ≡ int_wrap w64 whole
products_more cs vs columns i old new whole l sum is =
    let term = number_at cs (get_or columns i 0) *ℤ number_at vs (get_or columns i 0) in
    let rest = basic_products cs vs (drop (i + 1) columns) in
    int_wrap-add_same w64 new (old +ℤ term) rest is
    ∙ ap (int_wrap w64) (before old term rest ∙ ap (λ z. old +ℤ z)
    ((let q : i + 1 ≡ suc i = omega arith in ap (λ n. term +ℤ basic_products cs vs (drop n columns)) q)
    ∙ sym (ap (basic_products cs vs) (drop-cons columns i 0 l))))
    ∙ sum
  where
    before : (x y z : ℤ) → (x +ℤ y) +ℤ z ≡ x +ℤ (y +ℤ z)
    before x y z = omega (arith, ints)

pub products_done : (cs vs : List ℤ) (columns : List ℕ) (i : ℕ) (value : ℤ) → length columns ≤ i → value ≡ value +ℤ basic_products cs vs (drop i columns)
products_done cs vs columns i value l = none value ∙ sym (ap (λ js. value +ℤ basic_products cs vs js) (drop_all i columns l))
  where
    none : (z : ℤ) → z ≡ z +ℤ pos 0
    none z = omega (arith, ints)

-- ---- what a turn changes
-- one variable has another position and value
sum_set : (cs : List ℤ) (ss : List Position) (xs : List ℤ) (j : ℕ) (s : Position) (x : ℤ) → length xs ≡ length ss → j < length ss
    → nonbasic_sum cs (set ss j s) (set xs j x) +ℤ number_at cs j *ℤ nonbasic_value (get_or ss j InBasis) (number_at xs j) ≡ nonbasic_sum cs ss xs +ℤ number_at cs j *ℤ nonbasic_value s x
sum_set [] ss xs j s x e l = none (nonbasic_value (get_or ss j InBasis) (number_at xs j)) (nonbasic_value s x)
  where
    none : (a b : ℤ) → pos 0 +ℤ pos 0 *ℤ a ≡ pos 0 +ℤ pos 0 *ℤ b
    none a b = omega (arith, ints)
sum_set (c ∷ cs) [] xs j s x e l = absurd (omega (arith, l))
sum_set (c ∷ cs) (t ∷ ss) [] j s x e l = absurd (omega (arith, e))
sum_set (c ∷ cs) (t ∷ ss) (y ∷ xs) zero s x e l = turn (c *ℤ nonbasic_value s x) (nonbasic_sum cs ss xs) (c *ℤ nonbasic_value t y)
  where
    turn : (a b c : ℤ) → (a +ℤ b) +ℤ c ≡ (c +ℤ b) +ℤ a
    turn a b c = omega (arith, ints)
sum_set (c ∷ cs) (t ∷ ss) (y ∷ xs) (suc j) s x e l = turn (c *ℤ nonbasic_value t y) _ _ _ _ (sum_set cs ss xs j s x (omega (arith, e)) (omega (arith, l)))
  where
    turn : (a p b q c : ℤ) → p +ℤ b ≡ q +ℤ c → (a +ℤ p) +ℤ b ≡ (a +ℤ q) +ℤ c
    turn a p b q c h = omega (arith, ints, h)

pub sum_turned : (cs : List ℤ) (ss : List Position) (xs : List ℤ) (r c k j : ℕ) (b left : ℤ) → length xs ≡ length ss → r < length ss → c < length ss → get_or ss r InBasis ≡ InBasis
    → get_or ss c InBasis ≡ InColumn j → number_at xs c ≡ left
    → nonbasic_sum cs (positions_exchanged r c k ss) (nonbasic_values_exchanged r c b xs) ≡ (nonbasic_sum cs ss xs +ℤ b *ℤ number_at cs r) +ℤ neg_ℤ left *ℤ number_at cs c
sum_turned cs ss xs r c k j b left e r_there c_there at_r at_c left_is =
    taken (nonbasic_sum cs (positions_exchanged r c k ss) (nonbasic_values_exchanged r c b xs)) (nonbasic_sum cs two ys) (nonbasic_sum cs ss xs) (number_at cs r *ℤ b) (number_at cs c *ℤ left) (number_at cs r) (number_at cs c)
    (ap (λ z. nonbasic_sum cs (set two c InBasis) (set ys c (pos 0)) +ℤ number_at cs c *ℤ z) (sym was) ∙ sum_set cs two ys c InBasis (pos 0) (length-set xs r b ∙ e ∙ sym (length-set ss r (InColumn k))) (omega (arith, c_there, length-set ss r (InColumn k))))
    (ap (λ s. nonbasic_sum cs two ys +ℤ number_at cs r *ℤ nonbasic_value s (number_at xs r)) (sym at_r) ∙ sum_set cs ss xs r (InColumn k) b e r_there)
    ∙ (λ i. (nonbasic_sum cs ss xs +ℤ *ℤ_comm (number_at cs r) b i) +ℤ turned i)
  where
    two : List Position
    two = set ss r (InColumn k)

    ys : List ℤ
    ys = set xs r b

    apart : c ≢ r
    apart q = let no : InBasis ≡ InColumn j = sym at_r ∙ ap (λ v. get_or ss v InBasis) (sym q) ∙ at_c in cc

    was : nonbasic_value (get_or two c InBasis) (number_at ys c) ≡ left
    was = (λ i. nonbasic_value ((get_or-set_other ss r c (InColumn k) InBasis apart ∙ at_c) i) ((get_or-set_other xs r c b (pos 0) apart ∙ left_is) i))

    turned : neg_ℤ (number_at cs c *ℤ left) ≡ neg_ℤ left *ℤ number_at cs c
    turned = ap neg_ℤ (*ℤ_comm (number_at cs c) left) ∙ sym (neg-mul_ℤ left (number_at cs c))

    taken : (new between old p q z w : ℤ) → new +ℤ q ≡ between +ℤ w *ℤ pos 0 → between +ℤ z *ℤ pos 0 ≡ old +ℤ p → new ≡ (old +ℤ p) +ℤ neg_ℤ q
    taken new between old p q z w f g = omega (arith, ints, f, g)

-- in the sums of rows, modulo 2^64
pub turned_wrapped : (new between old sum b left z w : ℤ) → int_wrap w64 old ≡ int_wrap w64 sum → int_wrap w64 between ≡ int_wrap w64 (old +ℤ b *ℤ z) → int_wrap w64 new ≡ int_wrap w64 (between +ℤ int_wrap w64 (neg_ℤ left) *ℤ w)
    → int_wrap w64 new ≡ int_wrap w64 ((sum +ℤ b *ℤ z) +ℤ neg_ℤ left *ℤ w)
turned_wrapped new between old sum b left z w e f g =
    g ∙ sym (int_wrap-add_right w64 between (int_wrap w64 (neg_ℤ left) *ℤ w)) ∙ ap (λ y. int_wrap w64 (between +ℤ y)) (int_wrap-mul_left w64 (neg_ℤ left) w) ∙ int_wrap-add_right w64 between (neg_ℤ left *ℤ w)
    ∙ int_wrap-add_same w64 between (sum +ℤ b *ℤ z) (neg_ℤ left *ℤ w) (f ∙ int_wrap-add_same w64 old sum (b *ℤ z) e)

-- ---- the sums at the start
-- of all columns, where none is basic
pub all_nonbasic : (cs : List ℤ) (ss : List Position) (xs : List ℤ) → length cs ≤ length ss → ((j : ℕ) → j < length cs → get_or ss j InBasis ≢ InBasis) → products cs xs ≡ nonbasic_sum cs ss xs
all_nonbasic [] ss xs l h = refl
all_nonbasic (c ∷ cs) [] xs l h = absurd (omega (arith, l))
all_nonbasic (c ∷ cs) (s ∷ ss) [] l h = refl
all_nonbasic (c ∷ cs) (InBasis ∷ ss) (x ∷ xs) l h = absurd (h 0 (omega arith) refl)
all_nonbasic (c ∷ cs) (InColumn k ∷ ss) (x ∷ xs) l h = ap (λ z. c *ℤ x +ℤ z) (all_nonbasic cs ss xs (omega (arith, l)) (λ j m. h (suc j) (omega (arith, m))))

-- ---- rows one after another
module _ (f : List ℤ → ℤ) (d n : ℕ) (ss : List Position) (bs : List IntegerBounds) (ps : List (List ℤ)) where
  -- the variable of row k doesn't leave
  pub row_passed : (k : ℕ) (all : Option (ℕ × Direction)) → n + k < length ss → n + k < length bs → k < length ps
      → None ≡ violation_at d (get_or ss (n + k) InBasis) (get_or bs (n + k) (record { lower = None; upper = None })) (f (get_or ps k []))
      → leaving_by_numerators d (n + k) (drop (n + k) ss) (drop (n + k) bs) (map f (drop k ps)) ≡ all
      → leaving_by_numerators d (n + (k + 1)) (drop (n + (k + 1)) ss) (drop (n + (k + 1)) bs) (map f (drop (k + 1) ps)) ≡ all
  row_passed k all l m o none h =
      (λ i. leaving_by_numerators d (next i) (drop (after i) ss) (drop (after i) bs) (map f (drop (later i) ps)))
      ∙ ap (λ o. found_or (n + k) o (leaving_by_numerators d (n + k + 1) (drop (suc (n + k)) ss) (drop (suc (n + k)) bs) (map f (drop (suc k) ps)))) none
      ∙ sym (λ i. leaving_by_numerators d (n + k) (drop-cons ss (n + k) InBasis l i) (drop-cons bs (n + k) (record { lower = None; upper = None }) m i) (map f (drop-cons ps k [] o i)))
      ∙ h
    where
      next : n + (k + 1) ≡ n + k + 1
      next = omega arith

      after : n + (k + 1) ≡ suc (n + k)
      after = omega arith

      later : k + 1 ≡ suc k
      later = omega arith

  pub rows_passed : (k : ℕ) (all : Option (ℕ × Direction)) → length ps ≤ k → leaving_by_numerators d (n + k) (drop (n + k) ss) (drop (n + k) bs) (map f (drop k ps)) ≡ all → None ≡ all
  rows_passed k all l h = none_after d (n + k) (drop (n + k) ss) (drop (n + k) bs) (map f (drop k ps)) (ap (λ ps. length (map f ps)) (drop_all k ps l)) ∙ h

  -- where no column leaves
  pub by_rows : (vs : List ℤ) → length vs ≡ n → n ≤ length ss → n ≤ length bs → leaving_by_numerators d 0 ss bs vs ≡ None
      → leaving_by_numerators d n (drop n ss) (drop n bs) (map f ps) ≡ leaving_by_numerators d 0 ss bs (vs ++ map f ps)
  by_rows vs e l m none = sym (leaving_parts d 0 ss bs vs (map f ps) (omega (arith, e, l)) (omega (arith, e, m))
      ∙ (λ i. first_or (none i) (leaving_by_numerators d (many i) (drop (e i) ss) (drop (e i) bs) (map f ps))))
    where
      many : 0 + length vs ≡ n
      many = omega (arith, e)

-- where a column leaves
pub by_column : (d : ℕ) (ss : List Position) (bs : List IntegerBounds) (vs ws : List ℤ) (found : ℕ × Direction) → length vs ≤ length ss → length vs ≤ length bs
    → Some found ≡ leaving_by_numerators d 0 ss bs vs → Some found ≡ leaving_by_numerators d 0 ss bs (vs ++ ws)
by_column d ss bs vs ws found l m e =
    ap (λ o. first_or o (leaving_by_numerators d (0 + length vs) (drop (length vs) ss) (drop (length vs) bs) ws)) e ∙ sym (leaving_parts d 0 ss bs vs ws l m)

-- ---- solutions
-- the nonbasic values of a solution's columns are within its reach
pub bounded_from_code : (ps : List (List ℤ)) (weight reach : ℕ) (w : IntegerTableau) → IsCompact ps weight reach w → (xs vs : List ℤ) → xs ≡ w.nonbasic_values → vs ≡ w.values
    → (j : ℕ) → j < length vs → nat_abs (number_at xs j) ≤ reach
bounded_from_code ps weight reach w compact xs vs xs_are vs_are j l =
    let m : j < length w.rows = omega (arith, l, ap length vs_are, compact.values) in
    rw xs_are (omega (arith, compact.bounded j (omega (arith, m, compact.variables)), compact.reached j m))

-- a variable that isn't basic is in some column
pub in_some_column : (s : Position) → s ≢ InBasis → (k : ℕ) × (s ≡ InColumn k)
in_some_column InBasis apart = absurd (apart refl)
in_some_column (InColumn k) apart = (k, refl)

-- at the start no column is basic
pub start_apart : (k n : ℕ) (ss : List Position) (j : ℕ) → j < n → get_or (columns_from k n ++ ss) j InBasis ≢ InBasis
start_apart k zero ss j l e = absurd (omega (arith, l))
start_apart k (suc n) ss zero l e = absurd (let no : InColumn k ≡ InBasis = e in cc)
start_apart k (suc n) ss (suc j) l e = start_apart (suc k) n ss j (omega (arith, l)) e
