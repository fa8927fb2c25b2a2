-- The order of columns is total: ratios are those of coefficients that aren't 0.
use Rattle.std.proofs.Common.{◌≡◌, ℕ, ◌*◌, ◌<◌, arith, ap, sym, ◌∙◌, inl, inr}
use Rattle.std.specs.Prelude.{nat_abs}
use Rattle.std.specs.Cmp.{IsTotalOrder, on_total, then_total}
use Rattle.std.specs.Ordering.{nat_cmp}
use Rattle.std.specs.declared.cmp.Ordering.{Ordering}
use Rattle.std.specs.declared.cmp.Ordering.TheVariants.{Less, Equal}
use Rattle.std.proofs.lemmas.Bool.{cases_lt}
use Rattle.std.proofs.lemmas.Bool.Decides.{nat_tests}
use Rattle.std.proofs.lemmas.Cmp.{nat_cmp_total}
use Rattle.std.proofs.Math.Nat.{eq-or-lt_of_le, lt_of_mul-lt-mul_right, mul-lt-mul_of_pos_right}
use Rattle.integer_tableau.specs.RankedColumns.{rank_order}
use Rattle.integer_tableau.specs.declared.ranked_column.RankedColumn.{RankedColumn}

-- ---- of numbers
less_from : (m n : ℕ) → nat_cmp m n ≡ Less → m < n
less_from m n e = grind (arith, nat_tests)

equal_from : (m n : ℕ) → nat_cmp m n ≡ Equal → m ≡ n
equal_from m n e = grind (arith, nat_tests)

to_less : (m n : ℕ) → m < n → nat_cmp m n ≡ Less
to_less m n l = grind (arith, nat_tests)

both_less : (m n i j : ℕ) → m < n → i < j → nat_cmp m n ≡ nat_cmp i j
both_less m n i j l k = grind (arith, nat_tests)

both_equal : (m n i j : ℕ) → m ≡ n → i ≡ j → nat_cmp m n ≡ nat_cmp i j
both_equal m n i j e f = grind (arith, nat_tests)

both_greater : (m n i j : ℕ) → n < m → j < i → nat_cmp m n ≡ nat_cmp i j
both_greater m n i j l k = grind (arith, nat_tests)

-- the same where both are multiplied
scaled : (m n k : ℕ) → 0 < k → nat_cmp (m * k) (n * k) ≡ nat_cmp m n
scaled m n k o = elim (cases_lt m n) [
  | inl l ↦ both_less (m * k) (n * k) m n (mul-lt-mul_of_pos_right l o) l
  | inr l ↦ elim (eq-or-lt_of_le l) [
    | inl e ↦ both_equal (m * k) (n * k) m n (ap (λ i. i * k) (sym e)) (sym e)
    | inr g ↦ both_greater (m * k) (n * k) m n (mul-lt-mul_of_pos_right g o) g
  ]
]

-- ---- of ratios x/u, y/v and z/w
module _ (x u y v z w : ℕ) (u_there : 0 < u) (v_there : 0 < v) (w_there : 0 < w) where
  less_less : x * v < y * u → y * w < z * v → x * w < z * u
  less_less l m = lt_of_mul-lt-mul_right v (let q : x * w * v < z * u * v = omega (arith, mul-lt-mul_of_pos_right l w_there, mul-lt-mul_of_pos_right m u_there) in q)

  equal_same : x * v ≡ y * u → nat_cmp (x * w) (z * u) ≡ nat_cmp (y * w) (z * v)
  equal_same e =
      let first : x * w * v ≡ y * w * u = omega (arith, ap (λ n. n * w) e) in
      let second : z * u * v ≡ z * v * u = omega arith in
      sym (scaled (x * w) (z * u) v v_there) ∙ (λ i. nat_cmp (first i) (second i)) ∙ scaled (y * w) (z * v) u u_there

-- ---- of columns
abbrev ratio_order : RankedColumn → RankedColumn → Ordering
ratio_order b c = nat_cmp (b.reduced_cost * nat_abs c.coefficient) (c.reduced_cost * nat_abs b.coefficient)

ratio_trans : (b c d : RankedColumn) → ratio_order b c ≡ Less → ratio_order c d ≡ Less → ratio_order b d ≡ Less
ratio_trans b c d e f =
    to_less (b.reduced_cost * nat_abs d.coefficient) (d.reduced_cost * nat_abs b.coefficient)
    (less_less b.reduced_cost (nat_abs b.coefficient) c.reduced_cost (nat_abs c.coefficient) d.reduced_cost (nat_abs d.coefficient) b.some c.some d.some
    (less_from (b.reduced_cost * nat_abs c.coefficient) (c.reduced_cost * nat_abs b.coefficient) e)
    (less_from (c.reduced_cost * nat_abs d.coefficient) (d.reduced_cost * nat_abs c.coefficient) f))

ratio_congr : (b c d : RankedColumn) → ratio_order b c ≡ Equal → ratio_order b d ≡ ratio_order c d
ratio_congr b c d e =
    equal_same b.reduced_cost (nat_abs b.coefficient) c.reduced_cost (nat_abs c.coefficient) d.reduced_cost (nat_abs d.coefficient) b.some c.some d.some
    (equal_from (b.reduced_cost * nat_abs c.coefficient) (c.reduced_cost * nat_abs b.coefficient) e)

ratio_total : IsTotalOrder ratio_order
ratio_total = record {
  antisymm = λ b c. nat_cmp_total.antisymm (b.reduced_cost * nat_abs c.coefficient) (c.reduced_cost * nat_abs b.coefficient);
  trans = ratio_trans;
  congr = ratio_congr;
}

pub rank_total : IsTotalOrder rank_order
rank_total = then_total ratio_total (on_total (λ c. c.variable) nat_cmp_total)
