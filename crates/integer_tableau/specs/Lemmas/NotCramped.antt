-- No elimination in small numbers is cramped.
use Rattle.std.proofs.Common.{◌≡◌, ℕ, zero, suc, ◌+◌, ◌*◌, ◌<◌, ◌≤◌, ◌^◌, arith, refl, ap, sym, ◌∙◌, subst, false, Some, None, List, [], ◌∷◌, ◌++◌, length, get_or, set, take, drop}
use Rattle.std.specs.Prelude.{ℤ, pos, neg_ℤ, nat_abs, ◌*ℤ◌, ◌+ℤ◌, if◌then◌else◌}
use Rattle.std.specs.Ordering.{int_eq}
use Rattle.std.specs.Option.{option_and_then, option_map}
use Rattle.std.proofs.Math.Nat.{mul-le-mul}
use Rattle.std.proofs.lemmas.Int.{ints, unsigned_abs-mul}
use Rattle.std.proofs.lemmas.List.{get_or-take, get_or-drop, get_or-set_other, get_or-set_same, length-set, length-take-le}
use Rattle.fraction.specs.Checked.{add_checked}
use Rattle.fraction.specs.Rational.{ℚ, frac}
use Rattle.tableau.specs.Elimination.{add_multiple, add_multiple_of_row, all_substituted, entry, negative_quotient, negative_quotients, others_substituted, solved_for, substituted, zero_ℚ}
use Rattle.tableau.specs.Lemmas.Pivoted.{others_are}
use Rattle.tableau.specs.Lemmas.RowAlgebra.{minus_one}
use Rattle.tableau.specs.Pivot.{eliminated, rows_eliminated}
use Rattle.tableau.specs.Tableau.{Tableau, row_of}
use Rattle.integer_tableau.specs.Range.{size_limit}
use Rattle.integer_tableau.specs.Small.{IsOver}
use Rattle.integer_tableau.specs.SmallDictionary.{AreOver}
use Rattle.integer_tableau.specs.Substitution.{quotient_numerator}
use Rattle.integer_tableau.specs.Lemmas.Fractions.{add_frac, frac-num_positive, frac-size, less_over, mul_frac, negative_quotient_exact, none_over, zero_is_over, abs-negative_quotient}

-- ---- numbers over a denominator
-- each row over a denominator of its own, and the reduced costs over one
pub record HasSmallRows (d : ℕ → ℕ) (s : ℕ) (t : Tableau) : Type 0 where
  pub positive : (i : ℕ) → (0 < d i) × (d i < size_limit)
  pub cost_positive : (0 < s) × (s < size_limit)
  pub rows : (i : ℕ) → AreOver (d i) (row_of t i)
  pub costs : AreOver s t.reduced_costs

less_is_over : (d : ℕ) → 0 < d → d < size_limit → IsOver d 1 minus_one
less_is_over d o l = record { numerator = neg_ℤ (pos d); small = omega (arith, ints); exact = sym (less_over d o) }

pub over_none : (d : ℕ) → 0 < d → AreOver d []
over_none d o j = none_over d 1 j o

over_cons : (d : ℕ) (x : ℚ) (xs : List ℚ) → IsOver d 1 x → AreOver d xs → AreOver d (x ∷ xs)
over_cons d x xs h k zero = h
over_cons d x xs h k (suc j) = k j

over_set : (d : ℕ) (xs : List ℚ) (i : ℕ) (v : ℚ) → 0 < d → IsOver d 1 v → AreOver d xs → AreOver d (set xs i v)
over_set d [] i v o h k = k
over_set d (x ∷ xs) zero v o h k = over_cons d v xs h (λ j. k (suc j))
over_set d (x ∷ xs) (suc i) v o h k = over_cons d x (set xs i v) (k 0) (over_set d xs i v o h (λ j. k (suc j)))

size_product : (m n : ℕ) → m * 1 ≤ size_limit → n * 1 ≤ size_limit → m * n ≤ 2 ^ 124
size_product m n h k = let l : m ≤ size_limit = omega arith in let o : n ≤ size_limit = omega arith in omega (arith, mul-le-mul l o)

-- ---- the solved row
module _ (p : ℚ) (b : ℤ) (d : ℕ) (o : 0 < d) (l : d < size_limit) (hb : 0 < nat_abs b) (sb : nat_abs b ≤ size_limit) (e : p ≡ frac b d) where
  quotient_there : (t : ℚ) → IsOver d 1 t → (x : ℚ) × (negative_quotient p t ≡ Some x) × IsOver (nat_abs b) 1 x
  quotient_there t h = (
    frac (quotient_numerator b h.numerator) (nat_abs b),
    (λ i. negative_quotient (e i) (h.exact i)) ∙ negative_quotient_exact b h.numerator d o (omega arith) hb (omega arith) (omega (arith, h.small)),
    record { numerator = quotient_numerator b h.numerator; small = omega (arith, h.small, abs-negative_quotient b h.numerator); exact = refl },
  )

  quotients_there : (ts : List ℚ) → AreOver d ts → (ds : List ℚ) × (negative_quotients p ts ≡ Some ds) × AreOver (nat_abs b) ds
  quotients_there [] h = ([], refl, over_none (nat_abs b) hb)
  quotients_there (t ∷ ts) h =
      let x = quotient_there t (h 0) in
      let xs = quotients_there ts (λ j. h (suc j)) in (
        x.0 ∷ xs.0,
        ap (option_and_then (λ d. option_map (λ ds. d ∷ ds) (negative_quotients p ts))) x.1 ∙ ap (option_map (λ ds. x.0 ∷ ds)) xs.1,
        over_cons (nat_abs b) x.0 xs.0 x.2 xs.2,
      )

-- ---- other rows
module _ (q : ℚ) (d e : ℕ) (od : 0 < d) (ld : d < size_limit) (oe : 0 < e) (le : e ≤ size_limit) (h : IsOver d 1 q) where
  multiple_there : (t s : ℚ) → IsOver d 1 t → IsOver e 1 s → (x : ℚ) × (add_multiple q t s ≡ Some x)
  multiple_there t s g k =
      let a = h.numerator in
      let x = g.numerator in
      let y = k.numerator in
      let m = size_product (nat_abs a) (nat_abs y) h.small k.small in
      let w = size_product d e (omega arith) (omega arith) in
      let z = size_product (nat_abs x) e g.small (omega arith) in
      let u : nat_abs (a *ℤ y) ≡ nat_abs a * nat_abs y = unsigned_abs-mul a y in (
        frac (x *ℤ pos e +ℤ a *ℤ y) (d * e),
        (λ i. add_multiple (h.exact i) (g.exact i) (k.exact i))
            ∙ ap (option_and_then (λ p. add_checked (frac x d) p)) (mul_frac a y d e od oe (omega arith) (omega arith))
            ∙ add_frac x (a *ℤ y) d e od oe (omega arith) (omega arith),
      )

  multiples_there : (ts ss : List ℚ) → AreOver d ts → AreOver e ss → (ds : List ℚ) × (add_multiple_of_row q ts ss ≡ Some ds)
  multiples_there [] ss g k = ([], refl)
  multiples_there (t ∷ ts) [] g k = (t ∷ ts, refl)
  multiples_there (t ∷ ts) (s ∷ ss) g k =
      let x = multiple_there t s (g 0) (k 0) in
      let xs = multiples_there ts ss (λ j. g (suc j)) (λ j. k (suc j)) in (
        x.0 ∷ xs.0,
        ap (option_and_then (λ d. option_map (λ ds. d ∷ ds) (add_multiple_of_row q ts ss))) x.1 ∙ ap (option_map (λ ds. x.0 ∷ ds)) xs.1,
      )

module _ (c : ℕ) (new : List ℚ) (e : ℕ) (oe : 0 < e) (le : e ≤ size_limit) (k : AreOver e new) where
  substituted_there : (d : ℕ) → 0 < d → d < size_limit → (row : List ℚ) → AreOver d row → (ds : List ℚ) × (substituted c new row ≡ Some ds)
  substituted_there d od ld row h = multiples_there (entry row c) d e od ld oe le (h c) (set row c zero_ℚ) new (over_set d row c zero_ℚ od (zero_is_over d 1 od) h) k

  all_there : (d : ℕ → ℕ) → ((i : ℕ) → (0 < d i) × (d i < size_limit)) → (rows : List (List ℚ)) → ((i : ℕ) → i < length rows → AreOver (d i) (get_or rows i [])) → (rs : List (List ℚ)) × (all_substituted c new rows ≡ Some rs)
  all_there d o [] h = ([], refl)
  all_there d o (row ∷ rows) h =
      let x = substituted_there (d 0) (o 0).0 (o 0).1 row (h 0 (omega arith)) in
      let xs = all_there (λ i. d (suc i)) (λ i. o (suc i)) rows (λ i l. h (suc i) (omega arith)) in (
        x.0 ∷ xs.0,
        ap (option_and_then (λ r. option_map (λ rs. r ∷ rs) (all_substituted c new rows))) x.1 ∙ ap (option_map (λ rs. x.0 ∷ rs)) xs.1,
      )

-- ---- the elimination
module _ (d : ℕ → ℕ) (s r c : ℕ) (t : Tableau) (h : HasSmallRows d s t) (there : r < length t.rows) (pivot : int_eq (entry (row_of t r) c).num (pos 0) ≡ false) where
  abbrev b : ℤ
  b = (h.rows r c).numerator

  pivot_small : nat_abs b ≤ size_limit
  pivot_small = omega (arith, (h.rows r c).small)

  module _ (hb : 0 < nat_abs b) where
    solved_there : (new : List ℚ) × (solved_for r c (row_of t r) ≡ Some new) × AreOver (nat_abs b) new
    solved_there =
        let x = quotients_there (entry (row_of t r) c) b (d r) (h.positive r).0 (h.positive r).1 hb pivot_small (h.rows r c).exact (set (set (row_of t r) r minus_one) c zero_ℚ)
        (over_set (d r) (set (row_of t r) r minus_one) c zero_ℚ (h.positive r).0 (zero_is_over (d r) 1 (h.positive r).0)
        (over_set (d r) (row_of t r) r minus_one (h.positive r).0 (less_is_over (d r) (h.positive r).0 (h.positive r).1) (h.rows r))) in (
          x.0,
          ap (λ z. if z then None else negative_quotients (entry (row_of t r) c) (set (set (row_of t r) r minus_one) c zero_ℚ)) pivot ∙ x.1,
          x.2,
        )

    module _ (new : List ℚ) (es : solved_for r c (row_of t r) ≡ Some new) (k : AreOver (nat_abs b) new) where
      is_new : get_or (set t.rows r new) r [] ≡ new
      is_new = get_or-set_same t.rows r new [] there

      k' : AreOver (nat_abs b) (get_or (set t.rows r new) r [])
      k' = subst (AreOver (nat_abs b)) (sym is_new) k

      other_over : (i : ℕ) → (i ≡ r → ⊥) → AreOver (d i) (get_or (set t.rows r new) i [])
      other_over i m = subst (AreOver (d i)) (sym (get_or-set_other t.rows r i new [] m)) (h.rows i)

      front : (rs : List (List ℚ)) × (all_substituted c (get_or (set t.rows r new) r []) (take r (set t.rows r new)) ≡ Some rs)
      front = all_there c (get_or (set t.rows r new) r []) (nat_abs b) hb pivot_small k' d h.positive (take r (set t.rows r new))
          (λ i l.
          let g : i < r = omega (arith, l, length-take-le r (set t.rows r new) (omega (arith, there, length-set t.rows r new))) in
          subst (AreOver (d i)) (sym (get_or-take r (set t.rows r new) i [] g)) (other_over i (λ e. omega (arith, g, e))))

      back : (rs : List (List ℚ)) × (all_substituted c (get_or (set t.rows r new) r []) (drop (r + 1) (set t.rows r new)) ≡ Some rs)
      back = all_there c (get_or (set t.rows r new) r []) (nat_abs b) hb pivot_small k' (λ i. d (r + 1 + i)) (λ i. h.positive (r + 1 + i)) (drop (r + 1) (set t.rows r new))
          (λ i l. subst (AreOver (d (r + 1 + i))) (sym (get_or-drop (r + 1) (set t.rows r new) i [])) (other_over (r + 1 + i) (λ e. omega (arith, e))))

      rows_there : (rs : List (List ℚ)) × (rows_eliminated r c t.rows ≡ Some rs) × (get_or rs r [] ≡ get_or (set t.rows r new) r [])
      rows_there =
          let rs = front.0 ++ (get_or (set t.rows r new) r [] ∷ back.0) in
          let e : others_substituted r c (set t.rows r new) ≡ Some rs =
          ap (option_and_then (λ front. option_map (λ back. front ++ (get_or (set t.rows r new) r [] ∷ back)) (all_substituted c (get_or (set t.rows r new) r []) (drop (r + 1) (set t.rows r new))))) front.1
          ∙ ap (option_map (λ back. front.0 ++ (get_or (set t.rows r new) r [] ∷ back))) back.1 in (
            rs,
            ap (option_and_then (λ new. others_substituted r c (set t.rows r new))) es ∙ e,
            (others_are r c (set t.rows r new) rs (omega (arith, there, length-set t.rows r new)) e).kept,
          )

      whole_there : (v : Tableau) × (eliminated r c t ≡ Some v)
      whole_there =
          let x = rows_there in
          let y = substituted_there c (get_or x.0 r []) (nat_abs b) hb pivot_small (subst (AreOver (nat_abs b)) (sym x.2) k') s h.cost_positive.0 h.cost_positive.1 t.reduced_costs h.costs in (
            record t { rows = x.0; reduced_costs = y.0 },
            ap (option_and_then (λ rows. option_map (λ costs. record t { rows = rows; reduced_costs = costs }) (substituted c (get_or rows r []) t.reduced_costs))) x.1
                ∙ ap (option_map (λ costs. record t { rows = x.0; reduced_costs = costs })) y.1,
          )

    at_all : (v : Tableau) × (eliminated r c t ≡ Some v)
    at_all = let x = solved_there in whole_there x.0 x.1 x.2

pub nonzero_over : (b : ℤ) (d : ℕ) (x : ℚ) → 0 < d → x ≡ frac b d → 0 < nat_abs x.num → 0 < nat_abs b
nonzero_over b d x o e l = positive (nat_abs b) (subst (λ (y : ℚ). 0 < nat_abs y.num) e l) (frac-size b d o)
  where
    positive : (m : ℕ) → 0 < nat_abs (frac b d).num → nat_abs (frac b d).num * d ≡ m * (frac b d).den → 0 < m
    positive zero l e = absurd (omega (arith, e, mul-le-mul l o))
    positive (suc m) l e = omega arith

pub elimination_there : (d : ℕ → ℕ) (s r c : ℕ) (t : Tableau) → HasSmallRows d s t → r < length t.rows → 0 < nat_abs (entry (row_of t r) c).num → (v : Tableau) × (eliminated r c t ≡ Some v)
elimination_there d s r c t h there l =
    let x = h.rows r c in
    let o = (h.positive r).0 in
    let hb = nonzero_over x.numerator (d r) (entry (row_of t r) c) o x.exact l in
    at_all d s r c t h there (ap (λ (y : ℚ). int_eq y.num (pos 0)) x.exact ∙ frac-num_positive x.numerator (d r) o hb) hb
