-- The price of no row, and of one row, over a modest box is not cramped.
use Rattle.std.specs.Prelude.{◌≡◌, ◌<◌, ◌≤◌, ◌+◌, ◌*◌, ◌^◌, ℕ, zero, suc, ℤ, pos, negsuc, nat_abs, int_lt, Bool, true, false, cond, eqb, List, [], ◌∷◌, All, length, Option, Some, option_map, refl}
use Rattle.std.specs.Option.{option_and_then}
use Rattle.std.proofs.Common.{sym, ap, ◌∙◌, subst, arith}
use Rattle.std.proofs.Math.Nat.{one-dvd, le_of_dvd, le_of_mul-le-mul_right, mul-le-mul_left, mul-le-mul_right, mul-le-mul}
use Prim.Native.Nat.{◌∣◌}
use Rattle.std.proofs.lemmas.Int.{ints}
use Rattle.std.proofs.lemmas.Bool.{eqb-true}
use Rattle.std.proofs.lemmas.List.Elements.{All-head, All-tail}
use Rattle.fraction.specs.Rational.{ℚ, whole, ◌+ℚ◌, ◌*ℚ◌, neg_ℚ}
use Rattle.fraction.specs.Lemmas.Rational.{zero-+ℚ, *ℚ_comm}
use Rattle.fraction.specs.Lemmas.Ring.{+ℚ-zero}
use Rattle.fraction.specs.Bounds.{Within}
use Rattle.fraction.specs.Lemmas.Bounds.{mul_is, add_is, add_fits_within, Within-+ℚ, mul_fits_small, mul_fits_within, Within-*ℚ, whole_parts}
use Rattle.fraction.specs.Checked.{add_fits, mul_fits, add_checked, sub_checked}
use Rattle.problem_box.specs.declared.span.Span.{Span}
use Rattle.problem.specs.Linear.{coefficient}
use Rattle.problem.specs.Modest.{IsModest}
use Rattle.problem.specs.Rising.{RiseFrom}
use Rattle.problem.specs.Limited.{IsModestSpan, AreLimited, IsLimitedRow}
use Rattle.problem.specs.Problem.{Problem}
use Rattle.problem.specs.Limits.{most_columns, largest_bound, finest}
use Rattle.problem.specs.Lemmas.Rising.{before_first}
use Rattle.problem.specs.Lemmas.Modest.{largest_term}
use Rattle.cert_rows.specs.Lines.{CertLine, row_at}
use Rattle.derivation_book.specs.declared.cut.Cut.{Cut}
use Rattle.derivation_book.specs.Known.{known_lines}
use Rattle.derivation_book.specs.Sums.{with_product, sum_from, coefficient_at, side_at, combined_at, combined_side, combined_columns, Sums, sums_of, combined}
use Rattle.derivation_book.specs.Rounded.{is_zero}
use Rattle.derivation_book.specs.Price.{bound_for, with_bound, with_reduced_cost, with_columns, price}
use Rattle.expand.proofs.Prices.{neg_is}

-- a multiple of 1 / finest of size at most a / finest
abbrev Small : ℕ → ℚ → Type 0
Small a x = Within finest a x

pub zero_small : Small 0 (whole (pos 0))
zero_small = record { divides = rw (whole_parts (pos 0)).1 (one-dvd finest); size = rw (whole_parts (pos 0)).0 (omega arith) }

wider : (a b : ℕ) (x : ℚ) → a ≤ b → Small a x → Small b x
wider a b x l h = record { divides = h.divides; size = larger (nat_abs x.num * finest) x.den h.size }
  where
    larger : (n d : ℕ) → n ≤ a * d → n ≤ b * d
    larger n d k = let m : a * d ≤ b * d = mul-le-mul_right d l in omega (arith, m, k)

negated : (a : ℕ) (x : ℚ) → Small a x → Small a (neg_ℚ x)
negated a x h =
    let minus : Small (a * 1) (x *ℚ whole (negsuc 0)) = Within-*ℚ x (negsuc 0) finest a 1 (omega arith) h (omega (arith, ints)) in
    let same : x *ℚ whole (negsuc 0) ≡ neg_ℚ x = *ℚ_comm x (whole (negsuc 0)) ∙ sym (neg_is x) in
    wider (a * 1) a (neg_ℚ x) (omega arith) (subst (Small (a * 1)) same minus)

-- ---- products
-- a sum with a product that isn't cramped
with_product_is : (s m a : ℚ) → mul_fits m a ≡ true → add_fits s (m *ℚ a) ≡ true → with_product s m a ≡ Some (s +ℚ m *ℚ a)
with_product_is s m a h k = ap (option_and_then (λ v. add_checked s v)) (mul_is m a h) ∙ add_is s (m *ℚ a) k

-- with a multiplier of size 1
num_small : (a : ℕ) (x : ℚ) → Small a x → nat_abs x.num ≤ a
num_small a x h = at_most (nat_abs x.num) finest x.den (omega arith) h.divides h.size
  where
    at_most : (m n d : ℕ) → 0 < n → d ∣ n → m * n ≤ a * d → m ≤ a
    at_most m n d o q l =
        let k = le_of_dvd o q in
        le_of_mul-le-mul_right (let j : m * n ≤ a * n = omega (arith, mul-le-mul_left a k, l) in j) o

one_fits : (z : ℤ) (x : ℚ) (a : ℕ) → nat_abs z ≤ 1 → a ≤ 10 ^ 25 → Small a x → mul_fits (whole z) x ≡ true
one_fits z x a l k h =
    let w = whole_parts z in
    let n = num_small a x h in
    let o : 0 < finest = omega arith in
    let d = le_of_dvd o h.divides in
    mul_fits_small (whole z) x (rw w.0 (omega (arith, mul-le-mul l n, k))) (rw w.1 (omega (arith, d)))

one_small : (z : ℤ) (x : ℚ) (a : ℕ) → nat_abs z ≤ 1 → Small a x → Small a (whole z *ℚ x)
one_small z x a l h =
    wider (a * 1) a (whole z *ℚ x) (omega arith) (subst (Small (a * 1)) (*ℚ_comm x (whole z)) (Within-*ℚ x z finest a 1 (omega arith) h l))

-- one row's number, added to 0
pub one_row : (z : ℤ) (x : ℚ) (a : ℕ) → nat_abs z ≤ 1 → a ≤ 10 ^ 25 → Small a x → (y : ℚ) × (with_product (whole (pos 0)) (whole z) x ≡ Some y) × Small a y
one_row z x a l k h =
    let m = one_small z x a l h in
    let fits = add_fits_within (whole (pos 0)) (whole z *ℚ x) finest 0 a (omega arith) (omega arith) (omega (arith, k)) zero_small m in
    (whole (pos 0) +ℚ whole z *ℚ x, with_product_is (whole (pos 0)) (whole z) x (one_fits z x a l k h) fits, subst (Small a) (sym (zero-+ℚ (whole z *ℚ x))) m)

-- ---- columns
-- What is left of a column, times a bound, is added. A sum of at most 10^38 and a product more is below 2^127, which is 1.7 * 10^38, and 8,000
-- products of 2 * 10^33 are less than a sixth of 10^38.
module _ (a c : ℚ) (ma : IsModest a) (mc : IsModest c) (s : Span) (ms : IsModestSpan s) (k : ℕ) (total : ℚ) (lk : k ≤ 10 ^ 38) (mt : Small k total) where
  abbrev left : ℚ
  left = a +ℚ neg_ℚ c

  left_is : sub_checked a c ≡ Some left
  left_is = add_is a (neg_ℚ c) (add_fits_within a (neg_ℚ c) finest (largest_bound * finest) (largest_bound * finest) (omega arith) (omega arith) (omega arith) ma (negated (largest_bound * finest) c mc))

  left_small : Small (2 * (largest_bound * finest)) left
  left_small = wider (largest_bound * finest + largest_bound * finest) (2 * (largest_bound * finest)) left (omega arith) (Within-+ℚ a (neg_ℚ c) finest (largest_bound * finest) (largest_bound * finest) (omega arith) ma (negated (largest_bound * finest) c mc))

  bound_modest : nat_abs (bound_for left s) ≤ largest_bound
  bound_modest = step (int_lt (pos 0) left.num)
    where
      step : (b : Bool) → nat_abs (cond b s.lo s.hi) ≤ largest_bound
      step true = ms.0
      step false = ms.1

  product_small : Small (2 * largest_term) (left *ℚ whole (bound_for left s))
  product_small =
      wider (2 * (largest_bound * finest) * largest_bound) (2 * largest_term) (left *ℚ whole (bound_for left s)) (omega arith)
      (Within-*ℚ left (bound_for left s) finest (2 * (largest_bound * finest)) largest_bound (omega arith) left_small bound_modest)

  product_is : with_product total left (whole (bound_for left s)) ≡ Some (total +ℚ left *ℚ whole (bound_for left s))
  product_is =
      with_product_is total left (whole (bound_for left s))
      (mul_fits_within left (bound_for left s) finest (2 * (largest_bound * finest)) largest_bound (omega arith) (omega arith) (omega arith) left_small bound_modest)
      (add_fits_within total (left *ℚ whole (bound_for left s)) finest k (2 * largest_term) (omega arith) (omega arith) (omega (arith, lk)) mt product_small)

  abbrev HasNext : Option ℚ → Type 0
  HasNext o = (t : ℚ) × (o ≡ Some t) × Small (k + 2 * largest_term) t

  next : HasNext (with_bound total left s)
  next = step (is_zero left)
    where
      step : (b : Bool) → HasNext (cond b (Some total) (with_product total left (whole (bound_for left s))))
      step true = (total, refl, wider k (k + 2 * largest_term) total (omega arith) mt)
      step false = (
        total +ℚ left *ℚ whole (bound_for left s),
        product_is,
        Within-+ℚ total (left *ℚ whole (bound_for left s)) finest k (2 * largest_term) (omega arith) mt product_small,
      )

  pub next_total : HasNext (with_reduced_cost total a c s)
  next_total = let n = next in (n.0, ap (option_and_then (λ r. with_bound total r s)) left_is ∙ n.1, n.2)

-- each coefficient is modest
abbrev pub AreModestColumns : List ℚ → Type 0
AreModestColumns [] = Unit {0}
AreModestColumns (c ∷ cs) = IsModest c × AreModestColumns cs

pub all_columns : (target : List (ℕ × ℚ)) → ((j : ℕ) → IsModest (coefficient target j)) → (j : ℕ) (cs : List ℚ) (ss : List Span) (total : ℚ) (k : ℕ)
    → k + length ss * (2 * largest_term) ≤ 10 ^ 38 → Small k total → AreModestColumns cs → All IsModestSpan ss → (v : ℚ) × (with_columns total target j cs ss ≡ Some v)
all_columns target mt j [] ss total k l h mc ms = (total, refl)
all_columns target mt j (c ∷ cs) [] total k l h mc ms = (total, refl)
all_columns target mt j (c ∷ cs) (s ∷ ss) total k l h mc ms =
    let n = next_total (coefficient target j) c (mt j) mc.0 s (All-head IsModestSpan s ss ms) k total (omega (arith, l)) h in
    let r = all_columns target mt (j + 1) cs ss n.0 (k + 2 * largest_term) (omega (arith, l)) n.2 mc.1 (All-tail IsModestSpan s ss ms) in
    (r.0, ap (option_and_then (λ t. with_columns t target (j + 1) cs ss)) n.1 ∙ r.1)

-- ---- coefficients of rising terms
zero_modest : IsModest (whole (pos 0))
zero_modest = wider 0 (largest_bound * finest) (whole (pos 0)) (omega arith) zero_small

rising_modest : (k : ℕ) (ts : List (ℕ × ℚ)) → RiseFrom k ts → All (λ t. IsModest t.1) ts → (j : ℕ) → IsModest (coefficient ts j)
rising_modest k [] h m j = zero_modest
rising_modest k (t ∷ ts) h m j = step (eqb t.0 j) refl (rising_modest (suc t.0) ts h.1 (All-tail (λ (t : ℕ × ℚ). IsModest t.1) t ts m) j)
  where
    step : (b : Bool) → eqb t.0 j ≡ b → IsModest (coefficient ts j) → IsModest (cond b t.1 (whole (pos 0)) +ℚ coefficient ts j)
    step true e r =
        let q = eqb-true t.0 j e in
        let none = before_first (suc t.0) ts j h.1 (omega (arith, q)) in
        subst IsModest (sym (ap (λ v. t.1 +ℚ v) none ∙ +ℚ-zero t.1)) (All-head (λ (t : ℕ × ℚ). IsModest t.1) t ts m)
    step false e r = subst IsModest (sym (zero-+ℚ (coefficient ts j))) r

pub limited_modest : (n : ℕ) (ts : List (ℕ × ℚ)) → AreLimited n ts → (j : ℕ) → IsModest (coefficient ts j)
limited_modest n ts h j = rising_modest 0 ts h.rising h.modest j

pub none_modest : (j : ℕ) → IsModest (coefficient [] j)
none_modest j = zero_modest

-- ---- combinations
abbrev HasColumns : Option (List ℚ) → Type 0
HasColumns o = (cs : List ℚ) × (o ≡ Some cs) × AreModestColumns cs

columns_there : (ls : List CertLine) (mult : List (ℕ × ℚ)) → ((j : ℕ) → (c : ℚ) × (combined_at ls mult j ≡ Some c) × IsModest c) → (j n : ℕ) → HasColumns (combined_columns ls mult j n)
columns_there ls mult at j zero = ([], refl, tt)
columns_there ls mult at j (suc n) =
    let c = at j in
    let r = columns_there ls mult at (j + 1) n in (
      c.0 ∷ r.0,
      ap (option_and_then (λ c. option_map (λ cs. c ∷ cs) (combined_columns ls mult (j + 1) n))) c.1 ∙ ap (option_map (λ cs. c.0 ∷ cs)) r.1,
      (c.2, r.2),
    )

-- the price, where the combination is modest
module _ (p : Problem) (cs : List Cut) (box : List Span) (target mult : List (ℕ × ℚ)) (few : length box ≤ most_columns) (modest : All IsModestSpan box)
    (targeted : (j : ℕ) → IsModest (coefficient target j)) (at : (j : ℕ) → (c : ℚ) × (combined_at (known_lines p cs) mult j ≡ Some c) × IsModest c)
    (side : (s : ℚ) × (combined_side (known_lines p cs) mult ≡ Some s) × Small (10 ^ 25) s) where
  pub price_there : (v : ℚ) × (price p cs box target mult ≡ Some v)
  price_there =
      let ls = known_lines p cs in
      let columns = columns_there ls mult at 0 (length p.spans) in
      let sums : combined ls mult (length p.spans) ≡ Some (sums_of columns.0 side.0) =
      ap (option_and_then (λ cs. option_map (sums_of cs) (combined_side ls mult))) columns.1 ∙ ap (option_map (sums_of columns.0)) side.1
      in
      let all = all_columns target targeted 0 columns.0 box side.0 (10 ^ 25) (omega (arith, few)) side.2 columns.2 modest in
      (all.0, ap (option_and_then (λ (q : Sums). with_columns q.side target 0 q.coefficients box)) sums ∙ all.1)

-- no row
pub bare_price_there : (p : Problem) (cs : List Cut) (box : List Span) (target : List (ℕ × ℚ)) → length box ≤ most_columns → All IsModestSpan box → ((j : ℕ) → IsModest (coefficient target j))
    → (v : ℚ) × (price p cs box target [] ≡ Some v)
bare_price_there p cs box target few modest targeted =
    price_there p cs box target [] few modest targeted (λ j. (whole (pos 0), refl, zero_modest)) (whole (pos 0), refl, wider 0 (10 ^ 25) (whole (pos 0)) (omega arith) zero_small)

-- one row of the problem, times 1 or -1
added_once : (f : ℕ → ℚ) (i : ℕ) (m : ℚ) (y : ℚ) → with_product (whole (pos 0)) m (f i) ≡ Some y → sum_from f (whole (pos 0)) ((i, m) ∷ []) ≡ Some y
added_once f i m y e = ap (option_and_then (λ t. Some t)) e

pub row_price_there : (p : Problem) (cs : List Cut) (box : List Span) (i : ℕ) (z : ℤ) (n : ℕ) → nat_abs z ≤ 1 → length box ≤ most_columns → All IsModestSpan box → IsLimitedRow n (row_at (known_lines p cs) i)
    → (v : ℚ) × (price p cs box [] ((i, whole z) ∷ []) ≡ Some v)
row_price_there p cs box i z n l few modest row =
    let ls = known_lines p cs in
    price_there p cs box [] ((i, whole z) ∷ []) few modest none_modest
    (λ j.
    let y = one_row z (coefficient_at ls j i) (largest_bound * finest) l (omega arith) (limited_modest n (row_at ls i).terms row.terms j) in
    (y.0, added_once (coefficient_at ls j) i (whole z) y.0 y.1, y.2))
    (let y = one_row z (side_at ls i) (2 * (largest_bound * finest)) l (omega arith) row.rhs in
    (y.0, added_once (side_at ls) i (whole z) y.0 y.1, wider (2 * (largest_bound * finest)) (10 ^ 25) y.0 (omega arith) y.2))
