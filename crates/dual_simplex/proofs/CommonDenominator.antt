-- Sums of fractions over a common denominator times whole numbers: where all are small, none is cramped.
use Rattle.std.specs.Prelude.{ℤ, pos, negsuc, nat_abs, All, cond}
use Rattle.std.proofs.Common.{◌≡◌, ℕ, zero, suc, ◌+◌, ◌*◌, ◌^◌, ◌<◌, ◌≤◌, arith, refl, ap, sym, ◌∙◌, subst, Bool, true, false, Option, Some, List, [], ◌∷◌, length, inl, inr}
use Rattle.std.specs.Option.{option_and_then, option_map}
use Rattle.std.proofs.Math.Nat.{one-dvd, mul-le-mul, mul-le-mul_left, mul-le-mul_right, le_of_mul-le-mul_right, le_of_dvd}
use Rattle.std.proofs.lemmas.Bool.{cases_eq}
use Rattle.std.proofs.lemmas.List.Elements.{All-nil, All-cons, All-head, All-tail}
use Rattle.fraction.specs.Rational.{ℚ, whole, frac, ◌+ℚ◌, ◌*ℚ◌, neg_ℚ}
use Rattle.fraction.specs.Bounds.{Within}
use Rattle.fraction.specs.Checked.{add_checked, mul_checked, dot_from}
use Rattle.fraction.specs.Lemmas.Bounds.{mul_is, add_is, add_fits_within, Within-+ℚ, mul_fits_small, mul_fits_within, Within-*ℚ, whole_parts, dot_value, Within-more}
use Rattle.fraction.specs.Lemmas.Rational.{ℚ_is, *ℚ_comm, +ℚ_assoc}
use Rattle.fraction.specs.Lemmas.Ring.{+ℚ-zero}
use Rattle.problem_box.specs.declared.span.Span.{Span}
use Rattle.problem.specs.Limited.{IsModestSpan}
use Rattle.problem.specs.Linear.{Terms, Multipliers, coefficient}
use Rattle.problem.specs.Lemmas.Linear.{past_first}
use Rattle.problem.specs.Lemmas.Rising.{at_first}
use Rattle.problem.specs.Rising.{RiseFrom}
use Rattle.problem.specs.Limits.{largest_bound}
use Rattle.cert_rows.specs.Lines.{CertLine}
use Rattle.derivation_book.specs.Sums.{with_product, sum_from, coefficient_at, combined_columns}
use Rattle.derivation_book.specs.Rounded.{is_zero}
use Rattle.derivation_book.specs.Price.{bound_for, with_bound, with_reduced_cost, with_columns}
use Rattle.tableau.specs.Elimination.{zero_ℚ, entry}
use Rattle.tableau.specs.LinearProgram.{coefficients_from}
use Rattle.tableau.specs.Lemmas.RowAlgebra.{minus_one}
use Rattle.tableau.specs.Lemmas.Signs.{neg_is}
use Rattle.tableau.specs.Lemmas.StartFits.{zero_within}
use Rattle.dual_simplex.specs.Sizes.{IsIntegerTo, HasIntegers, largest_integer}

-- ---- sizes

pub whole_within : (n a : ℕ) (z : ℤ) → nat_abs z * n ≤ a → Within n a (whole z)
whole_within n a z l = record { divides = rw (whole_parts z).1 (one-dvd n); size = rw (whole_parts z).0 (rw (whole_parts z).1 (omega arith)) }

pub neg_within : (n a : ℕ) (x : ℚ) → 0 < n → Within n a x → Within n a (neg_ℚ x)
neg_within n a x o w =
    subst (Within n a) (*ℚ_comm x minus_one ∙ sym (neg_is x))
    (subst (λ b. Within n b (x *ℚ minus_one)) (let e : a * 1 ≡ a = omega arith in e) (Within-*ℚ x (negsuc 0) n a 1 o w (omega arith)))

pub integer_is : (b : ℕ) (q : ℚ) → IsIntegerTo b q → q ≡ whole q.num
integer_is b q h = ℚ_is q ∙ ap (frac q.num) h.is_whole

pub integer_within : (n b : ℕ) (q : ℚ) → IsIntegerTo b q → Within n (b * n) q
integer_within n b q h = subst (Within n (b * n)) (sym (integer_is b q h)) (whole_within n (b * n) q.num (mul-le-mul_right n h.is_small))

pub zero_to : (b : ℕ) → IsIntegerTo b zero_ℚ
zero_to b = record { is_whole = (whole_parts (pos 0)).1; is_small = rw (whole_parts (pos 0)).0 (omega arith) }

numerator_le : (n a : ℕ) (x : ℚ) → 0 < n → Within n a x → nat_abs x.num ≤ a
numerator_le n a x o w = le_of_mul-le-mul_right (let k : nat_abs x.num * n ≤ a * n = omega (arith, w.size, mul-le-mul_left a (le_of_dvd o w.divides)) in k) o

-- a coefficient of rising terms is 0 or that of a term
pub coefficient_holds : (P : ℚ → Type 0) (k : ℕ) (ts : Terms) (j : ℕ) → P zero_ℚ → RiseFrom k ts → All (λ (t : ℕ × ℚ). P t.1) ts → P (coefficient ts j)
coefficient_holds P k [] j z r h = z
coefficient_holds P k (t ∷ ts) j z r h = elim (cases_eq t.0 j) [
  | inl e ↦ subst P (sym (at_first t ts j r.1 e)) (All-head (λ (t : ℕ × ℚ). P t.1) t ts h)
  | inr n ↦ subst P (sym (past_first t ts j n)) (coefficient_holds P (suc t.0) ts j z r.1 (All-tail (λ (t : ℕ × ℚ). P t.1) t ts h))
]

pub integer_coefficient : (ts : Terms) (j : ℕ) → HasIntegers ts → IsIntegerTo largest_integer (coefficient ts j)
integer_coefficient ts j h = coefficient_holds (IsIntegerTo largest_integer) 0 ts j (zero_to largest_integer) h.rising h.coefficients

pub integer_coefficients : (ts : Terms) (j k : ℕ) → HasIntegers ts → All (IsIntegerTo largest_integer) (coefficients_from j k ts)
integer_coefficients ts j zero h = All-nil (IsIntegerTo largest_integer)
integer_coefficients ts j (suc k) h = All-cons (IsIntegerTo largest_integer) (coefficient ts j) (coefficients_from (j + 1) k ts) (integer_coefficient ts j h) (integer_coefficients ts (j + 1) k h)

-- ---- sums: fractions over n, of size at most a over n, times whole numbers of size at most b, are of size at most c over n
-- a sum that is there, of size at most m over n
pub record IsThereWithin (n m : ℕ) (o : Option ℚ) : Type 0 where
  pub it : ℚ
  pub is : o ≡ Some it
  pub within : Within n m it

module _ (n a b c : ℕ) (positive : 0 < n) (small : n < 2 ^ 127) (is_product : a * b ≡ c) where
  -- with one product more
  with_product_there : (m : ℕ) (s x y : ℚ) → m + c < 2 ^ 127 → Within n m s → Within n a x → IsIntegerTo b y → IsThereWithin n (m + c) (with_product s x y)
  with_product_there m s x y l w wx wy = subst (λ v. IsThereWithin n (m + c) (with_product s x v)) (sym (integer_is b y wy)) (at y.num wy.is_small)
    where
      at : (z : ℤ) → nat_abs z ≤ b → IsThereWithin n (m + c) (with_product s x (whole z))
      at z h =
          let product : Within n c (x *ℚ whole z) = subst (λ c. Within n c (x *ℚ whole z)) is_product (Within-*ℚ x z n a b positive wx h) in
          let fits = mul_is x (whole z) (mul_fits_within x z n a b positive small (omega (arith, is_product, l)) wx h) in
          let adds = add_is s (x *ℚ whole z) (add_fits_within s (x *ℚ whole z) n m c positive small l w product) in
          record {
            it = s +ℚ x *ℚ whole z;
            is = ap (option_and_then (λ v. add_checked s v)) fits ∙ adds;
            within = Within-+ℚ s (x *ℚ whole z) n m c positive w product;
          }

  -- multipliers times numbers of their lines
  abbrev pub Multiplies : (ℕ → ℚ) → ℕ × ℚ → Type 0
  Multiplies f q = Within n a q.1 × IsIntegerTo b (f q.0)

  pub sum_there : (f : ℕ → ℚ) (m : ℕ) (s : ℚ) (qs : Multipliers) → m + length qs * c < 2 ^ 127 → Within n m s → All (Multiplies f) qs → IsThereWithin n (m + length qs * c) (sum_from f s qs)
  sum_there f m s [] l w h = record { it = s; is = refl; within = Within-more n m (m + 0 * c) s (omega arith) w }
  sum_there f m s (q ∷ qs) l w h =
      let k = All-head (Multiplies f) q qs h in
      let one = with_product_there m s q.1 (f q.0) (omega arith) w k.0 k.1 in
      let more = sum_there f (m + c) one.it qs (omega arith) one.within (All-tail (Multiplies f) q qs h) in
      record {
        it = more.it;
        is = ap (option_and_then (λ t. sum_from f t qs)) one.is ∙ more.is;
        within = Within-more n (m + c + length qs * c) (m + length (q ∷ qs) * c) more.it (omega arith) more.within;
      }

  -- the coefficients of a combination
  pub columns_there : (ls : List CertLine) (m : ℕ) (mult : Multipliers) (j k : ℕ) → length mult * c ≤ m → m < 2 ^ 127 → ((i : ℕ) → All (Multiplies (coefficient_at ls i)) mult)
      → (cs : List ℚ) × (combined_columns ls mult j k ≡ Some cs) × All (Within n m) cs × (length cs ≡ k)
  columns_there ls m mult j zero l o h = ([], refl, All-nil (Within n m), refl)
  columns_there ls m mult j (suc k) l o h =
      let one = sum_there (coefficient_at ls j) 0 zero_ℚ mult (omega arith) (zero_within n 0) (h j) in
      let more = columns_there ls m mult (j + 1) k l o h in (
        one.it ∷ more.0,
        ap (option_and_then (λ c. option_map (λ cs. c ∷ cs) (combined_columns ls mult (j + 1) k))) one.is ∙ ap (option_map (λ cs. one.it ∷ cs)) more.1,
        All-cons (Within n m) one.it more.0 (Within-more n (0 + length mult * c) m one.it (omega arith) one.within) more.2,
        ap suc more.3,
      )

  -- whole numbers times fractions
  mul_there : (x y : ℚ) → IsIntegerTo b x → Within n a y → c < 2 ^ 127 → (mul_checked x y ≡ Some (x *ℚ y)) × Within n c (x *ℚ y)
  mul_there x y wx wy l = subst (λ v. (mul_checked v y ≡ Some (v *ℚ y)) × Within n c (v *ℚ y)) (sym (integer_is b x wx)) (at x.num wx.is_small)
    where
      at : (z : ℤ) → nat_abs z ≤ b → (mul_checked (whole z) y ≡ Some (whole z *ℚ y)) × Within n c (whole z *ℚ y)
      at z h = (
        mul_is (whole z) y (mul_fits_small (whole z) y
            (rw (whole_parts z).0 (omega (arith, mul-le-mul h (numerator_le n a y positive wy), is_product)))
            (rw (whole_parts z).1 (omega (arith, le_of_dvd positive wy.divides)))),
        subst (Within n c) (*ℚ_comm y (whole z)) (subst (λ c. Within n c (y *ℚ whole z)) is_product (Within-*ℚ y z n a b positive wy h)),
      )

  pub dot_there : (m : ℕ) (s : ℚ) (xs ys : List ℚ) → m + length xs * c < 2 ^ 127 → Within n m s → All (IsIntegerTo b) xs → All (Within n a) ys → dot_from s xs ys ≡ Some (s +ℚ dot_value xs ys)
  dot_there m s [] ys l w h k = ap Some (sym (+ℚ-zero s))
  dot_there m s (x ∷ xs) [] l w h k = ap Some (sym (+ℚ-zero s))
  dot_there m s (x ∷ xs) (y ∷ ys) l w h k =
      let p = mul_there x y (All-head (IsIntegerTo b) x xs h) (All-head (Within n a) y ys k) (omega arith) in
      let adds = add_is s (x *ℚ y) (add_fits_within s (x *ℚ y) n m c positive small (omega arith) w p.1) in
      ap (option_and_then (λ q. option_and_then (λ t. dot_from t xs ys) (add_checked s q))) p.0 ∙ ap (option_and_then (λ t. dot_from t xs ys)) adds
      ∙ dot_there (m + c) (s +ℚ x *ℚ y) xs ys (omega arith) (Within-+ℚ s (x *ℚ y) n m c positive w p.1) (All-tail (IsIntegerTo b) x xs h) (All-tail (Within n a) y ys k)
      ∙ ap Some (+ℚ_assoc s (x *ℚ y) (dot_value xs ys))

  -- ---- what is left of columns, times bounds
  with_bound_there : (m : ℕ) (total left : ℚ) (s : Span) → largest_bound ≤ b → IsModestSpan s → m + c < 2 ^ 127 → Within n m total → Within n a left → IsThereWithin n (m + c) (with_bound total left s)
  with_bound_there m total left s e modest l w wl = at (is_zero left)
    where
      bound_small : (k : Bool) → nat_abs (cond k s.lo s.hi) ≤ b
      bound_small true = omega arith
      bound_small false = omega arith

      bound_integer : (z : ℤ) → nat_abs z ≤ b → IsIntegerTo b (whole z)
      bound_integer z h = record { is_whole = (whole_parts z).1; is_small = rw (whole_parts z).0 h }

      at : (k : Bool) → IsThereWithin n (m + c) (cond k (Some total) (with_product total left (whole (bound_for left s))))
      at true = record { it = total; is = refl; within = Within-more n m (m + c) total (omega arith) w }
      at false = with_product_there m total left (whole (bound_for left s)) l w wl (bound_integer (bound_for left s) (bound_small _))

  -- the target's coefficients are of size at most t over n, and those of the combination of size at most u over n
  pub with_columns_there : (t u : ℕ) (target : Terms) → largest_bound ≤ b → t + u < 2 ^ 127 → ((j : ℕ) → Within n t (coefficient target j)) → (m : ℕ) (total : ℚ) (j : ℕ) (cs : List ℚ) (ss : List Span)
      → m + length cs * c < 2 ^ 127 → Within n m total → All (Within n u) cs → ((i : ℕ) → i < length cs → Within n a (coefficient target (j + i) +ℚ neg_ℚ (entry cs i))) → All IsModestSpan ss
      → IsThereWithin n (m + length cs * c) (with_columns total target j cs ss)
  with_columns_there t u target e o wt m total j [] ss l w h left k = record { it = total; is = refl; within = Within-more n m (m + 0 * c) total (omega arith) w }
  with_columns_there t u target e o wt m total j (x ∷ cs) [] l w h left k = record { it = total; is = refl; within = Within-more n m (m + length (x ∷ cs) * c) total (omega arith) w }
  with_columns_there t u target e o wt m total j (x ∷ cs) (s ∷ ss) l w h left k =
      let here : Within n a (coefficient target j +ℚ neg_ℚ x) = subst (λ i. Within n a (coefficient target i +ℚ neg_ℚ x)) (let f : j + 0 ≡ j = omega arith in f) (left 0 (omega arith)) in
      let difference = add_is (coefficient target j) (neg_ℚ x) (add_fits_within (coefficient target j) (neg_ℚ x) n t u positive small o (wt j) (neg_within n u x positive (All-head (Within n u) x cs h))) in
      let one = with_bound_there m total (coefficient target j +ℚ neg_ℚ x) s e (All-head IsModestSpan s ss k) (omega arith) w here in
      let step : with_reduced_cost total (coefficient target j) x s ≡ Some one.it = ap (option_and_then (λ r. with_bound total r s)) difference ∙ one.is in
      let more = with_columns_there t u target e o wt (m + c) one.it (j + 1) cs ss (omega arith) one.within (All-tail (Within n u) x cs h)
      (λ i b. subst (λ k. Within n a (coefficient target k +ℚ neg_ℚ (entry cs i))) (let f : j + suc i ≡ j + 1 + i = omega arith in f) (left (suc i) (omega arith))) (All-tail IsModestSpan s ss k) in
      record {
        it = more.it;
        is = ap (option_and_then (λ v. with_columns v target (j + 1) cs ss)) step ∙ more.is;
        within = Within-more n (m + c + length cs * c) (m + length (x ∷ cs) * c) more.it (omega arith) more.within;
      }
