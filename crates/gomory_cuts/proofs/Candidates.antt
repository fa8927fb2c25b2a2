-- A candidate gives the row that the numbers of its rows and cuts tell, if it gives one.
use Rattle.std.proofs.Common.{◌≡◌, ℕ, zero, suc, ◌+◌, ◌*◌, ◌<◌, arith, refl, ap, sym, ◌∙◌, subst, Bool, true, false, Option, Some, None, List, [], ◌∷◌, ◌++◌, length, map, drop}
use Rattle.std.specs.Prelude.{pos, if◌then◌else◌, eqb, slice_index_or, option_map}
use Rattle.std.specs.Ordering.{int_eq, is_lt}
use Rattle.std.specs.Option.{option_and_then}
use Rattle.std.proofs.lemmas.Int.{ints}
use Rattle.std.proofs.lemmas.Bool.{eqb-true}
use Rattle.std.proofs.lemmas.List.{get_or-drop}
use Rattle.fraction.specs.Rational.{ℚ, whole, frac, floor, ceil, ◌+ℚ◌, ◌*ℚ◌, neg_ℚ}
use Rattle.fraction.specs.Checked.{compare, sub_checked}
use Rattle.fraction.specs.Lemmas.Rational.{ℚ_is, +ℚ_assoc, +ℚ_comm, zero-+ℚ, zero-*ℚ, one-*ℚ, neg-+ℚ, *ℚ_comm}
use Rattle.fraction.specs.Lemmas.Ring.{+ℚ-zero, +ℚ_left_comm, *ℚ-zero}
use Rattle.fraction.specs.Lemmas.Bounds.{was_some, was_mapped, value_from_add}
use Rattle.fraction.specs.Lemmas.Order.{zero_from_num}
use Rattle.problem_box.specs.declared.span.Span.{Span}
use Rattle.problem.specs.declared.row.Row.{Row}
use Rattle.problem.specs.Problem.{Problem}
use Rattle.problem.specs.Linear.{coefficient}
use Rattle.problem.specs.Lemmas.Linear.{past_first}
use Rattle.problem.specs.Lemmas.Rising.{at_first}
use Rattle.cert_rows.specs.Lines.{CertLine, row_at}
use Rattle.derivation_book.specs.declared.cut.Cut.{Cut}
use Rattle.derivation_book.specs.Known.{known_lines, first_cut}
use Rattle.derivation_book.specs.Places.{no_span}
use Rattle.derivation_book.specs.Sums.{with_product, sum_from, coefficient_at, side_at, combined_at, combined_columns, Sums, sums_of, combined}
use Rattle.derivation_book.specs.Rounded.{cut_row, is_zero, nonzero_terms, rounded_row}
use Rattle.derivation_book.specs.Lemmas.Combining.{columns_length}
use Rattle.derivation_book.specs.Lemmas.Exact.{product_exact}
use Rattle.derivation_book.specs.Lemmas.Numbering.{lower_place, upper_place}
use Rattle.derivation_book.specs.Lemmas.Price.{has_sums}
use Rattle.derivation_book.specs.Lemmas.Rounded.{made_from}
use Rattle.tableau.specs.declared.status.BasisStatus.{BasisStatus}
use Rattle.tableau.specs.Elimination.{zero_ℚ}
use Rattle.tableau.specs.Multipliers.{with_multiplier}
use Rattle.tableau.specs.Tableau.{Tableau, row_of, status_of}
use Rattle.dual_simplex.specs.Relaxation.{rational_at, rational_value}
use Rattle.dual_simplex.specs.PointSums.{checked_sum}
use Rattle.dual_simplex.specs.Lemmas.RationalValues.{sum_exact}
use Rattle.gomory_cuts.specs.declared.sign.Sign.{Sign}
use Rattle.gomory_cuts.specs.Multipliers.{multiplier, row_multipliers, is_at_upper, filling, bound_number, fillings, filled}
use Rattle.gomory_cuts.specs.Separation.{is_below, is_violated, if_violated, cut_at}
use Rattle.gomory_cuts.proofs.Rounding.{floor_of_whole, ceil_of_whole}
use Rattle.gomory_cuts.specs.Candidate.{whole_to, bound_at, counted, counted_columns, side_with, filled_side, counted_candidate}

-- ---- the row of sums that are filled
-- the whole numbers that fillings make of the coefficients of the columns from j on
abbrev pub whole_columns : Tableau → ℕ → List ℚ → List ℚ
whole_columns t j [] = []
whole_columns t j (c ∷ cs) = whole (whole_to (status_of t j) c) ∷ whole_columns t (j + 1) cs

abbrev pub candidate : Tableau → List Span → Sums → Row
candidate t ss q = cut_row (sums_of (whole_columns t 0 q.coefficients) (filled_side t 0 q.coefficients ss q.side))

-- ---- exact sums
-- the sum of each multiplier times a number of its line
abbrev total : (ℕ → ℚ) → List (ℕ × ℚ) → ℚ
total f [] = whole (pos 0)
total f (m ∷ ms) = m.1 *ℚ f m.0 +ℚ total f ms

sum_is : (f : ℕ → ℚ) (s : ℚ) (ms : List (ℕ × ℚ)) (t : ℚ) → sum_from f s ms ≡ Some t → t ≡ s +ℚ total f ms
sum_is f s [] t e = let k : s ≡ t = cc in sym k ∙ sym (+ℚ-zero s)
sum_is f s (m ∷ ms) t e =
    let w = was_some (λ u. sum_from f u ms) (with_product s m.1 (f m.0)) t e in
    sum_is f w.0 ms t w.2 ∙ ap (λ u. u +ℚ total f ms) (product_exact s m.1 (f m.0) w.0 w.1) ∙ +ℚ_assoc _ _ _

from_zero : (f : ℕ → ℚ) (ms : List (ℕ × ℚ)) (t : ℚ) → sum_from f (whole (pos 0)) ms ≡ Some t → t ≡ total f ms
from_zero f ms t e = sum_is f (whole (pos 0)) ms t e ∙ zero-+ℚ _

-- what stands between others is added to them
total_between : (f : ℕ → ℚ) (us fs vs : List (ℕ × ℚ)) → total f (us ++ fs ++ vs) ≡ total f (us ++ vs) +ℚ total f fs
total_between f [] [] vs = sym (+ℚ-zero _)
total_between f [] (m ∷ fs) vs =
    ap (λ z. m.1 *ℚ f m.0 +ℚ z) (total_between f [] fs vs) ∙ +ℚ_left_comm (m.1 *ℚ f m.0) (total f vs) (total f fs)
total_between f (u ∷ us) fs vs =
    ap (λ z. u.1 *ℚ f u.0 +ℚ z) (total_between f us fs vs) ∙ sym (+ℚ_assoc (u.1 *ℚ f u.0) (total f (us ++ vs)) (total f fs))

-- ---- fillings
-- what fills a coefficient
abbrev filler : BasisStatus → ℚ → ℚ
filler b c = whole (whole_to b c) +ℚ neg_ℚ c

nothing_fills : (b : BasisStatus) (c : ℚ) → c.den ≡ 1 → whole (whole_to b c) ≡ c
nothing_fills b c e =
    let is : whole c.num ≡ c = sym (ℚ_is c ∙ (λ i. frac c.num (e i))) in
    at (is_at_upper b) is
  where
    at : (u : Bool) → whole c.num ≡ c → whole (if u then floor c else ceil c) ≡ c
    at true is = ap whole (ap floor (sym is) ∙ floor_of_whole c.num) ∙ is
    at false is = ap whole (ap ceil (sym is) ∙ ceil_of_whole c.num) ∙ is

pub taken_away : (c : ℚ) → c +ℚ neg_ℚ c ≡ whole (pos 0)
taken_away c = +ℚ_comm c (neg_ℚ c) ∙ neg-+ℚ c

filling_is : (b : BasisStatus) (c f : ℚ) → filling b c ≡ Some f → f ≡ filler b c
filling_is b c f e = at (eqb c.den 1) refl e
  where
    at : (w : Bool) → eqb c.den 1 ≡ w → (if w then Some (whole (pos 0)) else sub_checked (whole (whole_to b c)) c) ≡ Some f → f ≡ filler b c
    at true w k =
        let z : whole (pos 0) ≡ f = cc in
        sym z ∙ sym (ap (λ x. x +ℚ neg_ℚ c) (nothing_fills b c (eqb-true c.den 1 w)) ∙ taken_away c)
    at false w k = sym (value_from_add (whole (whole_to b c)) (neg_ℚ c) f k)

-- the sum of what fills the coefficients of the columns from j on, each times a number
abbrev fill_sum : Tableau → (ℕ → ℚ) → ℕ → List ℚ → ℚ
fill_sum t g j [] = whole (pos 0)
fill_sum t g j (c ∷ cs) = filler (status_of t j) c *ℚ g j +ℚ fill_sum t g (j + 1) cs

with_total : (f : ℕ → ℚ) (k : ℕ) (u : ℚ) (ms : List (ℕ × ℚ)) → total f (with_multiplier k u ms) ≡ u *ℚ f k +ℚ total f ms
with_total f k u ms = at (int_eq u.num (pos 0)) refl
  where
    at : (z : Bool) → int_eq u.num (pos 0) ≡ z → total f (if z then ms else (k, u) ∷ ms) ≡ u *ℚ f k +ℚ total f ms
    at true e = sym (ap (λ x. x *ℚ f k +ℚ total f ms) (zero_from_num u (grind (arith, ints))) ∙ ap (λ x. x +ℚ total f ms) (zero-*ℚ (f k)) ∙ zero-+ℚ _)
    at false e = refl

fillings_sum : (f g : ℕ → ℚ) (k : ℕ) (t : Tableau) (j : ℕ) (cs : List ℚ) (fs : List (ℕ × ℚ)) → fillings k t j cs ≡ Some fs
    → ((i : ℕ) → i < j + length cs → f (bound_number k i (status_of t i)) ≡ g i) → total f fs ≡ fill_sum t g j cs
fillings_sum f g k t j [] fs e h = let z : [] ≡ fs = cc in ap (total f) (sym z)
fillings_sum f g k t j (c ∷ cs) fs e h =
    let a = was_some (λ u. option_map (with_multiplier (bound_number k j (status_of t j)) u) (fillings k t (j + 1) cs)) (filling (status_of t j) c) fs e in
    let d = was_mapped (with_multiplier (bound_number k j (status_of t j)) a.0) (fillings k t (j + 1) cs) fs a.2 in
    sym (ap (total f) d.2)
    ∙ with_total f (bound_number k j (status_of t j)) a.0 d.0
    ∙ (λ i. filling_is (status_of t j) c a.0 a.1 i *ℚ h j (omega arith) i +ℚ fillings_sum f g k t (j + 1) cs d.0 d.1 (λ n l. h n (omega (arith, l))) i)

-- ---- the rows of bounds
module _ (p : Problem) (cuts : List Cut) (t : Tableau) (j : ℕ) (there : j < length p.spans) where
  abbrev bound_row : BasisStatus → Row
  bound_row b = row_at (known_lines p cuts) (bound_number (length p.rows) j b)

  abbrev span : Span
  span = slice_index_or p.spans j no_span

  bound_terms : (b : BasisStatus) → (bound_row b).terms ≡ (j, whole (pos 1)) ∷ []
  bound_terms b = at (is_at_upper b)
    where
      at : (u : Bool) → (row_at (known_lines p cuts) (length p.rows + 2 * j + (if u then 1 else 0))).terms ≡ (j, whole (pos 1)) ∷ []
      at true = sym (ap (λ (r : Row). r.terms) (upper_place p cuts (length p.rows + 2 * j + 1) j (omega arith) there))
      at false = sym (ap (λ (r : Row). r.terms) (lower_place p cuts (length p.rows + 2 * j + 0) j (omega arith) there))

  bound_side : (b : BasisStatus) → (bound_row b).rhs ≡ whole (bound_at b span)
  bound_side b = at (is_at_upper b)
    where
      at : (u : Bool) → (row_at (known_lines p cuts) (length p.rows + 2 * j + (if u then 1 else 0))).rhs ≡ whole (if u then span.hi else span.lo)
      at true = sym (ap (λ (r : Row). r.rhs) (upper_place p cuts (length p.rows + 2 * j + 1) j (omega arith) there))
      at false = sym (ap (λ (r : Row). r.rhs) (lower_place p cuts (length p.rows + 2 * j + 0) j (omega arith) there))

-- ---- coefficients
-- the coefficient of column i in the row of column j's bound
abbrev unit_at : ℕ → ℕ → ℚ
unit_at i j = coefficient ((j, whole (pos 1)) ∷ []) i

fill_nowhere : (t : Tableau) (i j : ℕ) (cs : List ℚ) → i < j → fill_sum t (unit_at i) j cs ≡ whole (pos 0)
fill_nowhere t i j [] l = refl
fill_nowhere t i j (c ∷ cs) l =
    (λ k. filler (status_of t j) c *ℚ past_first (j, whole (pos 1)) [] i (λ e. omega (arith, l, e)) k +ℚ fill_nowhere t i (j + 1) cs (omega (arith, l)) k)
    ∙ +ℚ-zero _ ∙ *ℚ-zero _

fill_there : (t : Tableau) (j k : ℕ) (cs : List ℚ) (d : ℚ) → k < length cs → fill_sum t (unit_at (j + k)) j cs ≡ filler (status_of t (j + k)) (slice_index_or cs k d)
fill_there t j k [] d l = absurd (omega (arith, l))
fill_there t j zero (c ∷ cs) d l =
    (λ i. filler (status_of t j) c *ℚ at_first (j, whole (pos 1)) [] (j + 0) tt (omega arith) i +ℚ fill_nowhere t (j + 0) (j + 1) cs (omega arith) i)
    ∙ +ℚ-zero _ ∙ *ℚ_comm (filler (status_of t j) c) (whole (pos 1)) ∙ one-*ℚ _
    ∙ ap (λ n. filler (status_of t n) c) (let e : j ≡ j + 0 = omega arith in e)
fill_there t j (suc k) (c ∷ cs) d l =
    (λ i. filler (status_of t j) c *ℚ past_first (j, whole (pos 1)) [] (j + suc k) (λ e. omega (arith, e)) i +ℚ fill_sum t (unit_at ((let e : j + suc k ≡ j + 1 + k = omega arith in e) i)) (j + 1) cs)
    ∙ (λ i. *ℚ-zero (filler (status_of t j) c) i +ℚ fill_there t (j + 1) k cs d (omega (arith, l)) i)
    ∙ zero-+ℚ _
    ∙ ap (λ n. filler (status_of t n) (slice_index_or cs k d)) (let e : j + 1 + k ≡ j + suc k = omega arith in e)

filled_up : (b : BasisStatus) (c : ℚ) → c +ℚ filler b c ≡ whole (whole_to b c)
filled_up b c = +ℚ_left_comm c (whole (whole_to b c)) (neg_ℚ c) ∙ ap (λ x. whole (whole_to b c) +ℚ x) (taken_away c) ∙ +ℚ-zero _

module _ (ls : List CertLine) (t : Tableau) (plain mult fs : List (ℕ × ℚ)) (between : (f : ℕ → ℚ) → total f mult ≡ total f plain +ℚ total f fs) where
  columns_are : (j n : ℕ) (cs ds : List ℚ) → combined_columns ls plain j n ≡ Some cs → combined_columns ls mult j n ≡ Some ds
      → ((k : ℕ) → k < length cs → (d : ℚ) → total (coefficient_at ls (j + k)) fs ≡ filler (status_of t (j + k)) (slice_index_or cs k d)) → ds ≡ whole_columns t j cs
  columns_are j zero cs ds e f h = let x : [] ≡ cs = cc in let y : [] ≡ ds = cc in sym y ∙ ap (whole_columns t j) x
  columns_are j (suc n) cs ds e f h =
      let a = was_some (λ c. option_map (λ cs. c ∷ cs) (combined_columns ls plain (j + 1) n)) (combined_at ls plain j) cs e in
      let b = was_mapped (λ vs. a.0 ∷ vs) (combined_columns ls plain (j + 1) n) cs a.2 in
      let x = was_some (λ c. option_map (λ cs. c ∷ cs) (combined_columns ls mult (j + 1) n)) (combined_at ls mult j) ds f in
      let y = was_mapped (λ vs. x.0 ∷ vs) (combined_columns ls mult (j + 1) n) ds x.2 in
      let all : (k : ℕ) → k < length (a.0 ∷ b.0) → (d : ℚ) → total (coefficient_at ls (j + k)) fs ≡ filler (status_of t (j + k)) (slice_index_or (a.0 ∷ b.0) k d) =
      subst (λ (us : List ℚ). (k : ℕ) → k < length us → (d : ℚ) → total (coefficient_at ls (j + k)) fs ≡ filler (status_of t (j + k)) (slice_index_or us k d)) (sym b.2) h in
      let first : x.0 ≡ whole (whole_to (status_of t j) a.0) =
      from_zero (coefficient_at ls j) mult x.0 x.1
      ∙ between (coefficient_at ls j)
      ∙ (λ i. sym (from_zero (coefficient_at ls j) plain a.0 a.1) i +ℚ here j a.0 (all 0 (omega arith) a.0) i)
      ∙ filled_up (status_of t j) a.0 in
      sym y.2
      ∙ (λ i. first i ∷ columns_are (j + 1) n b.0 y.0 b.1 y.1 (λ k l d. later j k b.0 d (all (suc k) (omega (arith, l)) d)) i)
      ∙ ap (whole_columns t j) b.2
    where
      here : (j : ℕ) (c : ℚ) → total (coefficient_at ls (j + 0)) fs ≡ filler (status_of t (j + 0)) c → total (coefficient_at ls j) fs ≡ filler (status_of t j) c
      here j c e = subst (λ n. total (coefficient_at ls n) fs ≡ filler (status_of t n) c) (let z : j + 0 ≡ j = omega arith in z) e

      later : (j k : ℕ) (cs : List ℚ) (d : ℚ) → total (coefficient_at ls (j + suc k)) fs ≡ filler (status_of t (j + suc k)) (slice_index_or cs k d)
          → total (coefficient_at ls (j + 1 + k)) fs ≡ filler (status_of t (j + 1 + k)) (slice_index_or cs k d)
      later j k cs d e = subst (λ n. total (coefficient_at ls n) fs ≡ filler (status_of t n) (slice_index_or cs k d)) (let z : j + suc k ≡ j + 1 + k = omega arith in z) e

-- ---- right sides
side_filled : (t : Tableau) (g : ℕ → ℚ) (j : ℕ) (cs : List ℚ) (ss : List Span) (v : ℚ) → length cs ≡ length ss
    → ((k : ℕ) → k < length ss → g (j + k) ≡ whole (bound_at (status_of t (j + k)) (slice_index_or ss k no_span))) → filled_side t j cs ss v ≡ v +ℚ fill_sum t g j cs
side_filled t g j [] ss v l h = sym (+ℚ-zero v)
side_filled t g j (c ∷ cs) [] v l h = absurd (omega (arith, l))
side_filled t g j (c ∷ cs) (s ∷ ss) v l h =
    side_filled t g (j + 1) cs ss (side_with (status_of t j) c s v) (omega (arith, l)) (λ k b. later k (h (suc k) (omega (arith, b))))
    ∙ ap (λ x. v +ℚ filler (status_of t j) c *ℚ x +ℚ fill_sum t g (j + 1) cs) (sym here)
    ∙ +ℚ_assoc v (filler (status_of t j) c *ℚ g j) (fill_sum t g (j + 1) cs)
  where
    here : g j ≡ whole (bound_at (status_of t j) s)
    here = subst (λ n. g n ≡ whole (bound_at (status_of t n) s)) (let z : j + 0 ≡ j = omega arith in z) (h 0 (omega arith))

    later : (k : ℕ) → g (j + suc k) ≡ whole (bound_at (status_of t (j + suc k)) (slice_index_or ss k no_span)) → g (j + 1 + k) ≡ whole (bound_at (status_of t (j + 1 + k)) (slice_index_or ss k no_span))
    later k e = subst (λ n. g n ≡ whole (bound_at (status_of t n) (slice_index_or ss k no_span))) (let z : j + suc k ≡ j + 1 + k = omega arith in z) e

-- ---- the row
row_is : (p : Problem) (cuts : List Cut) (t : Tableau) (us vs mult : List (ℕ × ℚ)) (q : Sums) (r : Row) → combined (known_lines p cuts) (us ++ vs) (length p.spans) ≡ Some q
    → filled p cuts t us vs ≡ Some mult → rounded_row p cuts mult ≡ Some r → r ≡ candidate t p.spans q
row_is p cuts t us vs mult q r e f g =
    let ls = known_lines p cuts in
    let n = length p.spans in
    let plain = has_sums ls (us ++ vs) n q e in
    let long = columns_length ls (us ++ vs) 0 n q.coefficients plain.coefficients in
    let a = was_mapped (λ fs. us ++ fs ++ vs) (fillings (length p.rows) t 0 q.coefficients) mult
    (sym (ap (option_and_then (λ cs. option_map (λ fs. us ++ fs ++ vs) (fillings (length p.rows) t 0 cs))) plain.coefficients) ∙ f) in
    let made = made_from p cuts mult r g in
    let all = has_sums ls mult n made.sums made.combined in
    let between : (f : ℕ → ℚ) → total f mult ≡ total f (us ++ vs) +ℚ total f a.0 = λ f. ap (total f) (sym a.2) ∙ total_between f us a.0 vs in
    let filled_column : (k : ℕ) → k < length q.coefficients → (d : ℚ) → total (coefficient_at ls (0 + k)) a.0 ≡ filler (status_of t (0 + k)) (slice_index_or q.coefficients k d) =
    λ k l d.
    fillings_sum (coefficient_at ls (0 + k)) (unit_at (0 + k)) (length p.rows) t 0 q.coefficients a.0 a.1
    (λ j b. ap (λ ts. coefficient ts (0 + k)) (bound_terms p cuts t j (omega (arith, b, long)) (status_of t j)))
    ∙ fill_there t 0 k q.coefficients d l in
    let columns : made.sums.coefficients ≡ whole_columns t 0 q.coefficients =
    columns_are ls t (us ++ vs) mult a.0 between 0 n q.coefficients made.sums.coefficients plain.coefficients all.coefficients filled_column in
    let bound : ℕ → ℚ = λ j. whole (bound_at (status_of t j) (slice_index_or p.spans j no_span)) in
    let side : made.sums.side ≡ filled_side t 0 q.coefficients p.spans q.side =
    from_zero (side_at ls) mult made.sums.side all.side
    ∙ between (side_at ls)
    ∙ (λ i. sym (from_zero (side_at ls) (us ++ vs) q.side plain.side) i
    +ℚ fillings_sum (side_at ls) bound (length p.rows) t 0 q.coefficients a.0 a.1 (λ j b. bound_side p cuts t j (omega (arith, b, long)) (status_of t j)) i)
    ∙ sym (side_filled t bound 0 q.coefficients p.spans q.side long (λ k l. ap (λ j. whole (bound_at (status_of t (0 + k)) (slice_index_or p.spans j no_span))) (let z : 0 + k ≡ k = omega arith in z))) in
    sym made.row ∙ (λ i. cut_row (sums_of (columns i) (side i)))

-- ---- what counts at the point
value_with : (x : List ℚ) (j : ℕ) (a : ℚ) (cs : List ℚ) → rational_value (nonzero_terms j (a ∷ cs)) x ≡ a *ℚ rational_at x j +ℚ rational_value (nonzero_terms (j + 1) cs) x
value_with x j a cs = at (int_eq a.num (pos 0)) refl
  where
    at : (z : Bool) → int_eq a.num (pos 0) ≡ z
        → rational_value (if z then nonzero_terms (j + 1) cs else (j, a) ∷ nonzero_terms (j + 1) cs) x ≡ a *ℚ rational_at x j +ℚ rational_value (nonzero_terms (j + 1) cs) x
    at true e =
        sym (ap (λ y. y *ℚ rational_at x j +ℚ rational_value (nonzero_terms (j + 1) cs) x) (zero_from_num a (grind (arith, ints)))
        ∙ ap (λ y. y +ℚ rational_value (nonzero_terms (j + 1) cs) x) (zero-*ℚ (rational_at x j)) ∙ zero-+ℚ _)
    at false e = refl

counted_product : (y : ℚ) (b : BasisStatus) (c : ℚ) → counted (is_zero y) b c *ℚ y ≡ whole (whole_to b c) *ℚ y
counted_product y b c = at (int_eq y.num (pos 0)) refl
  where
    at : (z : Bool) → int_eq y.num (pos 0) ≡ z → counted z b c *ℚ y ≡ whole (whole_to b c) *ℚ y
    at true e = zero-*ℚ y ∙ sym (ap (λ u. whole (whole_to b c) *ℚ u) (zero_from_num y (grind (arith, ints))) ∙ *ℚ-zero (whole (whole_to b c)))
    at false e = refl

-- the sum at the point is that of all terms
counted_value : (x : List ℚ) (t : Tableau) (j : ℕ) (cs : List ℚ) → rational_value (nonzero_terms j (counted_columns x t j cs)) x ≡ rational_value (nonzero_terms j (whole_columns t j cs)) x
counted_value x t j [] = refl
counted_value x t j (c ∷ cs) =
    value_with x j (counted (is_zero (rational_at x j)) (status_of t j) c) (counted_columns x t (j + 1) cs)
    ∙ (λ i. counted_product (rational_at x j) (status_of t j) c i +ℚ counted_value x t (j + 1) cs i)
    ∙ sym (value_with x j (whole (whole_to (status_of t j) c)) (whole_columns t (j + 1) cs))

-- a sum of terms that isn't below a number isn't found to be below it
not_below_value : (x : List ℚ) (ts : List (ℕ × ℚ)) (b v : ℚ) → rational_value ts x ≡ v → is_lt (compare v b) ≡ false → is_below (checked_sum ts x) b ≡ false
not_below_value x ts b v e h = at (checked_sum ts x) refl
  where
    at : (o : Option ℚ) → checked_sum ts x ≡ o → is_below o b ≡ false
    at None f = refl
    at (Some w) f = ap (λ u. is_lt (compare u b)) (sum_exact ts x w f ∙ e) ∙ h

-- what counts of a row at a point isn't below its right side
abbrev pub IsSatisfied : List ℚ → Row → Type 0
IsSatisfied x r = is_lt (compare (rational_value r.terms x) r.rhs) ≡ false

-- where that row is satisfied, the candidate is no cut
pub refused : (p : Problem) (cuts : List Cut) (t : Tableau) (x : List ℚ) (us vs : List (ℕ × ℚ)) (q : Sums) → combined (known_lines p cuts) (us ++ vs) (length p.spans) ≡ Some q
    → IsSatisfied x (counted_candidate x t p.spans q) → option_and_then (if_violated p cuts x) (filled p cuts t us vs) ≡ None
refused p cuts t x us vs q e h = at (filled p cuts t us vs) refl
  where
    satisfied : is_violated x (candidate t p.spans q) ≡ false
    satisfied =
        not_below_value x (candidate t p.spans q).terms (candidate t p.spans q).rhs (rational_value (counted_candidate x t p.spans q).terms x) (sym (counted_value x t 0 q.coefficients)) h

    at_row : (mult : List (ℕ × ℚ)) → filled p cuts t us vs ≡ Some mult → (o : Option Row) → rounded_row p cuts mult ≡ o
        → option_and_then (λ r. if is_violated x r then Some mult else None) o ≡ None
    at_row mult f None g = refl
    at_row mult f (Some r) g = ap (λ b. if b then Some mult else None) (ap (is_violated x) (row_is p cuts t us vs mult q r e f g) ∙ satisfied)

    at : (o : Option (List (ℕ × ℚ))) → filled p cuts t us vs ≡ o → option_and_then (if_violated p cuts x) o ≡ None
    at None f = refl
    at (Some mult) f = at_row mult f (rounded_row p cuts mult) refl

-- ---- the multipliers
-- what stands behind the first n gives the multipliers that the whole row gives
rest_multipliers : (s : Sign) (n : ℕ) (row : List ℚ) (v k : ℕ) (rs : List Row) → row_multipliers s (drop n row) v k rs ≡ row_multipliers s row (n + v) k rs
rest_multipliers s n row v k [] = refl
rest_multipliers s n row v k (r ∷ rs) = λ i.
    option_and_then (λ u. option_map (with_multiplier k u) ((rest_multipliers s n row (v + 1) (k + 1) rs
    ∙ ap (λ w. row_multipliers s row w (k + 1) rs) (let z : n + (v + 1) ≡ n + v + 1 = omega arith in z)) i)) (multiplier s r.sense (get_or-drop n row v zero_ℚ i))

-- a candidate, by the multipliers of its rows and of its cuts, from what stands behind the columns in column j's row
pub from_plain : (p : Problem) (cuts : List Cut) (t : Tableau) (x : List ℚ) (j : ℕ) (s : Sign) (rest : List ℚ) (o r : Option (List (ℕ × ℚ))) → rest ≡ drop (length p.spans) (row_of t j)
    → o ≡ row_multipliers s rest 0 0 p.rows → r ≡ row_multipliers s rest (length p.rows) (first_cut p) (map (λ (c : Cut). c.row) cuts)
    → cut_at p cuts t x j s ≡ option_and_then (if_violated p cuts x) (option_and_then (λ us. option_and_then (λ vs. filled p cuts t us vs) r) o)
from_plain p cuts t x j s rest o r is e f =
    sym (λ i. option_and_then (if_violated p cuts x) (option_and_then (λ us. option_and_then (λ vs. filled p cuts t us vs) (of_cuts i)) (of_rows i)))
  where
    from_row : (v k : ℕ) (rs : List Row) → row_multipliers s rest v k rs ≡ row_multipliers s (row_of t j) (length p.spans + v) k rs
    from_row v k rs = ap (λ row. row_multipliers s row v k rs) is ∙ rest_multipliers s (length p.spans) (row_of t j) v k rs

    of_rows : o ≡ row_multipliers s (row_of t j) (length p.spans) 0 p.rows
    of_rows = e ∙ from_row 0 0 p.rows ∙ ap (λ v. row_multipliers s (row_of t j) v 0 p.rows) (let z : length p.spans + 0 ≡ length p.spans = omega arith in z)

    of_cuts : r ≡ row_multipliers s (row_of t j) (length p.spans + length p.rows) (first_cut p) (map (λ (c : Cut). c.row) cuts)
    of_cuts = f ∙ from_row (length p.rows) (first_cut p) (map (λ (c : Cut). c.row) cuts)
