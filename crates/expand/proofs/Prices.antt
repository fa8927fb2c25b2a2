-- The exact price of what a verdict tells, as a difference of values at a point of the box.
use Rattle.std.specs.Prelude.{◌≡◌, ◌<◌, ◌+◌, ℕ, zero, suc, ℤ, pos, negsuc, ◌≤ℤ◌, int_lt, Bool, true, false, cond, List, [], ◌∷◌, ◌++◌, map, length, Some, slice_get, slice_index_or, refl}
use Rattle.std.proofs.Common.{sym, ap, ◌∙◌, subst, inl, inr, arith, length-append}
use Rattle.std.proofs.lemmas.Int.{ints}
use Rattle.std.proofs.lemmas.List.{get_or_append_left, length-map}
use Rattle.std.proofs.lemmas.List.Elements.{All-nil, All-cons, All-head, All-tail}
use Rattle.std.proofs.lemmas.Option.{slice_get_within, get_or_from_slice_get}
use Rattle.fraction.specs.Rational.{ℚ, whole, ◌+ℚ◌, ◌*ℚ◌, ◌≤ℚ◌, neg_ℚ}
use Rattle.fraction.specs.Lemmas.Rational.{+ℚ_assoc, +ℚ_comm, *ℚ_assoc, one-*ℚ, zero-*ℚ, zero-+ℚ, neg-+ℚ, +ℚ-≤ℚ, ≤ℚ_trans}
use Rattle.fraction.specs.Order.{◌<ℚ◌}
use Rattle.fraction.specs.Lemmas.Order.{not_both, either_order, whole-≤ℚ, less_most}
use Rattle.fraction.specs.Lemmas.Ring.{ring_ℚ, +ℚ-mul, +ℚ-zero, *ℚ-zero}
use Rattle.fraction.specs.Lemmas.Whole.{whole-+, whole-*}
use Rattle.problem_box.specs.declared.span.Span.{Span}
use Rattle.problem_box.specs.Boxes.{IsWithin, IsInBox}
use Rattle.problem.specs.declared.row.Sense.{Sense}
use Rattle.problem.specs.declared.row.Sense.TheVariants.{G, L, E}
use Rattle.problem.specs.declared.row.Row.{Row}
use Rattle.problem.specs.Linear.{value, coefficient, scaled}
use Rattle.problem.specs.Lemmas.Linear.{columns_sum, value-columns, value-scaled}
use Rattle.problem.specs.Problem.{Problem}
use Rattle.row_activity.specs.declared.verdict.Sign.{Sign}
use Rattle.row_activity.specs.declared.verdict.Sign.TheVariants.{Plus, Minus}
use Rattle.row_activity.specs.Activity.{low_end, low_of, high_of, IsNonempty}
use Rattle.row_activity.specs.Lemmas.Extremes.{low_of-≤ℚ, ≤ℚ-high_of}
use Rattle.row_activity.specs.Meaning.{IsMissed}
use Rattle.cert_rows.specs.Lines.{CertLine, row_at, no_cert_line}
use Rattle.cert_rows.specs.Combination.{HasRightSign}
use Rattle.cert_rows.specs.Validity.{IsCombination, bound_rows}
use Rattle.derivation_book.specs.declared.cut.Cut.{Cut}
use Rattle.derivation_book.specs.Known.{known_rows, known_lines}
use Rattle.derivation_book.specs.Price.{reduced_cost, bounds_price, exact_price}
use Rattle.expand.specs.Verdicts.{multiplier}

-- ---- minus one
abbrev minus : ℚ
minus = whole (negsuc 0)

pub neg_is : (v : ℚ) → neg_ℚ v ≡ minus *ℚ v
neg_is v =
    let none : v +ℚ minus *ℚ v ≡ whole (pos 0) =
    (λ i. sym (one-*ℚ v) i +ℚ minus *ℚ v) ∙ sym (+ℚ-mul (whole (pos 1)) minus v) ∙ ap (λ w. w *ℚ v) (whole-+ (pos 1) (negsuc 0)) ∙ zero-*ℚ v in
    sym (+ℚ-zero (neg_ℚ v)) ∙ ap (λ w. neg_ℚ v +ℚ w) (sym none) ∙ sym (+ℚ_assoc (neg_ℚ v) v (minus *ℚ v)) ∙ ap (λ w. w +ℚ minus *ℚ v) (neg-+ℚ v) ∙ zero-+ℚ _

twice : (v : ℚ) → minus *ℚ (minus *ℚ v) ≡ v
twice v = sym (*ℚ_assoc minus minus v) ∙ ap (λ w. w *ℚ v) (whole-* (negsuc 0) (negsuc 0)) ∙ one-*ℚ v

-- the difference of unequal numbers is above 0
difference : (x y : ℚ) → x <ℚ y → whole (pos 0) <ℚ (y +ℚ minus *ℚ x)
difference x y h = elim (either_order (y +ℚ minus *ℚ x) (whole (pos 0))) [
  | inl l ↦
      (let none : minus *ℚ x +ℚ x ≡ whole (pos 0) = ap (λ w. w +ℚ x) (sym (neg_is x)) ∙ neg-+ℚ x in
      let left : (y +ℚ minus *ℚ x) +ℚ x ≡ y = +ℚ_assoc y _ x ∙ ap (λ w. y +ℚ w) none ∙ +ℚ-zero y in
      let k : y ≤ℚ x = subst (λ w. w ≤ℚ x) left (subst (λ w. ((y +ℚ minus *ℚ x) +ℚ x) ≤ℚ w) (zero-+ℚ x) (+ℚ-≤ℚ _ _ x l)) in
      absurd (not_both y x k h))
  | inr l ↦ l
]

pub lesser : (x y z : ℚ) → x ≤ℚ y → y <ℚ z → x <ℚ z
lesser x y z h k = elim (either_order z x) [
  | inl l ↦ absurd (not_both z y (≤ℚ_trans z x y l h) k)
  | inr l ↦ l
]

-- ---- the point at which the fillings have their price
abbrev ends : (ℕ → ℚ) → ℕ → List Span → List ℤ
ends f j [] = []
ends f j (s ∷ ss) = low_end (f j) s ∷ ends f (j + 1) ss

ends_inside : (f : ℕ → ℚ) (j : ℕ) (ss : List Span) → IsNonempty ss → IsInBox ss (ends f j ss)
ends_inside f j [] h = tt
ends_inside f j (s ∷ ss) h =
    (step (int_lt (pos 0) (f j).num) (All-head (λ (s : Span). s.lo ≤ℤ s.hi) s ss h), ends_inside f (j + 1) ss (All-tail (λ (s : Span). s.lo ≤ℤ s.hi) s ss h))
  where
    step : (b : Bool) → s.lo ≤ℤ s.hi → IsWithin s (cond b s.lo s.hi)
    step true k = (omega (arith, ints), k)
    step false k = (k, omega (arith, ints))

priced_from : (f : ℕ → ℚ) (j : ℕ) (ss : List Span) → bounds_price f j ss ≡ columns_sum (λ k. f (j + k)) (ends f j ss)
priced_from f j [] = refl
priced_from f j (s ∷ ss) =
    let next : (k : ℕ) → j + 1 + k ≡ j + suc k = λ k. omega arith in
    let here : j ≡ j + zero = omega arith in
    λ i. f (here i) *ℚ whole (low_end (f j) s) +ℚ (priced_from f (j + 1) ss ∙ (λ m. columns_sum (λ k. f (next k m)) (ends f (j + 1) ss))) i

priced_at : (f : ℕ → ℚ) (ss : List Span) → bounds_price f 0 ss ≡ columns_sum f (ends f 0 ss)
priced_at f ss = let same : (k : ℕ) → 0 + k ≡ k = λ k. omega arith in priced_from f 0 ss ∙ (λ m. columns_sum (λ k. f (same k m)) (ends f 0 ss))

gathered : (a b x u v m : ℚ) → (a +ℚ m *ℚ b) *ℚ x +ℚ (u +ℚ m *ℚ v) ≡ (a *ℚ x +ℚ u) +ℚ m *ℚ (b *ℚ x +ℚ v)
gathered a b x u v m = simp ring_ℚ

sum_less : (g h : ℕ → ℚ) (xs : List ℤ) → columns_sum (λ j. g j +ℚ minus *ℚ h j) xs ≡ columns_sum g xs +ℚ minus *ℚ columns_sum h xs
sum_less g h [] = sym (zero-+ℚ _ ∙ *ℚ-zero minus)
sum_less g h (x ∷ xs) = ap (λ v. (g zero +ℚ minus *ℚ h zero) *ℚ whole x +ℚ v) (sum_less (λ j. g (suc j)) (λ j. h (suc j)) xs) ∙ gathered _ _ _ _ _ minus

-- what is left of a target, priced over a box that isn't empty, is the difference of the values at a point of the box
pub record IsPricedAt (ss : List Span) (target terms : List (ℕ × ℚ)) : Type 0 where
  pub point : List ℤ
  pub inside : IsInBox ss point
  pub priced : bounds_price (reduced_cost target terms) 0 ss ≡ value target point +ℚ minus *ℚ value terms point

pub price_point : (ss : List Span) (target terms : List (ℕ × ℚ)) → IsNonempty ss → IsPricedAt ss target terms
price_point ss target terms n =
    let x : List ℤ = ends (reduced_cost target terms) 0 ss in
    record {
      point = x;
      inside = ends_inside (reduced_cost target terms) 0 ss n;
      priced = priced_at (reduced_cost target terms) ss ∙ (λ i. columns_sum (λ j. coefficient target j +ℚ neg_is (coefficient terms j) i) x) ∙ sum_less (coefficient target) (coefficient terms) x
          ∙ (λ i. sym (value-columns target x) i +ℚ minus *ℚ sym (value-columns terms x) i);
    }

-- ---- no multipliers
-- the price of the aim alone is its value at a point of the box
pub bare_price : (ls : List CertLine) (target : List (ℕ × ℚ)) (ss : List Span) → IsNonempty ss → (x : List ℤ) × IsInBox ss x × (exact_price ls target [] ss ≡ value target x)
bare_price ls target ss n =
    let at = price_point ss target [] n in
    (at.point, at.inside, zero-+ℚ _ ∙ at.priced ∙ ap (λ v. value target at.point +ℚ v) (*ℚ-zero minus) ∙ +ℚ-zero _)

-- ---- one row
abbrev line_with : Row → CertLine
line_with r = record { row = r; assumes = [] }

abbrev row_of_cut : Cut → Row
row_of_cut c = c.row

line_row : (rs : List Row) (i : ℕ) → row_at (map line_with rs) i ≡ slice_index_or rs i no_cert_line.row
line_row [] i = refl
line_row (r ∷ rs) zero = refl
line_row (r ∷ rs) (suc i) = line_row rs i

module _ (p : Problem) (cs : List Cut) (i : ℕ) (r : Row) (there : slice_get p.rows i ≡ Some r) where
  pub row_there : i < length (known_lines p cs)
  row_there =
      let k = slice_get_within p.rows i r there in
      omega (arith, k, length-map (known_rows p cs) line_with, length-append (p.rows ++ bound_rows 0 p.spans) (map row_of_cut cs), length-append p.rows (bound_rows 0 p.spans))

  pub row_is : row_at (known_lines p cs) i ≡ r
  row_is =
      let k = slice_get_within p.rows i r there in
      line_row (known_rows p cs) i
      ∙ get_or_append_left (p.rows ++ bound_rows 0 p.spans) (map row_of_cut cs) no_cert_line.row i (omega (arith, k, length-append p.rows (bound_rows 0 p.spans)))
      ∙ get_or_append_left p.rows (bound_rows 0 p.spans) no_cert_line.row i k ∙ get_or_from_slice_get p.rows i r no_cert_line.row there

  signed : (s : Sign) (ss : List Span) → IsMissed ss r s → HasRightSign G r.sense (multiplier s)
  signed Plus ss h = by_sense r.sense h.0
    where
      by_sense : (t : Sense) → (t ≡ L → ⊥) → HasRightSign G t (whole (pos 1))
      by_sense G n = whole-≤ℚ (pos 0) (pos 1) (omega (arith, ints))
      by_sense L n = absurd (n refl)
      by_sense E n = tt
  signed Minus ss h = by_sense r.sense h.0
    where
      by_sense : (t : Sense) → (t ≡ G → ⊥) → HasRightSign G t minus
      by_sense G n = absurd (n refl)
      by_sense L n = whole-≤ℚ (negsuc 0) (pos 0) (omega (arith, ints))
      by_sense E n = tt

  pub row_combined : (s : Sign) (ss : List Span) → IsMissed ss r s → IsCombination (known_lines p cs) G ((i, multiplier s) ∷ [])
  row_combined s ss h =
      let ls = known_lines p cs in
      record {
        earlier = All-cons (λ (m : ℕ × ℚ). m.0 < length ls) (i, multiplier s) [] row_there (All-nil (λ (m : ℕ × ℚ). m.0 < length ls));
        signs = All-cons (λ (m : ℕ × ℚ). HasRightSign G (row_at ls m.0).sense m.1) (i, multiplier s) []
            (subst (λ (q : Row). HasRightSign G q.sense (multiplier s)) (sym row_is) (signed s ss h)) (All-nil (λ (m : ℕ × ℚ). HasRightSign G (row_at ls m.0).sense m.1));
      }

-- the price of one row with a multiplier
abbrev row_price : Row → ℚ → List Span → ℚ
row_price r m ss = (m *ℚ r.rhs +ℚ whole (pos 0)) +ℚ bounds_price (reduced_cost [] (scaled m r.terms ++ [])) 0 ss

scaled_alone : (m : ℚ) (ts : List (ℕ × ℚ)) → scaled m ts ++ [] ≡ scaled m ts
scaled_alone m [] = refl
scaled_alone m (t ∷ ts) = ap (λ us. (t.0, m *ℚ t.1) ∷ us) (scaled_alone m ts)

row_priced : (r : Row) (m : ℚ) (ss : List Span) → IsNonempty ss → (x : List ℤ) × IsInBox ss x × (row_price r m ss ≡ m *ℚ r.rhs +ℚ minus *ℚ (m *ℚ value r.terms x))
row_priced r m ss n =
    let at = price_point ss [] (scaled m r.terms) n in (
      at.point,
      at.inside,
      (λ i. +ℚ-zero (m *ℚ r.rhs) i +ℚ bounds_price (reduced_cost [] (scaled_alone m r.terms i)) 0 ss)
          ∙ ap (λ v. m *ℚ r.rhs +ℚ v) (at.priced ∙ zero-+ℚ _ ∙ ap (λ v. minus *ℚ v) (value-scaled m r.terms at.point)),
    )

missed_price : (r : Row) (s : Sign) (ss : List Span) → IsNonempty ss → IsMissed ss r s → whole (pos 0) <ℚ row_price r (multiplier s) ss
missed_price r Plus ss n h =
    let at = row_priced r (whole (pos 1)) ss n in
    subst (λ v. whole (pos 0) <ℚ v) (sym (at.2 ∙ (λ i. one-*ℚ r.rhs i +ℚ minus *ℚ one-*ℚ (value r.terms at.0) i)))
    (difference _ _ (lesser (value r.terms at.0) (high_of ss r.terms) r.rhs (≤ℚ-high_of ss r.terms at.0 at.1) h.1))
missed_price r Minus ss n h =
    let at = row_priced r minus ss n in
    subst (λ v. whole (pos 0) <ℚ v) (sym (at.2 ∙ ap (λ v. minus *ℚ r.rhs +ℚ v) (twice (value r.terms at.0)) ∙ +ℚ_comm _ _))
    (difference _ _ (less_most r.rhs (low_of ss r.terms) (value r.terms at.0) h.1 (low_of-≤ℚ ss r.terms at.0 at.1)))

-- a row that is missed has a price above 0
pub row_above : (p : Problem) (cs : List Cut) (i : ℕ) (r : Row) (s : Sign) (ss : List Span) → slice_get p.rows i ≡ Some r → IsNonempty ss → IsMissed ss r s
    → whole (pos 0) <ℚ exact_price (known_lines p cs) [] ((i, multiplier s) ∷ []) ss
row_above p cs i r s ss e n h = subst (λ (q : Row). whole (pos 0) <ℚ row_price q (multiplier s) ss) (sym (row_is p cs i r e)) (missed_price r s ss n h)
