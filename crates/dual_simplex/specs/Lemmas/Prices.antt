-- Lemmas: the price of multipliers that balance a target.
use Rattle.std.specs.Prelude.{pos, int_lt, if◌then◌else◌, ◌⊎◌}
use Rattle.std.proofs.Common.{◌≡◌, ℕ, suc, ◌+◌, ◌-◌, ◌<◌, arith, refl, ap, sym, ◌∙◌, subst, Bool, true, false, Some, List, [], ◌∷◌, length, get_or, take, drop, map, inl, inr}
use Rattle.std.proofs.lemmas.List.{length-map, length-take-le, length-drop, get_or-take, get_or-drop, get_or-map}
use Rattle.fraction.specs.Rational.{ℚ, whole, ◌+ℚ◌, ◌*ℚ◌, ◌≤ℚ◌, neg_ℚ}
use Rattle.fraction.specs.Lemmas.Rational.{+ℚ_assoc, +ℚ_comm, zero-*ℚ, neg-+ℚ}
use Rattle.fraction.specs.Lemmas.Ring.{+ℚ-zero}
use Rattle.fraction.specs.Lemmas.Order.{zero_from_num}
use Rattle.fraction.specs.Lemmas.Bounds.{dot_value}
use Rattle.problem_box.specs.declared.span.Span.{Span}
use Rattle.problem.specs.declared.row.Sense.{Sense}
use Rattle.problem.specs.declared.row.Sense.TheVariants.{G, L, E}
use Rattle.problem.specs.declared.row.Row.{Row}
use Rattle.problem.specs.Linear.{Terms, coefficient}
use Rattle.problem.specs.Rows.{Rows}
use Rattle.cert_rows.specs.Lines.{CertLine, row_at}
use Rattle.cert_rows.specs.Combination.{HasRightSign, combined_terms, combined_rhs}
use Rattle.cert_rows.specs.Validity.{IsCombination}
use Rattle.derivation_book.specs.Price.{bound_for, reduced_cost, bounds_price, exact_price}
use Rattle.tableau.specs.declared.bounds.Bounds.{Bounds}
use Rattle.tableau.specs.Elimination.{zero_ℚ, entry}
use Rattle.tableau.specs.LinearProgram.{coefficients_from, span_bounds, sense_bounds}
use Rattle.tableau.specs.Multipliers.{numbered}
use Rattle.tableau.specs.Lemmas.Signs.{not_below_from, not_above_from}
use Rattle.tableau.specs.Lemmas.Started.{no_span, no_row}
use Rattle.tableau.specs.Lemmas.Sums.{dot-split, dot-parts, unit, length-unit, dot-unit, dot-same}
use Rattle.tableau.specs.Lemmas.Leaning.{Leans, sign_cases}
use Rattle.tableau.specs.Lemmas.Balanced.{IsBalanced, coefficient_in, column_bounds, row_bounds_at}
use Rattle.dual_simplex.specs.Lemmas.Numbers.{AreRows, length-numbers, row_there, all_numbered, numbered_coefficient, numbered_side}

-- ---- multipliers and their bounds
lean_cases : (b : Bounds) (g u : ℚ) → Leans b g u → (g ≡ zero_ℚ) ⊎ ((b.lower ≡ Some u) ⊎ (b.upper ≡ Some u))
lean_cases b g u h = elim (sign_cases g.num) [
  | inl e ↦ inl (zero_from_num g e)
  | inr k ↦ elim k [
    | inl e ↦ inr (inl (h.above e))
    | inr e ↦ inr (inr (h.below e))
  ]
]

zero_times : (g a u : ℚ) → g ≡ zero_ℚ → g *ℚ a ≡ g *ℚ u
zero_times g a u e = (λ i. e i *ℚ a) ∙ zero-*ℚ a ∙ sym ((λ i. e i *ℚ u) ∙ zero-*ℚ u)

same_bound : (g a u : ℚ) → Some a ≡ Some u → g *ℚ a ≡ g *ℚ u
same_bound g a u e = let f : a ≡ u = cc in ap (λ v. g *ℚ v) f

-- the right sign for a row of this sense
lean_sign : (s : Sense) (rhs g u : ℚ) → Leans (sense_bounds s rhs) g u → HasRightSign G s g
lean_sign G rhs g u h = at (int_lt g.num (pos 0)) refl
  where
    at : (x : Bool) → int_lt g.num (pos 0) ≡ x → zero_ℚ ≤ℚ g
    at true e = absurd (let k : ⊥ = (let z = h.below e in cc) in k)
    at false e = not_below_from g e
lean_sign L rhs g u h = at (int_lt (pos 0) g.num) refl
  where
    at : (x : Bool) → int_lt (pos 0) g.num ≡ x → g ≤ℚ zero_ℚ
    at true e = absurd (let k : ⊥ = (let z = h.above e in cc) in k)
    at false e = not_above_from g e
lean_sign E rhs g u h = tt

-- the right side is the bound that a row's multiplier goes with
lean_side : (s : Sense) (rhs g u : ℚ) → Leans (sense_bounds s rhs) g u → g *ℚ rhs ≡ g *ℚ u
lean_side s rhs g u h = elim (lean_cases (sense_bounds s rhs) g u h) [
  | inl e ↦ zero_times g rhs u e
  | inr k ↦ elim k [
    | inl e ↦ lower s e
    | inr e ↦ upper s e
  ]
]
  where
    lower : (s : Sense) → (sense_bounds s rhs).lower ≡ Some u → g *ℚ rhs ≡ g *ℚ u
    lower G e = same_bound g rhs u e
    lower L e = absurd (let z : ⊥ = cc in z)
    lower E e = same_bound g rhs u e

    upper : (s : Sense) → (sense_bounds s rhs).upper ≡ Some u → g *ℚ rhs ≡ g *ℚ u
    upper G e = absurd (let z : ⊥ = cc in z)
    upper L e = same_bound g rhs u e
    upper E e = same_bound g rhs u e

-- and so is the bound that a price takes of a column
lean_span : (s : Span) (g u : ℚ) → Leans (span_bounds s) g u → g *ℚ whole (bound_for g s) ≡ g *ℚ u
lean_span s g u h = at (int_lt (pos 0) g.num) refl
  where
    at : (x : Bool) → int_lt (pos 0) g.num ≡ x → g *ℚ whole (if x then s.lo else s.hi) ≡ g *ℚ u
    at true e = same_bound g (whole s.lo) u (h.above e)
    at false e = elim (sign_cases g.num) [
      | inl f ↦ zero_times g (whole s.hi) u (zero_from_num g f)
      | inr k ↦ elim k [
        | inl f ↦ absurd (let z : ⊥ = cc in z)
        | inr f ↦ same_bound g (whole s.hi) u (h.below f)
      ]
    ]

-- ---- columns
unit_values : (n j : ℕ) (rs : Rows) → j < n → map (λ row. dot_value row (unit j n)) (map (λ (r : Row). coefficients_from 0 n r.terms) rs) ≡ map (λ (r : Row). coefficient r.terms j) rs
unit_values n j [] l = refl
unit_values n j (r ∷ rs) l = λ i. (dot-unit j n (coefficients_from 0 n r.terms) l ∙ coefficient_in n r.terms j l) i ∷ unit_values n j rs l i

-- the bounds' part of a price, as a sum over lists
bounds_sum : (f : ℕ → ℚ) (j : ℕ) (ss : List Span) (gs us : List ℚ) → length gs ≡ length ss → length us ≡ length ss → ((i : ℕ) → i < length ss → f (j + i) ≡ entry gs i)
    → ((i : ℕ) → i < length ss → Leans (span_bounds (get_or ss i no_span)) (entry gs i) (entry us i)) → bounds_price f j ss ≡ dot_value gs us
bounds_sum f j [] [] us l k h q = refl
bounds_sum f j [] (g ∷ gs) us l k h q = absurd (omega arith)
bounds_sum f j (s ∷ ss) [] us l k h q = absurd (omega arith)
bounds_sum f j (s ∷ ss) (g ∷ gs) [] l k h q = absurd (omega arith)
bounds_sum f j (s ∷ ss) (g ∷ gs) (u ∷ us) l k h q =
    let e : f j ≡ g = ap f (let z : j ≡ j + 0 = omega arith in z) ∙ h 0 (omega arith) in
    λ i. (ap (λ v. v *ℚ whole (bound_for v s)) e ∙ lean_span s g u (q 0 (omega arith))) i
    +ℚ bounds_sum f (j + 1) ss gs us (omega arith) (omega arith) (λ i b. ap f (let z : j + 1 + i ≡ j + suc i = omega arith in z) ∙ h (suc i) (omega arith)) (λ i b. q (suc i) (omega arith)) i

-- ---- what multipliers of all variables are as multipliers of rows
-- without those of n columns, under the rows' numbers
abbrev pub mult_from : ℕ → List ℕ → List ℚ → List (ℕ × ℚ)
mult_from n is g = numbered is (drop n g)

module _ (ls : List CertLine) (is : List ℕ) (rows : Rows) (spans : List Span) (objective target : Terms) (g u : List ℚ) (h : AreRows ls is rows)
    (b : IsBalanced rows spans objective target g u) where
  abbrev dense : List (List ℚ)
  dense = map (λ (r : Row). coefficients_from 0 (length spans) r.terms) rows

  -- they leave of each column of the target what the column's own multiplier is
  pub reduced_is_factor : (j : ℕ) → j < length spans → reduced_cost target (combined_terms ls (mult_from (length spans) is g)) j ≡ entry g j
  reduced_is_factor j l =
      let lz : length (unit j (length spans)) ≡ length spans = length-unit j (length spans) in
      let right : dot_value (coefficients_from 0 (length spans) target) (unit j (length spans)) ≡ coefficient target j =
      dot-unit j (length spans) (coefficients_from 0 (length spans) target) l ∙ coefficient_in (length spans) target j l in
      let front : dot_value (take (length spans) g) (unit j (length spans)) ≡ entry g j = dot-unit j (length spans) (take (length spans) g) l ∙ get_or-take (length spans) g j zero_ℚ l in
      let back : dot_value (drop (length spans) g) (map (λ row. dot_value row (unit j (length spans))) dense) ≡ coefficient (combined_terms ls (mult_from (length spans) is g)) j =
      ap (dot_value (drop (length spans) g)) (unit_values (length spans) j rows l) ∙ sym (numbered_coefficient ls is rows (drop (length spans) g) h j) in
      let sum : coefficient target j ≡ entry g j +ℚ coefficient (combined_terms ls (mult_from (length spans) is g)) j =
      sym right ∙ sym (b.balances (unit j (length spans)) lz)
      ∙ dot-split (unit j (length spans)) g (map (λ row. dot_value row (unit j (length spans))) dense)
      ∙ (λ i. dot_value (take (lz i) g) (unit j (length spans)) +ℚ dot_value (drop (lz i) g) (map (λ row. dot_value row (unit j (length spans))) dense))
      ∙ (λ i. front i +ℚ back i) in
      ap (λ v. v +ℚ neg_ℚ (coefficient (combined_terms ls (mult_from (length spans) is g)) j)) sum ∙ gone (entry g j) (coefficient (combined_terms ls (mult_from (length spans) is g)) j)
    where
      gone : (a c : ℚ) → a +ℚ c +ℚ neg_ℚ c ≡ a
      gone a c = +ℚ_assoc a c _ ∙ ap (λ v. a +ℚ v) (+ℚ_comm c _ ∙ neg-+ℚ c) ∙ +ℚ-zero a

  lean_row : (i : ℕ) → i < length rows → entry (drop (length spans) g) i *ℚ entry (map (λ (r : Row). r.rhs) rows) i ≡ entry (drop (length spans) g) i *ℚ entry (drop (length spans) u) i
  lean_row i l =
      (λ j. get_or-drop (length spans) g i zero_ℚ j *ℚ get_or-map (λ (r : Row). r.rhs) rows i no_row zero_ℚ l j)
      ∙ lean_side (get_or rows i no_row).sense (get_or rows i no_row).rhs (entry g (length spans + i)) (entry u (length spans + i))
      (subst (λ b. Leans b (entry g (length spans + i)) (entry u (length spans + i))) (row_bounds_at objective rows [] spans i l) (b.leans (length spans + i) (omega arith)))
      ∙ (λ j. sym (get_or-drop (length spans) g i zero_ℚ) j *ℚ sym (get_or-drop (length spans) u i zero_ℚ) j)

  side : combined_rhs ls (mult_from (length spans) is g) ≡ dot_value (drop (length spans) g) (drop (length spans) u)
  side = numbered_side ls is rows (drop (length spans) g) h
      ∙ dot-same (drop (length spans) g) (map (λ (r : Row). r.rhs) rows) (drop (length spans) u)
      (length-map rows (λ (r : Row). r.rhs) ∙ (let e : length rows ≡ length u - length spans = omega (arith, b.bounds) in e) ∙ sym (length-drop (length spans) u))
      (λ i l. lean_row i (omega (arith, l, length-map rows (λ (r : Row). r.rhs))))

  columns : bounds_price (reduced_cost target (combined_terms ls (mult_from (length spans) is g))) 0 spans ≡ dot_value (take (length spans) g) (take (length spans) u)
  columns = bounds_sum (reduced_cost target (combined_terms ls (mult_from (length spans) is g))) 0 spans (take (length spans) g) (take (length spans) u)
      (length-take-le (length spans) g (omega (arith, b.factors))) (length-take-le (length spans) u (omega (arith, b.bounds)))
      (λ i l. ap (reduced_cost target (combined_terms ls (mult_from (length spans) is g))) (let e : 0 + i ≡ i = omega arith in e) ∙ reduced_is_factor i l ∙ sym (get_or-take (length spans) g i zero_ℚ l))
      (λ i l. subst (λ v. Leans (span_bounds (get_or spans i no_span)) v (entry (take (length spans) u) i)) (sym (get_or-take (length spans) g i zero_ℚ l))
      (subst (λ v. Leans (span_bounds (get_or spans i no_span)) (entry g i) v) (sym (get_or-take (length spans) u i zero_ℚ l))
      (subst (λ b. Leans b (entry g i) (entry u i)) (column_bounds objective rows [] spans i l) (b.leans i (omega arith)))))

  -- their price is the sum of all multipliers times the bounds that they go with
  pub balanced_price : exact_price ls target (mult_from (length spans) is g) spans ≡ dot_value g u
  balanced_price = (λ i. side i +ℚ columns i) ∙ +ℚ_comm _ _ ∙ sym (dot-parts (length spans) g u (omega (arith, b.bounds)))

  -- and they have right signs
  pub balanced_signs : IsCombination ls G (mult_from (length spans) is g)
  balanced_signs = record {
    earlier = all_numbered (λ m. m.0 < length ls) is (drop (length spans) g) (λ k l. (row_there ls is rows k h l).0);
    signs = all_numbered (λ m. HasRightSign G (row_at ls m.0).sense m.1) is (drop (length spans) g) (λ k l.
        let i : k < length rows = omega (arith, length-numbers ls is rows h) in
        subst (λ (r : Row). HasRightSign G r.sense (entry (drop (length spans) g) k)) (sym (row_there ls is rows k h l).1)
        (subst (λ v. HasRightSign G (get_or rows k no_row).sense v) (sym (get_or-drop (length spans) g k zero_ℚ))
        (lean_sign (get_or rows k no_row).sense (get_or rows k no_row).rhs (entry g (length spans + k)) (entry u (length spans + k))
        (subst (λ b. Leans b (entry g (length spans + k)) (entry u (length spans + k))) (row_bounds_at objective rows [] spans k i) (b.leans (length spans + k) (omega arith))))));
  }
