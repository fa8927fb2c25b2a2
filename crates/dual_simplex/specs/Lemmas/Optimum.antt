-- Lemmas: where the tableau is done, its point lies in the relaxation, and the objective there is the sum of reduced costs times bounds.
use Rattle.std.specs.Prelude.{◌≤ℤ◌, All}
use Rattle.std.proofs.Common.{◌≡◌, ℕ, suc, ◌+◌, ◌<◌, arith, refl, ap, sym, ◌∙◌, subst, Some, List, [], ◌∷◌, length, get_or, take, drop, inl, inr}
use Rattle.std.proofs.lemmas.List.{length-map, length-take-le, get_or-take, get_or-map, take-append-drop}
use Rattle.std.proofs.lemmas.List.Elements.{All-get_or, All-from_get_or}
use Rattle.fraction.specs.Rational.{ℚ, whole, ◌≤ℚ◌}
use Rattle.fraction.specs.Lemmas.Rational.{≤ℚ_antisymm}
use Rattle.fraction.specs.Lemmas.Order.{same_le, whole-≤ℚ}
use Rattle.fraction.specs.Lemmas.Bounds.{dot_value}
use Rattle.problem_box.specs.declared.span.Span.{Span}
use Rattle.problem.specs.declared.row.Sense.{Sense}
use Rattle.problem.specs.declared.row.Sense.TheVariants.{G, L, E}
use Rattle.problem.specs.declared.row.Row.{Row}
use Rattle.problem.specs.Linear.{Terms}
use Rattle.problem.specs.Rows.{Rows, Compares}
use Rattle.tableau.specs.declared.bounds.Bounds.{Bounds}
use Rattle.tableau.specs.declared.status.BasisStatus.{BasisStatus}
use Rattle.tableau.specs.declared.status.BasisStatus.TheVariants.{Basic, AtLower, AtUpper}
use Rattle.tableau.specs.Elimination.{zero_ℚ, entry}
use Rattle.tableau.specs.Leaving.{unbounded}
use Rattle.tableau.specs.LinearProgram.{coefficients_from, span_bounds, sense_bounds, row_bounds, program_of}
use Rattle.tableau.specs.Tableau.{Tableau, bounds_of, status_of, nonbasic_value_of, value_of}
use Rattle.tableau.specs.Invariants.{IsNonbasic, IsAtBound, IsTableauOf}
use Rattle.tableau.specs.Lemmas.Started.{no_span, no_row, length-coefficients}
use Rattle.tableau.specs.Lemmas.Places.{NoneLeaves, basic_or}
use Rattle.tableau.specs.Lemmas.Sums.{dot-short}
use Rattle.tableau.specs.Lemmas.Leaning.{IsWithinBounds, within_bounds}
use Rattle.tableau.specs.Lemmas.Balanced.{column_bounds, row_bounds_at}
use Rattle.tableau.specs.Lemmas.Refuting.{nonbasic_values_are, values_solve, clear_sum}
use Rattle.dual_simplex.specs.Relaxation.{RationalPoint, rational_value, LiesInBox, SatisfiesRow}
use Rattle.dual_simplex.specs.Lemmas.RationalValues.{rational_value-dot}

-- ---- within the bounds
pub record IsOrdered (b : Bounds) : Type 0 where
  pub is : (l u : ℚ) → b.lower ≡ Some l → b.upper ≡ Some u → l ≤ℚ u

at_bound : (b : Bounds) (s : BasisStatus) (q : ℚ) → IsOrdered b → IsNonbasic s → IsAtBound b s q → IsWithinBounds b q
at_bound b Basic q o i h = absurd i
at_bound b AtLower q o i h = record {
  lower = λ l e. same_le l q (let f : Some l ≡ Some q = sym e ∙ h in let g : l ≡ q = cc in g);
  upper = λ u e. o.is q u h e;
}
at_bound b AtUpper q o i h = record {
  lower = λ l e. o.is l q e h;
  upper = λ u e. same_le q u (let f : Some q ≡ Some u = sym h ∙ e in let g : q ≡ u = cc in g);
}

span_ordered : (s : Span) → s.lo ≤ℤ s.hi → IsOrdered (span_bounds s)
span_ordered s h = record { is = λ l u e f. let a : whole s.lo ≡ l = cc in let b : whole s.hi ≡ u = cc in subst (λ v. l ≤ℚ v) b (subst (λ v. v ≤ℚ whole s.hi) a (whole-≤ℚ s.lo s.hi h)) }

sense_ordered : (s : Sense) (rhs : ℚ) → IsOrdered (sense_bounds s rhs)
sense_ordered G rhs = record { is = λ l u e f. absurd (let z : ⊥ = cc in z) }
sense_ordered L rhs = record { is = λ l u e f. absurd (let z : ⊥ = cc in z) }
sense_ordered E rhs = record { is = λ l u e f. same_le l u (let z : l ≡ u = cc in z) }

compares : (s : Sense) (rhs v : ℚ) → IsWithinBounds (sense_bounds s rhs) v → Compares s rhs v
compares G rhs v h = h.lower rhs refl
compares L rhs v h = h.upper rhs refl
compares E rhs v h = ≤ℚ_antisymm v rhs (h.upper rhs refl) (h.lower rhs refl)

lies_in : (ss : List Span) (xs : RationalPoint) → length xs ≡ length ss → ((j : ℕ) → j < length ss → IsWithinBounds (span_bounds (get_or ss j no_span)) (entry xs j)) → LiesInBox ss xs
lies_in [] [] l h = tt
lies_in [] (x ∷ xs) l h = absurd (omega arith)
lies_in (s ∷ ss) [] l h = absurd (omega arith)
lies_in (s ∷ ss) (x ∷ xs) l h =
    let f = h 0 (omega arith) in
    (f.lower (whole s.lo) refl, f.upper (whole s.hi) refl, lies_in ss xs (omega arith) (λ j k. h (suc j) (omega arith)))

-- ---- the point
module _ (objective : Terms) (rows : Rows) (numbers : List ℕ) (spans : List Span) (t : Tableau) (h : IsTableauOf (length spans + length rows) (program_of objective rows numbers spans) t) where
  -- a variable of ordered bounds is within them
  all_within : NoneLeaves (length spans + length rows) t → (k : ℕ) → k < length spans + length rows → IsOrdered (bounds_of t k) → IsWithinBounds (bounds_of t k) (value_of t k)
  all_within d k l o = elim (basic_or (status_of t k)) [
    | inl b ↦ within_bounds (bounds_of t k) (value_of t k) (d k l b)
    | inr i ↦ subst (IsWithinBounds (bounds_of t k)) (sym (nonbasic_values_are (length spans + length rows) (program_of objective rows numbers spans) t h k l i))
        (at_bound (bounds_of t k) (status_of t k) (nonbasic_value_of t k) o i (h.at_bounds k l))
  ]

  length-point : length (take (length spans) t.values) ≡ length spans
  length-point = length-take-le (length spans) t.values (omega (arith, h.size.values))

  pub point_lies : NoneLeaves (length spans + length rows) t → All (λ (s : Span). s.lo ≤ℤ s.hi) spans → LiesInBox spans (take (length spans) t.values)
  point_lies d n = lies_in spans (take (length spans) t.values) length-point (λ j l.
      let e : bounds_of t j ≡ span_bounds (get_or spans j no_span) = ap (λ bs. get_or bs j unbounded) h.bounds ∙ column_bounds objective rows numbers spans j l in
      subst (λ v. IsWithinBounds (span_bounds (get_or spans j no_span)) v) (sym (get_or-take (length spans) t.values j zero_ℚ l))
      (subst (λ b. IsWithinBounds b (value_of t j)) e
      (all_within d j (omega arith) (subst IsOrdered (sym e) (span_ordered (get_or spans j no_span) (All-get_or (λ (s : Span). s.lo ≤ℤ s.hi) spans j no_span l n))))))

  -- a sum over the values is one over the point
  point_sum : (ts : Terms) → dot_value (coefficients_from 0 (length spans) ts) t.values ≡ rational_value ts (take (length spans) t.values)
  point_sum ts =
      ap (dot_value (coefficients_from 0 (length spans) ts)) (sym (take-append-drop (length spans) t.values))
      ∙ dot-short (coefficients_from 0 (length spans) ts) (take (length spans) t.values) (drop (length spans) t.values) (length-coefficients 0 (length spans) ts ∙ sym length-point)
      ∙ ap (λ n. dot_value (coefficients_from 0 n ts) (take (length spans) t.values)) (sym length-point) ∙ sym (rational_value-dot ts (take (length spans) t.values))

  pub point_satisfies : NoneLeaves (length spans + length rows) t → All (SatisfiesRow (take (length spans) t.values)) rows
  point_satisfies d = All-from_get_or (SatisfiesRow (take (length spans) t.values)) rows no_row (λ i l.
      let k : length spans + i < length spans + length rows = omega arith in
      let e : bounds_of t (length spans + i) ≡ row_bounds (get_or rows i no_row) = ap (λ bs. get_or bs (length spans + i) unbounded) h.bounds ∙ row_bounds_at objective rows numbers spans i l in
      let w : IsWithinBounds (row_bounds (get_or rows i no_row)) (value_of t (length spans + i)) = subst (λ b. IsWithinBounds b (value_of t (length spans + i))) e
      (all_within d (length spans + i) k (subst IsOrdered (sym e) (sense_ordered (get_or rows i no_row).sense (get_or rows i no_row).rhs))) in
      let m : i < length (program_of objective rows numbers spans).rows = omega (arith, l, length-map rows (λ (r : Row). coefficients_from 0 (length spans) r.terms)) in
      let s : rational_value (get_or rows i no_row).terms (take (length spans) t.values) ≡ value_of t (length spans + i) =
      sym (point_sum (get_or rows i no_row).terms)
      ∙ ap (λ row. dot_value row t.values) (sym (get_or-map (λ (r : Row). coefficients_from 0 (length spans) r.terms) rows i no_row [] l))
      ∙ h.solutions.back t.values h.size.values (values_solve (length spans + length rows) (program_of objective rows numbers spans) t h) i m
      ∙ ap (λ n. entry t.values (n + i)) (length-coefficients 0 (length spans) objective) in
      subst (λ v. Compares (get_or rows i no_row).sense (get_or rows i no_row).rhs v) (sym s) (compares (get_or rows i no_row).sense (get_or rows i no_row).rhs (value_of t (length spans + i)) w))

  -- the objective at the point, by the reduced costs and the bounds where nonbasic variables are
  pub point_cost : rational_value objective (take (length spans) t.values) ≡ dot_value t.reduced_costs t.nonbasic_values
  point_cost =
      sym (point_sum objective) ∙ sym (h.objective t.values h.size.values (values_solve (length spans + length rows) (program_of objective rows numbers spans) t h))
      ∙ sym (clear_sum (length spans + length rows) (program_of objective rows numbers spans) t h t.reduced_costs h.canonical.costs)
