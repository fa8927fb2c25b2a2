-- Lemmas: multipliers that balance a target bound it from below over the relaxation.
use Rattle.std.specs.Prelude.{All}
use Rattle.std.proofs.Common.{◌≡◌, ℕ, zero, suc, ◌+◌, ◌-◌, ◌<◌, arith, refl, ap, sym, ◌∙◌, subst, List, [], ◌∷◌, length, get_or, map, inl, inr}
use Rattle.std.proofs.lemmas.Bool.{cases_lt}
use Rattle.std.proofs.lemmas.List.{length-map, length-append, get_or-map, get_or_append_left, get_or-append-add}
use Rattle.std.proofs.lemmas.List.Elements.{All-get_or}
use Rattle.fraction.specs.Rational.{ℚ, whole, ◌*ℚ◌, ◌≤ℚ◌}
use Rattle.fraction.specs.Lemmas.Rational.{≤ℚ_refl, *ℚ-≤ℚ, zero-*ℚ}
use Rattle.fraction.specs.Lemmas.Order.{same_le, +ℚ-≤ℚ-both, *ℚ-≥ℚ, zero_from_num}
use Rattle.fraction.specs.Lemmas.Bounds.{dot_value}
use Rattle.problem_box.specs.declared.span.Span.{Span}
use Rattle.problem.specs.declared.row.Sense.{Sense}
use Rattle.problem.specs.declared.row.Sense.TheVariants.{G, L, E}
use Rattle.problem.specs.declared.row.Row.{Row}
use Rattle.problem.specs.Linear.{Terms}
use Rattle.problem.specs.Rows.{Rows, Compares}
use Rattle.tableau.specs.declared.bounds.Bounds.{Bounds}
use Rattle.tableau.specs.Elimination.{zero_ℚ, entry}
use Rattle.tableau.specs.Leaving.{unbounded}
use Rattle.tableau.specs.LinearProgram.{coefficients_from, span_bounds, sense_bounds, row_bounds, program_of}
use Rattle.tableau.specs.Lemmas.Signs.{below_from, above_from}
use Rattle.tableau.specs.Lemmas.Started.{no_span, no_row}
use Rattle.tableau.specs.Lemmas.Leaning.{Leans, sign_cases, IsWithinBounds}
use Rattle.tableau.specs.Lemmas.Balanced.{IsBalanced, with_rows, column_bounds, row_bounds_at}
use Rattle.dual_simplex.specs.Relaxation.{RationalPoint, rational_value, LiesInBox, SatisfiesRow}
use Rattle.dual_simplex.specs.Lemmas.RationalValues.{rational_value-dot}

-- a multiplier times its bound is at most the multiplier times any number within the bounds
lean_below : (b : Bounds) (g u y : ℚ) → Leans b g u → IsWithinBounds b y → (g *ℚ u) ≤ℚ (g *ℚ y)
lean_below b g u y h w = elim (sign_cases g.num) [
  | inl e ↦ let z = zero_from_num g e in same_le _ _ ((λ i. z i *ℚ u) ∙ zero-*ℚ u ∙ sym ((λ i. z i *ℚ y) ∙ zero-*ℚ y))
  | inr k ↦ elim k [
    | inl e ↦ *ℚ-≤ℚ g u y (above_from g e) (w.lower u (h.above e))
    | inr e ↦ *ℚ-≥ℚ g y u (below_from g e) (w.upper u (h.below e))
  ]
]

dot-≤ℚ : (gs us ys : List ℚ) → length us ≡ length ys → ((i : ℕ) → i < length us → (entry gs i *ℚ entry us i) ≤ℚ (entry gs i *ℚ entry ys i)) → dot_value gs us ≤ℚ dot_value gs ys
dot-≤ℚ [] us ys l h = ≤ℚ_refl _
dot-≤ℚ (g ∷ gs) [] [] l h = ≤ℚ_refl _
dot-≤ℚ (g ∷ gs) [] (y ∷ ys) l h = absurd (omega arith)
dot-≤ℚ (g ∷ gs) (u ∷ us) [] l h = absurd (omega arith)
dot-≤ℚ (g ∷ gs) (u ∷ us) (y ∷ ys) l h = +ℚ-≤ℚ-both _ _ _ _ (h 0 (omega arith)) (dot-≤ℚ gs us ys (omega arith) (λ i k. h (suc i) (omega arith)))

-- ---- a relaxed point's numbers are within their bounds
span_within : (s : Span) (x : ℚ) → whole s.lo ≤ℚ x → x ≤ℚ whole s.hi → IsWithinBounds (span_bounds s) x
span_within s x h k = record {
  lower = λ l e. let f : whole s.lo ≡ l = cc in subst (λ v. v ≤ℚ x) f h;
  upper = λ u e. let f : whole s.hi ≡ u = cc in subst (λ v. x ≤ℚ v) f k;
}

sense_within : (s : Sense) (rhs v : ℚ) → Compares s rhs v → IsWithinBounds (sense_bounds s rhs) v
sense_within G rhs v h = record {
  lower = λ l e. let f : rhs ≡ l = cc in subst (λ w. w ≤ℚ v) f h;
  upper = λ u e. absurd (let z : ⊥ = cc in z);
}
sense_within L rhs v h = record {
  lower = λ l e. absurd (let z : ⊥ = cc in z);
  upper = λ u e. let f : rhs ≡ u = cc in subst (λ w. v ≤ℚ w) f h;
}
sense_within E rhs v h = record {
  lower = λ l e. let f : rhs ≡ l = cc in same_le l v (sym f ∙ sym h);
  upper = λ u e. let f : rhs ≡ u = cc in same_le v u (h ∙ f);
}

pub length-lies : (ss : List Span) (xs : RationalPoint) → LiesInBox ss xs → length xs ≡ length ss
length-lies [] [] h = refl
length-lies [] (x ∷ xs) h = absurd h
length-lies (s ∷ ss) [] h = absurd h
length-lies (s ∷ ss) (x ∷ xs) h = ap suc (length-lies ss xs h.2)

lies_at : (ss : List Span) (xs : RationalPoint) (j : ℕ) → LiesInBox ss xs → j < length ss → IsWithinBounds (span_bounds (get_or ss j no_span)) (entry xs j)
lies_at [] xs j h l = absurd (omega arith)
lies_at (s ∷ ss) [] j h l = absurd h
lies_at (s ∷ ss) (x ∷ xs) zero h l = span_within s x h.0 h.1
lies_at (s ∷ ss) (x ∷ xs) (suc j) h l = lies_at ss xs j h.2 (omega arith)

pub balanced_below : (rows : Rows) (spans : List Span) (objective target : Terms) (g u x : List ℚ) → IsBalanced rows spans objective target g u → LiesInBox spans x → All (SatisfiesRow x) rows
    → dot_value g u ≤ℚ rational_value target x
balanced_below rows spans objective target g u x b h k =
    subst (λ v. dot_value g u ≤ℚ v) (b.balances x l ∙ ap (λ n. dot_value (coefficients_from 0 n target) x) (sym l) ∙ sym (rational_value-dot target x))
    (dot-≤ℚ g u (with_rows dense x) (b.bounds ∙ sym size) (λ i m. at i (omega (arith, m, b.bounds))))
  where
    dense : List (List ℚ)
    dense = (program_of objective rows [] spans).rows

    l : length x ≡ length spans
    l = length-lies spans x h

    count : length dense ≡ length rows
    count = length-map rows (λ (r : Row). coefficients_from 0 (length spans) r.terms)

    size : length (with_rows dense x) ≡ length spans + length rows
    size = length-append x (map (λ row. dot_value row x) dense) ∙ (λ i. l i + (length-map dense (λ row. dot_value row x) ∙ count) i)

    within : (i : ℕ) → i < length spans + length rows → IsWithinBounds (get_or (program_of objective rows [] spans).bounds i unbounded) (entry (with_rows dense x) i)
    within i m = elim (cases_lt i (length spans)) [
      | inl c ↦ subst (λ v. IsWithinBounds (get_or (program_of objective rows [] spans).bounds i unbounded) v) (sym (get_or_append_left x (map (λ row. dot_value row x) dense) zero_ℚ i (omega (arith, c, l))))
          (subst (λ b. IsWithinBounds b (entry x i)) (sym (column_bounds objective rows [] spans i c)) (lies_at spans x i h c))
      | inr c ↦
          let e : length spans + (i - length spans) ≡ i = omega arith in
          let f : i - length spans < length rows = omega arith in
          subst (λ i. IsWithinBounds (get_or (program_of objective rows [] spans).bounds i unbounded) (entry (with_rows dense x) i)) e
          (subst (λ b. IsWithinBounds b (entry (with_rows dense x) (length spans + (i - length spans)))) (sym (row_bounds_at objective rows [] spans (i - length spans) f))
          (subst (λ v. IsWithinBounds (row_bounds (get_or rows (i - length spans) no_row)) v)
          (sym (ap (λ n. entry (with_rows dense x) (n + (i - length spans))) (sym l) ∙ get_or-append-add x (map (λ row. dot_value row x) dense) (i - length spans) zero_ℚ
          ∙ get_or-map (λ row. dot_value row x) dense (i - length spans) [] zero_ℚ (omega (arith, f, count))
          ∙ ap (λ row. dot_value row x) (get_or-map (λ (r : Row). coefficients_from 0 (length spans) r.terms) rows (i - length spans) no_row [] f)
          ∙ ap (λ n. dot_value (coefficients_from 0 n (get_or rows (i - length spans) no_row).terms) x) (sym l) ∙ sym (rational_value-dot (get_or rows (i - length spans) no_row).terms x)))
          (sense_within (get_or rows (i - length spans) no_row).sense (get_or rows (i - length spans) no_row).rhs (rational_value (get_or rows (i - length spans) no_row).terms x)
          (All-get_or (SatisfiesRow x) rows (i - length spans) no_row f k))))
    ]

    at : (i : ℕ) → i < length spans + length rows → (entry g i *ℚ entry u i) ≤ℚ (entry g i *ℚ entry (with_rows dense x) i)
    at i m = lean_below (get_or (program_of objective rows [] spans).bounds i unbounded) (entry g i) (entry u i) (entry (with_rows dense x) i) (b.leans i m) (within i m)
