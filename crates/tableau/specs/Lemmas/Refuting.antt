-- Lemmas: the reduced costs balance the objective, and the multipliers of a row that no column can help balance nothing.
use Rattle.std.proofs.Common.{◌≡◌, ℕ, zero, suc, ◌+◌, ◌<◌, arith, refl, ap, sym, ◌∙◌, subst, Some, List, [], ◌∷◌, length, get_or, set, map, inl, inr}
use Rattle.std.proofs.lemmas.Bool.{cases_eq}
use Rattle.std.proofs.lemmas.List.{length-map, length-append, length-set, get_or-map, get_or-append-add, get_or-set_same, get_or-set_other}
use Rattle.fraction.specs.Lemmas.Bounds.{dot_value, value_from_dot}
use Rattle.fraction.specs.Lemmas.Order.{*ℚ-≥ℚ, along, either_order, not_both}
use Rattle.fraction.specs.Lemmas.Rational.{+ℚ-≤ℚ, +ℚ_comm, one-*ℚ, zero-*ℚ, zero-+ℚ}
use Rattle.fraction.specs.Lemmas.Ring.{*ℚ-zero, +ℚ-zero}
use Rattle.fraction.specs.Order.{◌<ℚ◌}
use Rattle.fraction.specs.Rational.{neg_ℚ, ℚ, ◌*ℚ◌, ◌+ℚ◌, ◌≤ℚ◌}
use Rattle.problem.specs.Linear.{Terms}
use Rattle.problem.specs.Rows.{Rows}
use Rattle.problem.specs.declared.row.Row.{Row}
use Rattle.problem_box.specs.declared.span.Span.{Span}
use Rattle.tableau.specs.Elimination.{entry, zero_ℚ}
use Rattle.tableau.specs.Invariants.{IsAtBound, IsCanonicalRow, IsNonbasic, IsTableauOf, Solves, SolvesRows}
use Rattle.tableau.specs.Leaving.{unbounded, violated_bound}
use Rattle.tableau.specs.Lemmas.Balanced.{IsBalanced, with_rows}
use Rattle.tableau.specs.Lemmas.Leaning.{IsViolated, lean_cost, lean_fall, lean_multiplier, lean_rise, multiplier, violated, Leans}
use Rattle.tableau.specs.Lemmas.PivotKeeps.{violated_bound_is}
use Rattle.tableau.specs.Lemmas.Places.{IsNoColumn, basic_or}
use Rattle.tableau.specs.Lemmas.RowAlgebra.{dot-set, minus_one}
use Rattle.tableau.specs.Lemmas.Signs.{minus_below, minus_gone, neg_is, one_ℚ, sign_back}
use Rattle.tableau.specs.Lemmas.Started.{length-coefficients, no_row}
use Rattle.tableau.specs.Lemmas.Sums.{dot-agree, dot-changed, dot-neg, dot-short}
use Rattle.tableau.specs.LinearProgram.{LinearProgram, coefficients_from, program_of}
use Rattle.tableau.specs.Multipliers.{row_multipliers}
use Rattle.tableau.specs.Pivot.{computed_value, status_after}
use Rattle.tableau.specs.Tableau.{Tableau, bounds_of, nonbasic_value_of, reduced_cost_of, row_of, status_of, value_of}
use Rattle.tableau.specs.declared.bounds.Bounds.{Bounds}
use Rattle.tableau.specs.declared.bounds.Direction.{Direction}
use Rattle.tableau.specs.declared.bounds.Direction.TheVariants.{Fall, Rise}
use Rattle.tableau.specs.declared.status.BasisStatus.{BasisStatus}
use Rattle.tableau.specs.declared.status.BasisStatus.TheVariants.{AtLower, AtUpper, Basic}

-- ---- the point of a tableau
-- a nonbasic variable has the value of its bound
value_rests : (t : Tableau) (i : ℕ) → computed_value t.nonbasic_values (status_of t i) (nonbasic_value_of t i) (row_of t i) ≡ Some (value_of t i) → IsNonbasic (status_of t i) → value_of t i ≡ nonbasic_value_of t i
value_rests t i e h = at (status_of t i) e h
  where
    at : (s : BasisStatus) → computed_value t.nonbasic_values s (nonbasic_value_of t i) (row_of t i) ≡ Some (value_of t i) → IsNonbasic s → value_of t i ≡ nonbasic_value_of t i
    at Basic e h = absurd h
    at AtLower e h = cc
    at AtUpper e h = cc

pub nonbasic_values_are : (n : ℕ) (l : LinearProgram) (t : Tableau) → IsTableauOf n l t → (i : ℕ) → i < n → IsNonbasic (status_of t i) → value_of t i ≡ nonbasic_value_of t i
nonbasic_values_are n l t h i k b = value_rests t i (h.values i k) b

-- a row in canonical form has one sum over the nonbasic values and over all values
pub clear_sum : (n : ℕ) (l : LinearProgram) (t : Tableau) → IsTableauOf n l t → (row : List ℚ) → IsCanonicalRow n t row → dot_value row t.nonbasic_values ≡ dot_value row t.values
clear_sum n l t h row k = dot-agree row t.nonbasic_values t.values (h.size.nonbasic_values ∙ sym h.size.values) (λ i b.
    let c : i < n = omega (arith, b, h.size.nonbasic_values) in
    elim (basic_or (status_of t i)) [
      | inl e ↦ inl (k.clear i c e)
      | inr e ↦ inr (sym (nonbasic_values_are n l t h i c e))
    ])

-- the values solve the tableau
pub values_solve : (n : ℕ) (l : LinearProgram) (t : Tableau) → IsTableauOf n l t → Solves n t t.values
values_solve n l t h i k b =
    let e : computed_value t.nonbasic_values Basic (nonbasic_value_of t i) (row_of t i) ≡ Some (value_of t i) = subst (λ s. computed_value t.nonbasic_values s (nonbasic_value_of t i) (row_of t i) ≡ Some (value_of t i)) b (h.values i k) in
    sym (clear_sum n l t h (row_of t i) (h.canonical.rows i k b)) ∙ sym (value_from_dot zero_ℚ (row_of t i) t.nonbasic_values (value_of t i) e ∙ zero-+ℚ _)

-- ---- points with the values of their rows
pub with_rows_solve : (l : LinearProgram) (z : List ℚ) → ((i : ℕ) → i < length l.rows → length (get_or l.rows i []) ≡ length l.costs) → length z ≡ length l.costs → SolvesRows l (with_rows l.rows z)
with_rows_solve l z w e i k =
    dot-short (get_or l.rows i []) z (map (λ row. dot_value row z) l.rows) (w i k ∙ sym e)
    ∙ sym (ap (λ n. entry (with_rows l.rows z) (n + i)) (sym e) ∙ get_or-append-add z (map (λ row. dot_value row z) l.rows) i zero_ℚ ∙ get_or-map (λ row. dot_value row z) l.rows i [] zero_ℚ k)

length-with_rows : (rows : List (List ℚ)) (z : List ℚ) → length (with_rows rows z) ≡ length z + length rows
length-with_rows rows z = length-append z (map (λ row. dot_value row z) rows) ∙ ap (λ k. length z + k) (length-map rows (λ row. dot_value row z))

rows_full : (objective : Terms) (rows : Rows) (numbers : List ℕ) (spans : List Span) (i : ℕ) → i < length (program_of objective rows numbers spans).rows → length (get_or (program_of objective rows numbers spans).rows i []) ≡ length (program_of objective rows numbers spans).costs
rows_full objective rows numbers spans i l =
    let k : i < length rows = omega (arith, l, length-map rows (λ (r : Row). coefficients_from 0 (length spans) r.terms)) in
    ap length (get_or-map (λ (r : Row). coefficients_from 0 (length spans) r.terms) rows i no_row [] k) ∙ length-coefficients 0 (length spans) _ ∙ sym (length-coefficients 0 (length spans) objective)

-- at each point, the tableau is solved by it and the values of its rows
solved_by : (objective : Terms) (rows : Rows) (numbers : List ℕ) (spans : List Span) (t : Tableau) → IsTableauOf (length spans + length rows) (program_of objective rows numbers spans) t → (z : List ℚ) → length z ≡ length spans
    → (length (with_rows (program_of objective rows numbers spans).rows z) ≡ length spans + length rows) × Solves (length spans + length rows) t (with_rows (program_of objective rows numbers spans).rows z)
solved_by objective rows numbers spans t h z e =
    let k : length (with_rows (program_of objective rows numbers spans).rows z) ≡ length spans + length rows =
    length-with_rows (program_of objective rows numbers spans).rows z ∙ (λ i. e i + length-map rows (λ (r : Row). coefficients_from 0 (length spans) r.terms) i) in
    (k, h.solutions.to _ k (with_rows_solve (program_of objective rows numbers spans) z (rows_full objective rows numbers spans) (e ∙ sym (length-coefficients 0 (length spans) objective))))

-- ---- reduced costs
pub costs_balance : (objective : Terms) (rows : Rows) (numbers : List ℕ) (spans : List Span) (t : Tableau) → IsTableauOf (length spans + length rows) (program_of objective rows numbers spans) t
    → IsBalanced rows spans objective objective t.reduced_costs t.nonbasic_values
costs_balance objective rows numbers spans t h = record {
  factors = h.size.reduced_costs;
  bounds = h.size.nonbasic_values;
  balances = λ z e.
      let s = solved_by objective rows numbers spans t h z e in
      h.objective _ s.0 s.1 ∙ dot-short (coefficients_from 0 (length spans) objective) z (map (λ row. dot_value row z) (program_of objective rows numbers spans).rows) (length-coefficients 0 (length spans) objective ∙ sym e);
  leans = λ k l. subst (λ bs. Leans (get_or bs k unbounded) (reduced_cost_of t k) (nonbasic_value_of t k)) h.bounds
      (lean_cost (bounds_of t k) (status_of t k) (reduced_cost_of t k) (nonbasic_value_of t k) (h.at_bounds k l) (h.dual k l) (h.canonical.costs.clear k l));
}

-- ---- a row
pub dot-no_terms : (j k : ℕ) (z : List ℚ) → dot_value (coefficients_from j k []) z ≡ zero_ℚ
dot-no_terms j zero z = refl
dot-no_terms j (suc k) [] = refl
dot-no_terms j (suc k) (a ∷ z) = (λ i. zero-*ℚ a i +ℚ dot-no_terms (j + 1) k z i) ∙ zero-+ℚ zero_ℚ

-- where the row says what x_r is, its multipliers come to 0
pub multipliers_vanish : (w : Direction) (r : ℕ) (row x : List ℚ) → length row ≡ length x → r < length row → entry row r ≡ zero_ℚ → dot_value row x ≡ entry x r → dot_value (row_multipliers w r row) x ≡ zero_ℚ
multipliers_vanish Rise r row x l k z e =
    let o : entry (map neg_ℚ row) r ≡ zero_ℚ = get_or-map neg_ℚ row r zero_ℚ zero_ℚ k ∙ neg_is (entry row r) ∙ ap (λ v. minus_one *ℚ v) z ∙ *ℚ-zero minus_one in
    sym (ap (λ v. dot_value (row_multipliers Rise r row) x +ℚ v *ℚ entry x r) o ∙ ap (λ v. dot_value (row_multipliers Rise r row) x +ℚ v) (zero-*ℚ _) ∙ +ℚ-zero _)
    ∙ dot-set (map neg_ℚ row) x r one_ℚ (length-map row neg_ℚ ∙ l) (rw length-map k)
    ∙ (λ i. (dot-neg row x ∙ ap (λ v. minus_one *ℚ v) e) i +ℚ one-*ℚ (entry x r) i) ∙ minus_gone (entry x r)
multipliers_vanish Fall r row x l k z e =
    sym (ap (λ v. dot_value (row_multipliers Fall r row) x +ℚ v *ℚ entry x r) z ∙ ap (λ v. dot_value (row_multipliers Fall r row) x +ℚ v) (zero-*ℚ _) ∙ +ℚ-zero _)
    ∙ dot-set row x r minus_one l k ∙ ap (λ v. v +ℚ minus_one *ℚ entry x r) e ∙ +ℚ_comm _ _ ∙ minus_gone (entry x r)

length-multipliers : (w : Direction) (r : ℕ) (row : List ℚ) → length (row_multipliers w r row) ≡ length row
length-multipliers Rise r row = length-set (map neg_ℚ row) r one_ℚ ∙ length-map row neg_ℚ
length-multipliers Fall r row = length-set row r minus_one

abbrev own_multiplier : Direction → ℚ
own_multiplier Rise = one_ℚ
own_multiplier Fall = minus_one

multiplier_left : (w : Direction) (r : ℕ) (row : List ℚ) → r < length row → entry (row_multipliers w r row) r ≡ own_multiplier w
multiplier_left Rise r row l = get_or-set_same (map neg_ℚ row) r one_ℚ zero_ℚ (rw length-map l)
multiplier_left Fall r row l = get_or-set_same row r minus_one zero_ℚ l

multiplier_other : (w : Direction) (r : ℕ) (row : List ℚ) (k : ℕ) → k < length row → (k ≡ r → ⊥) → entry (row_multipliers w r row) k ≡ multiplier w (entry row k)
multiplier_other Rise r row k l n = get_or-set_other (map neg_ℚ row) r k one_ℚ zero_ℚ n ∙ get_or-map neg_ℚ row k zero_ℚ zero_ℚ l
multiplier_other Fall r row k l n = get_or-set_other row r k minus_one zero_ℚ n

nothing : (w : Direction) (t : ℚ) → t ≡ zero_ℚ → multiplier w t ≡ zero_ℚ
nothing Rise t e = neg_is t ∙ ap (λ v. minus_one *ℚ v) e ∙ *ℚ-zero minus_one
nothing Fall t e = e

-- the bounds that the multipliers of row r go with: the nonbasic values, and for r the bound that it violates
abbrev pub refuting_bounds : Tableau → ℕ → Direction → List ℚ
refuting_bounds t r w = set t.nonbasic_values r (violated_bound w (bounds_of t r))

lean_own : (w : Direction) (b : Bounds) → IsAtBound b (status_after w) (violated_bound w b) → Leans b (own_multiplier w) (violated_bound w b)
lean_own Rise b h = lean_rise b (violated_bound Rise b) h
lean_own Fall b h = lean_fall b (violated_bound Fall b) h

pub row_balances : (objective : Terms) (rows : Rows) (numbers : List ℕ) (spans : List Span) (t : Tableau) (r : ℕ) → IsTableauOf (length spans + length rows) (program_of objective rows numbers spans) t
    → (k : IsNoColumn (length spans + length rows) t r) → IsBalanced rows spans objective [] (row_multipliers k.direction r (row_of t r)) (refuting_bounds t r k.direction)
row_balances objective rows numbers spans t r h k =
    let c = h.canonical.rows r k.leaving.there k.leaving.basic in
    let there : r < length (row_of t r) = omega (arith, c.full, k.leaving.there) in record {
      factors = length-multipliers k.direction r (row_of t r) ∙ c.full;
      bounds = length-set t.nonbasic_values r (violated_bound k.direction (bounds_of t r)) ∙ h.size.nonbasic_values;
      balances = λ z e.
          let s = solved_by objective rows numbers spans t h z e in
          multipliers_vanish k.direction r (row_of t r) (with_rows (program_of objective rows numbers spans).rows z) (c.full ∙ sym s.0) there (c.clear r k.leaving.there k.leaving.basic) (s.1 r k.leaving.there k.leaving.basic)
          ∙ sym (dot-no_terms 0 (length spans) z);
      leans = λ i l. subst (λ bs. Leans (get_or bs i unbounded) (entry (row_multipliers k.direction r (row_of t r)) i) (entry (refuting_bounds t r k.direction) i)) h.bounds (elim (cases_eq i r) [
        | inl e ↦ subst (λ i. Leans (bounds_of t i) (entry (row_multipliers k.direction r (row_of t r)) i) (entry (refuting_bounds t r k.direction) i)) (sym e)
            (subst (λ g. Leans (bounds_of t r) g (entry (refuting_bounds t r k.direction) r)) (sym (multiplier_left k.direction r (row_of t r) there))
            (subst (λ u. Leans (bounds_of t r) (own_multiplier k.direction) u) (sym (get_or-set_same t.nonbasic_values r (violated_bound k.direction (bounds_of t r)) zero_ℚ (omega (arith, h.size.nonbasic_values, k.leaving.there))))
            (lean_own k.direction (bounds_of t r) (violated_bound_is k.direction (bounds_of t r) (value_of t r) k.leaving.is_violated))))
        | inr m ↦
            subst (λ g. Leans (bounds_of t i) g (entry (refuting_bounds t r k.direction) i)) (sym (multiplier_other k.direction r (row_of t r) i (omega (arith, l, c.full)) m))
            (subst (λ u. Leans (bounds_of t i) (multiplier k.direction (entry (row_of t r) i)) u) (sym (get_or-set_other t.nonbasic_values r i (violated_bound k.direction (bounds_of t r)) zero_ℚ m))
            (lean_multiplier k.direction (bounds_of t i) (status_of t i) (entry (row_of t r) i) (nonbasic_value_of t i) (h.at_bounds i l) (k.none i l) (c.clear i l)))
      ]);
    }

-- ---- over those bounds the multipliers of a row come to more than 0
above_rise : (p v b : ℚ) → p +ℚ one_ℚ *ℚ v ≡ zero_ℚ +ℚ one_ℚ *ℚ b → v <ℚ b → zero_ℚ <ℚ p
above_rise p v b e h = elim (either_order p zero_ℚ) [
  | inl k ↦ absurd (not_both b v (along _ _ _ _ (ap (λ z. p +ℚ z) (sym (one-*ℚ v)) ∙ e ∙ zero-+ℚ _ ∙ one-*ℚ b) (zero-+ℚ v) (+ℚ-≤ℚ p zero_ℚ v k)) h)
  | inr k ↦ k
]

above_fall : (p v b : ℚ) → p +ℚ minus_one *ℚ v ≡ zero_ℚ +ℚ minus_one *ℚ b → b <ℚ v → zero_ℚ <ℚ p
above_fall p v b e h = elim (either_order p zero_ℚ) [
  | inl k ↦ absurd (not_both v b (below v b (along _ _ _ _ (e ∙ zero-+ℚ _) (zero-+ℚ _) (+ℚ-≤ℚ p zero_ℚ (minus_one *ℚ v) k))) h)
  | inr k ↦ k
]
  where
    below : (v b : ℚ) → (minus_one *ℚ b) ≤ℚ (minus_one *ℚ v) → v ≤ℚ b
    below v b h = along _ _ _ _ (sign_back minus_one v (record { is = inr refl })) (sign_back minus_one b (record { is = inr refl })) (*ℚ-≥ℚ minus_one _ _ minus_below h)

above_own : (w : Direction) (b : Bounds) (p v : ℚ) → IsViolated b v w → p +ℚ own_multiplier w *ℚ v ≡ zero_ℚ +ℚ own_multiplier w *ℚ violated_bound w b → zero_ℚ <ℚ p
above_own Rise b p v h e = above_rise p v (violated_bound Rise b) e (h.rise refl)
above_own Fall b p v h e = above_fall p v (violated_bound Fall b) e (h.fall refl)

pub row_above : (n : ℕ) (l : LinearProgram) (t : Tableau) (r : ℕ) → IsTableauOf n l t → (k : IsNoColumn n t r) → zero_ℚ <ℚ dot_value (row_multipliers k.direction r (row_of t r)) (refuting_bounds t r k.direction)
row_above n l t r h k = subst (λ p. zero_ℚ <ℚ p) (sym same) (above_own k.direction (bounds_of t r) _ (value_of t r) (violated (bounds_of t r) (value_of t r) k.direction k.leaving.is_violated) changed)
  where
    g : List ℚ
    g = row_multipliers k.direction r (row_of t r)

    bound : ℚ
    bound = violated_bound k.direction (bounds_of t r)

    clear : IsCanonicalRow n t (row_of t r)
    clear = h.canonical.rows r k.leaving.there k.leaving.basic

    there : r < length (row_of t r)
    there = omega (arith, clear.full, k.leaving.there)

    full : length (row_multipliers k.direction r (row_of t r)) ≡ n
    full = length-multipliers k.direction r (row_of t r) ∙ clear.full

    -- over the nonbasic values and over all values
    same : dot_value (row_multipliers k.direction r (row_of t r)) (refuting_bounds t r k.direction) ≡ dot_value (row_multipliers k.direction r (row_of t r)) (set t.values r (violated_bound k.direction (bounds_of t r)))
    same = dot-agree (row_multipliers k.direction r (row_of t r)) (refuting_bounds t r k.direction) (set t.values r (violated_bound k.direction (bounds_of t r)))
        (length-set t.nonbasic_values r (violated_bound k.direction (bounds_of t r)) ∙ h.size.nonbasic_values ∙ sym (length-set t.values r (violated_bound k.direction (bounds_of t r)) ∙ h.size.values))
        (λ i b.
        let c : i < n = omega (arith, b, length-set t.nonbasic_values r (violated_bound k.direction (bounds_of t r)), h.size.nonbasic_values) in
        elim (cases_eq i r) [
          | inl e ↦ inr (subst (λ i. entry (refuting_bounds t r k.direction) i ≡ entry (set t.values r (violated_bound k.direction (bounds_of t r))) i) (sym e)
              (get_or-set_same t.nonbasic_values r (violated_bound k.direction (bounds_of t r)) zero_ℚ (omega (arith, h.size.nonbasic_values, k.leaving.there))
              ∙ sym (get_or-set_same t.values r (violated_bound k.direction (bounds_of t r)) zero_ℚ (omega (arith, h.size.values, k.leaving.there)))))
          | inr m ↦ elim (basic_or (status_of t i)) [
            | inl e ↦ inl (multiplier_other k.direction r (row_of t r) i (omega (arith, c, clear.full)) m ∙ nothing k.direction (entry (row_of t r) i) (clear.clear i c e))
            | inr e ↦ inr (get_or-set_other t.nonbasic_values r i (violated_bound k.direction (bounds_of t r)) zero_ℚ m ∙ sym (nonbasic_values_are n l t h i c e) ∙ sym (get_or-set_other t.values r i (violated_bound k.direction (bounds_of t r)) zero_ℚ m))
          ]
        ])

    changed : dot_value (row_multipliers k.direction r (row_of t r)) (set t.values r (violated_bound k.direction (bounds_of t r))) +ℚ own_multiplier k.direction *ℚ value_of t r ≡ zero_ℚ +ℚ own_multiplier k.direction *ℚ violated_bound k.direction (bounds_of t r)
    changed =
        let own = multiplier_left k.direction r (row_of t r) there in
        let none : dot_value (row_multipliers k.direction r (row_of t r)) t.values ≡ zero_ℚ = multipliers_vanish k.direction r (row_of t r) t.values (clear.full ∙ sym h.size.values) there (clear.clear r k.leaving.there k.leaving.basic)
        (values_solve n l t h r k.leaving.there k.leaving.basic) in
        (λ i. dot_value (row_multipliers k.direction r (row_of t r)) (set t.values r (violated_bound k.direction (bounds_of t r))) +ℚ sym own i *ℚ value_of t r)
        ∙ dot-changed (row_multipliers k.direction r (row_of t r)) t.values r (violated_bound k.direction (bounds_of t r)) (full ∙ sym h.size.values) (omega (arith, full, k.leaving.there))
        ∙ (λ i. none i +ℚ own i *ℚ violated_bound k.direction (bounds_of t r))
