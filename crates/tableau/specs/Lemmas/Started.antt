-- Lemmas: the tableau at the start is one of its linear program.
use Rattle.std.proofs.Common.{◌≡◌, ℕ, zero, suc, ◌+◌, ◌-◌, ◌<◌, ◌≤◌, arith, refl, ap, sym, ◌∙◌, subst, Bool, true, false, Some, List, [], ◌∷◌, ◌++◌, length, get_or, map, replicate, inl, inr}
use Rattle.std.specs.Prelude.{pos, int_lt, if◌then◌else◌}
use Rattle.std.specs.Option.{unwrap_or}
use Rattle.std.proofs.lemmas.Bool.{cases_lt}
use Rattle.std.proofs.lemmas.List.{length-map, length-append, length-replicate, get_or_append_left, get_or-append_right, get_or-map}
use Rattle.fraction.specs.Lemmas.Bounds.{dot_value, was_mapped}
use Rattle.fraction.specs.Lemmas.Rational.{zero-*ℚ, zero-+ℚ}
use Rattle.fraction.specs.Rational.{ℚ, ◌*ℚ◌, ◌+ℚ◌}
use Rattle.problem.specs.Linear.{Terms}
use Rattle.problem.specs.Rows.{Rows}
use Rattle.problem.specs.Problem.{Problem}
use Rattle.problem.specs.declared.row.Row.{Row}
use Rattle.problem.specs.declared.row.Sense.TheVariants.{E}
use Rattle.problem.specs.Lemmas.Linear.{past_first}
use Rattle.problem_box.specs.declared.span.Span.{Span}
use Rattle.tableau.specs.Elimination.{entry, zero_ℚ}
use Rattle.tableau.specs.Invariants.{HasDualSign, IsAtBound, IsCanonicalRow, IsNonbasic, IsTableauOf}
use Rattle.tableau.specs.Leaving.{unbounded}
use Rattle.tableau.specs.Lemmas.Pivoted.{computed_value_at, length-computed}
use Rattle.tableau.specs.Lemmas.Signs.{below_from, not_below_from}
use Rattle.tableau.specs.LinearProgram.{LinearProgram, coefficients_from, numbers_from, program_of, relaxation, row_bounds, row_numbers, span_bounds, variables}
use Rattle.tableau.specs.WellFormed.{IsBoxed, IsWellFormed}
use Rattle.tableau.specs.Pivot.{computed_values}
use Rattle.tableau.specs.Start.{padded, slack_basis, start_status, start_value, start_values, started}
use Rattle.tableau.specs.Tableau.{HasSize, Tableau, bounds_of, nonbasic_value_of, reduced_cost_of, row_of, status_of}
use Rattle.tableau.specs.declared.bounds.Bounds.{Bounds}
use Rattle.tableau.specs.declared.status.BasisStatus.{BasisStatus}
use Rattle.tableau.specs.declared.status.BasisStatus.TheVariants.{AtLower, AtUpper, Basic}
use Rattle.problem.specs.Directions.{aim}

-- ---- lists with a second part
pub left_read : {A : Type 0} (xs ys : List A) (n i : ℕ) (d : A) → length xs ≡ n → i < n → get_or (xs ++ ys) i d ≡ get_or xs i d
left_read xs ys n i d e l = get_or_append_left xs ys d i (omega arith)

length_both : {A : Type 0} (xs ys : List A) (n m : ℕ) → length xs ≡ n → length ys ≡ m → length (xs ++ ys) ≡ n + m
length_both xs ys n m e f = let k = length-append xs ys in omega arith

zeros_read : (m i : ℕ) → get_or (replicate m zero_ℚ) i zero_ℚ ≡ zero_ℚ
zeros_read zero i = refl
zeros_read (suc m) zero = refl
zeros_read (suc m) (suc i) = zeros_read m i

pub basics_read : (m i : ℕ) → get_or (replicate m Basic) i Basic ≡ Basic
basics_read zero i = refl
basics_read (suc m) zero = refl
basics_read (suc m) (suc i) = basics_read m i

empties_read : (n i : ℕ) → get_or (replicate n (let e : List ℚ = [] in e)) i [] ≡ []
empties_read zero i = refl
empties_read (suc n) zero = refl
empties_read (suc n) (suc i) = empties_read n i

-- ---- sums over zeros
dot-zeros : (m : ℕ) (x : List ℚ) → dot_value (replicate m zero_ℚ) x ≡ zero_ℚ
dot-zeros zero x = refl
dot-zeros (suc m) [] = refl
dot-zeros (suc m) (y ∷ ys) = (λ i. zero-*ℚ y i +ℚ dot-zeros m ys i) ∙ zero-+ℚ zero_ℚ

pub dot-padded : (m : ℕ) (row x : List ℚ) → dot_value (padded m row) x ≡ dot_value row x
dot-padded m [] x = dot-zeros m x
dot-padded m (t ∷ ts) [] = refl
dot-padded m (t ∷ ts) (y ∷ ys) = ap (λ z. t *ℚ y +ℚ z) (dot-padded m ts ys)

-- ---- the first values
length-start_values : (ds : List ℚ) (bs : List Bounds) → length ds ≤ length bs → length (start_values ds bs) ≡ length ds
length-start_values [] bs l = refl
length-start_values (d ∷ ds) [] l = absurd (omega arith)
length-start_values (d ∷ ds) (b ∷ bs) l = ap suc (length-start_values ds bs (omega arith))

start_value_at : (ds : List ℚ) (bs : List Bounds) (i : ℕ) → length ds ≤ length bs → i < length ds → get_or (start_values ds bs) i zero_ℚ ≡ start_value (get_or ds i zero_ℚ) (get_or bs i unbounded)
start_value_at [] bs i l k = absurd (omega arith)
start_value_at (d ∷ ds) [] i l k = absurd (omega arith)
start_value_at (d ∷ ds) (b ∷ bs) zero l k = refl
start_value_at (d ∷ ds) (b ∷ bs) (suc i) l k = start_value_at ds bs i (omega arith) (omega arith)

start_is_at_bound : (cost : ℚ) (b : Bounds) → IsBoxed b → IsAtBound b (start_status cost) (start_value cost b)
start_is_at_bound cost b h = at (int_lt cost.num (pos 0))
  where
    at : (x : Bool) → IsAtBound b (if x then AtUpper else AtLower) (if x then unwrap_or b.upper zero_ℚ else unwrap_or b.lower zero_ℚ)
    at true = h.upper ∙ ap Some (sym (ap (λ o. unwrap_or o zero_ℚ) h.upper))
    at false = h.lower ∙ ap Some (sym (ap (λ o. unwrap_or o zero_ℚ) h.lower))

pub start_nonbasic : (cost : ℚ) → IsNonbasic (start_status cost)
start_nonbasic cost = at (int_lt cost.num (pos 0))
  where
    at : (x : Bool) → IsNonbasic (if x then AtUpper else AtLower)
    at true = tt
    at false = tt

start_dual_sign : (cost : ℚ) (b : Bounds) → HasDualSign b (start_status cost) cost
start_dual_sign cost b = at (int_lt cost.num (pos 0)) refl
  where
    at : (x : Bool) → int_lt cost.num (pos 0) ≡ x → HasDualSign b (if x then AtUpper else AtLower) cost
    at true e = λ _. below_from cost e
    at false e = λ _. not_below_from cost e

not_basic : (s : BasisStatus) → s ≡ Basic → IsNonbasic s → ⊥
not_basic Basic e h = h
not_basic AtLower e h = cc
not_basic AtUpper e h = cc

-- ---- the slack basis, variable by variable
pub record IsSlackBasis (p : LinearProgram) (t : Tableau) : Type 0 where
  pub column_status : (i : ℕ) → i < length p.costs → status_of t i ≡ start_status (get_or p.costs i zero_ℚ)
  pub row_status : (i : ℕ) → length p.costs ≤ i → status_of t i ≡ Basic
  pub column_value : (i : ℕ) → i < length p.costs → nonbasic_value_of t i ≡ start_value (get_or p.costs i zero_ℚ) (get_or p.bounds i unbounded)
  pub row_value : (i : ℕ) → length p.costs ≤ i → nonbasic_value_of t i ≡ zero_ℚ
  pub column_row : (i : ℕ) → i < length p.costs → row_of t i ≡ []
  pub row_row : (i : ℕ) → length p.costs ≤ i → i < variables p → row_of t i ≡ padded (length p.rows) (get_or p.rows (i - length p.costs) [])
  pub size : HasSize (variables p) t
  pub columns : t.columns ≡ length p.costs
  pub numbers : t.numbers ≡ p.numbers
  pub bounds : t.bounds ≡ p.bounds
  pub costs : t.reduced_costs ≡ padded (length p.rows) p.costs
  pub values : computed_values t.nonbasic_values t.statuses t.nonbasic_values t.rows ≡ Some t.values

pub started_is : (p : LinearProgram) (t : Tableau) → IsWellFormed p → started p ≡ Some t → IsSlackBasis p t
started_is p t h e =
    let a = was_mapped (λ values. record (slack_basis p) { values = values }) (computed_values (slack_basis p).nonbasic_values (slack_basis p).statuses (slack_basis p).nonbasic_values (slack_basis p).rows) t e in
    subst (IsSlackBasis p) a.2 (made a.0 a.1)
  where
    made : (values : List ℚ) → computed_values (slack_basis p).nonbasic_values (slack_basis p).statuses (slack_basis p).nonbasic_values (slack_basis p).rows ≡ Some values → IsSlackBasis p (record (slack_basis p) { values = values })
    made values e =
        let n = length p.costs in
        let m = length p.rows in
        let few : length p.costs ≤ length p.bounds = omega (arith, h.bounds) in
        let ls : length (map start_status p.costs) ≡ length p.costs = length-map p.costs start_status in
        let lr : length (start_values p.costs p.bounds) ≡ length p.costs = length-start_values p.costs p.bounds few in
        let le : length (replicate (length p.costs) (let e : List ℚ = [] in e)) ≡ length p.costs = length-replicate (length p.costs) (let e : List ℚ = [] in e) in
        let statuses : length (slack_basis p).statuses ≡ variables p = length_both (map start_status p.costs) (replicate (length p.rows) Basic) _ _ ls (length-replicate (length p.rows) Basic) in
        let nonbasic_values : length (slack_basis p).nonbasic_values ≡ variables p = length_both (start_values p.costs p.bounds) (replicate (length p.rows) zero_ℚ) _ _ lr (length-replicate (length p.rows) zero_ℚ) in
        let rows : length (slack_basis p).rows ≡ variables p = length_both (replicate (length p.costs) []) (map (padded (length p.rows)) p.rows) _ _ le (length-map p.rows (padded (length p.rows))) in
        record {
          column_status = λ i l. left_read (map start_status p.costs) (replicate (length p.rows) Basic) n i Basic ls l ∙ get_or-map start_status p.costs i zero_ℚ Basic l;
          row_status = λ i l. get_or-append_right (map start_status p.costs) (replicate (length p.rows) Basic) n i Basic ls l ∙ basics_read (length p.rows) (i - n);
          column_value = λ i l. left_read (start_values p.costs p.bounds) (replicate (length p.rows) zero_ℚ) n i zero_ℚ lr l ∙ start_value_at p.costs p.bounds i few l;
          row_value = λ i l. get_or-append_right (start_values p.costs p.bounds) (replicate (length p.rows) zero_ℚ) n i zero_ℚ lr l ∙ zeros_read (length p.rows) (i - n);
          column_row = λ i l. left_read (replicate (length p.costs) []) (map (padded (length p.rows)) p.rows) n i [] le l ∙ empties_read (length p.costs) i;
          row_row = λ i l k. get_or-append_right (replicate (length p.costs) []) (map (padded (length p.rows)) p.rows) n i [] le l ∙ get_or-map (padded (length p.rows)) p.rows (i - n) [] [] (omega arith);
          size = record {
            bounds = h.bounds;
            statuses = statuses;
            nonbasic_values = nonbasic_values;
            rows = rows;
            reduced_costs = length_both p.costs (replicate (length p.rows) zero_ℚ) _ _ refl (length-replicate (length p.rows) zero_ℚ);
            values = length-computed (variables p) _ _ _ _ values statuses nonbasic_values rows e;
          };
          columns = refl;
          numbers = refl;
          bounds = refl;
          costs = refl;
          values = e;
        }

-- a variable that is basic at the start is a row variable
basic_row : (p : LinearProgram) (t : Tableau) → IsSlackBasis p t → (i : ℕ) → status_of t i ≡ Basic → length p.costs ≤ i
basic_row p t h i b = elim (cases_lt i (length p.costs)) [
  | inl l ↦ absurd (not_basic (status_of t i) b (subst IsNonbasic (sym (h.column_status i l)) (start_nonbasic (get_or p.costs i zero_ℚ))))
  | inr l ↦ l
]

padded_clear : (p : LinearProgram) (t : Tableau) → IsSlackBasis p t → (row : List ℚ) → length row ≡ length p.costs → IsCanonicalRow (variables p) t (padded (length p.rows) row)
padded_clear p t h row l = record {
  full = length_both row (replicate (length p.rows) zero_ℚ) _ _ l (length-replicate (length p.rows) zero_ℚ);
  clear = λ j k b. get_or-append_right row (replicate (length p.rows) zero_ℚ) (length p.costs) j zero_ℚ l (basic_row p t h j b) ∙ zeros_read (length p.rows) (j - length p.costs);
}

pub slack_basis_is_tableau : (p : LinearProgram) (t : Tableau) → IsWellFormed p → IsSlackBasis p t → IsTableauOf (variables p) p t
slack_basis_is_tableau p t w h = record {
  size = h.size;
  columns = h.columns;
  numbers = h.numbers;
  bounds = h.bounds;
  at_bounds = λ i l. elim (cases_lt i (length p.costs)) [
    | inl k ↦ subst (λ s. IsAtBound (bounds_of t i) s (nonbasic_value_of t i)) (sym (h.column_status i k))
        (subst (λ q. IsAtBound (bounds_of t i) (start_status (get_or p.costs i zero_ℚ)) q) (sym (h.column_value i k))
        (subst (λ bs. IsAtBound (get_or bs i unbounded) (start_status (get_or p.costs i zero_ℚ)) (start_value (get_or p.costs i zero_ℚ) (get_or p.bounds i unbounded))) (sym h.bounds)
        (start_is_at_bound (get_or p.costs i zero_ℚ) (get_or p.bounds i unbounded) (w.columns i k))))
    | inr k ↦ subst (λ s. IsAtBound (bounds_of t i) s (nonbasic_value_of t i)) (sym (h.row_status i k)) (h.row_value i k)
  ];
  canonical = record {
    rows = λ i l b.
        let k = basic_row p t h i b in
        subst (IsCanonicalRow (variables p) t) (sym (h.row_row i k l)) (padded_clear p t h (get_or p.rows (i - length p.costs) []) (w.rows (i - length p.costs) (omega arith)));
    costs = subst (IsCanonicalRow (variables p) t) (sym h.costs) (padded_clear p t h p.costs refl);
    nonbasic = λ i l b. elim (cases_lt i (length p.costs)) [
      | inl k ↦ h.column_row i k
      | inr k ↦ absurd (not_basic (status_of t i) (h.row_status i k) b)
    ];
  };
  solutions = record {
    to = λ x k s i l b.
        let g = basic_row p t h i b in
        ap (λ row. dot_value row x) (h.row_row i g l) ∙ dot-padded (length p.rows) (get_or p.rows (i - length p.costs) []) x ∙ s (i - length p.costs) (omega arith)
        ∙ ap (λ j. entry x j) (let z : length p.costs + (i - length p.costs) ≡ i = omega arith in z);
    back = λ x k s i l.
        let g : length p.costs ≤ length p.costs + i = omega arith in
        let q : length p.costs + i < variables p = omega arith in
        ap (λ j. dot_value (get_or p.rows j []) x) (let z : i ≡ length p.costs + i - length p.costs = omega arith in z)
        ∙ sym (dot-padded (length p.rows) (get_or p.rows (length p.costs + i - length p.costs) []) x) ∙ ap (λ row. dot_value row x) (sym (h.row_row (length p.costs + i) g q)) ∙ s (length p.costs + i) q (h.row_status _ g);
  };
  objective = λ x k s. ap (λ row. dot_value row x) h.costs ∙ dot-padded (length p.rows) p.costs x;
  dual = λ i l. elim (cases_lt i (length p.costs)) [
    | inl k ↦ subst (λ s. HasDualSign (bounds_of t i) s (reduced_cost_of t i)) (sym (h.column_status i k))
        (subst (λ d. HasDualSign (bounds_of t i) (start_status (get_or p.costs i zero_ℚ)) d) (sym (ap (λ ds. get_or ds i zero_ℚ) h.costs ∙ left_read p.costs (replicate (length p.rows) zero_ℚ) (length p.costs) i zero_ℚ refl k))
        (start_dual_sign (get_or p.costs i zero_ℚ) (bounds_of t i)))
    | inr k ↦ subst (λ s. HasDualSign (bounds_of t i) s (reduced_cost_of t i)) (sym (h.row_status i k)) tt
  ];
  values = λ i l. computed_value_at t.nonbasic_values t.statuses t.nonbasic_values t.rows t.values i (h.size.statuses ∙ sym h.size.nonbasic_values) (h.size.rows ∙ sym h.size.nonbasic_values) h.values (omega (arith, h.size.nonbasic_values));
}

pub started_keeps : (p : LinearProgram) (t : Tableau) → IsWellFormed p → started p ≡ Some t → IsTableauOf (variables p) p t
started_keeps p t w e = slack_basis_is_tableau p t w (started_is p t w e)

-- ---- the linear program of rows over a box is well formed
abbrev pub no_span : Span
no_span = record { lo = pos 0; hi = pos 0 }

abbrev pub no_row : Row
no_row = record { sense = E; rhs = zero_ℚ; terms = [] }

pub length-coefficients : (j k : ℕ) (ts : List (ℕ × ℚ)) → length (coefficients_from j k ts) ≡ k
length-coefficients j zero ts = refl
length-coefficients j (suc k) ts = omega (arith, length-coefficients (j + 1) k ts)

-- from a later column on, the coefficients are those of the other terms
pub past_term : (t : ℕ × ℚ) (ts : List (ℕ × ℚ)) (j k : ℕ) → t.0 < j → coefficients_from j k (t ∷ ts) ≡ coefficients_from j k ts
past_term t ts j zero l = refl
past_term t ts j (suc k) l = λ i. past_first t ts j (λ e. omega (arith, l, e)) i ∷ past_term t ts (j + 1) k (omega (arith, l)) i

pub program_is_well_formed : (objective : Terms) (rows : Rows) (numbers : List ℕ) (spans : List Span) → length numbers ≡ length rows → IsWellFormed (program_of objective rows numbers spans)
program_is_well_formed objective rows numbers spans e = record {
  numbers = e ∙ sym (length-map rows (λ (r : Row). coefficients_from 0 (length spans) r.terms));
  rows = λ i l.
      let k : i < length rows = omega (arith, length-map rows (λ (r : Row). coefficients_from 0 (length spans) r.terms)) in
      ap length (get_or-map (λ (r : Row). coefficients_from 0 (length spans) r.terms) rows i no_row [] k) ∙ length-coefficients 0 (length spans) _ ∙ sym (length-coefficients 0 (length spans) objective);
  bounds = length_both (map span_bounds spans) (map row_bounds rows) _ _ (length-map spans span_bounds ∙ sym (length-coefficients 0 (length spans) objective))
      (length-map rows row_bounds ∙ sym (length-map rows (λ (r : Row). coefficients_from 0 (length spans) r.terms)));
  columns = λ j l.
      let k : j < length spans = omega (arith, length-coefficients 0 (length spans) objective) in
      subst IsBoxed (sym (left_read (map span_bounds spans) (map row_bounds rows) (length spans) j unbounded (length-map spans span_bounds) k ∙ get_or-map span_bounds spans j no_span unbounded k))
      (record { low = _; high = _; lower = refl; upper = refl });
}

-- ---- and that of a problem
length-numbers : (i k : ℕ) → length (numbers_from i k) ≡ k
length-numbers i zero = refl
length-numbers i (suc k) = omega (arith, length-numbers (i + 1) k)

pub length-row_numbers : (p : Problem) (k : ℕ) → length (row_numbers p k) ≡ length p.rows + k
length-row_numbers p k = length_both (numbers_from 0 (length p.rows)) _ _ _ (length-numbers 0 (length p.rows)) (length-numbers _ k)

pub relaxation_is_well_formed : (p : Problem) (cuts : Rows) (spans : List Span) → IsWellFormed (relaxation p cuts spans)
relaxation_is_well_formed p cuts spans = program_is_well_formed (aim p) (p.rows ++ cuts) (row_numbers p (length cuts)) spans (length-row_numbers p (length cuts) ∙ sym (length-append p.rows cuts))
