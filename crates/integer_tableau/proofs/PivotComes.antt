-- The pivot by a dictionary that is known: the elimination comes to it.
use Rattle.std.proofs.Common.{◌≡◌, ℕ, zero, suc, ◌+◌, ◌<◌, refl, ap, sym, ◌∙◌, subst, true, Option, Some, None, List, [], ◌∷◌, get_or, set, replicate, inl, inr}
use Rattle.std.specs.Prelude.{pos, negsuc}
use Rattle.std.specs.Ordering.{is_lt}
use Rattle.std.specs.Option.{option_and_then, option_map}
use Rattle.std.specs.List.{swap}
use Rattle.std.proofs.lemmas.Bool.{cases_eq}
use Rattle.std.proofs.lemmas.List.{get_or-replicate, length-replicate}
use Rattle.fraction.specs.Checked.{add_checked, compare, dot_from}
use Rattle.fraction.specs.Lemmas.Bounds.{was_mapped, was_some, whole_parts}
use Rattle.fraction.specs.Lemmas.Checked.{add_checked-zero, mul_checked-zero, zero_has_fraction}
use Rattle.fraction.specs.Rational.{ℚ}
use Rattle.tableau.specs.Elimination.{substituted, zero_ℚ}
use Rattle.tableau.specs.Invariants.{HasSameSolutions, IsCanonical, IsNonbasic}
use Rattle.tableau.specs.Leaving.{unbounded, violated_bound, violation}
use Rattle.tableau.specs.Lemmas.PivotKeeps.{IsExchange, apart, keeps_canonical, keeps_objective, keeps_solutions}
use Rattle.tableau.specs.Lemmas.Places.{not_both_statuses}
use Rattle.tableau.specs.Lemmas.Pivoted.{IsPivoted, pivoted_is}
use Rattle.tableau.specs.Lemmas.RowAlgebra.{minus_one}
use Rattle.tableau.specs.LinearProgram.{LinearProgram}
use Rattle.tableau.specs.Pivot.{basis_exchanged, computed_value, computed_values, eliminated, exchanged, pivoted, revalued, rows_eliminated, status_after}
use Rattle.tableau.specs.Tableau.{HasSize, Tableau, bounds_of, status_of, value_of}
use Rattle.tableau.specs.declared.bounds.Bounds.{Bounds}
use Rattle.tableau.specs.declared.bounds.Direction.{Direction}
use Rattle.tableau.specs.declared.bounds.Direction.TheVariants.{Rise, Fall}
use Rattle.tableau.specs.declared.status.BasisStatus.{BasisStatus}
use Rattle.tableau.specs.declared.status.BasisStatus.TheVariants.{Basic, AtLower, AtUpper}
use Rattle.integer_tableau.specs.Dictionary.{HasExchangedBasis, HasSameDictionary, HasSameMatrix, IsDictionaryOf, exchanged_to, pivoted_to}
use Rattle.integer_tableau.proofs.Unique.{same_dictionary}

-- ---- a tableau whose values are all 0 after the pivot: none of them is cramped
abbrev bare : Bounds
bare = record { lower = Some zero_ℚ; upper = None }

set_replicate : {A : Type 0} (n i : ℕ) (x : A) → set (replicate n x) i x ≡ replicate n x
set_replicate zero i x = refl
set_replicate (suc n) zero x = refl
set_replicate (suc n) (suc i) x = ap (λ xs. x ∷ xs) (set_replicate n i x)

below_zero : is_lt (compare minus_one zero_ℚ) ≡ true
unfolding compare
below_zero = let a = whole_parts (negsuc 0) in let b = whole_parts (pos 0) in rw (a.0, a.1, b.0, b.1) refl

bare_violated : violation bare minus_one ≡ Some Rise
bare_violated = rw below_zero refl

dot_nothing : (row : List ℚ) (n : ℕ) → dot_from zero_ℚ row (replicate n zero_ℚ) ≡ Some zero_ℚ
dot_nothing [] n = refl
dot_nothing (x ∷ row) zero = refl
dot_nothing (x ∷ row) (suc n) =
    ap (option_and_then (λ p. option_and_then (λ s. dot_from s row (replicate n zero_ℚ)) (add_checked zero_ℚ p))) (mul_checked-zero x)
    ∙ ap (option_and_then (λ s. dot_from s row (replicate n zero_ℚ))) (add_checked-zero zero_ℚ zero_has_fraction)
    ∙ dot_nothing row n

value_nothing : (n : ℕ) (s : BasisStatus) (x : ℚ) (row : List ℚ) → (v : ℚ) × (computed_value (replicate n zero_ℚ) s x row ≡ Some v)
value_nothing n Basic x row = (zero_ℚ, dot_nothing row n)
value_nothing n AtLower x row = (x, refl)
value_nothing n AtUpper x row = (x, refl)

values_nothing : (n : ℕ) (ss : List BasisStatus) (ys : List ℚ) (rows : List (List ℚ)) → (vs : List ℚ) × (computed_values (replicate n zero_ℚ) ss ys rows ≡ Some vs)
values_nothing n [] ys rows = ([], refl)
values_nothing n (s ∷ ss) [] rows = ([], refl)
values_nothing n (s ∷ ss) (y ∷ ys) [] = ([], refl)
values_nothing n (s ∷ ss) (y ∷ ys) (row ∷ rows) =
    let a = value_nothing n s y row in
    let b = values_nothing n ss ys rows in (
      a.0 ∷ b.0,
      ap (option_and_then (λ v. option_map (λ vs. v ∷ vs) (computed_values (replicate n zero_ℚ) ss ys rows))) a.1
          ∙ ap (option_map (λ vs. a.0 ∷ vs)) b.1,
    )

-- ---- the exchange
module _ (n : ℕ) (p q : LinearProgram) (t u : Tableau) (r c : ℕ) (m : HasSameMatrix p q) (s : HasSize n t) (h : IsDictionaryOf n p t) (k : IsDictionaryOf n q u)
    (lr : r < n) (lc : c < n) (leaving : status_of t r ≡ Basic) (entering : IsNonbasic (status_of t c)) (b : HasExchangedBasis n r c t u)
    (rows : List (List ℚ)) (costs : List ℚ) (er : rows_eliminated r c t.rows ≡ Some rows) (ec : substituted c (get_or rows r []) t.reduced_costs ≡ Some costs) where
  abbrev start : Tableau
  start = record t { bounds = replicate n bare; nonbasic_values = replicate n zero_ℚ; values = replicate n minus_one }

  size : HasSize n start
  size = record {
    bounds = length-replicate n bare;
    statuses = s.statuses;
    nonbasic_values = length-replicate n zero_ℚ;
    rows = s.rows;
    reduced_costs = s.reduced_costs;
    values = length-replicate n minus_one;
  }

  canonical : IsCanonical n start
  canonical = record {
    rows = λ i l e. record { full = (h.canonical.rows i l e).full; clear = (h.canonical.rows i l e).clear };
    costs = record { full = h.canonical.costs.full; clear = h.canonical.costs.clear };
    nonbasic = h.canonical.nonbasic;
  }

  solutions : HasSameSolutions n p start
  solutions = record { to = h.solutions.to; back = h.solutions.back }

  abbrev statuses : List BasisStatus
  statuses = set (set t.statuses r (status_after Rise)) c Basic

  abbrev end_with : List ℚ → Tableau
  end_with values = record start {
    statuses = statuses;
    nonbasic_values = set (set (replicate n zero_ℚ) r (violated_bound Rise (bounds_of start r))) c zero_ℚ;
    rows = swap rows r c;
    reduced_costs = costs;
    values = values;
    pivots = t.pivots + 1;
  }

  start_bounds : bounds_of start r ≡ bare
  start_bounds = get_or-replicate n r bare unbounded lr

  still_nothing : set (set (replicate n zero_ℚ) r (violated_bound Rise (bounds_of start r))) c zero_ℚ ≡ replicate n zero_ℚ
  still_nothing =
      ap (λ b. set (set (replicate n zero_ℚ) r (violated_bound Rise b)) c zero_ℚ) start_bounds
      ∙ ap (λ xs. set xs c zero_ℚ) (set_replicate n r zero_ℚ) ∙ set_replicate n c zero_ℚ

  computed : (vs : List ℚ) × (computed_values (end_with []).nonbasic_values statuses (end_with []).nonbasic_values (swap rows r c) ≡ Some vs)
  computed =
      let a = values_nothing n statuses (end_with []).nonbasic_values (swap rows r c) in
      (a.0, ap (λ xs. computed_values xs statuses (end_with []).nonbasic_values (swap rows r c)) still_nothing ∙ a.1)

  violated : violation (bounds_of start r) (value_of start r) ≡ Some Rise
  violated = (λ i. violation (start_bounds i) (get_or-replicate n r minus_one zero_ℚ lr i)) ∙ bare_violated

  eliminated_start : eliminated r c start ≡ Some (record start { rows = rows; reduced_costs = costs })
  eliminated_start =
      ap (option_and_then (λ rows. option_map (λ costs. record start { rows = rows; reduced_costs = costs }) (substituted c (get_or rows r []) t.reduced_costs))) er
      ∙ ap (option_map (λ costs. record start { rows = rows; reduced_costs = costs })) ec

  pivoted_start : pivoted r c start ≡ Some (end_with computed.0)
  pivoted_start =
      ap (option_and_then (λ w. exchanged r c w start)) violated
      ∙ ap (option_and_then (λ u. revalued (basis_exchanged r c Rise u))) eliminated_start
      ∙ ap (option_map (λ values. end_with values)) computed.1

  exchange : IsExchange n r c start
  exchange = record { leaving_there = lr; entering_there = lc; leaving = leaving; entering = entering }

  abbrev end : Tableau
  end = end_with computed.0

  one_more : (w : Direction) → IsPivoted n r c w start end → HasSameDictionary end u
  one_more w x = same_dictionary n p q end u m
      record {
        count = x.size.rows;
        canonical = keeps_canonical n r c w start end exchange x canonical;
        solutions = keeps_solutions n r c w p start end exchange x canonical solutions;
        objective = keeps_objective n r c w p start end exchange x canonical h.objective;
      }
      k
      record {
        to = λ i l e. elim (cases_eq i c) [
          | inl f ↦ subst (λ i. status_of u i ≡ Basic) (sym f) b.entered
          | inr f ↦ elim (cases_eq i r) [
            | inl g ↦ absurd (not_both_statuses (status_of end r) (subst (λ i. status_of end i ≡ Basic) g e) (left w x.status_left))
            | inr g ↦ b.to i l g f (sym (x.statuses i g f) ∙ e)
          ]
        ];
        back = λ i l e. elim (cases_eq i c) [
          | inl f ↦ subst (λ i. status_of end i ≡ Basic) (sym f) x.status_entered
          | inr f ↦ elim (cases_eq i r) [
            | inl g ↦ absurd (b.left (subst (λ i. status_of u i ≡ Basic) g e))
            | inr g ↦ x.statuses i g f ∙ b.back i l g f e
          ]
        ];
      }
    where
      left : (w : Direction) → status_of end r ≡ status_after w → IsNonbasic (status_of end r)
      left Rise e = subst IsNonbasic (sym e) tt
      left Fall e = subst IsNonbasic (sym e) tt

  comes_to : HasSameDictionary end u
  comes_to = let x = pivoted_is n r c start end size lr lc (apart n r c start exchange) pivoted_start in one_more x.0 x.1

  rows_come : swap rows r c ≡ u.rows
  rows_come = comes_to.rows

  costs_come : costs ≡ u.reduced_costs
  costs_come = comes_to.costs

  -- ---- the pivot
  pub step_is : pivoted r c t ≡ pivoted_to r c u.rows u.reduced_costs t
  step_is = by_direction (violation (bounds_of t r) (value_of t r))
    where
      eliminated_is : eliminated r c t ≡ Some (record t { rows = rows; reduced_costs = costs })
      eliminated_is =
          ap (option_and_then (λ rows. option_map (λ costs. record t { rows = rows; reduced_costs = costs }) (substituted c (get_or rows r []) t.reduced_costs))) er
          ∙ ap (option_map (λ costs. record t { rows = rows; reduced_costs = costs })) ec

      exchanged_is : (w : Direction) → exchanged r c w t ≡ exchanged_to r c u.rows u.reduced_costs w t
      exchanged_is w =
          ap (option_and_then (λ v. revalued (basis_exchanged r c w v))) eliminated_is
          ∙ (λ i. exchanged_to r c (rows_come i) (costs_come i) w t)

      by_direction : (o : Option Direction) → option_and_then (λ w. exchanged r c w t) o ≡ option_and_then (λ w. exchanged_to r c u.rows u.reduced_costs w t) o
      by_direction None = refl
      by_direction (Some w) = exchanged_is w

-- ---- the same, where the elimination is known not to be cramped
pub stored_step : (n : ℕ) (p q : LinearProgram) (t u v : Tableau) (r c : ℕ) → HasSameMatrix p q → HasSize n t → IsDictionaryOf n p t → IsDictionaryOf n q u
    → r < n → c < n → status_of t r ≡ Basic → (status_of t c ≡ Basic → ⊥) → HasExchangedBasis n r c t u → eliminated r c t ≡ Some v
    → pivoted r c t ≡ pivoted_to r c u.rows u.reduced_costs t
stored_step n p q t u v r c m s h k lr lc leaving entering b e =
    let f = was_some (λ rows. option_map (λ costs. record t { rows = rows; reduced_costs = costs }) (substituted c (get_or rows r []) t.reduced_costs)) (rows_eliminated r c t.rows) v e in
    let g = was_mapped (λ costs. record t { rows = f.0; reduced_costs = costs }) (substituted c (get_or f.0 r []) t.reduced_costs) v f.2 in
    step_is n p q t u r c m s h k lr lc leaving (nonbasic (status_of t c) entering) b f.0 g.0 f.1 g.1
  where
    nonbasic : (s : BasisStatus) → (s ≡ Basic → ⊥) → IsNonbasic s
    nonbasic Basic h = h refl
    nonbasic AtLower h = tt
    nonbasic AtUpper h = tt
