-- The pivot of a tableau that is read with scales.
use Rattle.std.proofs.Common.{◌≡◌, ℕ, ◌+◌, ◌*◌, ◌<◌, arith, refl, ap, sym, ◌∙◌, subst, Some, List, [], length, get_or, set, inl, inr}
use Rattle.std.specs.Prelude.{pos, nat_abs, ◌*ℤ◌}
use Rattle.std.specs.List.{swap}
use Rattle.std.specs.Option.{option_and_then, option_map}
use Rattle.std.proofs.lemmas.Bool.{cases_eq}
use Rattle.std.proofs.lemmas.List.{ext_get_or, length-set, get_or-set_same, get_or-set_other}
use Rattle.std.proofs.lemmas.List.Edits.{swap_is, length-swap}
use Rattle.std.proofs.Math.Nat.{mul-pos}
use Rattle.fraction.specs.Lemmas.Bounds.{was_some, was_mapped}
use Rattle.fraction.specs.Rational.{ℚ}
use Rattle.tableau.specs.Elimination.{entry, others_substituted, solved_for, substituted, zero_ℚ}
use Rattle.tableau.specs.Leaving.{violated_bound, violation, unbounded}
use Rattle.tableau.specs.Lemmas.Pivoted.{others_are, AreSubstituted}
use Rattle.tableau.specs.Pivot.{basis_exchanged, computed_values, eliminated, exchanged, pivoted, revalued, rows_eliminated, status_after}
use Rattle.tableau.specs.Place.{IsPivotThere}
use Rattle.tableau.specs.Tableau.{HasSize, Tableau, bounds_of, row_of, value_of}
use Rattle.tableau.specs.declared.bounds.Direction.{Direction}
use Rattle.tableau.specs.declared.status.BasisStatus.{BasisStatus}
use Rattle.tableau.specs.declared.status.BasisStatus.TheVariants.{Basic}
use Rattle.integer_tableau.specs.Scales.{Scales, scaled_by, unscaled, unscaled_bounds, unscaled_row, unscaled_rows, unscaled_value, unscaled_values}
use Rattle.integer_tableau.specs.Small.{IsOver}
use Rattle.scaled_program.specs.Sizes.{IsSmall, IsSmallAt}
use Rattle.integer_tableau.specs.Lemmas.MapFrom.{get_or-map_from, length-map_from, set-map_from}
use Rattle.integer_tableau.specs.Lemmas.NotCramped.{HasSmallRows, elimination_there}
use Rattle.scaled_program.proofs.Numbers.{nonzero_scaled, scaled_frac, scaled_zero}
use Rattle.scaled_program.proofs.Places.{row_unscaled, violated_same, violation_same}
use Rattle.scaled_program.proofs.Rows.{entry_unscaled, solved_unscaled, substituted_unscaled}
use Rattle.scaled_program.proofs.Values.{values_unscaled}
use Rattle.fraction.specs.Lemmas.Rational.{abs-times}

-- ---- sizes
over_unscaled : (d k b : ℕ) (x : ℚ) → 0 < d → 0 < b → IsOver d k x → IsOver (d * b) 1 (scaled_by k b x)
over_unscaled d k b x o p h = record {
  numerator = h.numerator *ℤ pos k;
  small = omega (arith, abs-times h.numerator k, h.small);
  exact = ap (scaled_by k b) h.exact ∙ scaled_frac k b h.numerator d p o;
}

small_rows : (d : ℕ) (σ : Scales) (s : ℕ) (t : Tableau) → IsSmallAt d σ s t → HasSmallRows (λ i. d * σ i) (d * s) (unscaled σ s t)
small_rows d σ s t h = record {
  positive = λ i. (mul-pos h.positive (h.denominators i).0, (h.denominators i).1);
  cost_positive = (mul-pos h.positive h.cost_denominator.0, h.cost_denominator.1);
  rows = λ i j. subst (IsOver (d * σ i) 1) (sym (ap (λ row. entry row j) (row_unscaled σ t.rows i) ∙ entry_unscaled σ (σ i) (row_of t i) j)) (over_unscaled d (σ j) (σ i) (entry (row_of t i) j) h.positive (h.denominators i).0 (h.rows i j));
  costs = λ j. subst (IsOver (d * s) 1) (sym (entry_unscaled σ s t.reduced_costs j)) (over_unscaled d (σ j) s (entry t.reduced_costs j) h.positive h.cost_denominator.0 (h.costs j));
}

-- ---- lists
swapped_first : {A : Type 0} (xs : List A) (r c : ℕ) (d : A) → r < length xs → c < length xs → (r ≡ c → ⊥) → get_or (swap xs r c) r d ≡ get_or xs c d
swapped_first xs r c d lr lc n =
    ap (λ ys. get_or ys r d) (sym (swap_is xs r c d lr lc)) ∙ get_or-set_other (set xs r (get_or xs c d)) c r (get_or xs r d) d n ∙ get_or-set_same xs r (get_or xs c d) d lr

swapped_last : {A : Type 0} (xs : List A) (r c : ℕ) (d : A) → r < length xs → c < length xs → get_or (swap xs r c) c d ≡ get_or xs r d
swapped_last xs r c d lr lc =
    ap (λ ys. get_or ys c d) (sym (swap_is xs r c d lr lc)) ∙ get_or-set_same (set xs r (get_or xs c d)) c (get_or xs r d) d (omega (arith, length-set xs r (get_or xs c d)))

swapped_other : {A : Type 0} (xs : List A) (r c i : ℕ) (d : A) → r < length xs → c < length xs → (i ≡ r → ⊥) → (i ≡ c → ⊥) → get_or (swap xs r c) i d ≡ get_or xs i d
swapped_other xs r c i d lr lc m n =
    ap (λ ys. get_or ys i d) (sym (swap_is xs r c d lr lc)) ∙ get_or-set_other (set xs r (get_or xs c d)) c i (get_or xs r d) d n ∙ get_or-set_other xs r i (get_or xs c d) d m

-- ---- the elimination, read with scales
module _ (n d : ℕ) (σ : Scales) (s : ℕ) (t : Tableau) (r c : ℕ) (small : IsSmallAt d σ s t) (size : HasSize n t) (lr : r < n) (lc : c < n) (apart : r ≡ c → ⊥)
    (coefficient : 0 < nat_abs (entry (row_of t r) c).num) (empty : row_of t c ≡ []) (rows : List (List ℚ)) (new costs : List ℚ)
    (es : solved_for r c (row_of t r) ≡ Some new) (eo : others_substituted r c (set t.rows r new) ≡ Some rows) (ec : substituted c (get_or rows r []) t.reduced_costs ≡ Some costs) where
  abbrev u : Tableau
  u = unscaled σ s t

  unit : (i : ℕ) → 0 < σ i
  unit i = (small.denominators i).0

  many : length u.rows ≡ n
  many = length-map_from (λ i row. unscaled_row σ (σ i) 0 row) 0 t.rows ∙ size.rows

  kept : AreSubstituted r c (set t.rows r new) rows
  kept = others_are r c (set t.rows r new) rows (omega (arith, size.rows, length-set t.rows r new)) eo

  at_r : get_or rows r [] ≡ new
  at_r = kept.kept ∙ get_or-set_same t.rows r new [] (omega (arith, size.rows))

  count : length rows ≡ n
  count = kept.count ∙ length-set t.rows r new ∙ size.rows

  other_at : (i : ℕ) → i < n → (i ≡ r → ⊥) → substituted c new (row_of t i) ≡ Some (get_or rows i [])
  other_at i l m =
      (λ k. substituted c (sym (get_or-set_same t.rows r new [] (omega (arith, size.rows))) k) (sym (get_or-set_other t.rows r i new [] m) k))
      ∙ kept.others i (omega (arith, l, size.rows, length-set t.rows r new)) m

  row_is : (i : ℕ) → row_of u i ≡ unscaled_row σ (σ i) 0 (row_of t i)
  row_is i = row_unscaled σ t.rows i

  entry_is : entry (row_of u r) c ≡ scaled_by (σ c) (σ r) (entry (row_of t r) c)
  entry_is = ap (λ row. entry row c) (row_is r) ∙ entry_unscaled σ (σ r) (row_of t r) c

  stays : 0 < nat_abs (scaled_by (σ c) (σ r) (entry (row_of t r) c)).num
  stays = nonzero_scaled (σ c) (σ r) (entry (row_of t r) c) (unit c) (unit r) coefficient

  module _ (rows' : List (List ℚ)) (new' costs' : List ℚ) (es' : solved_for r c (row_of u r) ≡ Some new') (eo' : others_substituted r c (set u.rows r new') ≡ Some rows')
      (ec' : substituted c (get_or rows' r []) u.reduced_costs ≡ Some costs') where
    kept' : AreSubstituted r c (set u.rows r new') rows'
    kept' = others_are r c (set u.rows r new') rows' (omega (arith, many, length-set u.rows r new')) eo'

    at_r' : get_or rows' r [] ≡ new'
    at_r' = kept'.kept ∙ get_or-set_same u.rows r new' [] (omega (arith, many))

    count' : length rows' ≡ n
    count' = kept'.count ∙ length-set u.rows r new' ∙ many

    new_is : new' ≡ unscaled_row σ (σ c) 0 new
    new_is = solved_unscaled σ r c (row_of t r) new new' (unit r) (unit c) coefficient stays es (ap (solved_for r c) (sym (row_is r)) ∙ es')

    others_unscaled : (i : ℕ) → i < n → (i ≡ r → ⊥) → get_or rows' i [] ≡ unscaled_row σ (σ i) 0 (get_or rows i [])
    others_unscaled i l m =
        substituted_unscaled σ (σ i) c new (row_of t i) (get_or rows i []) (get_or rows' i []) (unit i) (unit c) (other_at i l m)
        ((λ k. substituted c (sym new_is k) (sym (row_is i) k))
        ∙ (λ k. substituted c (sym (get_or-set_same u.rows r new' [] (omega (arith, many))) k) (sym (get_or-set_other u.rows r i new' [] m) k))
        ∙ kept'.others i (omega (arith, l, many, length-set u.rows r new')) m)

    left_empty : get_or rows c [] ≡ []
    left_empty = let e = ap (substituted c new) (sym empty) ∙ other_at c lc (λ e. apart (sym e)) in let f : [] ≡ get_or rows c [] = cc in sym f

    pub swap_unscaled : swap rows' r c ≡ unscaled_rows σ 0 (swap rows r c)
    swap_unscaled = ext_get_or [] (swap rows' r c) (unscaled_rows σ 0 (swap rows r c))
        (length-swap rows' r c ∙ count' ∙ sym count ∙ sym (length-swap rows r c) ∙ sym (length-map_from (λ i row. unscaled_row σ (σ i) 0 row) 0 (swap rows r c)))
        (λ i l. at i (omega (arith, l, length-swap rows' r c, count')) ∙ sym (row_unscaled σ (swap rows r c) i))
      where
        at : (i : ℕ) → i < n → get_or (swap rows' r c) i [] ≡ unscaled_row σ (σ i) 0 (get_or (swap rows r c) i [])
        at i l = elim (cases_eq i r) [
          | inl e ↦ subst (λ i. get_or (swap rows' r c) i [] ≡ unscaled_row σ (σ i) 0 (get_or (swap rows r c) i [])) (sym e)
              (swapped_first rows' r c [] (omega (arith, count')) (omega (arith, count')) apart ∙ others_unscaled c lc (λ e. apart (sym e)) ∙ ap (unscaled_row σ (σ c) 0) left_empty
              ∙ sym (ap (unscaled_row σ (σ r) 0) (swapped_first rows r c [] (omega (arith, count)) (omega (arith, count)) apart ∙ left_empty)))
          | inr m ↦ elim (cases_eq i c) [
            | inl e ↦ subst (λ i. get_or (swap rows' r c) i [] ≡ unscaled_row σ (σ i) 0 (get_or (swap rows r c) i [])) (sym e)
                (swapped_last rows' r c [] (omega (arith, count')) (omega (arith, count')) ∙ at_r' ∙ new_is ∙ sym (ap (unscaled_row σ (σ c) 0) (swapped_last rows r c [] (omega (arith, count)) (omega (arith, count)) ∙ at_r)))
            | inr k ↦ swapped_other rows' r c i [] (omega (arith, count')) (omega (arith, count')) m k ∙ others_unscaled i l m
                ∙ sym (ap (unscaled_row σ (σ i) 0) (swapped_other rows r c i [] (omega (arith, count)) (omega (arith, count)) m k))
          ]
        ]

    pub costs_unscaled : costs' ≡ unscaled_row σ s 0 costs
    costs_unscaled = substituted_unscaled σ s c new t.reduced_costs costs costs' small.cost_denominator.0 (unit c) (ap (λ y. substituted c y t.reduced_costs) (sym at_r) ∙ ec)
        (ap (λ y. substituted c y u.reduced_costs) (sym (at_r' ∙ new_is)) ∙ ec')

-- ---- the pivot
-- what it came to
record IsMade (r c : ℕ) (t u : Tableau) : Type 0 where
  direction : Direction
  rows : List (List ℚ)
  new : List ℚ
  costs : List ℚ
  values : List ℚ
  violated : violation (bounds_of t r) (value_of t r) ≡ Some direction
  solved : solved_for r c (row_of t r) ≡ Some new
  others : others_substituted r c (set t.rows r new) ≡ Some rows
  on_costs : substituted c (get_or rows r []) t.reduced_costs ≡ Some costs
  computed : computed_values (set (set t.nonbasic_values r (violated_bound direction (bounds_of t r))) c zero_ℚ) (set (set t.statuses r (status_after direction)) c Basic)
      (set (set t.nonbasic_values r (violated_bound direction (bounds_of t r))) c zero_ℚ) (swap rows r c) ≡ Some values
  is : record t {
    statuses = set (set t.statuses r (status_after direction)) c Basic;
    nonbasic_values = set (set t.nonbasic_values r (violated_bound direction (bounds_of t r))) c zero_ℚ;
    rows = swap rows r c;
    reduced_costs = costs;
    values = values;
    pivots = t.pivots + 1;
  } ≡ u

record IsEliminatedTo (r c : ℕ) (t v : Tableau) : Type 0 where
  rows : List (List ℚ)
  new : List ℚ
  costs : List ℚ
  solved : solved_for r c (row_of t r) ≡ Some new
  others : others_substituted r c (set t.rows r new) ≡ Some rows
  on_costs : substituted c (get_or rows r []) t.reduced_costs ≡ Some costs
  is : record t { rows = rows; reduced_costs = costs } ≡ v

eliminated_to : (r c : ℕ) (t v : Tableau) → eliminated r c t ≡ Some v → IsEliminatedTo r c t v
eliminated_to r c t v e =
    let f = was_some (λ rows. option_map (λ costs. record t { rows = rows; reduced_costs = costs }) (substituted c (get_or rows r []) t.reduced_costs)) (rows_eliminated r c t.rows) v e in
    let g = was_mapped (λ costs. record t { rows = f.0; reduced_costs = costs }) (substituted c (get_or f.0 r []) t.reduced_costs) v f.2 in
    let h = was_some (λ new. others_substituted r c (set t.rows r new)) (solved_for r c (row_of t r)) f.0 f.1 in
    record { rows = f.0; new = h.0; costs = g.0; solved = h.1; others = h.2; on_costs = g.1; is = g.2 }

made : (r c : ℕ) (t u : Tableau) → pivoted r c t ≡ Some u → IsMade r c t u
made r c t u e =
    let a = was_some (λ w. exchanged r c w t) (violation (bounds_of t r) (value_of t r)) u e in
    let b = was_some (λ v. revalued (basis_exchanged r c a.0 v)) (eliminated r c t) u a.2 in
    from a.0 a.1 b.0 (eliminated_to r c t b.0 b.1) b.2
  where
    from : (w : Direction) → violation (bounds_of t r) (value_of t r) ≡ Some w → (v : Tableau) → IsEliminatedTo r c t v → revalued (basis_exchanged r c w v) ≡ Some u → IsMade r c t u
    from w h v x e =
        let f : revalued (basis_exchanged r c w (record t { rows = x.rows; reduced_costs = x.costs })) ≡ Some u = ap (λ v. revalued (basis_exchanged r c w v)) x.is ∙ e in
        let y = basis_exchanged r c w (record t { rows = x.rows; reduced_costs = x.costs }) in
        let v = was_mapped (λ values. record y { values = values; pivots = y.pivots + 1 }) (computed_values y.nonbasic_values y.statuses y.nonbasic_values y.rows) u f in
        record { direction = w; rows = x.rows; new = x.new; costs = x.costs; values = v.0; violated = h; solved = x.solved; others = x.others; on_costs = x.on_costs; computed = v.1; is = v.2 }

module _ (n d : ℕ) (σ : Scales) (s : ℕ) (t u : Tableau) (r c : ℕ) (small : IsSmallAt d σ s t) (small' : IsSmall σ s u) (size : HasSize n t) (lr : r < n) (lc : c < n) (apart : r ≡ c → ⊥)
    (there : IsPivotThere t r c) (empty : row_of t c ≡ []) (h : IsMade r c t u) where
  abbrev v : Tableau
  v = unscaled σ s t

  start_unit : (i : ℕ) → 0 < σ i
  start_unit i = (small.denominators i).0

  bounds_is : bounds_of v r ≡ unscaled_bounds σ r (bounds_of t r)
  bounds_is = get_or-map_from (unscaled_bounds σ) 0 t.bounds r unbounded unbounded (λ k. refl) ∙ ap (λ i. unscaled_bounds σ i (bounds_of t r)) (let g : 0 + r ≡ r = omega arith in g)

  value_is : value_of v r ≡ unscaled_value σ r (value_of t r)
  value_is = get_or-map_from (unscaled_value σ) 0 t.values r zero_ℚ zero_ℚ (λ k. scaled_zero 1 (σ k)) ∙ ap (λ i. unscaled_value σ i (value_of t r)) (let g : 0 + r ≡ r = omega arith in g)

  violated_is : violation (bounds_of v r) (value_of v r) ≡ Some h.direction
  violated_is = (λ i. violation (bounds_is i) (value_is i)) ∙ violation_same σ r (start_unit r) (bounds_of t r) (value_of t r) ∙ h.violated

  point_is : set (set v.nonbasic_values r (violated_bound h.direction (bounds_of v r))) c zero_ℚ ≡ unscaled_values σ 0 (set (set t.nonbasic_values r (violated_bound h.direction (bounds_of t r))) c zero_ℚ)
  point_is =
      ap (λ b. set (set v.nonbasic_values r b) c zero_ℚ) (ap (violated_bound h.direction) bounds_is ∙ violated_same σ r (start_unit r) h.direction (bounds_of t r)
      ∙ ap (λ i. unscaled_value σ i (violated_bound h.direction (bounds_of t r))) (let g : r ≡ 0 + r = omega arith in g))
      ∙ ap (λ xs. set xs c zero_ℚ) (set-map_from (unscaled_value σ) 0 t.nonbasic_values r (violated_bound h.direction (bounds_of t r)))
      ∙ ap (set (unscaled_values σ 0 (set t.nonbasic_values r (violated_bound h.direction (bounds_of t r)))) c) (sym (scaled_zero 1 (σ (0 + c))))
      ∙ set-map_from (unscaled_value σ) 0 (set t.nonbasic_values r (violated_bound h.direction (bounds_of t r))) c zero_ℚ

  abbrev statuses : List BasisStatus
  statuses = set (set t.statuses r (status_after h.direction)) c Basic

  abbrev point : List ℚ
  point = set (set t.nonbasic_values r (violated_bound h.direction (bounds_of t r))) c zero_ℚ

  abbrev end_of : List ℚ → List (List ℚ) → List ℚ → List ℚ → Tableau
  end_of xs rows costs values = record v { statuses = statuses; nonbasic_values = xs; rows = rows; reduced_costs = costs; values = values; pivots = t.pivots + 1 }

  computed_is : computed_values (unscaled_values σ 0 point) statuses (unscaled_values σ 0 point) (unscaled_rows σ 0 (swap h.rows r c)) ≡ Some (unscaled_values σ 0 h.values)
  computed_is = at small'.denominator (subst (IsSmallAt small'.denominator σ s) (sym h.is) small'.at_denominator)
    where
      at : (d : ℕ) → IsSmallAt d σ s (record t { statuses = statuses; nonbasic_values = point; rows = swap h.rows r c; reduced_costs = h.costs; values = h.values; pivots = t.pivots + 1 })
          → computed_values (unscaled_values σ 0 point) statuses (unscaled_values σ 0 point) (unscaled_rows σ 0 (swap h.rows r c)) ≡ Some (unscaled_values σ 0 h.values)
      at d x =
          ap (λ xs. computed_values (unscaled_values σ 0 xs) statuses (unscaled_values σ 0 point) (unscaled_rows σ 0 (swap h.rows r c))) x.point
          ∙ values_unscaled σ d x.positive x.denominators x.numbers x.total 0 statuses point (swap h.rows r c) h.values x.rows
          (ap (λ xs. computed_values xs statuses point (swap h.rows r c)) (sym x.point) ∙ h.computed)

  pivot_is : pivoted r c v ≡ Some (unscaled σ s u)
  pivot_is =
      let m : length v.rows ≡ n = length-map_from (λ i row. unscaled_row σ (σ i) 0 row) 0 t.rows ∙ size.rows in
      let e : entry (row_of v r) c ≡ scaled_by (σ c) (σ r) (entry (row_of t r) c) = ap (λ row. entry row c) (row_unscaled σ t.rows r) ∙ entry_unscaled σ (σ r) (row_of t r) c in
      let x = elimination_there (λ i. d * σ i) (d * s) r c v (small_rows d σ s t small) (omega (arith, m))
      (subst (λ (q : ℚ). 0 < nat_abs q.num) (sym e) (nonzero_scaled (σ c) (σ r) (entry (row_of t r) c) (start_unit c) (start_unit r) there.coefficient)) in
      from x.0 x.1 (eliminated_to r c v x.0 x.1)
    where
      from : (z : Tableau) → eliminated r c v ≡ Some z → IsEliminatedTo r c v z → pivoted r c v ≡ Some (unscaled σ s u)
      from z e x =
          let rows_are = swap_unscaled n d σ s t r c small size lr lc apart there.coefficient empty h.rows h.new h.costs h.solved h.others h.on_costs x.rows x.new x.costs x.solved x.others x.on_costs in
          let costs_are = costs_unscaled n d σ s t r c small size lr lc apart there.coefficient empty h.rows h.new h.costs h.solved h.others h.on_costs x.rows x.new x.costs x.solved x.others x.on_costs in
          ap (option_and_then (λ w. exchanged r c w v)) violated_is
          ∙ ap (option_and_then (λ z. revalued (basis_exchanged r c h.direction z))) (e ∙ ap Some (sym x.is))
          ∙ (λ i. option_map (λ values. end_of (point_is i) (rows_are i) (costs_are i) values) (computed_values (point_is i) statuses (point_is i) (rows_are i)))
          ∙ ap (option_map (λ values. end_of (unscaled_values σ 0 point) (unscaled_rows σ 0 (swap h.rows r c)) (unscaled_row σ s 0 h.costs) values)) computed_is
          ∙ ap (λ u. Some (unscaled σ s u)) h.is

pub pivoted_unscaled : (n d : ℕ) (σ : Scales) (s : ℕ) (t u : Tableau) (r c : ℕ) → IsSmallAt d σ s t → IsSmall σ s u → HasSize n t → r < n → c < n → (r ≡ c → ⊥) → IsPivotThere t r c → row_of t c ≡ []
    → pivoted r c t ≡ Some u → pivoted r c (unscaled σ s t) ≡ Some (unscaled σ s u)
pivoted_unscaled n d σ s t u r c small small' size lr lc apart there empty e = pivot_is n d σ s t u r c small small' size lr lc apart there empty (made r c t u e)

pub pivoted_columns : (r c : ℕ) (t u : Tableau) → pivoted r c t ≡ Some u → t.columns ≡ u.columns
pivoted_columns r c t u e = ap (λ (t : Tableau). t.columns) (made r c t u e).is
