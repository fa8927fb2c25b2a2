-- From what the code's parts say to what the pivot is.
use Rattle.std.proofs.Common.{◌≡◌, ℕ, ◌+◌, ◌-◌, ◌*◌, ◌^◌, ◌<◌, arith, ap, sym, ◌∙◌, subst, Bool, false, Option, Some, None, List, [], length, get_or, set, get_or-set_other, get_or-set_same}
use Rattle.std.specs.Prelude.{ℤ, pos, nat_abs, ◌-ℤ◌, ◌*ℤ◌, ◌<ℤ◌}
use Rattle.std.proofs.lemmas.Int.{ints}
use Rattle.std.proofs.lemmas.List.{length-set}
use Rattle.fraction.specs.Rational.{frac}
use Rattle.integer_tableau.proofs.CompactPivot.{is_pivoted}
use Rattle.integer_tableau.proofs.Expanded.{near_values}
use Rattle.integer_tableau.proofs.Lists.{size_is}
use Rattle.integer_tableau.proofs.Violations.{leaving_there}
use Rattle.integer_tableau.proofs.Places.{place_by_leaving, place_is, place_where_leaving_is}
use Rattle.integer_tableau.proofs.Starting.{statuses_long}
use Rattle.integer_tableau.specs.Combined.{IsCompact, combined_row, expanded, expanded_rows, expanded_values}
use Rattle.integer_tableau.specs.Consistent.{row_width}
use Rattle.integer_tableau.specs.Entering.{entering_by_numerators}
use Rattle.integer_tableau.specs.IntegerTableau.{IntegerTableau, fraction_bounds, of_parts, tableau_of}
use Rattle.integer_tableau.specs.Leaving.{leaving_by_numerators}
use Rattle.integer_tableau.specs.Numbers.{IsWithin, number_at}
use Rattle.integer_tableau.specs.Range.{size_limit}
use Rattle.integer_tableau.specs.Pivot.{AreSubstitutedValues, IsEliminated, IsPivotOf, IsPivoted, IsSubstitutedValue, is_upper}
use Rattle.integer_tableau.specs.Place.{place_of_candidate}
use Rattle.integer_tableau.proofs.Exchanges.{nonbasic_values_exchanged, positions_exchanged}
use Rattle.integer_tableau.specs.Substitution.{quotient_numerator}
use Rattle.integer_tableau.specs.declared.integer_bounds.IntegerBounds.{IntegerBounds}
use Rattle.integer_tableau.specs.declared.position.Position.{Position}
use Rattle.integer_tableau.specs.declared.position.Position.TheVariants.{InBasis}
use Rattle.tableau.specs.Leaving.{violation}
use Rattle.tableau.specs.Pivot.{pivoted}
use Rattle.tableau.specs.Place.{place}
use Rattle.tableau.specs.Tableau.{Tableau}
use Rattle.tableau.specs.declared.bounds.Direction.{Direction}

pub values_put : (c k width : ℕ) (d e x entering : ℤ) (rows : List (List ℤ)) (values new : List ℤ)
    → ((v : ℕ) → v < length values → IsSubstitutedValue width k x e entering d (get_or rows v []) (number_at values v) (number_at new v)) → length new ≡ length values
    → AreSubstitutedValues c k d e x entering width rows values (set new c entering)
values_put c k width d e x entering rows values new steps many = record {
  put = λ l. get_or-set_same new c entering (pos 0) (omega (arith, l, many));
  others = λ v l n. subst (IsSubstitutedValue width k x e entering d (get_or rows v []) (number_at values v)) (sym (get_or-set_other new c v entering (pos 0) n)) (steps v l);
  as_many = length-set new c entering ∙ many;
}

pub pivoted_from : (ps : List (List ℤ)) (weight reach : ℕ) (bounds : List IntegerBounds) (positions : List Position) (at_upper : List Bool) (nonbasic_values : List ℤ) (rows : List (List ℤ))
    (reduced_costs values : List ℤ) (d : ℤ) (pivots r c k : ℕ) (direction : Direction) (b pivot value : ℤ) (u : Bool) (e : ℤ) (row : List ℤ) (taken after : List (List ℤ)) (xs new_costs new_values : List ℤ)
    → IsCompact ps weight reach (of_parts bounds positions at_upper nonbasic_values rows reduced_costs values d pivots) → pos 0 <ℤ d → r < length positions → c < length positions
    → row ≡ get_or (expanded_rows (nat_abs d) ps positions rows) r [] → value ≡ number_at (expanded_values (nat_abs d) ps positions nonbasic_values values) r → taken ≡ set rows r []
    → IsPivotOf bounds positions row value (nat_abs d) r c k direction b → pivot ≡ number_at row k → e ≡ pos (nat_abs (number_at row k))
    → (solved : List ℤ) × IsEliminated c k (nat_abs d) (nat_abs e) row solved taken after reduced_costs new_costs
    → AreSubstitutedValues c k d e (number_at nonbasic_values c) (quotient_numerator pivot (value -ℤ pivot *ℤ number_at nonbasic_values c -ℤ d *ℤ b)) (length reduced_costs) taken values new_values
    → xs ≡ nonbasic_values_exchanged r c b nonbasic_values → u ≡ is_upper direction → reach * nat_abs e < 2 ^ 63
    → ((i : ℕ) → i < length ps → get_or (positions_exchanged r c k positions) (length after + i) InBasis ≡ InBasis
    → IsWithin (size_limit - 1) (combined_row (nat_abs e) (positions_exchanged r c k positions) after (get_or ps i [])))
    → IsPivoted ps weight reach r c (of_parts bounds positions at_upper nonbasic_values rows reduced_costs values d pivots)
    (of_parts bounds (positions_exchanged r c k positions) (set (set at_upper r u) c false) xs after new_costs new_values e (pivots + 1))
pivoted_from ps weight reach bounds positions at_upper nonbasic_values rows reduced_costs values d pivots r c k direction b pivot value u e row taken after xs new_costs new_values
    compact positive r_there c_there row_is value_is taken_is p pivot_is e_is (solved, ex) vs xs_are u_is near small =
    subst (IsPivoted ps weight reach r c w) (λ i. of_parts bounds (positions_exchanged r c k positions) (set (set at_upper r (sym u_is i)) c false) (sym xs_are i) after
    new_costs new_values (sym e_is i) (pivots + 1))
    (is_pivoted ps weight reach w compact r c k direction b row solved value taken after new_costs new_values r_there c_there row_is value_is taken_is p
    (subst (λ m. IsEliminated c k (nat_abs d) m row solved taken after reduced_costs new_costs) size ex)
    (values_are d (pos (nat_abs d)) e (pos (nat_abs (number_at row k))) pivot (number_at row k) (size_is d positive) e_is pivot_is vs)
    (subst (λ m. reach * m < 2 ^ 63) size near)
    (subst (λ m. (i : ℕ) → i < length ps → get_or (positions_exchanged r c k positions) (length after + i) InBasis ≡ InBasis
    → IsWithin (size_limit - 1) (combined_row m (positions_exchanged r c k positions) after (get_or ps i []))) size small))
  where
    w : IntegerTableau
    w = of_parts bounds positions at_upper nonbasic_values rows reduced_costs values d pivots

    size : nat_abs e ≡ nat_abs (number_at row k)
    size = ap nat_abs e_is

    values_are : (d d' e e' p p' : ℤ) → d ≡ d' → e ≡ e' → p ≡ p'
        → AreSubstitutedValues c k d e (number_at nonbasic_values c) (quotient_numerator p (value -ℤ p *ℤ number_at nonbasic_values c -ℤ d *ℤ b)) (length reduced_costs) taken values new_values
        → AreSubstitutedValues c k d' e' (number_at nonbasic_values c) (quotient_numerator p' (value -ℤ p' *ℤ number_at nonbasic_values c -ℤ d' *ℤ b)) (length reduced_costs) taken values new_values
    values_are d d' e e' p p' f g h v =
        subst (λ d. AreSubstitutedValues c k d e' (number_at nonbasic_values c) (quotient_numerator p' (value -ℤ p' *ℤ number_at nonbasic_values c -ℤ d *ℤ b)) (length reduced_costs) taken values new_values) f
        (subst (λ e. AreSubstitutedValues c k d e (number_at nonbasic_values c) (quotient_numerator p' (value -ℤ p' *ℤ number_at nonbasic_values c -ℤ d *ℤ b)) (length reduced_costs) taken values new_values) g
        (subst (λ p. AreSubstitutedValues c k d e (number_at nonbasic_values c) (quotient_numerator p (value -ℤ p *ℤ number_at nonbasic_values c -ℤ d *ℤ b)) (length reduced_costs) taken values new_values) h v))

pub positive_from : (e : ℤ) (n : ℕ) → e ≡ pos n → 0 < n → pos 0 <ℤ e
positive_from e n h o = omega (arith, ints, h)

pub violation_back : (l : IntegerBounds) (v v' d d' : ℤ) (o : Option Direction) (direction : Direction) → v' ≡ v → d' ≡ d → o ≡ violation (fraction_bounds l) (frac v' (nat_abs d')) → o ≡ Some direction → violation (fraction_bounds l) (frac v (nat_abs d)) ≡ Some direction
violation_back l v v' d d' o direction p q e w = sym (e ∙ (λ i. violation (fraction_bounds l) (frac (p i) (nat_abs (q i))))) ∙ w

-- ---- of the whole tableau
module _ (columns : ℕ) (numbers : List ℕ) (ps : List (List ℤ)) (weight reach : ℕ) (w : IntegerTableau) (t : Tableau) (compact : IsCompact ps weight reach w)
    (view : tableau_of columns numbers (expanded ps w) ≡ t) where
  pub statuses_as_many : length w.positions ≡ length t.statuses
  statuses_as_many = sym (statuses_long w.positions w.at_upper compact.consistent.at_upper) ∙ ap (λ (t : Tableau). length t.statuses) view

  pub is_there : (positions : List Position) (v : ℕ) → positions ≡ w.positions → v < length t.statuses → v < length positions
  is_there positions v s l = omega (arith, l, statuses_as_many, ap length s)

  -- ---- places
  pub place_from_code : (found : Option (ℕ × Direction)) → found ≡ leaving_by_numerators w.denominator 0 w.positions w.bounds (expanded_values w.denominator ps w.positions w.nonbasic_values w.values)
      → place_by_leaving (expanded ps w) found ≡ place t
  place_from_code found is =
      ap (place_by_leaving (expanded ps w)) is
      ∙ sym (place_is columns numbers (expanded ps w) compact.consistent.at_upper compact.consistent.bounds compact.consistent.nonbasic_values compact.consistent.values) ∙ ap place view

  pub leaving_from_code : (r : ℕ) (direction : Direction) → r < length w.positions → get_or w.positions r InBasis ≡ InBasis
      → place_of_candidate r (entering_by_numerators 0 direction None w.positions w.at_upper w.bounds w.reduced_costs (get_or (expanded_rows w.denominator ps w.positions w.rows) r []))
      ≡ place_by_leaving (expanded ps w) (Some (r, direction))
  leaving_from_code r direction l at_r = sym (place_where_leaving_is r direction w.denominator w.positions w.at_upper w.bounds (expanded_rows w.denominator ps w.positions w.rows) w.reduced_costs
      compact.consistent.at_upper compact.consistent.bounds compact.consistent.rows l at_r compact.consistent.positive compact.consistent.denominator_small compact.consistent.costs_within (compact.consistent.rows_within r))

  pub chosen_from_code : (found : ℕ × Direction) → Some found ≡ leaving_by_numerators w.denominator 0 w.positions w.bounds (expanded_values w.denominator ps w.positions w.nonbasic_values w.values)
      → place_of_candidate found.0 (entering_by_numerators 0 found.1 None w.positions w.at_upper w.bounds w.reduced_costs (get_or (expanded_rows w.denominator ps w.positions w.rows) found.0 [])) ≡ place t
  chosen_from_code found is =
      let h = leaving_there w.denominator 0 w.positions w.bounds (expanded_values w.denominator ps w.positions w.nonbasic_values w.values) found (sym is) in
      let r : found.0 ≡ h.0 = omega (arith, h.1) in
      leaving_from_code found.0 found.1 (omega (arith, r, h.2)) (ap (λ v. get_or w.positions v InBasis) r ∙ h.3) ∙ place_from_code (Some found) is

-- no nonbasic value is cramped
pub near_from_code : (ps : List (List ℤ)) (weight reach : ℕ) (w : IntegerTableau) → IsCompact ps weight reach w → (xs vs : List ℤ) (d : ℕ) → xs ≡ w.nonbasic_values → vs ≡ w.values → d ≡ w.denominator
    → (j : ℕ) → j < length vs → nat_abs (number_at xs j) * d < 2 ^ 63
near_from_code ps weight reach w compact xs vs d xs_are vs_are d_is j l =
    rw (xs_are, d_is) (near_values ps weight reach w compact j (omega (arith, l, ap length vs_are, compact.values)))

-- the row of a variable is small
pub small_from_code : (ps : List (List ℤ)) (weight reach : ℕ) (w : IntegerTableau) → IsCompact ps weight reach w → (ps' : List (List ℤ)) (ss : List Position) (rows : List (List ℤ)) (d v : ℕ)
    → ps' ≡ ps → ss ≡ w.positions → rows ≡ w.rows → d ≡ w.denominator → IsWithin (size_limit - 1) (get_or (expanded_rows d ps' ss rows) v [])
small_from_code ps weight reach w compact ps' ss rows d v ps_are ss_are rows_are d_is = rw (ps_are, ss_are, rows_are, d_is) (compact.consistent.rows_within v)

-- the row of a basic variable has a number for each column
pub width_from_code : (ps : List (List ℤ)) (weight reach : ℕ) (w : IntegerTableau) → IsCompact ps weight reach w → (ps' : List (List ℤ)) (ss : List Position) (rows : List (List ℤ)) (d n v : ℕ)
    → ps' ≡ ps → ss ≡ w.positions → rows ≡ w.rows → d ≡ w.denominator → n ≡ length w.rows → v < length ss → get_or ss v InBasis ≡ InBasis → length (get_or (expanded_rows d ps' ss rows) v []) ≡ n
width_from_code ps weight reach w compact ps' ss rows d n v ps_are ss_are rows_are d_is n_is l basic =
    (λ i. length (get_or (expanded_rows (d_is i) (ps_are i) (ss_are i) (rows_are i)) v []))
    ∙ compact.consistent.widths v (omega (arith, l, ap length ss_are)) ∙ ap (row_width (length w.reduced_costs)) (ap (λ ss. get_or ss v InBasis) (sym ss_are) ∙ basic) ∙ compact.costs ∙ sym n_is

pub carried : (numbers : List ℕ) (ps ps' : List (List ℤ)) (weight reach r c : ℕ) (w w' v v' : IntegerTableau) (t : Tableau) → ps ≡ ps' → w ≡ w' → v ≡ v'
    → tableau_of (length w'.rows) numbers (expanded ps' w') ≡ t → IsPivoted ps weight reach r c w v
    → (pivoted r c t ≡ Some (tableau_of (length v'.rows) numbers (expanded ps' v'))) × IsCompact ps' weight reach v'
carried numbers ps ps' weight reach r c w w' v v' t o p q e h = (
  ap (pivoted r c) (sym ((λ i. tableau_of (length (p i).rows) numbers (expanded (o i) (p i))) ∙ e))
      ∙ h.pivoted numbers
      ∙ ap (λ n. Some (tableau_of n numbers (expanded ps v))) (sym h.columns)
      ∙ (λ i. Some (tableau_of (length (q i).rows) numbers (expanded (o i) (q i)))),
  subst (λ ps. IsCompact ps weight reach v') o (subst (IsCompact ps weight reach) q h.compact),
)
