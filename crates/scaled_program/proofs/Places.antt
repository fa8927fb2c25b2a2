-- The place of a tableau that is read with scales is that of the tableau.
use Rattle.std.proofs.Common.{◌≡◌, ℕ, zero, suc, ◌+◌, ◌*◌, ◌^◌, ◌<◌, ◌≤◌, arith, refl, ap, sym, ◌∙◌, subst, Option, Some, None, List, [], ◌∷◌, get_or, Bool, true, false}
use Rattle.std.specs.Prelude.{pos, nat_abs, not, ◌&&◌, if◌then◌else◌}
use Rattle.std.specs.Option.{option_and_then, option_map, unwrap_or}
use Rattle.std.specs.Ordering.{is_lt}
use Rattle.std.proofs.lemmas.Bool.{and_parts}
use Rattle.fraction.specs.Checked.{abs_ℚ, compare, div_checked}
use Rattle.fraction.specs.Rational.{ℚ, frac}
use Rattle.tableau.specs.declared.bounds.Bounds.{Bounds}
use Rattle.tableau.specs.declared.bounds.Direction.{Direction}
use Rattle.tableau.specs.declared.bounds.Direction.TheVariants.{Rise, Fall}
use Rattle.tableau.specs.declared.place.Place.TheVariants.{Pivot}
use Rattle.tableau.specs.declared.status.BasisStatus.{BasisStatus}
use Rattle.tableau.specs.declared.status.BasisStatus.TheVariants.{Basic, AtLower, AtUpper}
use Rattle.tableau.specs.Elimination.{entry, zero_ℚ}
use Rattle.tableau.specs.Entering.{better, entering_from, is_eligible, with_ratio}
use Rattle.tableau.specs.Leaving.{bounds_differ, ends_differ, found_or, is_above, is_below, leaving_at, leaving_from, violated_bound, violation}
use Rattle.tableau.specs.Place.{place, place_entering, place_leaving}
use Rattle.tableau.specs.Tableau.{Tableau, row_of}
use Rattle.integer_tableau.specs.Range.{size_limit}
use Rattle.integer_tableau.specs.Scales.{Scales, all_bounds, scaled_by, unscaled, unscaled_bounds, unscaled_row, unscaled_rows, unscaled_value, unscaled_values}
use Rattle.integer_tableau.specs.Small.{IsOver}
use Rattle.scaled_program.specs.Sizes.{IsSmallAt}
use Rattle.integer_tableau.specs.Lemmas.Comparing.{ratio_exact}
use Rattle.integer_tableau.specs.Lemmas.MapFrom.{get_or-map_from}
use Rattle.integer_tableau.specs.Lemmas.NotCramped.{nonzero_over}
use Rattle.scaled_program.proofs.Numbers.{ratio_scaled, scaled_above, scaled_below, scaled_equal, scaled_less, scaled_zero}
use Rattle.scaled_program.proofs.Rows.{entry_unscaled}
use Rattle.fraction.specs.Lemmas.Rational.{lit_one}
use Rattle.tableau.specs.Lemmas.Places.{eligible_nonzero}

-- ---- bounds
module _ (σ : Scales) (i : ℕ) (o : 0 < σ i) where
  pub below_same : (v : ℚ) (l : Option ℚ) → is_below (unscaled_value σ i v) (option_map (unscaled_value σ i) l) ≡ is_below v l
  below_same v None = refl
  below_same v (Some l) = scaled_less 1 (σ i) v l lit_one o

  above_same : (v : ℚ) (u : Option ℚ) → is_above (unscaled_value σ i v) (option_map (unscaled_value σ i) u) ≡ is_above v u
  above_same v None = refl
  above_same v (Some u) = scaled_less 1 (σ i) u v lit_one o

  pub violation_same : (b : Bounds) (v : ℚ) → violation (unscaled_bounds σ i b) (unscaled_value σ i v) ≡ violation b v
  violation_same b v = λ t. if below_same v b.lower t then Some Rise else if above_same v b.upper t then Some Fall else None

  pub differ_same : (l u : Option ℚ) → ends_differ (option_map (unscaled_value σ i) l) (option_map (unscaled_value σ i) u) ≡ ends_differ l u
  differ_same None u = refl
  differ_same (Some l) None = refl
  differ_same (Some l) (Some u) = ap not (scaled_equal 1 (σ i) l u lit_one o)

  or_zero : (l : Option ℚ) → unwrap_or (option_map (unscaled_value σ i) l) zero_ℚ ≡ unscaled_value σ i (unwrap_or l zero_ℚ)
  or_zero None = sym (scaled_zero 1 (σ i))
  or_zero (Some l) = refl

  pub violated_same : (w : Direction) (b : Bounds) → violated_bound w (unscaled_bounds σ i b) ≡ unscaled_value σ i (violated_bound w b)
  violated_same Rise b = or_zero b.lower
  violated_same Fall b = or_zero b.upper

  leaving_same : (s : BasisStatus) (b : Bounds) (v : ℚ) → leaving_at s (unscaled_bounds σ i b) (unscaled_value σ i v) ≡ leaving_at s b v
  leaving_same Basic b v = violation_same b v
  leaving_same AtLower b v = refl
  leaving_same AtUpper b v = refl

pub leaving_unscaled : (σ : Scales) → ((i : ℕ) → 0 < σ i) → (i : ℕ) (ss : List BasisStatus) (bs : List Bounds) (vs : List ℚ) → leaving_from i ss (all_bounds σ i bs) (unscaled_values σ i vs) ≡ leaving_from i ss bs vs
leaving_unscaled σ o i [] bs vs = refl
leaving_unscaled σ o i (s ∷ ss) [] vs = refl
leaving_unscaled σ o i (s ∷ ss) (b ∷ bs) [] = refl
leaving_unscaled σ o i (s ∷ ss) (b ∷ bs) (v ∷ vs) = λ t. found_or i (leaving_same σ i (o i) s b v t) (leaving_unscaled σ o (i + 1) ss bs vs t)

-- ---- one variable in the ratio test
eligible_same : (a b : ℕ) (w : Direction) (s : BasisStatus) (t : ℚ) → 0 < a → 0 < b → is_eligible w s (scaled_by a b t) ≡ is_eligible w s t
eligible_same a b w Basic t o p = refl
eligible_same a b Rise AtLower t o p = scaled_above a b t o p
eligible_same a b Rise AtUpper t o p = scaled_below a b t o p
eligible_same a b Fall AtLower t o p = scaled_below a b t o p
eligible_same a b Fall AtUpper t o p = scaled_above a b t o p

-- a ratio stands for this one
abbrev pub read_ratio : ℕ → ℕ → ℕ × ℚ → ℕ × ℚ
read_ratio r s b = (b.0, scaled_by r s b.1)

better_same : (r s j : ℕ) (q : ℚ) (best : Option (ℕ × ℚ)) → 0 < r → 0 < s → better j (scaled_by r s q) (option_map (read_ratio r s) best) ≡ option_map (read_ratio r s) (better j q best)
better_same r s j q None o p = refl
better_same r s j q (Some b) o p = ap (λ t. if t then Some (j, scaled_by r s q) else Some (read_ratio r s b)) (scaled_less r s q b.1 o p) ∙ step (is_lt (compare q b.1))
  where
    step : (t : Bool) → (if t then Some (j, scaled_by r s q) else Some (read_ratio r s b)) ≡ option_map (read_ratio r s) (if t then Some (j, q) else Some b)
    step true = refl
    step false = refl

smaller : (a k : ℕ) → 0 < k → a * k ≤ size_limit → a < 2 ^ 63
smaller a zero o h = absurd (omega arith)
smaller a (suc k) o h = omega (arith, h)

module _ (σ : Scales) (d s r : ℕ) (od : 0 < d) (os : 0 < s) (or : 0 < r) (hs : d * s < size_limit) (hr : d * r < size_limit) where
  narrow : d < 2 ^ 63
  narrow = smaller d s os (omega arith)

  quotient_same : (k : ℕ) (x t : ℚ) → 0 < k → IsOver d k x → IsOver d k t → 0 < nat_abs t.num
      → (q : ℚ) × (div_checked (abs_ℚ x) (abs_ℚ t) ≡ Some q) × (div_checked (abs_ℚ (scaled_by k s x)) (abs_ℚ (scaled_by k r t)) ≡ Some (scaled_by r s q))
  quotient_same k x t o hx ht l =
      let b = nonzero_over ht.numerator d t od ht.exact l in (
        frac (pos (nat_abs hx.numerator)) (nat_abs ht.numerator),
        (λ i. div_checked (abs_ℚ (hx.exact i)) (abs_ℚ (ht.exact i)))
            ∙ ratio_exact hx.numerator ht.numerator d od narrow (smaller (nat_abs hx.numerator) k o hx.small) (smaller (nat_abs ht.numerator) k o ht.small) b,
        (λ i. div_checked (abs_ℚ (scaled_by k s (hx.exact i))) (abs_ℚ (scaled_by k r (ht.exact i))))
            ∙ ratio_scaled hx.numerator ht.numerator d k s r od o os or hx.small ht.small b hs hr,
      )

  taken_same : (j : ℕ) (w : Direction) (best : Option (ℕ × ℚ)) (st : BasisStatus) (b : Bounds) (x t : ℚ) → 0 < σ j → IsOver d (σ j) x → IsOver d (σ j) t
      → with_ratio j w (option_map (read_ratio r s) best) st (unscaled_bounds σ j b) (scaled_by (σ j) s x) (scaled_by (σ j) r t) ≡ option_map (option_map (read_ratio r s)) (with_ratio j w best st b x t)
  taken_same j w best st b x t o hx ht =
      (λ i. if eligible_same (σ j) r w st t o or i && differ_same σ j o b.lower b.upper i
      then option_map (λ q. better j q (option_map (read_ratio r s) best)) (div_checked (abs_ℚ (scaled_by (σ j) s x)) (abs_ℚ (scaled_by (σ j) r t))) else Some (option_map (read_ratio r s) best))
      ∙ step (is_eligible w st t && bounds_differ b) refl
    where
      step : (e : Bool) → (is_eligible w st t && bounds_differ b) ≡ e
          → (if e then option_map (λ q. better j q (option_map (read_ratio r s) best)) (div_checked (abs_ℚ (scaled_by (σ j) s x)) (abs_ℚ (scaled_by (σ j) r t))) else Some (option_map (read_ratio r s) best))
          ≡ option_map (option_map (read_ratio r s)) (if e then option_map (λ q. better j q best) (div_checked (abs_ℚ x) (abs_ℚ t)) else Some best)
      step false f = refl
      step true f =
          let q = quotient_same (σ j) x t o hx ht (eligible_nonzero w st t (and_parts (is_eligible w st t) (bounds_differ b) f).0) in
          ap (option_map (λ q. better j q (option_map (read_ratio r s) best))) q.2
          ∙ ap Some (better_same r s j q.0 best or os)
          ∙ sym (ap (λ o. option_map (option_map (read_ratio r s)) (option_map (λ q. better j q best) o)) q.1)

  entering_unscaled : ((j : ℕ) → 0 < σ j) → (j : ℕ) (w : Direction) (best : Option (ℕ × ℚ)) (ss : List BasisStatus) (bs : List Bounds) (ds row : List ℚ)
      → ((k : ℕ) → IsOver d (σ (j + k)) (entry ds k)) → ((k : ℕ) → IsOver d (σ k) (entry row k))
      → entering_from j w (option_map (read_ratio r s) best) ss (all_bounds σ j bs) (unscaled_row σ s j ds) (unscaled_row σ r 0 row) ≡ option_map (option_map (read_ratio r s)) (entering_from j w best ss bs ds row)
  entering_unscaled o j w best [] bs ds row hd hr = refl
  entering_unscaled o j w best (st ∷ ss) [] ds row hd hr = refl
  entering_unscaled o j w best (st ∷ ss) (b ∷ bs) [] row hd hr = refl
  entering_unscaled o j w best (st ∷ ss) (b ∷ bs) (x ∷ ds) row hd hr =
      (λ i. option_and_then (λ best. entering_from (j + 1) w best ss (all_bounds σ (j + 1) bs) (unscaled_row σ s (j + 1) ds) (unscaled_row σ r 0 row))
      (with_ratio j w (option_map (read_ratio r s) best) st (unscaled_bounds σ j b) (scaled_by (σ j) s x) (entry_unscaled σ r row j i)))
      ∙ ap (option_and_then (λ best. entering_from (j + 1) w best ss (all_bounds σ (j + 1) bs) (unscaled_row σ s (j + 1) ds) (unscaled_row σ r 0 row)))
      (taken_same j w best st b x (entry row j) (o j) (subst (λ k. IsOver d (σ k) x) (let g : j + 0 ≡ j = omega arith in g) (hd 0)) (hr j))
      ∙ step (with_ratio j w best st b x (entry row j))
      (λ best. entering_unscaled o (j + 1) w best ss bs ds row (λ k. subst (λ i. IsOver d (σ i) (entry ds k)) (let g : j + suc k ≡ j + 1 + k = omega arith in g) (hd (suc k))) hr)
    where
      step : (n : Option (Option (ℕ × ℚ)))
          → ((best : Option (ℕ × ℚ)) → entering_from (j + 1) w (option_map (read_ratio r s) best) ss (all_bounds σ (j + 1) bs) (unscaled_row σ s (j + 1) ds) (unscaled_row σ r 0 row)
          ≡ option_map (option_map (read_ratio r s)) (entering_from (j + 1) w best ss bs ds row))
          → option_and_then (λ best. entering_from (j + 1) w best ss (all_bounds σ (j + 1) bs) (unscaled_row σ s (j + 1) ds) (unscaled_row σ r 0 row)) (option_map (option_map (read_ratio r s)) n)
          ≡ option_map (option_map (read_ratio r s)) (option_and_then (λ best. entering_from (j + 1) w best ss bs ds row) n)
      step None f = refl
      step (Some best) f = f best

-- ---- all of it
pub row_unscaled : (σ : Scales) (rows : List (List ℚ)) (i : ℕ) → get_or (unscaled_rows σ 0 rows) i [] ≡ unscaled_row σ (σ i) 0 (get_or rows i [])
row_unscaled σ rows i = get_or-map_from (λ i row. unscaled_row σ (σ i) 0 row) 0 rows i [] [] (λ k. refl) ∙ ap (λ k. unscaled_row σ (σ k) 0 (get_or rows i [])) (let g : 0 + i ≡ i = omega arith in g)

module _ (d : ℕ) (σ : Scales) (s : ℕ) (t : Tableau) (h : IsSmallAt d σ s t) where
  pub place_unscaled : place (unscaled σ s t) ≡ place t
  place_unscaled =
      ap (λ l. place_leaving l t.statuses (all_bounds σ 0 t.bounds) (unscaled_row σ s 0 t.reduced_costs) (unscaled_rows σ 0 t.rows)) (leaving_unscaled σ (λ i. (h.denominators i).0) 0 t.statuses t.bounds t.values)
      ∙ step (leaving_from 0 t.statuses t.bounds t.values)
    where
      same_entering : (r : ℕ) (f : ℕ × ℚ → ℕ × ℚ) → ((b : ℕ × ℚ) → (f b).0 ≡ b.0) → (o : Option (Option (ℕ × ℚ))) → place_entering r (option_map (option_map f) o) ≡ place_entering r o
      same_entering r f e None = refl
      same_entering r f e (Some None) = refl
      same_entering r f e (Some (Some b)) = ap (λ (c : ℕ). Pivot r c) (e b)

      step : (l : Option (ℕ × Direction)) → place_leaving l t.statuses (all_bounds σ 0 t.bounds) (unscaled_row σ s 0 t.reduced_costs) (unscaled_rows σ 0 t.rows) ≡ place_leaving l t.statuses t.bounds t.reduced_costs t.rows
      step None = refl
      step (Some l) =
          ap (λ row. place_entering l.0 (entering_from 0 l.1 None t.statuses (all_bounds σ 0 t.bounds) (unscaled_row σ s 0 t.reduced_costs) row)) (row_unscaled σ t.rows l.0)
          ∙ ap (place_entering l.0) (entering_unscaled σ d s (σ l.0) h.positive h.cost_denominator.0 (h.denominators l.0).0 h.cost_denominator.1 (h.denominators l.0).1 (λ j. (h.denominators j).0)
          0 l.1 None t.statuses t.bounds t.reduced_costs (row_of t l.0) (λ k. subst (λ i. IsOver d (σ i) (entry t.reduced_costs k)) (let g : k ≡ 0 + k = omega arith in g) (h.costs k)) (h.rows l.0))
          ∙ same_entering l.0 (read_ratio (σ l.0) s) (λ b. refl) (entering_from 0 l.1 None t.statuses t.bounds t.reduced_costs (row_of t l.0))
