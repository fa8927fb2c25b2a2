-- The place of a tableau on whole numbers.
use Rattle.std.proofs.Common.{◌≡◌, ◌≢◌, sym, ℕ, ◌+◌, ◌-◌, ◌<◌, arith, refl, ap, ◌∙◌, Bool, Option, Some, None, List, [], length, get_or}
use Rattle.std.specs.Prelude.{ℤ, pos, map}
use Rattle.std.proofs.lemmas.List.{get_or-map}
use Rattle.fraction.specs.Rational.{whole}
use Rattle.integer_tableau.proofs.AllRows.{get_or-rows_of}
use Rattle.integer_tableau.proofs.RatioTest.{as_ratios, entering_is}
use Rattle.integer_tableau.proofs.Violations.{leaving_is, leaving_there}
use Rattle.integer_tableau.specs.Consistent.{IsConsistent}
use Rattle.integer_tableau.specs.Entering.{entering_by_numerators}
use Rattle.integer_tableau.specs.IntegerTableau.{IntegerTableau, fraction_bounds, row_of_position, rows_of, statuses_of, tableau_of}
use Rattle.integer_tableau.specs.Leaving.{leaving_by_numerators}
use Rattle.integer_tableau.specs.Numbers.{IsWithin}
use Rattle.integer_tableau.specs.Range.{size_limit}
use Rattle.integer_tableau.specs.Place.{place_of_candidate}
use Rattle.integer_tableau.specs.Positions.{coefficient, coefficients}
use Rattle.integer_tableau.specs.declared.entering.Candidate.{Candidate}
use Rattle.integer_tableau.specs.declared.integer_bounds.IntegerBounds.{IntegerBounds}
use Rattle.integer_tableau.specs.declared.position.Position.{Position}
use Rattle.integer_tableau.specs.declared.position.Position.TheVariants.{InBasis}
use Rattle.tableau.specs.Entering.{entering_from}
use Rattle.tableau.specs.Place.{place, place_entering, place_leaving}
use Rattle.tableau.specs.declared.bounds.Direction.{Direction}
use Rattle.tableau.specs.declared.place.Place.{Place}
use Rattle.tableau.specs.declared.place.Place.TheVariants.{Cramped, Done}

-- where variable r leaves in this direction: the place of the tableau of fractions
abbrev pub place_where_leaving : ℕ → Direction → ℕ → List Position → List Bool → List IntegerBounds → List (List ℤ) → List ℤ → Place
place_where_leaving r w d ss us bs rows costs = place_entering r
    (entering_from 0 w None (statuses_of ss us) (map fraction_bounds bs) (coefficients d ss costs) (get_or (rows_of (row_of_position d ss) ss rows) r []))

pub place_where_leaving_is : (r : ℕ) (w : Direction) (d : ℕ) (ss : List Position) (us : List Bool) (ls : List IntegerBounds) (rows : List (List ℤ)) (reduced_costs : List ℤ)
    → length us ≡ length ss → length ls ≡ length ss → length rows ≡ length ss → r < length ss → get_or ss r InBasis ≡ InBasis → 0 < d → d < size_limit
    → IsWithin (size_limit - 1) reduced_costs → IsWithin (size_limit - 1) (get_or rows r [])
    → place_where_leaving r w d ss us ls rows reduced_costs ≡ place_of_candidate r (entering_by_numerators 0 w None ss us ls reduced_costs (get_or rows r []))
place_where_leaving_is r w d ss us ls rows reduced_costs e f g l at_r o hd hc hr =
    ap (λ row. place_entering r (entering_from 0 w None (statuses_of ss us) (map fraction_bounds ls) (coefficients d ss reduced_costs) row)) (get_or-rows_of (row_of_position d ss) ss rows r g l ∙ ap (λ s. row_of_position d ss s (get_or rows r [])) at_r)
    ∙ ap (place_entering r) (entering_is w d reduced_costs (get_or rows r []) (coefficients d ss (get_or rows r [])) o hd hc hr 0 None ss us ls e f tt
    (λ i m. ap (λ n. get_or (coefficients d ss (get_or rows r [])) n (whole (pos 0))) (let q : 0 + i ≡ i = omega arith in q) ∙ get_or-map (coefficient d (get_or rows r [])) ss i InBasis (whole (pos 0)) m))
    ∙ as_place (entering_by_numerators 0 w None ss us ls reduced_costs (get_or rows r []))
  where
    as_place : (best : Option Candidate) → place_entering r (Some (as_ratios best)) ≡ place_of_candidate r best
    as_place None = refl
    as_place (Some b) = refl

-- the place, by the leaving variable on whole numbers
abbrev pub place_by_leaving : IntegerTableau → Option (ℕ × Direction) → Place
place_by_leaving w None = Done
place_by_leaving w (Some l) = place_where_leaving l.0 l.1 w.denominator w.positions w.at_upper w.bounds w.rows w.reduced_costs

pub place_is : (columns : ℕ) (numbers : List ℕ) (w : IntegerTableau) → length w.at_upper ≡ length w.positions → length w.bounds ≡ length w.positions → length w.nonbasic_values ≡ length w.positions → length w.values ≡ length w.positions
    → place (tableau_of columns numbers w) ≡ place_by_leaving w (leaving_by_numerators w.denominator 0 w.positions w.bounds w.values)
place_is columns numbers w e f g h =
    ap (λ l. place_leaving l (statuses_of w.positions w.at_upper) (map fraction_bounds w.bounds) (coefficients w.denominator w.positions w.reduced_costs) (rows_of (row_of_position w.denominator w.positions) w.positions w.rows)) (leaving_is w.denominator 0 w.positions w.at_upper w.bounds w.nonbasic_values w.values e f g h)
    ∙ split (leaving_by_numerators w.denominator 0 w.positions w.bounds w.values)
  where
    split : (l : Option (ℕ × Direction)) → place_leaving l (statuses_of w.positions w.at_upper) (map fraction_bounds w.bounds) (coefficients w.denominator w.positions w.reduced_costs) (rows_of (row_of_position w.denominator w.positions) w.positions w.rows) ≡ place_by_leaving w l
    split None = refl
    split (Some l) = refl

-- ---- it is never cramped
pub never_cramped : (columns : ℕ) (numbers : List ℕ) (w : IntegerTableau) → IsConsistent w → place (tableau_of columns numbers w) ≢ Cramped
never_cramped columns numbers w consistent e =
    split (leaving_by_numerators w.denominator 0 w.positions w.bounds w.values) refl (sym (place_is columns numbers w consistent.at_upper consistent.bounds consistent.nonbasic_values consistent.values) ∙ e)
  where
    chosen : (r : ℕ) (best : Option Candidate) → place_of_candidate r best ≡ Cramped → ⊥
    chosen r None e = cc
    chosen r (Some b) e = cc

    split : (o : Option (ℕ × Direction)) → leaving_by_numerators w.denominator 0 w.positions w.bounds w.values ≡ o → place_by_leaving w o ≡ Cramped → ⊥
    split None q e = cc
    split (Some l) q e =
        let h = leaving_there w.denominator 0 w.positions w.bounds w.values l q in
        let r : l.0 ≡ h.0 = omega (arith, h.1) in
        chosen l.0 (entering_by_numerators 0 l.1 None w.positions w.at_upper w.bounds w.reduced_costs (get_or w.rows l.0 []))
        (sym (place_where_leaving_is l.0 l.1 w.denominator w.positions w.at_upper w.bounds w.rows w.reduced_costs consistent.at_upper consistent.bounds consistent.rows (omega (arith, r, h.2))
        (ap (λ v. get_or w.positions v InBasis) r ∙ h.3) consistent.positive consistent.denominator_small consistent.costs_within (consistent.rows_within l.0)) ∙ e)
