-- What is asked of the tableau that a run left.
use Rattle.std.proofs.Common.{◌≡◌, ◌≢◌, ◌≤◌, ℕ, zero, suc, arith, ap, refl, sym, subst, ◌∙◌, drop, length, List, Option, Some, None}
use Rattle.std.specs.Prelude.{ℤ, nat_abs, IfSome, IsSomeAnd}
use Rattle.integer_tableau.proofs.Answering.{costs_are, point_is}
use Rattle.integer_tableau.specs.Denominator.{HasDenominator}
use Rattle.integer_tableau.specs.FinalNumbers.{AreNumbersAt, AreNumbersOf, AreNumbersWithin}
use Rattle.integer_tableau.specs.IntegerTableau.{values_of}
use Rattle.integer_tableau.specs.Kept.{IsAt, KeptDictionary, tableau_at, view_of}
use Rattle.integer_tableau.specs.Positions.{coefficients}
use Rattle.integer_tableau.specs.declared.basic_solution.BasicSolution.{BasicSolution}
use Rattle.integer_tableau.specs.declared.final_numbers.FinalNumbers.{FinalNumbers}
use Rattle.tableau.specs.Multipliers.{numbered}
use Rattle.tableau.specs.Pivot.{pivoted}
use Rattle.tableau.specs.Place.{place}
use Rattle.tableau.specs.Run.{EndsAs, RunEnd, after_pivot, continued, run_from, step_at}
use Rattle.tableau.specs.Tableau.{Tableau}
use Rattle.tableau.specs.declared.place.Place.{Place}
use Rattle.tableau.specs.declared.place.Place.TheVariants.{Cramped, Done, NoColumn, Pivot}

-- a run leaves a tableau unless its last place is cramped
module _ (P : Tableau → Type 0) where
  abbrev IsLeft : RunEnd → Type 0
  IsLeft e = e.place ≢ Cramped → IfSome e.tableau P → IsSomeAnd e.tableau P

  left_behind : (f : Tableau → RunEnd) → ((u : Tableau) → IsLeft (f u)) → (t : Tableau) (o : Option Tableau) → IsLeft (continued f (after_pivot t o))
  left_behind f each t None = λ n h. absurd (n refl)
  left_behind f each t (Some u) = each u

  left_at : (f : Tableau → RunEnd) → ((u : Tableau) → IsLeft (f u)) → (t : Tableau) (p : Place) → IsLeft (continued f (step_at t p))
  left_at f each t Done = λ n h. h
  left_at f each t (NoColumn r) = λ n h. h
  left_at f each t Cramped = λ n h. h
  left_at f each t (Pivot r c) = left_behind f each t (pivoted r c t)

  pub tableau_left : (most : ℕ) (t : Tableau) → IsLeft (run_from most t)
  tableau_left zero t = λ n h. h
  tableau_left (suc most) t = left_at (run_from most) (tableau_left most) t (place t)

-- the numbers of that tableau are those of the run's end
pub numbers_at : (cap : ℕ) (start : Tableau) (p : Place) (t : Tableau) (n : FinalNumbers) → EndsAs (run_from cap start) p t → p ≢ Cramped → n.place ≡ p → n.pivots ≡ t.pivots → AreNumbersOf t n
    → AreNumbersAt (run_from cap start) n
numbers_at cap start p t n ends exact at_place at_pivots numbers = record {
  place = at_place ∙ ends.place;
  pivots = at_pivots ∙ ends.pivots;
  numbers = tableau_left (λ t. AreNumbersOf t n) cap start (subst (λ q. q ≢ Cramped) ends.place exact) (of (run_from cap start).tableau ends.tableau);
}
  where
    of : (o : Option Tableau) → IfSome o (λ u. t ≡ u) → IfSome o (λ u. AreNumbersOf u n)
    of None h = tt
    of (Some u) h = subst (λ t. AreNumbersOf t n) h numbers

-- ---- of a solution at a dictionary
abbrev IsDone : Place → Type 0
IsDone Done = Unit {0}
IsDone (NoColumn r) = ⊥
IsDone (Pivot r c) = ⊥
IsDone Cramped = ⊥

pub numbers_where_done : (numbers : List ℕ) (ps : List (List ℤ)) (weight : ℕ) (d : KeptDictionary) (n : BasicSolution) (m : FinalNumbers) → IsAt ps weight d n → m.place ≡ Done
    → IfSome m.denominator (λ k. HasDenominator k (view_of numbers ps d n))
    → m.point.items ≡ values_of (nat_abs d.denominator) d.positions n.nonbasic_values.items n.values.items
    → m.multipliers ≡ numbered numbers (coefficients (nat_abs d.denominator) (drop (length d.reduced_costs) d.positions) d.reduced_costs)
    → AreNumbersOf (view_of numbers ps d n) m
numbers_where_done numbers ps weight d n m at done denominator point multipliers = record {
  denominator = denominator;
  point = λ e. point ∙ point_is (length d.rows) numbers ps weight n.reach (tableau_at d n) (view_of numbers ps d n) at.compact refl refl;
  of_costs = λ e. multipliers ∙ ap (λ k. numbered numbers (coefficients (nat_abs d.denominator) (drop k d.positions) d.reduced_costs)) at.compact.costs
      ∙ ap (numbered numbers) (costs_are (length d.rows) numbers ps weight n.reach (tableau_at d n) (view_of numbers ps d n) at.compact refl refl);
  of_row = λ r e. absurd (subst IsDone (sym done ∙ e) tt);
}

pub numbers_within : (most : ℕ) (start : Tableau) (p : Place) (t : Tableau) (n : FinalNumbers) → EndsAs (run_from most start) p t → p ≢ Cramped → t.pivots ≤ most → n.place ≡ p → n.pivots ≡ t.pivots → AreNumbersOf t n
    → AreNumbersWithin most start n
numbers_within most start p t n ends exact few at_place at_pivots numbers = record {
  ends = numbers_at most start p t n ends exact at_place at_pivots numbers;
  exact = subst (λ q. q ≢ Cramped) (sym at_place) exact;
  capped = omega (arith, few, at_pivots);
}
