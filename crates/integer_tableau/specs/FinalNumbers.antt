-- What is asked of the tableau that a run left.
use Rattle.std.specs.Prelude.{◌≡◌, ◌≢◌, ◌≤◌, ℕ, IfSome, IsSomeAnd, Some}
use Rattle.tableau.specs.LinearProgram.{LinearProgram}
use Rattle.tableau.specs.Multipliers.{mult_of_cost, mult_of_row, point_of}
use Rattle.tableau.specs.Run.{RunEnd, run_from}
use Rattle.tableau.specs.Start.{started}
use Rattle.tableau.specs.Tableau.{Tableau}
use Rattle.tableau.specs.declared.place.Place.TheVariants.{Cramped, Done, NoColumn}
use Rattle.integer_tableau.specs.Denominator.{HasDenominator}
use Rattle.integer_tableau.specs.declared.final_numbers.FinalNumbers.{FinalNumbers}

-- they are the tableau's: which ones are told depends on the place
pub record AreNumbersOf (t : Tableau) (n : FinalNumbers) : Type 0 where
  pub denominator : IfSome n.denominator (λ d. HasDenominator d t)
  pub point : n.place ≡ Done → n.point.items ≡ point_of t
  pub of_costs : n.place ≡ Done → n.multipliers ≡ mult_of_cost t
  pub of_row : (r : ℕ) → n.place ≡ NoColumn r → n.multipliers ≡ mult_of_row t r

-- they are those of the end of a run, and of the tableau that it left
pub record AreNumbersAt (e : RunEnd) (n : FinalNumbers) : Type 0 where
  pub place : n.place ≡ e.place
  pub pivots : n.pivots ≡ e.pivots
  pub numbers : IsSomeAnd e.tableau (λ t. AreNumbersOf t n)

-- they are those of the run of a linear program from the start with at most so many pivots
pub record AreNumbersOver (p : LinearProgram) (cap : ℕ) (n : FinalNumbers) : Type 0 where
  pub start : Tableau
  pub starts : started p ≡ Some start
  pub ends : AreNumbersAt (run_from cap start) n

-- they are those of a run from this tableau with at most so many pivots, as a function tells them
pub record AreNumbersWithin (cap : ℕ) (start : Tableau) (n : FinalNumbers) : Type 0 where
  pub ends : AreNumbersAt (run_from cap start) n
  pub exact : n.place ≢ Cramped
  pub capped : n.pivots ≤ cap
