-- What the answers of the dual simplex mean.
use Rattle.std.specs.Prelude.{◌≡◌, List, IsTrue, Some}
use Rattle.fraction.specs.Rational.{ℚ, ◌≤ℚ◌}
use Rattle.problem_box.specs.declared.span.Span.{Span}
use Rattle.problem.specs.Linear.{Multipliers}
use Rattle.problem.specs.Problem.{Problem}
use Rattle.problem.specs.Directions.{aim}
use Rattle.problem.specs.Rising.{AreRising, AreNonzero}
use Rattle.derivation_book.specs.declared.cut.Cut.{Cut}
use Rattle.derivation_book.specs.Price.{price}
use Rattle.derivation_book.specs.Legal.{AreProofMultipliers, IsRefuting}
use Rattle.tableau.specs.declared.place.Place.TheVariants.{Done}
use Rattle.tableau.specs.LinearProgram.{variables}
use Rattle.tableau.specs.Tableau.{Tableau}
use Rattle.tableau.specs.Place.{place}
use Rattle.tableau.specs.Multipliers.{point_of, mult_of_cost}
use Rattle.tableau.specs.Invariants.{IsTableauOf}
use Rattle.dual_simplex.specs.declared.answer.Answer.{Answer}
use Rattle.dual_simplex.specs.declared.answer.Answer.TheVariants.{Infeasible, Optimal, Cramped, Stalled}
use Rattle.dual_simplex.specs.Relaxation.{RationalPoint, rational_value, IsInRelaxation}
use Rattle.dual_simplex.specs.PointSums.{sums_fit}
use Rattle.dual_simplex.specs.Answers.{linear_program}

-- a Farkas certificate: the multipliers price the zero target above 0 over the box, and the relaxation has no point
pub record IsInfeasible (p : Problem) (cs : List Cut) (box : List Span) (mult : Multipliers) : Type 0 where
  pub rising : AreRising mult
  pub nonzero : AreNonzero mult
  pub refuting : IsRefuting p cs box mult
  pub empty : (x : RationalPoint) → IsInRelaxation p cs box x → ⊥

-- a point of the relaxation and dual multipliers whose price is the aim there; no point of the relaxation has a smaller aim
pub record IsOptimal (p : Problem) (cs : List Cut) (box : List Span) (x : RationalPoint) (mult : Multipliers) (v : ℚ) : Type 0 where
  pub point : IsInRelaxation p cs box x
  pub sums : IsTrue (sums_fit p cs x)
  pub rising : AreRising mult
  pub nonzero : AreNonzero mult
  pub multipliers : AreProofMultipliers p cs mult
  pub priced : price p cs box (aim p) mult ≡ Some v
  pub objective : v ≡ rational_value (aim p) x
  pub least : (y : RationalPoint) → IsInRelaxation p cs box y → v ≤ℚ rational_value (aim p) y

-- cramped and stalled say nothing of the relaxation
abbrev pub AnswerHolds : Problem → List Cut → List Span → Answer → Type 0
AnswerHolds p cuts box (Infeasible mult) = IsInfeasible p cuts box mult
AnswerHolds p cuts box (Optimal x mult v) = IsOptimal p cuts box x mult v
AnswerHolds p cuts box (Cramped pivots) = Unit {0}
AnswerHolds p cuts box Stalled = Unit {0}

-- ---- the tableau of an optimal answer
-- a tableau of the relaxation
abbrev pub IsTableauAt : Problem → List Cut → List Span → Tableau → Type 0
IsTableauAt p cuts box t = IsTableauOf (variables (linear_program p cuts box)) (linear_program p cuts box) t

-- a point and multipliers read off a tableau of the relaxation that is done
pub record AreReadOff (p : Problem) (cs : List Cut) (box : List Span) (x : RationalPoint) (mult : Multipliers) (t : Tableau) : Type 0 where
  pub is_tableau : IsTableauAt p cs box t
  pub is_done : place t ≡ Done
  pub is_point : x ≡ point_of t
  pub is_mult : mult ≡ mult_of_cost t
