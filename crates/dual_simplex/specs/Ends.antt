-- What the code knows at the end of a run. Only contracts of the code's own parts cite what stands here.
use Rattle.std.specs.Prelude.{◌≡◌, ℕ, true, List, [], All, IfSome, IsSome, Some}
use Rattle.problem_box.specs.declared.span.Span.{Span}
use Rattle.problem.specs.Limited.{IsModestSpan}
use Rattle.problem.specs.Linear.{Multipliers}
use Rattle.problem.specs.Problem.{Problem}
use Rattle.problem.specs.Directions.{aim}
use Rattle.problem.specs.Rising.{AreRising, AreNonzero}
use Rattle.derivation_book.specs.declared.cut.Cut.{Cut}
use Rattle.derivation_book.specs.Legal.{AreProofMultipliers}
use Rattle.derivation_book.specs.Price.{price}
use Rattle.tableau.specs.declared.place.Place.{Place}
use Rattle.tableau.specs.declared.place.Place.TheVariants.{Done, NoColumn, Cramped as CrampedRatio}
use Rattle.tableau.specs.Tableau.{Tableau}
use Rattle.tableau.specs.Place.{place}
use Rattle.tableau.specs.Multipliers.{point_of, mult_of_cost, mult_of_row}
use Rattle.integer_tableau.specs.Denominator.{HasDenominator}
use Rattle.dual_simplex.specs.declared.solution.Solution.{Solution}
use Rattle.dual_simplex.specs.Relaxation.{RationalPoint}
use Rattle.dual_simplex.specs.PointSums.{checked_sum, sums_fit}
use Rattle.dual_simplex.specs.Answers.{linear_program, run, HasPivots, answer}
use Rattle.dual_simplex.specs.Meaning.{IsTableauAt}

-- a run whose last place isn't cramped ended with a tableau of the relaxation, at the place that this asks for
pub record IsEnd (p : Problem) (cuts : List Cut) (box : List Span) (q : Place) (t : Tableau) : Type 0 where
  pub tableau : (q ≡ CrampedRatio → ⊥) → IsTableauAt p cuts box t
  pub place : (q ≡ CrampedRatio → ⊥) → q ≡ place t

-- multipliers with rising numbers, none of them 0, as a proof asks for them
pub record AreMultipliers (p : Problem) (cuts : List Cut) (mult : Multipliers) : Type 0 where
  pub rising : AreRising mult
  pub nonzero : AreNonzero mult
  pub usable : AreProofMultipliers p cuts mult

-- no sum at a point is cramped, and the price of these multipliers is the aim there
pub record IsOptimumThere (p : Problem) (cuts : List Cut) (box : List Span) (x : RationalPoint) (mult : Multipliers) : Type 0 where
  pub sums : sums_fit p cuts x ≡ true
  pub priced : price p cuts box (aim p) mult ≡ checked_sum (aim p) x

-- what the answer at this place asks for is there: the sums at the point and its price, or the price of a row's multipliers
pub record IsAnswerThere (p : Problem) (cuts : List Cut) (box : List Span) (q : Place) (t : Tableau) : Type 0 where
  pub optimum : q ≡ Done → IsOptimumThere p cuts box (point_of t) (mult_of_cost t)
  pub refuted : (r : ℕ) → q ≡ NoColumn r → IsSome (price p cuts box [] (mult_of_row t r))

-- the bounds of the box are modest, and the tableau's numbers are small over one denominator
pub record IsSmallEnd (box : List Span) (t : Tableau) : Type 0 where
  pub modest : All IsModestSpan box
  pub denominator : ℕ
  pub over_denominator : HasDenominator denominator t

-- what the run of the problem's rows and these cuts over the box answers, with the tableau that it left
pub record IsSolution (p : Problem) (cuts : List Cut) (box : List Span) (s : Solution) : Type 0 where
  pub answer : s.answer ≡ answer p cuts box
  pub tableau : IfSome (run (linear_program p cuts box)).tableau (λ t. s.tableau ≡ Some t)
  pub pivots : HasPivots (linear_program p cuts box) s.tableau
