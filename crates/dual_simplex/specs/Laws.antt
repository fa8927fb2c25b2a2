-- What the answers of the dual simplex promise.
use Rattle.std.specs.Prelude.{◌≡◌, ℕ, ◌≤ℤ◌, List, take, map, length, All, Bool, IsTrue, Option, Some, IsSomeAnd}
use Rattle.fraction.specs.Rational.{ℚ, whole, ◌≤ℚ◌}
use Rattle.problem_box.specs.declared.span.Span.{Span}
use Rattle.problem_box.specs.Boxes.{IsInBox}
use Rattle.problem.specs.Linear.{Point, Terms, Multipliers, value}
use Rattle.problem.specs.Rows.{Satisfies}
use Rattle.problem.specs.Problem.{Problem}
use Rattle.problem.specs.Feasible.{HasWholeObjective}
use Rattle.node_events.specs.declared.proof.Proof.TheVariants.{Refute, Bound}
use Rattle.derivation_book.specs.declared.cut.Cut.{Cut}
use Rattle.derivation_book.specs.Legal.{IsLegalProof, rounded_if}
use Rattle.dual_simplex.specs.declared.answer.Answer.TheVariants.{Infeasible, Optimal}
use Rattle.dual_simplex.specs.Relaxation.{RationalPoint, rational_value, IsInRelaxation}
use Rattle.dual_simplex.specs.PointSums.{checked_sum}
use Rattle.dual_simplex.specs.Answers.{linear_program, run, answer}
use Rattle.dual_simplex.specs.Meaning.{AnswerHolds, AreReadOff}

-- a span for each column of the problem, and none of them empty
pub record IsBoxOf (p : Problem) (box : List Span) : Type 0 where
  pub columns : length box ≡ length p.spans
  pub nonempty : All (λ (s : Span). s.lo ≤ℤ s.hi) box

-- over a box that isn't empty the answer holds
abbrev pub AnswersHold : Type 0
AnswersHold = (p : Problem) (cuts : List Cut) (box : List Span) → IsBoxOf p box → AnswerHolds p cuts box (answer p cuts box)

-- ---- whole points
-- a whole point of the box that satisfies rows and cuts lies in the relaxation
abbrev pub WholePointsAreRelaxed : Type 0
WholePointsAreRelaxed =
    (p : Problem) (cuts : List Cut) (box : List Span) (x : Point) → IsInBox box x → All (Satisfies x) p.rows → All (λ (c : Cut). Satisfies x c.row) cuts
    → IsInRelaxation p cuts box (map whole x)

-- and its value is the same there
abbrev pub ValuesAgree : Type 0
ValuesAgree = (ts : Terms) (x : Point) → rational_value ts (map whole x) ≡ value ts x

-- ---- sums at a point
-- a sum that isn't cramped is the value
abbrev pub SumsAreExact : Type 0
SumsAreExact = (ts : Terms) (x : RationalPoint) (v : ℚ) → checked_sum ts x ≡ Some v → v ≡ rational_value ts x

-- ---- the tableau
-- the run of an optimal answer left a tableau that is done, from which its point and multipliers are read
abbrev pub OptimaAreReadOff : Type 0
OptimaAreReadOff =
    (p : Problem) (cuts : List Cut) (box : List Span) (x : RationalPoint) (mult : Multipliers) (v : ℚ)
    → answer p cuts box ≡ Optimal x mult v → IsSomeAnd (run (linear_program p cuts box)).tableau (AreReadOff p cuts box x mult)

-- ---- proofs that close a node
-- where the problem with its first k cuts is infeasible over a node's box, the multipliers close the node
abbrev pub InfeasibleCloses : Type 0
InfeasibleCloses =
    (p : Problem) (cuts : List Cut) (k : ℕ) (box : List Span) (mult : Multipliers) (cutoff : Option ℚ)
    → IsBoxOf p box → answer p (take k cuts) box ≡ Infeasible mult → IsLegalProof p cuts box cutoff (Refute mult)

-- where its optimal value reaches the cutoff, rounded up only where the objective is whole, the multipliers close the node
abbrev pub OptimalCloses : Type 0
OptimalCloses =
    (p : Problem) (cuts : List Cut) (k : ℕ) (box : List Span) (x : RationalPoint) (mult : Multipliers) (v limit : ℚ) (rounded : Bool)
    → IsBoxOf p box → answer p (take k cuts) box ≡ Optimal x mult v → (IsTrue rounded → HasWholeObjective p) → limit ≤ℚ rounded_if rounded v
    → IsLegalProof p cuts box (Some limit) (Bound mult rounded)
