-- What a finding says of a node, by the node's box, the cuts and the cutoff.
use Rattle.std.specs.Prelude.{◌≡◌, ◌<◌, ◌≤◌, ◌≤ℤ◌, ℕ, ℤ, true, List, length, take, All, Option, Some, None}
use Rattle.fraction.specs.Rational.{ℚ}
use Rattle.fraction.specs.Whole.{IsWhole}
use Rattle.problem_box.specs.declared.span.Span.{Span}
use Rattle.problem_box.specs.Changes.{IsFixed}
use Rattle.problem.specs.declared.row.Row.{Row}
use Rattle.problem.specs.Linear.{Point, Multipliers}
use Rattle.problem.specs.Problem.{Problem}
use Rattle.problem.specs.Feasible.{IsFeasible}
use Rattle.expand.specs.declared.finding.Finding.{Finding}
use Rattle.expand.specs.declared.finding.Finding.TheVariants.{Cuts, Shut, Whole, Solved, Loose}
use Rattle.node_events.specs.declared.reason.Reason.{Reason}
use Rattle.node_events.specs.declared.reason.Reason.TheVariants.{Fractional, Cramped, Stalled}
use Rattle.derivation_book.specs.declared.cut.Cut.{Cut}
use Rattle.derivation_book.specs.Rounded.{rounded_row}
use Rattle.derivation_book.specs.Legal.{is_legal_proof}
use Rattle.dual_simplex.specs.declared.answer.Answer.TheVariants.{Cramped as CrampedRun, Stalled as StalledRun}
use Rattle.dual_simplex.specs.Answers.{answer}
use Rattle.dual_simplex.specs.Meaning.{IsOptimal}
use Rattle.dual_simplex.specs.Relaxation.{RationalPoint, rational_at}
use Rattle.event_core.specs.Splits.{IsMiddle}
use Rattle.gomory_cuts.specs.Separation.{most_separated}
use Rattle.expand.specs.Verdicts.{corner}

-- the multipliers have a rounded row
abbrev pub HasRow : Problem → List Cut → Multipliers → Type 0
HasRow p cs mult = (r : Row) × (rounded_row p cs mult ≡ Some r)

-- some cuts, no more than are separated at a time
pub record AreCutsFound (p : Problem) (cs : List Cut) (mults : List Multipliers) : Type 0 where
  pub some : 0 < length mults
  pub few : length mults ≤ most_separated
  pub rows : All (HasRow p cs) mults

-- the one point of a fixed box, which is feasible
pub record IsWholePoint (p : Problem) (box : List Span) (x : Point) : Type 0 where
  pub fixed : IsFixed box
  pub point : corner box ≡ x
  pub feasible : IsFeasible p x

-- a column is there exactly where the point isn't whole, and its number there isn't whole
abbrev pub IsFractionalIn : RationalPoint → Option ℕ → Type 0
IsFractionalIn x None = All IsWhole x
IsFractionalIn x (Some j) = (j < length x) × (IsWhole (rational_at x j) → ⊥)

-- the optimum of the relaxation with the first k cuts, and a column where it isn't whole
pub record IsRelaxationOptimum (p : Problem) (cs : List Cut) (box : List Span) (k : ℕ) (x : RationalPoint) (mult : Multipliers) (v : ℚ) (column : Option ℕ) : Type 0 where
  pub nonempty : All (λ (s : Span). s.lo ≤ℤ s.hi) box
  pub few_cuts : k ≤ length cs
  pub optimal : IsOptimal p (take k cs) box x mult v
  pub fractional : IsFractionalIn x column

-- the run of the linear program is cramped or stalled, as the reason says
abbrev pub IsOfRun : Problem → List Cut → List Span → Reason → Type 0
IsOfRun p cs box (Fractional k x) = ⊥
IsOfRun p cs box (Cramped k pivots) = (k ≤ length cs) × (answer p (take k cs) box ≡ CrampedRun pivots)
IsOfRun p cs box (Stalled k) = (k ≤ length cs) × (answer p (take k cs) box ≡ StalledRun)

-- the run came to no answer, and the box is split in the middle of its first free column
pub record IsLoose (p : Problem) (cs : List Cut) (box : List Span) (reason : Reason) (j : ℕ) (b : ℤ) : Type 0 where
  pub nonempty : All (λ (s : Span). s.lo ≤ℤ s.hi) box
  pub run : IsOfRun p cs box reason
  pub middle : IsMiddle box j b

-- the finding is true of the problem, its cuts, the box and the cutoff
abbrev pub IsTrueFinding : Problem → List Cut → List Span → Option ℚ → Finding → Type 0
IsTrueFinding p cs box cutoff (Cuts mults) = AreCutsFound p cs mults
IsTrueFinding p cs box cutoff (Shut proof) = is_legal_proof p cs box cutoff proof ≡ true
IsTrueFinding p cs box cutoff (Whole x) = IsWholePoint p box x
IsTrueFinding p cs box cutoff (Solved k x mult v column) = IsRelaxationOptimum p cs box k x mult v column
IsTrueFinding p cs box cutoff (Loose reason j b) = IsLoose p cs box reason j b
