-- What is found of a node: by the verdict on its box, or else by its linear program with all cuts.
use Rattle.std.specs.Prelude.{◌≡◌, ℕ, ℤ, true, false, Bool, not, ◌&&◌, nat_eq, if◌then◌else◌, List, [], ◌∷◌, length, take, Option, Some, None}
use Rattle.fraction.specs.Rational.{ℚ}
use Rattle.problem_box.specs.declared.span.Span.{Span}
use Rattle.problem.specs.Linear.{Multipliers}
use Rattle.problem.specs.Problem.{Problem}
use Rattle.row_activity.specs.declared.verdict.Verdict.{Verdict}
use Rattle.row_activity.specs.declared.verdict.Verdict.TheVariants.{Empty, Refuted, Priced, Point as OnePoint, Unsettled}
use Rattle.row_activity.specs.Verdicts.{verdict}
use Rattle.expand.specs.declared.finding.Finding.{Finding}
use Rattle.expand.specs.declared.finding.Finding.TheVariants.{Cuts, Shut, Whole, Solved, Loose}
use Rattle.node_events.specs.declared.proof.Proof.TheVariants.{Empty as Crossed, Refute, Bound}
use Rattle.node_events.specs.declared.reason.Reason.{Reason}
use Rattle.node_events.specs.declared.reason.Reason.TheVariants.{Cramped as CrampedReason, Stalled as StalledReason}
use Rattle.derivation_book.specs.declared.cut.Cut.{Cut}
use Rattle.derivation_book.specs.Legal.{has_whole_objective, reaches}
use Rattle.pseudo_cost.specs.declared.column_gains.ColumnGains.{ColumnGains}
use Rattle.tableau.specs.Tableau.{Tableau}
use Rattle.dual_simplex.specs.declared.answer.Answer.{Answer}
use Rattle.dual_simplex.specs.declared.answer.Answer.TheVariants.{Infeasible, Optimal, Cramped, Stalled}
use Rattle.dual_simplex.specs.Answers.{linear_program, run, answer}
use Rattle.dual_simplex.specs.Relaxation.{RationalPoint}
use Rattle.gomory_cuts.specs.Separation.{separation}
use Rattle.event_core.specs.Splits.{IsMiddle}
use Rattle.expand.specs.declared.origin.Origin.{Origin}
use Rattle.expand.specs.Verdicts.{multiplier, corner}
use Rattle.expand.specs.Notes.{with_note}
use Rattle.expand.specs.Columns.{fractional_columns, IsSplitColumn}

-- a bound of the aim, which is the objective that a search minimises, is rounded up: the objective is whole, and the bound isn't
abbrev pub is_rounded : Problem → ℚ → Bool
is_rounded p v = has_whole_objective p && not (nat_eq v.den 1)

-- ---- cuts
-- there is no column
abbrev pub is_empty : List ℕ → Bool
is_empty [] = true
is_empty (j ∷ js) = false

-- an optimum is separated where its point isn't whole and its bound doesn't reach the cutoff
abbrev pub is_separated : Problem → Option ℚ → RationalPoint → ℚ → Bool
is_separated p cutoff x v = not (is_empty (fractional_columns x)) && not (reaches cutoff (is_rounded p v) (Some v))

-- by the tableau that the run left
abbrev pub separation_by : Problem → List Cut → RationalPoint → Option Tableau → List Multipliers
separation_by p cs x None = []
separation_by p cs x (Some t) = separation p cs t x

-- the first cuts, as many as there is room for
abbrev pub cuts_found : Problem → List Cut → List Span → Option ℚ → ℕ → RationalPoint → ℚ → List Multipliers
cuts_found p cs box cutoff room x v =
    if is_separated p cutoff x v then take room (separation_by p cs x (run (linear_program p cs box)).tableau) else []

-- ---- findings
-- the optimum with k cuts, and the column in which the node is split by these costs
pub record IsOptimum (costs : List ColumnGains) (k : ℕ) (x : RationalPoint) (mult : Multipliers) (v : ℚ) (f : Finding) : Type 0 where
  pub column : Option ℕ
  pub chosen : IsSplitColumn costs x column
  pub found : f ≡ Solved k x mult v column

-- for this reason, with the middle of the box's first free column
pub record IsUnanswered (box : List Span) (reason : Reason) (f : Finding) : Type 0 where
  pub column : ℕ
  pub bound : ℤ
  pub middle : IsMiddle box column bound
  pub found : f ≡ Loose reason column bound

-- cuts where some are found, else the optimum
abbrev pub IsOfOptimum : List ColumnGains → ℕ → RationalPoint → Multipliers → ℚ → List Multipliers → Finding → Type 0
IsOfOptimum costs k x mult v [] f = IsOptimum costs k x mult v f
IsOfOptimum costs k x mult v (m ∷ ms) f = f ≡ Cuts (m ∷ ms)

-- what is found of a node whose linear program has this answer
abbrev pub IsOfAnswer : Problem → List Cut → List Span → Option ℚ → List ColumnGains → ℕ → Answer → Finding → Type 0
IsOfAnswer p cs box cutoff costs room (Infeasible mult) f = f ≡ Shut (Refute mult)
IsOfAnswer p cs box cutoff costs room (Optimal x mult v) f = IsOfOptimum costs (length cs) x mult v (cuts_found p cs box cutoff room x v) f
IsOfAnswer p cs box cutoff costs room (Cramped pivots) f = IsUnanswered box (CrampedReason (length cs) pivots) f
IsOfAnswer p cs box cutoff costs room Stalled f = IsUnanswered box (StalledReason (length cs)) f

-- what is found of a node whose box has this verdict
abbrev pub IsOfVerdict : Problem → List Cut → List Span → Option ℚ → List ColumnGains → ℕ → Verdict → Finding → Type 0
IsOfVerdict p cs box cutoff costs room (Empty j) f = f ≡ Shut (Crossed j)
IsOfVerdict p cs box cutoff costs room (Refuted i s) f = f ≡ Shut (Refute ((i, multiplier s) ∷ []))
IsOfVerdict p cs box cutoff costs room Priced f = f ≡ Shut (Bound [] false)
IsOfVerdict p cs box cutoff costs room OnePoint f = f ≡ Whole (corner box)
IsOfVerdict p cs box cutoff costs room Unsettled f = IsOfAnswer p cs box cutoff costs room (answer p cs box) f

-- by the costs after the note of this node, with room for so many cuts
abbrev pub IsExpansion : Problem → List Cut → List Span → Option ℚ → List ColumnGains → ℕ → Finding → Type 0
IsExpansion p cs box cutoff costs room f = IsOfVerdict p cs box cutoff costs room (verdict p box cutoff) f

-- ---- costs
-- only a linear program that is solved is noted
abbrev pub costs_by : Option Origin → Verdict → Answer → List ColumnGains → List ColumnGains
costs_by origin (Empty j) a costs = costs
costs_by origin (Refuted i s) a costs = costs
costs_by origin Priced a costs = costs
costs_by origin OnePoint a costs = costs
costs_by origin Unsettled a costs = with_note origin a costs

-- the pseudo-costs after the look at a node
abbrev pub costs_after : Problem → List Cut → List Span → Option ℚ → Option Origin → List ColumnGains → List ColumnGains
costs_after p cs box cutoff origin costs = costs_by origin (verdict p box cutoff) (answer p cs box) costs
