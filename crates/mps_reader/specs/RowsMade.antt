-- The rows and the objective of a problem from the rows of the text and their terms.
use Rattle.std.specs.Prelude.{ℕ, suc, List, ◌∷◌, ◌++◌, Option, None, []}
use Rattle.std.specs.Option.{option_or}
use Rattle.std.proofs.Common.{get_or}
use Rattle.fraction.specs.Rational.{ℚ}
use Rattle.mps_reader.specs.Building.{objective_with, side_of}
use Rattle.mps_reader.specs.Meaning.{rows_from}
use Rattle.mps_reader.specs.Sections.{DeclaredRows}
use Rattle.mps_reader.specs.RowState.{RowState, kept_terms}
use Rattle.problem.specs.Linear.{Terms}
use Rattle.problem.specs.Rows.{Rows}

-- the rows of the problem from an index on, by the sides, the ranges and the terms
abbrev pub made_rows : List (Option ℚ) → List (Option ℚ) → ℕ → DeclaredRows → List RowState → Rows
made_rows sides ranges i (r ∷ rows) (t ∷ terms) = rows_from r.1 (side_of (get_or sides i None)) (get_or ranges i None) (kept_terms t) ++ made_rows sides ranges (suc i) rows terms
made_rows sides ranges i _ _ = []

-- the terms of the first N row
abbrev pub made_objective : DeclaredRows → List RowState → Option Terms
made_objective (r ∷ rows) (t ∷ terms) = option_or (objective_with r.1 (kept_terms t)) (made_objective rows terms)
made_objective _ _ = None
