-- Valid lines and valid certificates.
use Rattle.std.specs.Prelude.{◌≡◌, ◌<◌, ◌-◌, ◌+◌, ℕ, pos, List, [], ◌∷◌, ◌++◌, map, length, All, Any}
use Rattle.fraction.specs.Rational.{ℚ, whole, floor, ceil, ◌+ℚ◌, ◌≤ℚ◌}
use Rattle.problem_box.specs.declared.span.Span.{Span}
use Rattle.problem.specs.declared.row.Sense.{Sense}
use Rattle.problem.specs.declared.row.Sense.TheVariants.{G, L, E}
use Rattle.problem.specs.declared.row.Row.{Row}
use Rattle.problem.specs.declared.objective_sense.ObjectiveSense.{ObjectiveSense}
use Rattle.problem.specs.declared.objective_sense.ObjectiveSense.TheVariants.{Minimise, Maximise}
use Rattle.problem.specs.Linear.{Multipliers, SameCoefficients, coefficient}
use Rattle.problem.specs.Problem.{Problem}
use Rattle.problem.specs.Feasible.{IsFeasible, objective_at}
use Rattle.cert_rows.specs.declared.line.CertRow.{CertRow}
use Rattle.cert_rows.specs.declared.line.Why.{Why}
use Rattle.cert_rows.specs.declared.line.Why.TheVariants.{Asm, Lin, Rnd, Uns}
use Rattle.cert_rows.specs.declared.certificate.Goal.{Goal}
use Rattle.cert_rows.specs.declared.certificate.Goal.TheVariants.{Infeas, Range}
use Rattle.cert_rows.specs.declared.certificate.Cert.{Cert}
use Rattle.cert_rows.specs.Lines.{CertLine, row_of, row_at, assumed_by}
use Rattle.cert_rows.specs.Combination.{combination, AllSigned}
use Rattle.cert_rows.specs.Domination.{IsAbsurd, Dominates}
use Rattle.cert_rows.specs.Assumptions.{assumes}
use Rattle.problem.specs.Rows.{Rows}
use Rattle.fraction.specs.Whole.{IsWhole}

-- ---- one line, over the lines before it
-- a combination of earlier lines for a G or an L row (docs/DECISIONS.md, entry 10)
pub record IsCombination (ls : List CertLine) (s : Sense) (mult : Multipliers) : Type 0 where
  pub earlier : All (λ m. m.0 < length ls) mult
  pub signs : AllSigned s ls mult

-- each column's coefficient is a whole number
abbrev pub HasWholeCoefficients : Row → Type 0
HasWholeCoefficients r = (j : ℕ) → IsWhole (coefficient r.terms j)

-- the right side of a G row rounded up, of an L row rounded down
abbrev pub rounded_rhs : Sense → ℚ → ℚ
rounded_rhs G rhs = whole (ceil rhs)
rounded_rhs L rhs = whole (floor rhs)
rounded_rhs E rhs = rhs

-- the row with its right side rounded: up for G, down for L (VIPR 1.0, `rnd`)
abbrev pub rounded : Row → Row
rounded r = record r { rhs = rounded_rhs r.sense r.rhs }

-- only an assumption assumes itself
pub record IsAssumption (ls : List CertLine) (i : ℕ) : Type 0 where
  pub earlier : i < length ls
  pub itself : assumed_by ls i ≡ i ∷ []

-- `ax <= b` and `ax >= b + 1`, a and b whole
pub record IsSplit (low high : Row) : Type 0 where
  pub at_most : low.sense ≡ L
  pub at_least : high.sense ≡ G
  pub terms : SameCoefficients low.terms high.terms
  pub whole_terms : HasWholeCoefficients low
  pub whole_rhs : IsWhole low.rhs
  pub next_rhs : high.rhs ≡ low.rhs +ℚ whole (pos 1)

-- a combination of the lines dominates the row (VIPR 1.0, `lin`)
pub record IsLinear (ls : List CertLine) (r : Row) (mult : Multipliers) : Type 0 where
  pub combined : IsCombination ls r.sense mult
  pub dominates : Dominates (combination r.sense ls mult) r

-- a combination of the lines with whole coefficients, rounded, dominates the row (VIPR 1.0, `rnd`)
pub record IsRounded (ls : List CertLine) (r : Row) (mult : Multipliers) : Type 0 where
  pub combined : IsCombination ls r.sense mult
  pub whole_terms : HasWholeCoefficients (combination r.sense ls mult)
  pub dominates : Dominates (rounded (combination r.sense ls mult)) r

-- a G row or an L row; lin and rnd give no other by themselves (docs/DECISIONS.md, entry 9)
abbrev pub IsInequality : Sense → Type 0
IsInequality G = Unit {0}
IsInequality L = Unit {0}
IsInequality E = ⊥

-- two lines dominate the row, each under one side of a split, of which it gives up the assumption (VIPR 1.0, `uns`)
pub record IsUnsplit (ls : List CertLine) (r : Row) (i1 l1 i2 l2 : ℕ) : Type 0 where
  pub inequality : IsInequality r.sense
  pub first_earlier : i1 < length ls
  pub second_earlier : i2 < length ls
  pub first_dominates : Dominates (row_at ls i1) r
  pub second_dominates : Dominates (row_at ls i2) r
  pub first_assumption : IsAssumption ls l1
  pub second_assumption : IsAssumption ls l2
  pub split : IsSplit (row_at ls l1) (row_at ls l2)

-- a line follows from those before it
abbrev pub Follows : List CertLine → Row → Why → Type 0
Follows ls r Asm = Unit {0}
Follows ls r (Lin mult) = IsLinear ls r mult
Follows ls r (Rnd mult) = IsRounded ls r mult
Follows ls r (Uns i1 l1 i2 l2) = IsUnsplit ls r i1 l1 i2 l2

-- ---- all lines
-- a derived row with what it assumes
abbrev pub derived_line_of : List CertLine → CertRow × Why → CertLine
derived_line_of ls d = record { row = row_of d.0; assumes = assumes ls d.1 }

-- the lines with the derived ones behind them
abbrev pub with_derived : List CertLine → List (CertRow × Why) → List CertLine
with_derived ls [] = ls
with_derived ls (d ∷ ds) = with_derived (ls ++ derived_line_of ls d ∷ []) ds

-- each derived line follows from those before it
abbrev pub AllFollow : List CertLine → List (CertRow × Why) → Type 0
AllFollow ls [] = Unit {0}
AllFollow ls (d ∷ ds) = Follows ls (row_of d.0) d.1 × AllFollow (ls ++ derived_line_of ls d ∷ []) ds

-- ---- the certificate
-- `x_j >= lo`
abbrev pub lower_row : ℕ → Span → Row
lower_row j s = record { sense = G; rhs = whole s.lo; terms = (j, whole (pos 1)) ∷ [] }

-- `x_j <= hi`
abbrev pub upper_row : ℕ → Span → Row
upper_row j s = record { sense = L; rhs = whole s.hi; terms = (j, whole (pos 1)) ∷ [] }

-- both for each column from j on
abbrev pub bound_rows : ℕ → List Span → Rows
bound_rows j [] = []
bound_rows j (s ∷ ss) = lower_row j s ∷ upper_row j s ∷ bound_rows (j + 1) ss

-- the lines of CON, which assume nothing
abbrev pub given_lines : List CertRow → List CertLine
given_lines [] = []
given_lines (r ∷ rs) = record { row = row_of r; assumes = [] } ∷ given_lines rs

-- the given lines and behind them the derived ones
abbrev pub all_lines : Cert → List CertLine
all_lines c = with_derived (given_lines c.part.rows) c.lines

-- the row of the last line
abbrev pub last_row : Cert → Row
last_row c = row_at (all_lines c) (length (all_lines c) - 1)

-- what the last line assumes
abbrev pub last_assumed : Cert → List ℕ
last_assumed c = assumed_by (all_lines c) (length (all_lines c) - 1)

-- the sense of a row that bounds the objective by the best value that it can have
abbrev pub bound_sense : ObjectiveSense → Sense
bound_sense Minimise = G
bound_sense Maximise = L

-- `objective >= bound`, or where it is maximised `objective <= bound`
abbrev pub objective_row : Problem → ℚ → Row
objective_row p bound = record { sense = bound_sense p.sense; rhs = bound; terms = p.objective }

-- the last line shows the one end of the range, and a listed solution the other
abbrev pub ShowsRange : ObjectiveSense → Problem → Cert → ℚ → ℚ → Type 0
ShowsRange Minimise p c lb ub = Dominates (last_row c) (objective_row p lb) × Any (λ x. objective_at p x ≤ℚ ub) c.points
ShowsRange Maximise p c lb ub = Dominates (last_row c) (objective_row p ub) × Any (λ x. lb ≤ℚ objective_at p x) c.points

-- the last line and a listed solution show the claim
abbrev pub ShowsClaim : Problem → Cert → Goal → Type 0
ShowsClaim p c Infeas = IsAbsurd (last_row c)
ShowsClaim p c (Range lb ub) = ShowsRange p.sense p c lb ub

-- the certificate is of this problem, each derived line follows from those before it, and its claim stands at the end (VIPR 1.0)
pub record IsValid (p : Problem) (c : Cert) : Type 0 where
  pub names : c.part.names ≡ p.names
  pub objective : c.part.objective ≡ p.objective
  pub sense : c.part.sense ≡ p.sense
  pub rows : map row_of c.part.rows ≡ p.rows ++ bound_rows 0 p.spans
  pub solutions : All (IsFeasible p) c.points
  pub lines : AllFollow (given_lines c.part.rows) c.lines
  pub unconditional : last_assumed c ≡ []
  pub claim : ShowsClaim p c c.claim
