-- The sizes that a problem keeps to.
use Rattle.std.specs.Prelude.{◌≡◌, ℕ, ◌<◌, ◌≤◌, ◌*◌, nat_abs, length, All}
use Rattle.fraction.specs.Bounds.{Within}
use Rattle.problem_box.specs.declared.span.Span.{Span}
use Rattle.problem.specs.declared.row.Row.{Row}
use Rattle.problem.specs.Problem.{Problem}
use Rattle.problem.specs.Rising.{AreRising, AreNonzero}
use Rattle.problem.specs.Modest.{IsModest}
use Rattle.problem.specs.Limits.{most_columns, most_rows, largest_bound, finest}
use Rattle.problem.specs.Linear.{Terms}

-- bounds of at most the largest size
abbrev pub IsModestSpan : Span → Type 0
IsModestSpan s = (nat_abs s.lo ≤ largest_bound) × (nat_abs s.hi ≤ largest_bound)

-- columns below n that rise, with coefficients that are modest and not zero
pub record AreLimited (n : ℕ) (ts : Terms) : Type 0 where
  pub below : All (λ t. t.0 < n) ts
  pub rising : AreRising ts
  pub nonzero : AreNonzero ts
  pub modest : All (λ t. IsModest t.1) ts

-- limited terms, and a right side that is a multiple of 1 / finest of at most twice the largest size
pub record IsLimitedRow (n : ℕ) (r : Row) : Type 0 where
  pub terms : AreLimited n r.terms
  pub rhs : Within finest (2 * (largest_bound * finest)) r.rhs

-- as many names as columns, few columns and rows, and limited bounds, rows and objective
pub record IsLimited (p : Problem) : Type 0 where
  pub names : length p.names ≡ length p.spans
  pub few_columns : length p.spans ≤ most_columns
  pub few_rows : length p.rows ≤ most_rows
  pub spans : All IsModestSpan p.spans
  pub rows : All (IsLimitedRow (length p.spans)) p.rows
  pub objective : AreLimited (length p.spans) p.objective
