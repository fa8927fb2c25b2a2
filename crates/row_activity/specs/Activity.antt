-- The least and the greatest value of terms over a box, as sums over the terms.
use Rattle.std.specs.Prelude.{◌≤◌, ℕ, ℤ, pos, ◌≤ℤ◌, int_lt, if◌then◌else◌, List, [], ◌∷◌, All, length, slice_index_or}
use Rattle.fraction.specs.Rational.{ℚ, whole, ◌+ℚ◌, ◌*ℚ◌}
use Rattle.problem_box.specs.declared.span.Span.{Span}
use Rattle.problem.specs.Limited.{IsModestSpan}
use Rattle.problem.specs.Linear.{Terms}
use Rattle.problem.specs.Limits.{most_columns}
use Rattle.row_activity.specs.declared.activity.Extreme.{Extreme}
use Rattle.row_activity.specs.declared.activity.Extreme.TheVariants.{Least, Greatest}

-- the span of a column; 0 alone where the box has no such column
abbrev pub span_at : List Span → ℕ → Span
span_at ss j = slice_index_or ss j (record { lo = pos 0; hi = pos 0 })

-- the end of a span at which its product with a coefficient is least
abbrev pub low_end : ℚ → Span → ℤ
low_end c s = if int_lt (pos 0) c.num then s.lo else s.hi

-- the end of a span at which its product with a coefficient is greatest
abbrev pub high_end : ℚ → Span → ℤ
high_end c s = if int_lt (pos 0) c.num then s.hi else s.lo

-- the bound of a span at which a term has its least or its greatest value
abbrev pub end_for : Extreme → ℚ → Span → ℤ
end_for Least = low_end
end_for Greatest = high_end

-- the sum of each coefficient times an end of its column's span
abbrev pub sum_of_ends : (ℚ → Span → ℤ) → List Span → Terms → ℚ
sum_of_ends e ss [] = whole (pos 0)
sum_of_ends e ss (t ∷ ts) = t.1 *ℚ whole (e t.1 (span_at ss t.0)) +ℚ sum_of_ends e ss ts

-- the least value of the terms over the box
abbrev pub low_of : List Span → Terms → ℚ
low_of ss ts = sum_of_ends low_end ss ts

-- the greatest value of the terms over the box
abbrev pub high_of : List Span → Terms → ℚ
high_of ss ts = sum_of_ends high_end ss ts

-- each span has a number
abbrev pub IsNonempty : List Span → Type 0
IsNonempty ss = All (λ s. s.lo ≤ℤ s.hi) ss

-- a box that isn't empty, of no more columns than a problem may have, with modest bounds
pub record IsLimitedBox (ss : List Span) : Type 0 where
  pub few_columns : length ss ≤ most_columns
  pub modest : All IsModestSpan ss
  pub nonempty : IsNonempty ss
