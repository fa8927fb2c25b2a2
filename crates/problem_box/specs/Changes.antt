-- What a box tells of its columns, and boxes that are cut at one column.
use Rattle.std.specs.Prelude.{◌≡◌, ℕ, zero, suc, ℤ, ◌≤ℤ◌, ◌<ℤ◌, List, [], ◌∷◌, take, All, Some, slice_get}
use Rattle.problem_box.specs.declared.span.Span.{Span}

-- the least column whose span has no number
pub record IsFirstEmpty (ss : List Span) (j : ℕ) : Type 0 where
  pub span : Span
  pub there : slice_get ss j ≡ Some span
  pub empty : span.hi <ℤ span.lo
  pub before : All (λ s. s.lo ≤ℤ s.hi) (take j ss)

-- the least column whose span has more than one number
pub record IsFirstFree (ss : List Span) (j : ℕ) : Type 0 where
  pub span : Span
  pub there : slice_get ss j ≡ Some span
  pub free : span.lo <ℤ span.hi
  pub before : All (λ s. s.hi ≤ℤ s.lo) (take j ss)

-- each span has exactly one number
abbrev pub IsFixed : List Span → Type 0
IsFixed ss = All (λ s. s.lo ≡ s.hi) ss

-- the box with another upper bound in one column
abbrev pub cut_high : List Span → ℕ → ℤ → List Span
cut_high [] j b = []
cut_high (s ∷ ss) zero b = record s { hi = b } ∷ ss
cut_high (s ∷ ss) (suc j) b = s ∷ cut_high ss j b

-- the box with another lower bound in one column
abbrev pub cut_low : List Span → ℕ → ℤ → List Span
cut_low [] j b = []
cut_low (s ∷ ss) zero b = record s { lo = b } ∷ ss
cut_low (s ∷ ss) (suc j) b = s ∷ cut_low ss j b
