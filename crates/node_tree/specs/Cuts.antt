-- Boxes that a branch cuts.
use Rattle.std.specs.Prelude.{◌<◌, ℕ, ℤ, ◌≤ℤ◌, ◌<ℤ◌, List, [], ◌∷◌, length, slice_get}
use Rattle.std.specs.Option.{ForSome}
use Rattle.problem_box.specs.declared.span.Span.{Span}
use Rattle.problem_box.specs.Changes.{cut_low, cut_high}
use Rattle.node_tree.specs.declared.branch.Side.{Side}
use Rattle.node_tree.specs.declared.branch.Side.TheVariants.{Low, High}
use Rattle.node_tree.specs.declared.branch.Branch.{Branch}
use Rattle.node_tree.specs.Paths.{box_along}

-- the span has the bound, and more numbers on the side that is cut off
abbrev pub IsCutInside : Side → ℤ → Span → Type 0
IsCutInside Low b s = (s.lo <ℤ b) × (b ≤ℤ s.hi)
IsCutInside High b s = (s.lo ≤ℤ b) × (b <ℤ s.hi)

-- the branch's column is there, and its bound cuts the column's span inside
pub record IsInside (ss : List Span) (b : Branch) : Type 0 where
  pub there : b.column < length ss
  pub inside : ForSome (slice_get ss b.column) (IsCutInside b.side b.bound)

-- the box with the bound that a branch sets
abbrev pub cut_on : Side → List Span → ℕ → ℤ → List Span
cut_on Low ss j b = cut_low ss j b
cut_on High ss j b = cut_high ss j b

-- the box that a branch leaves of its parent's
abbrev pub cut_by : Branch → List Span → List Span
cut_by b ss = cut_on b.side ss b.column b.bound

-- each branch of a path cuts the box of those above it inside
abbrev pub AreInside : List Span → List (ℕ × Branch) → Type 0
AreInside root [] = Unit {0}
AreInside root (s ∷ ss) = IsInside (box_along ss 0 root) s.1 × AreInside root ss
