-- Ways through a tree, and what a step makes of a box.
use Rattle.std.specs.Prelude.{◌≡◌, ℕ, zero, suc, ℤ, List, [], ◌∷◌}
use Rattle.std.specs.Option.{option_map_or}
use Rattle.std.specs.Int.{int_min, int_max}
use Rattle.problem_box.specs.declared.span.Span.{Span}
use Rattle.node_tree.specs.declared.branch.Side.{Side}
use Rattle.node_tree.specs.declared.branch.Side.TheVariants.{Low, High}
use Rattle.node_tree.specs.declared.branch.Branch.{Branch}
use Rattle.node_tree.specs.Nodes.{Tree, branch_at}

-- the parent of node i; the node itself, where no branch leads to it
abbrev pub up : Tree → ℕ → ℕ
up t i = option_map_or (λ (b : Branch). b.parent) (branch_at t i) i

-- the node that lies k steps above node i
abbrev pub climbed : Tree → ℕ → ℕ → ℕ
climbed t zero i = i
climbed t (suc k) i = climbed t k (up t i)

-- node `top` lies above node i, or is node i
abbrev pub IsAbove : Tree → ℕ → ℕ → Type 0
IsAbove t top i = (k : ℕ) × (climbed t k i ≡ top)

-- the tighter one of two bounds
abbrev pub tighter : Side → ℤ → ℤ → ℤ
tighter Low a b = int_max a b
tighter High a b = int_min a b

-- the span with a bound, unless it has a tighter one
abbrev pub tightened_span : Side → Span → ℤ → Span
tightened_span Low s b = record s { lo = tighter Low s.lo b }
tightened_span High s b = record s { hi = tighter High s.hi b }

-- the box with that in one column
abbrev pub tightened_on : Side → List Span → ℕ → ℤ → List Span
tightened_on side [] j b = []
tightened_on side (s ∷ ss) zero b = tightened_span side s b ∷ ss
tightened_on side (s ∷ ss) (suc j) b = s ∷ tightened_on side ss j b

-- the box in which a branch's bound is the tighter one of the two
abbrev pub tightened : Branch → List Span → List Span
tightened b ss = tightened_on b.side ss b.column b.bound

-- the box with the bound of the branch that leads to node i, unless it has a tighter one
abbrev pub tightened_at : Tree → ℕ → List Span → List Span
tightened_at t i ss = option_map_or (λ (b : Branch). tightened b ss) (branch_at t i) ss
