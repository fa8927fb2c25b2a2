-- The branches on the way to a node, and the box that they leave.
use Rattle.std.specs.Prelude.{ℕ, zero, suc, ◌+◌, ℤ, eqb, ◌&&◌, if◌then◌else◌, List, [], ◌∷◌, Option, Some, None, Bool, true, false}
use Rattle.problem_box.specs.declared.span.Span.{Span}
use Rattle.node_tree.specs.declared.branch.Side.{Side}
use Rattle.node_tree.specs.declared.branch.Side.TheVariants.{Low, High}
use Rattle.node_tree.specs.declared.branch.Branch.{Branch}
use Rattle.node_tree.specs.Nodes.{Tree, branch_at}

-- where each node has this branch: the branches from a node up to node 0, the deepest first, each with its node; a parent's number is smaller,
-- so as many steps as the number are enough
abbrev pub path_of : (ℕ → Option Branch) → ℕ → ℕ → List (ℕ × Branch)
path_of branch zero i = []
path_of branch (suc steps) i = onward (branch i) (λ parent. path_of branch steps parent)
  where
    onward : Option Branch → (ℕ → List (ℕ × Branch)) → List (ℕ × Branch)
    onward None up = []
    onward (Some b) up = (i, b) ∷ up b.parent

-- the test for the same bound of a column
abbrev pub is_same_side : Side → Side → Bool
is_same_side Low Low = true
is_same_side High High = true
is_same_side a b = false

-- the deepest node on the way that set the bound
abbrev pub setter : ℕ → Side → List (ℕ × Branch) → Option ℕ
setter column side [] = None
setter column side (s ∷ ss) = if eqb column s.1.column && is_same_side side s.1.side then Some s.0 else setter column side ss

-- that node with its branch
abbrev pub setting : ℕ → Side → List (ℕ × Branch) → Option (ℕ × Branch)
setting column side [] = None
setting column side (s ∷ ss) = if eqb column s.1.column && is_same_side side s.1.side then Some s else setting column side ss

-- the number that the deepest branch of a path gave to a bound of a column, else the root's
abbrev pub deepest : ℕ → Side → ℤ → List (ℕ × Branch) → ℤ
deepest column side root [] = root
deepest column side root (s ∷ ss) = if eqb column s.1.column && is_same_side side s.1.side then s.1.bound else deepest column side root ss

-- the root's spans, those of the columns from j on, with the bounds that were set along a path
abbrev pub box_along : List (ℕ × Branch) → ℕ → List Span → List Span
box_along path j [] = []
box_along path j (r ∷ rs) = record { lo = deepest j Low r.lo path; hi = deepest j High r.hi path } ∷ box_along path (j + 1) rs

-- a bound of a span
abbrev pub bound_on : Side → Span → ℤ
bound_on Low s = s.lo
bound_on High s = s.hi

-- the path and the box of node i
abbrev pub path_at : Tree → ℕ → List (ℕ × Branch)
path_at t i = path_of (branch_at t) i i

-- the box of a node: that of the root, cut by each branch on the way to the node
abbrev pub box_at : Tree → ℕ → List Span
box_at t i = box_along (path_at t i) 0 t.root
