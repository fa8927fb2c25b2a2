-- The bounds that the branches of a tree replaced.
use Rattle.std.specs.Prelude.{◌≡◌, ◌≤◌, ℕ, ℤ, pos, List, length, Some, slice_get, slice_index_or}
use Rattle.std.specs.Option.{ForSome}
use Rattle.node_tree.specs.declared.branch.Branch.{Branch}
use Rattle.node_tree.specs.Limits.{most_nodes}
use Rattle.node_tree.specs.Nodes.{Tree, branch_at}
use Rattle.node_tree.specs.Paths.{box_at, bound_on}
use Rattle.node_tree.specs.Trees.{IsTree}

-- the number is the bound of the branch's column and side in the box of the node that the branch comes from
abbrev pub IsReplacedBy : Tree → Branch → ℤ → Type 0
IsReplacedBy t b z = ForSome (slice_get (box_at t b.parent) b.column) (λ s. z ≡ bound_on b.side s)

-- the list has such a number for each node
abbrev pub AreReplaced : Tree → List ℤ → Type 0
AreReplaced t zs = (i : ℕ) (b : Branch) → branch_at t i ≡ Some b → IsReplacedBy t b (slice_index_or zs i (pos 0))

-- what is true of the nodes and these numbers
pub record IsKept (t : Tree) (zs : List ℤ) : Type 0 where
  pub tree : IsTree t
  pub few : length t.nodes ≤ most_nodes
  pub replaced : AreReplaced t zs
