-- What is true of each tree.
use Rattle.std.specs.Prelude.{◌≡◌, ◌⊎◌, ◌<◌, ◌+◌, ℕ, ℤ, length, Some, None}
use Rattle.std.specs.Option.{IsSomeAnd}
use Rattle.node_tree.specs.declared.branch.Branch.{Branch}
use Rattle.node_tree.specs.Nodes.{Tree, node_at, branch_at, children_at}
use Rattle.node_tree.specs.Paths.{box_at}
use Rattle.node_tree.specs.Cuts.{IsInside}
use Rattle.node_tree.specs.Splits.{left_branch, right_branch}

-- node i is one of the two nodes that its parent was split into
abbrev pub IsChildOf : Tree → ℕ → ℕ → Type 0
IsChildOf t parent i = IsSomeAnd (children_at t parent) (λ c. (i ≡ c.0) ⊎ (i ≡ c.1))

-- node i was reached by a branch from a node of a smaller number, which has it as a child; the branch cuts that node's box inside
pub record IsReached (t : Tree) (i : ℕ) : Type 0 where
  pub branch : Branch
  pub reached : branch_at t i ≡ Some branch
  pub downwards : branch.parent < i
  pub child : IsChildOf t branch.parent i
  pub inside : IsInside (box_at t branch.parent) branch

-- nodes k and k + 1 were reached from node i by the two sides of a split
pub record AreChildrenOf (t : Tree) (i k : ℕ) : Type 0 where
  pub column : ℕ
  pub bound : ℤ
  pub left : branch_at t k ≡ Some (left_branch i column bound)
  pub right : branch_at t (k + 1) ≡ Some (right_branch i column bound)

-- node 0 is there and no branch leads to it; each other node was reached, and a node that was split has its two children
pub record IsTree (t : Tree) : Type 0 where
  pub root_there : 0 < length t.nodes
  pub root : branch_at t 0 ≡ None
  pub reached : (i : ℕ) → 0 < i → i < length t.nodes → IsReached t i
  pub children : (i k : ℕ) → (node_at t i).first_child ≡ Some k → AreChildrenOf t i k
