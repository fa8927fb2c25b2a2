-- The setters that are kept for one node of a tree, and the way from a node down to another one.
use Rattle.std.specs.Prelude.{◌≡◌, ◌<◌, ℕ, List, [], ◌∷◌, length, Option, Some, None, slice_index_or}
use Rattle.node_tree.specs.declared.branch.Branch.{Branch}
use Rattle.node_tree.specs.Nodes.{Tree, parent_at}
use Rattle.node_tree.specs.Paths.{path_at, setter}
use Rattle.cert_merge.specs.declared.path_setters.PathSetters.{PathSetters}
use Rattle.cert_merge.specs.Setters.{AreSetters}

-- for each node of a path, the list has the node, if any, that set the bound of the branch's column and side further up
abbrev pub AreReplaced : List (Option ℕ) → List (ℕ × Branch) → Type 0
AreReplaced rs [] = Unit {0}
AreReplaced rs (s ∷ ss) = (slice_index_or rs s.0 None ≡ setter s.1.column s.1.side ss) × AreReplaced rs ss

-- what is kept for a node of the tree: its setters, and those that the branches on its path replaced
pub record AreKept (t : Tree) (s : PathSetters) : Type 0 where
  pub there : s.place < length t.nodes
  pub columns : length s.table ≡ length t.root
  pub nodes : length s.replaced.items ≡ length t.nodes
  pub setters : AreSetters t s.place s.table
  pub replaced : AreReplaced s.replaced.items (path_at t s.place)

-- the list has the nodes on the way from node `top` down to node i, without `top`, the last one first
abbrev pub IsWay : Tree → ℕ → ℕ → List ℕ → Type 0
IsWay t top i [] = i ≡ top
IsWay t top i (k ∷ ks) = (p : ℕ) × (k ≡ i) × (parent_at t k ≡ Some p) × IsWay t top p ks
