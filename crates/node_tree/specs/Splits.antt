-- A tree after a split.
use Rattle.std.specs.Prelude.{ℕ, ◌-◌, ℤ, pos, ◌+ℤ◌, [], ◌∷◌, ◌++◌, length, Some, None, slice_set}
use Rattle.node_tree.specs.declared.branch.Side.TheVariants.{Low, High}
use Rattle.node_tree.specs.declared.branch.Branch.{Branch}
use Rattle.node_tree.specs.declared.branch.Node.{Node}
use Rattle.node_tree.specs.Nodes.{Tree, node_at}

-- from node i by `x <= b` in column j, and by `x >= b + 1`
abbrev pub left_branch : ℕ → ℕ → ℤ → Branch
left_branch i j b = record { parent = i; column = j; side = High; bound = b }

-- the upper part of a split of column j at b: its lower bound is b + 1
abbrev pub right_branch : ℕ → ℕ → ℤ → Branch
right_branch i j b = record { parent = i; column = j; side = Low; bound = b +ℤ pos 1 }

-- a leaf that the branch leads to
abbrev pub leaf_of : Branch → Node
leaf_of b = record { branch = Some b; first_child = None }

-- node i has the next two numbers as children, the left one first
abbrev pub with_split : Tree → ℕ → ℕ → ℤ → Tree
with_split t i j b = record {
  root = t.root;
  nodes = slice_set t.nodes i (record (node_at t i) { first_child = Some (length t.nodes) }) ++ leaf_of (left_branch i j b) ∷ leaf_of (right_branch i j b) ∷ [];
  room = t.room - 1;
}
