-- A tree: the root's box, the nodes in the order of their numbers, and how many splits fit into the room that is there.
use Rattle.std.specs.Prelude.{ℕ, ◌+◌, List, Option, None, slice_index_or}
use Rattle.std.specs.Option.{option_map}
use Rattle.problem_box.specs.declared.span.Span.{Span}
use Rattle.node_tree.specs.declared.branch.Branch.{Branch}
use Rattle.node_tree.specs.declared.branch.Node.{Node}

-- the box of node 0, the nodes by their numbers, and how many splits fit without memory
pub record Tree : Type 0 where
  pub root : List Span
  pub nodes : List Node
  pub room : ℕ

-- a node that no branch leads to, and that was not split: node 0 alone, and what stands for a node of a number that no node has
abbrev pub no_node : Node
no_node = record { branch = None; first_child = None }

-- the node of a number; one without branch and children where there is none
abbrev pub node_at : Tree → ℕ → Node
node_at t i = slice_index_or t.nodes i no_node

-- the branch that leads to node i
abbrev pub branch_at : Tree → ℕ → Option Branch
branch_at t i = (node_at t i).branch

-- where that branch comes from
abbrev pub parent_at : Tree → ℕ → Option ℕ
parent_at t i = option_map (λ (b : Branch). b.parent) (branch_at t i)

-- the two nodes that node i was split into
abbrev pub children_at : Tree → ℕ → Option (ℕ × ℕ)
children_at t i = option_map (λ k. (k, k + 1)) (node_at t i).first_child
