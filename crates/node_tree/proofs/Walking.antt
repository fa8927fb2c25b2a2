-- Walks up a tree.
use Rattle.std.specs.Prelude.{◌≡◌, ◌<◌, ◌≤◌, ◌+◌, ◌&&◌, eqb, ℕ, cond, Bool, true, false, List, [], ◌∷◌, length, Some, None}
use Rattle.std.proofs.Common.{ap, ◌∙◌, arith}
use Rattle.problem_box.specs.declared.span.Span.{Span}
use Rattle.node_tree.specs.declared.branch.Side.{Side}
use Rattle.node_tree.specs.declared.branch.Branch.{Branch}
use Rattle.node_tree.specs.declared.branch.Node.{Node}
use Rattle.node_tree.specs.Nodes.{Tree, node_at, branch_at}
use Rattle.node_tree.specs.Paths.{path_at, setting, is_same_side}
use Rattle.node_tree.specs.Trees.{IsTree}
use Rattle.node_tree.specs.Lemmas.Paths.{path_end, path_child}
use Rattle.node_tree.specs.Lemmas.Insides.{reached_by, downwards}
use Rattle.node_tree.specs.Limits.{most_nodes}

module _ (t : Tree) (tree : IsTree t) where
  pub path_stops : (i : ℕ) → branch_at t i ≡ None → path_at t i ≡ []
  path_stops i e = path_end (branch_at t) i i e

  pub path_goes_up : (i : ℕ) (b : Branch) → branch_at t i ≡ Some b → path_at t i ≡ (i, b) ∷ path_at t b.parent
  path_goes_up i b e = path_child (branch_at t) (downwards t tree) i b e

  pub parent_there : (i : ℕ) (b : Branch) → branch_at t i ≡ Some b → (b.parent < i) × (b.parent < length t.nodes)
  parent_there i b e = let r = reached_by t tree i b e in (r.downwards, omega (arith, r.downwards, r.there))

  -- a first child has a next number, which is that of a node
  pub second_child : length t.nodes ≤ most_nodes → (i k : ℕ) → (node_at t i).first_child ≡ Some k → k + 1 < most_nodes
  second_child few i k e = let r = reached_by t tree (k + 1) _ (tree.children i k e).right in omega (arith, r.there, few)

  -- the walk goes on past a branch that set another bound, and stops at one that set this one
  module _ (j : ℕ) (side : Side) (i : ℕ) (b : Branch) (e : branch_at t i ≡ Some b) where
    found_or_not : (z : Bool) → (eqb j b.column && is_same_side side b.side) ≡ z → setting j side (path_at t i) ≡ cond z (Some (i, b)) (setting j side (path_at t b.parent))
    found_or_not z q = ap (setting j side) (path_goes_up i b e) ∙ ap (λ u. cond u (Some (i, b)) (setting j side (path_at t b.parent))) q

    pub found_here : (eqb j b.column && is_same_side side b.side) ≡ true → setting j side (path_at t i) ≡ Some (i, b)
    found_here q = found_or_not true q

    pub not_here : (eqb j b.column && is_same_side side b.side) ≡ false → setting j side (path_at t i) ≡ setting j side (path_at t b.parent)
    not_here q = found_or_not false q

-- the room has no part in what is true of a tree
pub other_room : (root : List Span) (nodes : List Node) (a b : ℕ) → IsTree (record { root = root; nodes = nodes; room = a }) → IsTree (record { root = root; nodes = nodes; room = b })
other_room root nodes a b h = record {
  root_there = h.root_there;
  root = h.root;
  reached = λ i l m. let r = h.reached i l m in record { branch = r.branch; reached = r.reached; downwards = r.downwards; child = r.child; inside = r.inside };
  children = λ i k e. let c = h.children i k e in record { column = c.column; bound = c.bound; left = c.left; right = c.right };
}
