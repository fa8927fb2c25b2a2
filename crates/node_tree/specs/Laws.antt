-- What trees promise.
use Rattle.std.specs.Prelude.{◌≡◌, ◌<◌, ◌≤◌, ◌+◌, ℕ, ℤ, pos, ◌+ℤ◌, nat_abs, length, All, Some}
use Rattle.problem_box.specs.declared.span.Span.{Span}
use Rattle.problem_box.specs.Changes.{cut_low, cut_high}
use Rattle.node_tree.specs.declared.branch.Branch.{Branch}
use Rattle.node_tree.specs.Nodes.{Tree, branch_at}
use Rattle.node_tree.specs.Paths.{path_at, box_at}
use Rattle.node_tree.specs.Cuts.{cut_by}
use Rattle.node_tree.specs.Splits.{with_split}

-- bounds of at most this size
abbrev pub IsSpanWithin : ℕ → Span → Type 0
IsSpanWithin m s = (nat_abs s.lo ≤ m) × (nat_abs s.hi ≤ m)

-- node 0 has the root's box, and each other node its parent's, cut by its branch; so each has the root's columns, and bounds no larger than the root's
pub record AreBoxes (t : Tree) : Type 0 where
  pub of_root : box_at t 0 ≡ t.root
  pub of_child : (i : ℕ) (b : Branch) → branch_at t i ≡ Some b → box_at t i ≡ cut_by b (box_at t b.parent)
  pub columns : (i : ℕ) → length (box_at t i) ≡ length t.root
  pub within : (m : ℕ) → All (IsSpanWithin m) t.root → (i : ℕ) → All (IsSpanWithin m) (box_at t i)

-- what a split of node i at b in column j leaves and makes
pub record IsSplitAt (t : Tree) (i j : ℕ) (b : ℤ) : Type 0 where
  pub path_kept : (k : ℕ) → k < length t.nodes → path_at (with_split t i j b) k ≡ path_at t k
  pub box_kept : (k : ℕ) → k < length t.nodes → box_at (with_split t i j b) k ≡ box_at t k
  pub left : box_at (with_split t i j b) (length t.nodes) ≡ cut_high (box_at t i) j b
  pub right : box_at (with_split t i j b) (length t.nodes + 1) ≡ cut_low (box_at t i) j (b +ℤ pos 1)

-- a split keeps the boxes of the nodes that were there, and shares out the box of its node
abbrev pub SplitsShareBoxes : Tree → Type 0
SplitsShareBoxes t = (i j : ℕ) (b : ℤ) → i < length t.nodes → IsSplitAt t i j b
