-- Lemmas: a tree after a split is a tree: old nodes keep their branches and boxes, and the two new ones have theirs.
use Rattle.std.specs.Prelude.{◌≡◌, ◌≢◌, ◌<◌, ◌≤◌, ◌+◌, ◌-◌, ◌⊎◌, ℕ, ℤ, ◌≤ℤ◌, ◌<ℤ◌, ◌+ℤ◌, pos, List, [], ◌∷◌, length, Option, Some, None, slice_get, slice_set, slice_index_or, refl}
use Rattle.std.specs.Option.{ForSome, IsSomeAnd, option_map}
use Rattle.std.proofs.Common.{sym, ap, ◌∙◌, subst, inl, inr, arith}
use Rattle.std.proofs.lemmas.Int.{ints}
use Rattle.std.proofs.lemmas.Bool.{cases_lt}
use Rattle.std.proofs.lemmas.List.{length-append, length-set, get_or_past, get_or_append_left, get_or-append_right, get_or-set_same, get_or-set_other}
use Rattle.problem_box.specs.Changes.{cut_low, cut_high}
use Rattle.node_tree.specs.declared.branch.Branch.{Branch}
use Rattle.node_tree.specs.declared.branch.Node.{Node}
use Rattle.node_tree.specs.Nodes.{Tree, no_node, node_at, branch_at, children_at}
use Rattle.node_tree.specs.Paths.{box_along, path_at, box_at}
use Rattle.node_tree.specs.Cuts.{IsInside}
use Rattle.node_tree.specs.Splits.{left_branch, right_branch, leaf_of, with_split}
use Rattle.node_tree.specs.Trees.{IsChildOf, IsReached, AreChildrenOf, IsTree}
use Rattle.node_tree.specs.Laws.{IsSplitAt, SplitsShareBoxes}
use Rattle.node_tree.specs.Lemmas.Paths.{path_child, same_path}
use Rattle.node_tree.specs.Lemmas.Boxes.{length-box, box_cut}
use Rattle.node_tree.specs.Lemmas.Insides.{reached_by, downwards, no_branch}

module _ (t : Tree) (i j : ℕ) (b : ℤ) where
  abbrev split_node : Node
  split_node = record (node_at t i) { first_child = Some (length t.nodes) }

  abbrev old_nodes : List Node
  old_nodes = slice_set t.nodes i split_node

  abbrev both : List Node
  both = leaf_of (left_branch i j b) ∷ leaf_of (right_branch i j b) ∷ []

  length-old : length old_nodes ≡ length t.nodes
  length-old = length-set t.nodes i split_node

  pub length-split : length (with_split t i j b).nodes ≡ length t.nodes + 2
  length-split = omega (arith, length-append old_nodes both, length-old)

  -- ---- nodes
  old_there : (k : ℕ) → k < length t.nodes → node_at (with_split t i j b) k ≡ slice_index_or old_nodes k no_node
  old_there k h = get_or_append_left old_nodes both no_node k (omega (arith, h, length-old))

  pub other_node : (k : ℕ) → k < length t.nodes → k ≢ i → node_at (with_split t i j b) k ≡ node_at t k
  other_node k h n = old_there k h ∙ get_or-set_other t.nodes i k split_node no_node n

  pub this_node : (k : ℕ) → k < length t.nodes → k ≡ i → node_at (with_split t i j b) k ≡ split_node
  this_node k h e =
      let there : i < length t.nodes = omega (arith, h, e) in
      old_there k h ∙ ap (λ m. slice_index_or old_nodes m no_node) e ∙ get_or-set_same t.nodes i split_node no_node there

  left_node : node_at (with_split t i j b) (length t.nodes) ≡ leaf_of (left_branch i j b)
  left_node =
      let first : length t.nodes - length t.nodes ≡ 0 = omega arith in
      get_or-append_right old_nodes both (length t.nodes) (length t.nodes) no_node length-old (omega arith)
      ∙ ap (λ m. slice_index_or both m no_node) first

  right_node : node_at (with_split t i j b) (length t.nodes + 1) ≡ leaf_of (right_branch i j b)
  right_node =
      let second : length t.nodes + 1 - length t.nodes ≡ 1 = omega arith in
      get_or-append_right old_nodes both (length t.nodes) (length t.nodes + 1) no_node length-old (omega arith)
      ∙ ap (λ m. slice_index_or both m no_node) second

  pub same_or_not : (k : ℕ) → (k ≡ i) ⊎ (k ≢ i)
  same_or_not k = elim (cases_lt k i) [
    | inl l ↦ inr (λ e. omega (arith, l, e))
    | inr l ↦ elim (cases_lt i k) [
      | inl g ↦ inr (λ e. omega (arith, g, e))
      | inr g ↦ inl (omega (arith, l, g))
    ]
  ]

  pub branch_kept : (k : ℕ) → k < length t.nodes → branch_at (with_split t i j b) k ≡ branch_at t k
  branch_kept k h = elim (same_or_not k) [
    | inl e ↦ ap (λ (n : Node). n.branch) (this_node k h e) ∙ sym (ap (branch_at t) e)
    | inr n ↦ ap (λ (n : Node). n.branch) (other_node k h n)
  ]

  pub branch_left : branch_at (with_split t i j b) (length t.nodes) ≡ Some (left_branch i j b)
  branch_left = ap (λ (n : Node). n.branch) left_node

  pub branch_right : branch_at (with_split t i j b) (length t.nodes + 1) ≡ Some (right_branch i j b)
  branch_right = ap (λ (n : Node). n.branch) right_node

  module _ (tree : IsTree t) (there : i < length t.nodes) where
    -- ---- paths and boxes
    path_kept : (k : ℕ) → k < length t.nodes → path_at (with_split t i j b) k ≡ path_at t k
    path_kept k h = same_path (branch_at t) (downwards t tree) (branch_at (with_split t i j b)) (length t.nodes) branch_kept k k h

    box_kept : (k : ℕ) → k < length t.nodes → box_at (with_split t i j b) k ≡ box_at t k
    box_kept k h = ap (λ path. box_along path 0 t.root) (path_kept k h)

    -- each branch of the new tree comes from a smaller number
    new_downwards : (k : ℕ) (c : Branch) → branch_at (with_split t i j b) k ≡ Some c → c.parent < k
    new_downwards k c e = elim (cases_lt k (length t.nodes)) [
      | inl l ↦ downwards t tree k c (sym (branch_kept k l) ∙ e)
      | inr l ↦ elim (cases_lt k (length t.nodes + 1)) [
        | inl g ↦
            (let z : k ≡ length t.nodes = omega (arith, l, g) in
            let q : Some c ≡ Some (left_branch i j b) = sym e ∙ ap (branch_at (with_split t i j b)) z ∙ branch_left in
            let y : c ≡ left_branch i j b = cc in
            omega (arith, ap (λ (d : Branch). d.parent) y, z, there))
        | inr g ↦ elim (cases_lt k (length t.nodes + 2)) [
          | inl f ↦
              (let z : k ≡ length t.nodes + 1 = omega (arith, g, f) in
              let q : Some c ≡ Some (right_branch i j b) = sym e ∙ ap (branch_at (with_split t i j b)) z ∙ branch_right in
              let y : c ≡ right_branch i j b = cc in
              omega (arith, ap (λ (d : Branch). d.parent) y, z, there))
          | inr f ↦
              (let n = no_branch (with_split t i j b) k (omega (arith, f, length-split)) in
              let f : ⊥ = cc in
              absurd f)
        ]
      ]
    ]

    left_box : box_at (with_split t i j b) (length t.nodes) ≡ cut_high (box_at t i) j b
    left_box =
        ap (λ path. box_along path 0 t.root) (path_child (branch_at (with_split t i j b)) new_downwards (length t.nodes) (left_branch i j b) branch_left ∙ ap (λ ss. (length t.nodes, left_branch i j b) ∷ ss) (path_kept i there))
        ∙ box_cut (length t.nodes) (left_branch i j b) (path_at t i) t.root

    right_box : box_at (with_split t i j b) (length t.nodes + 1) ≡ cut_low (box_at t i) j (b +ℤ pos 1)
    right_box =
        ap (λ path. box_along path 0 t.root) (path_child (branch_at (with_split t i j b)) new_downwards (length t.nodes + 1) (right_branch i j b) branch_right ∙ ap (λ ss. (length t.nodes + 1, right_branch i j b) ∷ ss) (path_kept i there))
        ∙ box_cut (length t.nodes + 1) (right_branch i j b) (path_at t i) t.root

    pub split_at : IsSplitAt t i j b
    split_at = record { path_kept = path_kept; box_kept = box_kept; left = left_box; right = right_box }

    -- ---- the conditions of a tree
    module _ (leaf : children_at t i ≡ None) (column : j < length t.root) (inside : ForSome (slice_get (box_at t i) j) (λ s. (s.lo ≤ℤ b) × (b <ℤ s.hi))) where
      new_children : children_at (with_split t i j b) i ≡ Some (length t.nodes, length t.nodes + 1)
      new_children = ap (λ (n : Node). option_map (λ (k : ℕ). (k, k + 1)) n.first_child) (this_node i there refl)

      old_child : (p k : ℕ) → p < length t.nodes → IsChildOf t p k → IsChildOf (with_split t i j b) p k
      old_child p k l h = elim (same_or_not p) [
        | inl e ↦
            (let none : children_at t p ≡ None = ap (children_at t) e ∙ leaf in
            absurd (subst (λ (o : Option (ℕ × ℕ)). IsSomeAnd o (λ c. (k ≡ c.0) ⊎ (k ≡ c.1))) none h))
        | inr n ↦
            subst (λ (o : Option (ℕ × ℕ)). IsSomeAnd o (λ c. (k ≡ c.0) ⊎ (k ≡ c.1)))
            (sym (ap (λ (n : Node). option_map (λ (k : ℕ). (k, k + 1)) n.first_child) (other_node p l n))) h
      ]

      new_child : (k : ℕ) → (k ≡ length t.nodes) ⊎ (k ≡ length t.nodes + 1) → IsChildOf (with_split t i j b) i k
      new_child k h = subst (λ (o : Option (ℕ × ℕ)). IsSomeAnd o (λ c. (k ≡ c.0) ⊎ (k ≡ c.1))) (sym new_children) h

      column_there : j < length (box_at t i)
      column_there = omega (arith, column, length-box (path_at t i) 0 t.root)

      left_inside : IsInside (box_at (with_split t i j b) i) (left_branch i j b)
      left_inside = subst (λ ss. IsInside ss (left_branch i j b)) (sym (box_kept i there)) (record { there = column_there; inside = inside })

      right_inside : IsInside (box_at (with_split t i j b) i) (right_branch i j b)
      right_inside = subst (λ ss. IsInside ss (right_branch i j b)) (sym (box_kept i there)) (record {
        there = column_there;
        inside = λ s e. let h = inside s e in (omega (arith, ints, h.0), omega (arith, ints, h.1));
      })

      old_reached : (k : ℕ) → 0 < k → k < length t.nodes → IsReached (with_split t i j b) k
      old_reached k h l =
          let r = tree.reached k h l in
          record {
            branch = r.branch;
            reached = branch_kept k l ∙ r.reached;
            downwards = r.downwards;
            child = old_child r.branch.parent k (omega (arith, l, r.downwards)) r.child;
            inside = subst (λ ss. IsInside ss r.branch) (sym (box_kept r.branch.parent (omega (arith, l, r.downwards)))) r.inside;
          }

      left_reached : IsReached (with_split t i j b) (length t.nodes)
      left_reached = record { branch = left_branch i j b; reached = branch_left; downwards = there; child = new_child (length t.nodes) (inl refl); inside = left_inside }

      right_reached : IsReached (with_split t i j b) (length t.nodes + 1)
      right_reached = record {
        branch = right_branch i j b;
        reached = branch_right;
        downwards = omega (arith, there);
        child = new_child (length t.nodes + 1) (inr refl);
        inside = right_inside;
      }

      new_reached : (k : ℕ) → 0 < k → k < length (with_split t i j b).nodes → IsReached (with_split t i j b) k
      new_reached k h l = elim (cases_lt k (length t.nodes)) [
        | inl f ↦ old_reached k h f
        | inr f ↦ elim (cases_lt k (length t.nodes + 1)) [
          | inl g ↦ subst (IsReached (with_split t i j b)) (omega (arith, f, g)) left_reached
          | inr g ↦ subst (IsReached (with_split t i j b)) (omega (arith, f, g, l, length-split)) right_reached
        ]
      ]

      -- children of a node that was there
      old_family : (p k : ℕ) → AreChildrenOf t p k → AreChildrenOf (with_split t i j b) p k
      old_family p k a = record {
        column = a.column;
        bound = a.bound;
        left = branch_kept k (reached_by t tree k _ a.left).there ∙ a.left;
        right = branch_kept (k + 1) (reached_by t tree (k + 1) _ a.right).there ∙ a.right;
      }

      this_family : (k : ℕ) → length t.nodes ≡ k → AreChildrenOf (with_split t i j b) i k
      this_family k e = subst (AreChildrenOf (with_split t i j b) i) e (record { column = j; bound = b; left = branch_left; right = branch_right })

      no_children : (p : ℕ) → length t.nodes ≤ p → (node_at (with_split t i j b) p).first_child ≡ None
      no_children p h = elim (cases_lt p (length t.nodes + 1)) [
        | inl g ↦ ap (λ m. (node_at (with_split t i j b) m).first_child) (let z : p ≡ length t.nodes = omega (arith, h, g) in z) ∙ ap (λ (n : Node). n.first_child) left_node
        | inr g ↦ elim (cases_lt p (length t.nodes + 2)) [
          | inl f ↦ ap (λ m. (node_at (with_split t i j b) m).first_child) (let z : p ≡ length t.nodes + 1 = omega (arith, f, g) in z) ∙ ap (λ (n : Node). n.first_child) right_node
          | inr f ↦ ap (λ (n : Node). n.first_child) (get_or_past (with_split t i j b).nodes p no_node (omega (arith, f, length-split)))
        ]
      ]

      new_families : (p k : ℕ) → (node_at (with_split t i j b) p).first_child ≡ Some k → AreChildrenOf (with_split t i j b) p k
      new_families p k e = elim (cases_lt p (length t.nodes)) [
        | inl l ↦ elim (same_or_not p) [
          | inl s ↦
              (let q : Some (length t.nodes) ≡ Some k = sym (ap (λ (n : Node). n.first_child) (this_node p l s)) ∙ e in
              let z : length t.nodes ≡ k = cc in
              subst (λ m. AreChildrenOf (with_split t i j b) m k) (sym s) (this_family k z))
          | inr n ↦ old_family p k (tree.children p k (sym (ap (λ (n : Node). n.first_child) (other_node p l n)) ∙ e))
        ]
        | inr l ↦ (let n = no_children p l in let f : ⊥ = cc in absurd f)
      ]

      pub split_is_tree : IsTree (with_split t i j b)
      split_is_tree = record {
        root_there = omega (arith, length-split);
        root = branch_kept 0 tree.root_there ∙ tree.root;
        reached = new_reached;
        children = new_families;
      }

pub splits_share : (t : Tree) → IsTree t → SplitsShareBoxes t
splits_share t tree i j b there = split_at t i j b tree there
