-- The boxes of a tree after a split, where each branch comes from a smaller number.
use Rattle.std.specs.Prelude.{◌≡◌, ◌<◌, ◌+◌, ◌-◌, ℕ, ℤ, pos, ◌+ℤ◌, List, [], ◌∷◌, length, Some, slice_set, slice_index_or}
use Rattle.std.proofs.Common.{sym, ap, ◌∙◌, inl, inr, arith}
use Rattle.std.proofs.lemmas.Bool.{cases_lt}
use Rattle.std.proofs.lemmas.List.{length-set, get_or-append_right}
use Rattle.problem_box.specs.Changes.{cut_low, cut_high}
use Rattle.node_tree.specs.declared.branch.Branch.{Branch}
use Rattle.node_tree.specs.declared.branch.Node.{Node}
use Rattle.node_tree.specs.Nodes.{Tree, no_node, node_at, branch_at}
use Rattle.node_tree.specs.Paths.{box_along, path_at, box_at}
use Rattle.node_tree.specs.Splits.{left_branch, right_branch, leaf_of, with_split}
use Rattle.node_tree.specs.Lemmas.Paths.{path_child, same_path}
use Rattle.node_tree.specs.Lemmas.Boxes.{box_cut}
use Rattle.node_tree.specs.Lemmas.Insides.{no_branch}
use Rattle.node_tree.specs.Lemmas.Splitting.{length-split, branch_kept}

-- each branch comes from a smaller number
abbrev pub AreDownwards : Tree → Type 0
AreDownwards t = (i : ℕ) (b : Branch) → branch_at t i ≡ Some b → b.parent < i

module _ (t : Tree) (i j : ℕ) (b : ℤ) where
  abbrev grown : Tree
  grown = with_split t i j b

  abbrev both : List Node
  both = leaf_of (left_branch i j b) ∷ leaf_of (right_branch i j b) ∷ []

  abbrev old_nodes : List Node
  old_nodes = slice_set t.nodes i (record (node_at t i) { first_child = Some (length t.nodes) })

  long : length old_nodes ≡ length t.nodes
  long = length-set t.nodes i (record (node_at t i) { first_child = Some (length t.nodes) })

  at_left : branch_at grown (length t.nodes) ≡ Some (left_branch i j b)
  at_left =
      let first : length t.nodes - length t.nodes ≡ 0 = omega arith in
      ap (λ (n : Node). n.branch) (get_or-append_right old_nodes both (length t.nodes) (length t.nodes) no_node long (omega arith) ∙ ap (λ m. slice_index_or both m no_node) first)

  at_right : branch_at grown (length t.nodes + 1) ≡ Some (right_branch i j b)
  at_right =
      let second : length t.nodes + 1 - length t.nodes ≡ 1 = omega arith in
      ap (λ (n : Node). n.branch) (get_or-append_right old_nodes both (length t.nodes) (length t.nodes + 1) no_node long (omega arith) ∙ ap (λ m. slice_index_or both m no_node) second)

  module _ (down : AreDownwards t) (there : i < length t.nodes) where
    pub still_downwards : AreDownwards grown
    still_downwards k c e = elim (cases_lt k (length t.nodes)) [
      | inl l ↦ down k c (sym (branch_kept t i j b k l) ∙ e)
      | inr l ↦ elim (cases_lt k (length t.nodes + 1)) [
        | inl g ↦
            (let z : k ≡ length t.nodes = omega (arith, l, g) in
            let q : Some c ≡ Some (left_branch i j b) = sym e ∙ ap (branch_at grown) z ∙ at_left in
            let y : c ≡ left_branch i j b = cc in
            omega (arith, ap (λ (d : Branch). d.parent) y, z, there))
        | inr g ↦ elim (cases_lt k (length t.nodes + 2)) [
          | inl f ↦
              (let z : k ≡ length t.nodes + 1 = omega (arith, g, f) in
              let q : Some c ≡ Some (right_branch i j b) = sym e ∙ ap (branch_at grown) z ∙ at_right in
              let y : c ≡ right_branch i j b = cc in
              omega (arith, ap (λ (d : Branch). d.parent) y, z, there))
          | inr f ↦
              (let n = no_branch grown k (omega (arith, f, length-split t i j b)) in
              let f : ⊥ = cc in
              absurd f)
        ]
      ]
    ]

    path_kept : (k : ℕ) → k < length t.nodes → path_at grown k ≡ path_at t k
    path_kept k h = same_path (branch_at t) down (branch_at grown) (length t.nodes) (branch_kept t i j b) k k h

    pub box_kept : (k : ℕ) → k < length t.nodes → box_at grown k ≡ box_at t k
    box_kept k h = ap (λ path. box_along path 0 t.root) (path_kept k h)

    pub left_box : box_at grown (length t.nodes) ≡ cut_high (box_at t i) j b
    left_box =
        ap (λ path. box_along path 0 t.root) (path_child (branch_at grown) still_downwards (length t.nodes) (left_branch i j b) at_left ∙ ap (λ ss. (length t.nodes, left_branch i j b) ∷ ss) (path_kept i there))
        ∙ box_cut (length t.nodes) (left_branch i j b) (path_at t i) t.root

    pub right_box : box_at grown (length t.nodes + 1) ≡ cut_low (box_at t i) j (b +ℤ pos 1)
    right_box =
        ap (λ path. box_along path 0 t.root) (path_child (branch_at grown) still_downwards (length t.nodes + 1) (right_branch i j b) at_right ∙ ap (λ ss. (length t.nodes + 1, right_branch i j b) ∷ ss) (path_kept i there))
        ∙ box_cut (length t.nodes + 1) (right_branch i j b) (path_at t i) t.root
