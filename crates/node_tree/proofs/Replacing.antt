-- The bounds that branches replaced, after a split.
use Rattle.std.specs.Prelude.{◌≡◌, ◌<◌, ◌≤◌, ◌+◌, ◌-◌, ℕ, ℤ, ◌≤ℤ◌, ◌<ℤ◌, pos, List, [], ◌∷◌, ◌++◌, length, None, Some, slice_get, slice_set, slice_index_or, refl}
use Rattle.std.specs.Option.{ForSome}
use Rattle.std.proofs.Common.{sym, ap, ◌∙◌, subst, inl, inr, arith}
use Rattle.std.proofs.lemmas.Bool.{cases_lt}
use Rattle.std.proofs.lemmas.List.{get_or_append_left, get_or-append_right, get_or-map, length-map, map-append, map-set}
use Rattle.std.proofs.Math.Seq.{map-set_same}
use Rattle.problem_box.specs.declared.span.Span.{Span}
use Rattle.node_tree.specs.declared.branch.Branch.{Branch}
use Rattle.node_tree.specs.declared.nodes.Entry.{Entry}
use Rattle.node_tree.specs.Limits.{most_nodes}
use Rattle.node_tree.specs.Nodes.{Tree, no_node, branch_at, children_at}
use Rattle.node_tree.specs.Paths.{box_at, bound_on}
use Rattle.node_tree.specs.Splits.{left_branch, right_branch, leaf_of, with_split}
use Rattle.node_tree.specs.Trees.{IsTree}
use Rattle.node_tree.specs.Entries.{nodes_of, replaced_of}
use Rattle.node_tree.specs.Replaced.{IsReplacedBy, AreReplaced, IsKept}
use Rattle.node_tree.specs.Lemmas.Insides.{downwards, no_branch}
use Rattle.node_tree.specs.Lemmas.Splitting.{length-split, branch_kept, branch_left, branch_right, split_at, split_is_tree}

module _ (t : Tree) (tree : IsTree t) (i j : ℕ) (b : ℤ) (there : i < length t.nodes) where
  abbrev new_tree : Tree
  new_tree = with_split t i j b

  box_kept : (k : ℕ) → k < length t.nodes → box_at new_tree k ≡ box_at t k
  box_kept = (split_at t i j b tree there).box_kept

  kept_bound : (c : Branch) (z : ℤ) → c.parent < length t.nodes → IsReplacedBy t c z → IsReplacedBy new_tree c z
  kept_bound c z l h = subst (λ (ss : List Span). ForSome (slice_get ss c.column) (λ (s : Span). z ≡ bound_on c.side s)) (sym (box_kept c.parent l)) h

  module _ (s : Span) (span : slice_get (box_at t i) j ≡ Some s) where
    new_bound : (c : Branch) → c.parent ≡ i → c.column ≡ j → IsReplacedBy new_tree c (bound_on c.side s)
    new_bound c e q = λ r h.
        let here : slice_get (box_at new_tree c.parent) c.column ≡ slice_get (box_at new_tree i) j = λ k. slice_get (box_at new_tree (e k)) (q k) in
        let same : slice_get (box_at t i) j ≡ Some r = ap (λ (ss : List Span). slice_get ss j) (sym (box_kept i there)) ∙ sym here ∙ h in
        let both : Some s ≡ Some r = sym span ∙ same in
        let z : s ≡ r = cc in
        ap (bound_on c.side) z

    module _ (zs : List ℤ) (len : length zs ≡ length t.nodes) where
      abbrev new_bounds : List ℤ
      new_bounds = zs ++ s.hi ∷ s.lo ∷ []

      old_there : (k : ℕ) → k < length t.nodes → slice_index_or new_bounds k (pos 0) ≡ slice_index_or zs k (pos 0)
      old_there k h = get_or_append_left zs (s.hi ∷ s.lo ∷ []) (pos 0) k (omega (arith, h, len))

      left_there : slice_index_or new_bounds (length t.nodes) (pos 0) ≡ s.hi
      left_there =
          let first : length t.nodes - length t.nodes ≡ 0 = omega arith in
          get_or-append_right zs (s.hi ∷ s.lo ∷ []) (length t.nodes) (length t.nodes) (pos 0) len (omega arith)
          ∙ ap (λ (m : ℕ). slice_index_or (s.hi ∷ s.lo ∷ []) m (pos 0)) first

      right_there : slice_index_or new_bounds (length t.nodes + 1) (pos 0) ≡ s.lo
      right_there =
          let second : length t.nodes + 1 - length t.nodes ≡ 1 = omega arith in
          get_or-append_right zs (s.hi ∷ s.lo ∷ []) (length t.nodes) (length t.nodes + 1) (pos 0) len (omega arith)
          ∙ ap (λ (m : ℕ). slice_index_or (s.hi ∷ s.lo ∷ []) m (pos 0)) second

      left_bound : (c : Branch) → c ≡ left_branch i j b → IsReplacedBy new_tree c s.hi
      left_bound c e = subst (λ (d : Branch). IsReplacedBy new_tree d s.hi) (sym e) (new_bound (left_branch i j b) refl refl)

      right_bound : (c : Branch) → c ≡ right_branch i j b → IsReplacedBy new_tree c s.lo
      right_bound c e = subst (λ (d : Branch). IsReplacedBy new_tree d s.lo) (sym e) (new_bound (right_branch i j b) refl refl)

      pub replaced_split : AreReplaced t zs → AreReplaced new_tree new_bounds
      replaced_split h k c e = elim (cases_lt k (length t.nodes)) [
        | inl l ↦
            (let q : branch_at t k ≡ Some c = sym (branch_kept t i j b k l) ∙ e in
            let below : c.parent < length t.nodes = omega (arith, downwards t tree k c q, l) in
            subst (IsReplacedBy new_tree c) (sym (old_there k l)) (kept_bound c (slice_index_or zs k (pos 0)) below (h k c q)))
        | inr l ↦ elim (cases_lt k (length t.nodes + 1)) [
          | inl g ↦
              (let z : k ≡ length t.nodes = omega (arith, l, g) in
              let q : Some c ≡ Some (left_branch i j b) = sym e ∙ ap (branch_at new_tree) z ∙ branch_left t i j b in
              let y : c ≡ left_branch i j b = cc in
              subst (IsReplacedBy new_tree c) (sym left_there ∙ ap (λ (m : ℕ). slice_index_or new_bounds m (pos 0)) (sym z)) (left_bound c y))
          | inr g ↦ elim (cases_lt k (length t.nodes + 2)) [
            | inl f ↦
                (let z : k ≡ length t.nodes + 1 = omega (arith, g, f) in
                let q : Some c ≡ Some (right_branch i j b) = sym e ∙ ap (branch_at new_tree) z ∙ branch_right t i j b in
                let y : c ≡ right_branch i j b = cc in
                subst (IsReplacedBy new_tree c) (sym right_there ∙ ap (λ (m : ℕ). slice_index_or new_bounds m (pos 0)) (sym z)) (right_bound c y))
            | inr f ↦
                (let n = no_branch new_tree k (omega (arith, f, length-split t i j b)) in
                let f : ⊥ = cc in
                absurd f)
          ]
        ]
      ]

      pub split_kept : IsKept t zs → children_at t i ≡ None → j < length t.root → s.lo ≤ℤ b → b <ℤ s.hi → length t.nodes + 2 ≤ most_nodes → IsKept new_tree new_bounds
      split_kept h leaf column low high few =
          let inside : ForSome (slice_get (box_at t i) j) (λ (r : Span). (r.lo ≤ℤ b) × (b <ℤ r.hi)) = λ r e. let q : Some s ≡ Some r = sym span ∙ e in let z : s ≡ r = cc in subst (λ (v : Span). (v.lo ≤ℤ b) × (b <ℤ v.hi)) z (low, high) in
          record {
            tree = split_is_tree t i j b tree there leaf column inside;
            few = omega (arith, few, length-split t i j b);
            replaced = replaced_split h.replaced;
          }

-- ---- lists of entries
module _ (es : List Entry) (i : ℕ) (e l r : Entry) where
  split_nodes : nodes_of (slice_set es i e ++ l ∷ r ∷ []) ≡ slice_set (nodes_of es) i e.node ++ l.node ∷ r.node ∷ []
  split_nodes = map-append (λ (e : Entry). e.node) (slice_set es i e) (l ∷ r ∷ []) ∙ ap (λ ns. ns ++ l.node ∷ r.node ∷ []) (map-set (λ (e : Entry). e.node) es i e)

  pub split_bounds : (d : Entry) → e.replaced ≡ (slice_index_or es i d).replaced → replaced_of (slice_set es i e ++ l ∷ r ∷ []) ≡ replaced_of es ++ l.replaced ∷ r.replaced ∷ []
  split_bounds d q = map-append (λ (e : Entry). e.replaced) (slice_set es i e) (l ∷ r ∷ []) ∙ ap (λ zs. zs ++ l.replaced ∷ r.replaced ∷ []) (map-set_same (λ (e : Entry). e.replaced) es i e d q)

-- the tree of the entries after a split, where the parent's entry has the number of its first child, and the two new ones follow
module _ (root : List Span) (es new : List Entry) (room new_room first i j : ℕ) (b : ℤ) (p l r : Entry) where
  abbrev pub split_parent : Entry
  split_parent = record { node = record { branch = p.node.branch; first_child = Some first }; replaced = p.replaced }

  pub split_tree : i < length es → p ≡ slice_index_or es i p → first ≡ length es → new_room ≡ room - 1 → l.node ≡ leaf_of (left_branch i j b) → r.node ≡ leaf_of (right_branch i j b)
      → new ≡ slice_set es i split_parent ++ l ∷ r ∷ []
      → record { root = root; nodes = nodes_of new; room = new_room } ≡ with_split (record { root = root; nodes = nodes_of es; room = room }) i j b
  split_tree there value count less left right items =
      let parent : p.node ≡ slice_index_or (nodes_of es) i no_node = ap (λ (e : Entry). e.node) value ∙ sym (get_or-map (λ (e : Entry). e.node) es i p no_node there) in
      let number : first ≡ length (nodes_of es) = count ∙ sym (length-map es (λ (e : Entry). e.node)) in
      let nodes = ap nodes_of items ∙ split_nodes es i split_parent l r in
      (λ k. record { root = root; nodes = nodes k; room = less k })
      ∙ (λ k. record { root = root; nodes = slice_set (nodes_of es) i (record { branch = (parent k).branch; first_child = Some (number k) }) ++ left k ∷ right k ∷ []; room = room - 1 })

-- the box of the node that is split stays
pub box_stays : (t new : Tree) → IsTree t → (i j : ℕ) (b : ℤ) → i < length t.nodes → new ≡ with_split t i j b → (i < length new.nodes) × (box_at new i ≡ box_at t i)
box_stays t new tree i j b there e =
    let more : i < length (with_split t i j b).nodes = omega (arith, there, length-split t i j b) in
    subst (λ (u : Tree). (i < length u.nodes) × (box_at u i ≡ box_at t i)) (sym e) (more, (split_at t i j b tree there).box_kept i there)
