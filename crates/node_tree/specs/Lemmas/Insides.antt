-- Lemmas: the paths of a tree: what its conditions say of each branch, and of the box that the branch cuts.
use Rattle.std.specs.Prelude.{◌≡◌, ◌<◌, ◌≤◌, ℕ, zero, suc, ℤ, List, [], ◌∷◌, length, All, Option, Some, None, slice_get, refl}
use Rattle.std.specs.Option.{ForSome}
use Rattle.std.proofs.Common.{sym, ap, ◌∙◌, subst, inl, inr, arith}
use Rattle.std.proofs.lemmas.Int.{ints}
use Rattle.std.proofs.lemmas.Bool.{cases_lt}
use Rattle.std.proofs.lemmas.List.{get_or_past}
use Rattle.std.proofs.lemmas.List.Elements.{All-nil, All-cons, All-head, All-tail}
use Rattle.problem_box.specs.declared.span.Span.{Span}
use Rattle.problem_box.specs.Changes.{cut_low, cut_high}
use Rattle.node_tree.specs.declared.branch.Side.{Side}
use Rattle.node_tree.specs.declared.branch.Side.TheVariants.{Low, High}
use Rattle.node_tree.specs.declared.branch.Branch.{Branch}
use Rattle.node_tree.specs.declared.branch.Node.{Node}
use Rattle.node_tree.specs.Nodes.{Tree, no_node, branch_at}
use Rattle.node_tree.specs.Paths.{box_along, path_at, box_at}
use Rattle.node_tree.specs.Cuts.{IsCutInside, IsInside, AreInside, cut_on, cut_by}
use Rattle.node_tree.specs.Trees.{IsChildOf, IsTree}
use Rattle.node_tree.specs.Laws.{IsSpanWithin, AreBoxes}
use Rattle.node_tree.specs.Lemmas.Paths.{path_end, path_child}
use Rattle.node_tree.specs.Lemmas.Boxes.{box_of_root, length-box, box_cut}

-- this branch leads to node i
pub record IsReachedBy (t : Tree) (i : ℕ) (b : Branch) : Type 0 where
  pub above : 0 < i
  pub there : i < length t.nodes
  pub downwards : b.parent < i
  pub child : IsChildOf t b.parent i
  pub inside : IsInside (box_at t b.parent) b

-- past the nodes no branch leads to a node
pub no_branch : (t : Tree) (i : ℕ) → length t.nodes ≤ i → branch_at t i ≡ None
no_branch t i h = ap (λ (n : Node). n.branch) (get_or_past t.nodes i no_node h)

pub reached_by : (t : Tree) → IsTree t → (i : ℕ) (b : Branch) → branch_at t i ≡ Some b → IsReachedBy t i b
reached_by t tree zero b e = let r = tree.root in let f : ⊥ = cc in absurd f
reached_by t tree (suc i) b e = elim (cases_lt (suc i) (length t.nodes)) [
  | inl l ↦
      (let r = tree.reached (suc i) (omega arith) l in
      let q : Some r.branch ≡ Some b = sym r.reached ∙ e in
      let z : r.branch ≡ b = cc in
      record {
        above = omega arith;
        there = l;
        downwards = subst (λ (c : Branch). c.parent < suc i) z r.downwards;
        child = subst (λ (c : Branch). IsChildOf t c.parent (suc i)) z r.child;
        inside = subst (λ (c : Branch). IsInside (box_at t c.parent) c) z r.inside;
      })
  | inr l ↦ (let n = no_branch t (suc i) l in let f : ⊥ = cc in absurd f)
]

pub downwards : (t : Tree) → IsTree t → (i : ℕ) (b : Branch) → branch_at t i ≡ Some b → b.parent < i
downwards t tree i b e = (reached_by t tree i b e).downwards

-- ---- the boxes on the way
pub child_box : (t : Tree) → IsTree t → (i : ℕ) (b : Branch) → branch_at t i ≡ Some b → box_at t i ≡ cut_by b (box_at t b.parent)
child_box t tree i b e = ap (λ path. box_along path 0 t.root) (path_child (branch_at t) (downwards t tree) i b e) ∙ box_cut i b (path_at t b.parent) t.root

inside_from : (t : Tree) → IsTree t → (n i : ℕ) → i ≤ n → AreInside t.root (path_at t i)
inside_from t tree zero zero h = tt
inside_from t tree zero (suc i) h = absurd (omega (arith, h))
inside_from t tree (suc n) i h = step (inside_from t tree n) (branch_at t i) refl
  where
    step : ((j : ℕ) → j ≤ n → AreInside t.root (path_at t j)) → (o : Option Branch) → branch_at t i ≡ o → AreInside t.root (path_at t i)
    step ih None e = subst (AreInside t.root) (sym (path_end (branch_at t) i i e)) tt
    step ih (Some b) e =
        let r = reached_by t tree i b e in
        subst (AreInside t.root) (sym (path_child (branch_at t) (downwards t tree) i b e)) (r.inside, ih b.parent (omega (arith, r.downwards, h)))

-- each branch of a path cuts the box above it inside
pub inside_path : (t : Tree) → IsTree t → (i : ℕ) → AreInside t.root (path_at t i)
inside_path t tree i = inside_from t tree i i (omega arith)

-- ---- sizes
low_within : (m : ℕ) (ss : List Span) (j : ℕ) (b : ℤ) → ForSome (slice_get ss j) (IsCutInside Low b) → All (IsSpanWithin m) ss → All (IsSpanWithin m) (cut_low ss j b)
low_within m [] j b h k = All-nil (IsSpanWithin m)
low_within m (s ∷ ss) zero b h k =
    let l = h s refl in
    let w = All-head (IsSpanWithin m) s ss k in
    All-cons (IsSpanWithin m) (record s { lo = b }) ss (omega (arith, ints, l.0, l.1, w.0, w.1), w.1) (All-tail (IsSpanWithin m) s ss k)
low_within m (s ∷ ss) (suc j) b h k =
    All-cons (IsSpanWithin m) s (cut_low ss j b) (All-head (IsSpanWithin m) s ss k) (low_within m ss j b h (All-tail (IsSpanWithin m) s ss k))

high_within : (m : ℕ) (ss : List Span) (j : ℕ) (b : ℤ) → ForSome (slice_get ss j) (IsCutInside High b) → All (IsSpanWithin m) ss → All (IsSpanWithin m) (cut_high ss j b)
high_within m [] j b h k = All-nil (IsSpanWithin m)
high_within m (s ∷ ss) zero b h k =
    let l = h s refl in
    let w = All-head (IsSpanWithin m) s ss k in
    All-cons (IsSpanWithin m) (record s { hi = b }) ss (w.0, omega (arith, ints, l.0, l.1, w.0, w.1)) (All-tail (IsSpanWithin m) s ss k)
high_within m (s ∷ ss) (suc j) b h k =
    All-cons (IsSpanWithin m) s (cut_high ss j b) (All-head (IsSpanWithin m) s ss k) (high_within m ss j b h (All-tail (IsSpanWithin m) s ss k))

cut_within : (m : ℕ) (ss : List Span) (side : Side) (j : ℕ) (b : ℤ) → ForSome (slice_get ss j) (IsCutInside side b) → All (IsSpanWithin m) ss → All (IsSpanWithin m) (cut_on side ss j b)
cut_within m ss Low j b h k = low_within m ss j b h k
cut_within m ss High j b h k = high_within m ss j b h k

along_within : (m : ℕ) (root : List Span) → All (IsSpanWithin m) root → (path : List (ℕ × Branch)) → AreInside root path → All (IsSpanWithin m) (box_along path 0 root)
along_within m root k [] h = subst (All (IsSpanWithin m)) (sym (box_of_root 0 root)) k
along_within m root k (s ∷ ss) h =
    subst (All (IsSpanWithin m)) (sym (box_cut s.0 s.1 ss root)) (cut_within m (box_along ss 0 root) s.1.side s.1.column s.1.bound h.0.inside (along_within m root k ss h.1))

-- ---- the law
pub boxes_cut : (t : Tree) → IsTree t → AreBoxes t
boxes_cut t tree = record {
  of_root = box_of_root 0 t.root;
  of_child = child_box t tree;
  columns = λ i. length-box (path_at t i) 0 t.root;
  within = λ m k i. along_within m t.root k (path_at t i) (inside_path t tree i);
}
