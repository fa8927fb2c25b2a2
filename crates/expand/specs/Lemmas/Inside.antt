-- Lemmas: the boxes of a tree's nodes lie in the root's box.
use Rattle.std.specs.Prelude.{◌≡◌, ℕ, zero, suc, ℤ, List, [], ◌∷◌, All, length, slice_get, refl}
use Rattle.std.specs.Option.{ForSome}
use Rattle.std.proofs.Common.{subst, arith}
use Rattle.std.proofs.lemmas.Int.{ints}
use Rattle.problem_box.specs.declared.span.Span.{Span}
use Rattle.problem_box.specs.Boxes.{IsInBox}
use Rattle.problem_box.specs.Changes.{cut_low, cut_high}
use Rattle.problem.specs.Limited.{IsModestSpan, IsLimited}
use Rattle.problem.specs.Limits.{largest_bound}
use Rattle.node_tree.specs.declared.branch.Side.{Side}
use Rattle.node_tree.specs.declared.branch.Side.TheVariants.{Low, High}
use Rattle.node_tree.specs.declared.branch.Branch.{Branch}
use Rattle.node_tree.specs.Paths.{box_along, path_at}
use Rattle.node_tree.specs.Cuts.{IsCutInside, AreInside, cut_on}
use Rattle.node_tree.specs.Trees.{IsTree}
use Rattle.node_tree.specs.Laws.{AreBoxes}
use Rattle.node_tree.specs.Lemmas.Boxes.{box_of_root, box_cut}
use Rattle.node_tree.specs.Lemmas.Insides.{inside_path, boxes_cut}
use Rattle.event_core.specs.States.{State, tree_of, box_of}
use Rattle.expand.specs.Verdicts.{IsPart}

-- ---- points of a cut box
in_cut_high : (ss : List Span) (j : ℕ) (b : ℤ) (xs : List ℤ) → ForSome (slice_get ss j) (IsCutInside High b) → IsInBox (cut_high ss j b) xs → IsInBox ss xs
in_cut_high [] j b xs h k = k
in_cut_high (s ∷ ss) zero b [] h k = absurd k
in_cut_high (s ∷ ss) zero b (x ∷ xs) h k = let l = h s refl in ((k.0.0, omega (arith, ints, k.0.1, l.1)), k.1)
in_cut_high (s ∷ ss) (suc j) b [] h k = absurd k
in_cut_high (s ∷ ss) (suc j) b (x ∷ xs) h k = (k.0, in_cut_high ss j b xs h k.1)

in_cut_low : (ss : List Span) (j : ℕ) (b : ℤ) (xs : List ℤ) → ForSome (slice_get ss j) (IsCutInside Low b) → IsInBox (cut_low ss j b) xs → IsInBox ss xs
in_cut_low [] j b xs h k = k
in_cut_low (s ∷ ss) zero b [] h k = absurd k
in_cut_low (s ∷ ss) zero b (x ∷ xs) h k = let l = h s refl in ((omega (arith, ints, k.0.0, l.0), k.0.1), k.1)
in_cut_low (s ∷ ss) (suc j) b [] h k = absurd k
in_cut_low (s ∷ ss) (suc j) b (x ∷ xs) h k = (k.0, in_cut_low ss j b xs h k.1)

uncut : (side : Side) (ss : List Span) (j : ℕ) (b : ℤ) (xs : List ℤ) → ForSome (slice_get ss j) (IsCutInside side b) → IsInBox (cut_on side ss j b) xs → IsInBox ss xs
uncut Low ss j b xs h k = in_cut_low ss j b xs h k
uncut High ss j b xs h k = in_cut_high ss j b xs h k

-- ---- boxes along a path
along_in : (root : List Span) (path : List (ℕ × Branch)) → AreInside root path → (xs : List ℤ) → IsInBox (box_along path 0 root) xs → IsInBox root xs
along_in root [] h xs k = subst (λ ss. IsInBox ss xs) (box_of_root 0 root) k
along_in root (s ∷ path) h xs k =
    let b = s.1 in
    along_in root path h.1 xs (uncut b.side (box_along path 0 root) b.column b.bound xs h.0.inside (subst (λ ss. IsInBox ss xs) (box_cut s.0 b path root) k))

-- ---- the boxes of a state
module _ (s : State) (tree : IsTree (tree_of s)) (i : ℕ) where
  boxes : AreBoxes (tree_of s)
  boxes = boxes_cut (tree_of s) tree

  pub box_columns : length (box_of s i) ≡ length s.problem.spans
  box_columns = boxes.columns i

  pub box_modest : IsLimited s.problem → All IsModestSpan (box_of s i)
  box_modest l = boxes.within largest_bound l.spans i

  pub box_part : IsPart s.problem (box_of s i)
  box_part = λ x k. along_in s.problem.spans (path_at (tree_of s) i) (inside_path (tree_of s) tree i) x k
