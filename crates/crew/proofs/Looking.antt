-- What a worker knows of its node and of the cuts, once a gate told it.
use Rattle.std.specs.Prelude.{◌≡◌, ◌<◌, ◌≤◌, ◌+◌, ℕ, List, [], ◌∷◌, ◌++◌, length, drop, All, Option, Some, None, IfSome, refl}
use Rattle.std.specs.Option.{option_map}
use Rattle.std.specs.Ordering.{nat_cmp}
use Rattle.std.specs.BTreeMap.{get}
use Rattle.std.proofs.Common.{sym, ap, ◌∙◌, subst, arith, append_assoc}
use Rattle.std.proofs.Math.Seq.{drop-append_seam}
use Rattle.std.proofs.lemmas.List.{length-append, append-nil}
use Rattle.std.proofs.lemmas.Option.{MatchOption-from_none}
use Rattle.fraction.specs.Rational.{ℚ}
use Rattle.problem.specs.Limited.{IsModestSpan, IsLimited}
use Rattle.problem.specs.Problem.{Problem}
use Rattle.problem.specs.Limits.{most_cuts}
use Rattle.node_tree.specs.declared.branch.Branch.{Branch}
use Rattle.node_tree.specs.Nodes.{Tree, branch_at}
use Rattle.node_tree.specs.Trees.{IsTree}
use Rattle.node_tree.specs.Lemmas.Insides.{reached_by, boxes_cut}
use Rattle.derivation_book.specs.declared.cut.Cut.{Cut}
use Rattle.derivation_book.specs.Cuts.{AreCutsAfter, AreCutsOf}
use Rattle.event_core.specs.States.{State, tree_of}
use Rattle.expand.specs.declared.origin.Origin.{Origin}
use Rattle.expand.specs.Verdicts.{IsPart}
use Rattle.expand.specs.Lemmas.Inside.{box_columns, box_modest, box_part}
use Rattle.crew.specs.declared.node_view.NodeView.{NodeView}
use Rattle.crew.specs.declared.split_values.SplitValues.{SplitValues}
use Rattle.crew.specs.Origins.{side_of, origin_in}
use Rattle.crew.specs.Workers.{HasFirst, IsViewOf, IsNodeOf}

-- ---- cuts
-- of cuts made one after another the later ones were made after the first
pub cuts_after : (p : Problem) (before xs ys : List Cut) → AreCutsAfter p before (xs ++ ys) → AreCutsAfter p (before ++ xs) ys
cuts_after p before [] ys h = subst (λ (l : List Cut). AreCutsAfter p l ys) (sym (append-nil before)) h
cuts_after p before (x ∷ xs) ys h = subst (λ (l : List Cut). AreCutsAfter p l ys) (append_assoc before (x ∷ []) xs) (cuts_after p (before ++ x ∷ []) xs ys h.1)

module _ (cs : List Cut) (s : State) (first : HasFirst cs s) where
  pub told_rest : drop (length cs) s.cuts ≡ first.0
  told_rest = ap (drop (length cs)) first.1 ∙ drop-append_seam cs first.0

  pub rest_after : AreCutsOf s.problem s.cuts → AreCutsAfter s.problem cs first.0
  rest_after h = cuts_after s.problem [] cs first.0 (subst (AreCutsOf s.problem) first.1 h)

  pub rest_few : length s.cuts ≤ most_cuts → length cs + length first.0 ≤ most_cuts
  rest_few h = omega (arith, h, ap (λ (l : List Cut). length l) first.1, length-append cs first.0)

-- ---- nodes
in_column : (t : Tree) → IsTree t → (i : ℕ) (o : Option Branch) → o ≡ branch_at t i → IfSome o (λ (b : Branch). b.column < length t.root)
in_column t tree i None e = MatchOption-from_none None (λ (b : Branch). b.column < length t.root) refl
in_column t tree i (Some b) e = let r = reached_by t tree i b (sym e) in subst (λ n. b.column < n) ((boxes_cut t tree).columns b.parent) r.inside.there

pub node_of : (s : State) (i : ℕ) (v : NodeView) → IsTree (tree_of s) → IsLimited s.problem → IsViewOf s i v → IsNodeOf s.problem v
node_of s i v tree limited view = record {
  columns = ap length view.area ∙ box_columns s tree i;
  modest = subst (All IsModestSpan) (sym view.area) (box_modest s tree i limited);
  part = subst (IsPart s.problem) (sym view.area) (box_part s tree i);
  branch = in_column (tree_of s) tree i v.branch view.branch;
}

-- ---- origins
pub origin_column : (s : SplitValues) (o : Option Branch) (n : ℕ) → IfSome o (λ (b : Branch). b.column < n) → IfSome (origin_in s o) (λ (g : Origin). g.column < n)
origin_column s None n h = MatchOption-from_none (origin_in s None) (λ (g : Origin). g.column < n) refl
origin_column s (Some b) n h = step (get nat_cmp s.values b.parent)
  where
    step : (r : Option ℚ) → IfSome (option_map (λ v. record { column = b.column; side = side_of b.side; value = v }) r) (λ (g : Origin). g.column < n)
    step None = MatchOption-from_none None (λ (g : Origin). g.column < n) refl
    step (Some v) = h
