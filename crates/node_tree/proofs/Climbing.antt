-- Steps up a tree, and what they make of boxes.
use Rattle.std.specs.Prelude.{◌≡◌, ◌≢◌, ◌<◌, ℕ, zero, suc, ℤ, List, length, Option, Some, None, refl}
use Rattle.std.specs.Option.{option_map_or}
use Rattle.std.proofs.Common.{sym, ap, ◌∙◌, subst, arith}
use Rattle.problem_box.specs.declared.span.Span.{Span}
use Rattle.node_tree.specs.declared.branch.Branch.{Branch}
use Rattle.node_tree.specs.Nodes.{Tree, branch_at}
use Rattle.node_tree.specs.Paths.{box_at}
use Rattle.node_tree.specs.Cuts.{cut_on}
use Rattle.node_tree.specs.Trees.{IsTree}
use Rattle.node_tree.specs.Replaced.{IsReplacedBy}
use Rattle.node_tree.specs.Walks.{up, climbed, IsAbove, tightened, tightened_at}
use Rattle.node_tree.specs.Lemmas.Insides.{reached_by, child_box}
use Rattle.node_tree.proofs.Meets.{meet, IsBoxIn, meet_step, box_in_itself, box_in_box, tightened_in, cut_in, cut_back}

-- ---- numbers of nodes
module _ (t : Tree) where
  pub up_by : (i : ℕ) (b : Branch) → branch_at t i ≡ Some b → up t i ≡ b.parent
  up_by i b e = ap (λ o. option_map_or (λ (b : Branch). b.parent) o i) e

  pub up_none : (i : ℕ) → branch_at t i ≡ None → up t i ≡ i
  up_none i e = ap (λ o. option_map_or (λ (b : Branch). b.parent) o i) e

  climbed_more : (k i : ℕ) → climbed t (suc k) i ≡ up t (climbed t k i)
  climbed_more zero i = refl
  climbed_more (suc k) i = climbed_more k (up t i)

  -- the parent of a node above is above, too
  pub above_up : (j i : ℕ) → IsAbove t j i → IsAbove t (up t j) i
  above_up j i h = (suc h.0, climbed_more h.0 i ∙ ap (up t) h.1)

  -- what is above a node, and isn't the node, is above its parent
  pub above_parent : (top i : ℕ) → IsAbove t top i → i ≢ top → IsAbove t top (up t i)
  above_parent top i h n = step h.0 h.1
    where
      step : (k : ℕ) → climbed t k i ≡ top → IsAbove t top (up t i)
      step zero e = absurd (n e)
      step (suc k) e = (k, e)

  module _ (tree : IsTree t) where
    climbed_root : (k : ℕ) → climbed t k 0 ≡ 0
    climbed_root zero = refl
    climbed_root (suc k) = ap (climbed t k) (up_none 0 tree.root) ∙ climbed_root k

    -- nothing but node 0 is above node 0
    pub above_root : (top : ℕ) → IsAbove t top 0 → 0 ≡ top
    above_root top h = sym (climbed_root h.0) ∙ h.1

    pub above_positive : (top i : ℕ) → IsAbove t top i → i ≢ top → 0 < i
    above_positive top zero h n = absurd (n (above_root top h))
    above_positive top (suc i) h n = omega arith

    pub up_smaller : (i : ℕ) → 0 < i → i < length t.nodes → up t i < i
    up_smaller i h l = let r = tree.reached i h l in omega (arith, up_by i r.branch r.reached, r.downwards)

    pub up_there : (i : ℕ) → i < length t.nodes → up t i < length t.nodes
    up_there i h = step (branch_at t i) refl
      where
        step : (o : Option Branch) → branch_at t i ≡ o → up t i < length t.nodes
        step None e = omega (arith, up_none i e, h)
        step (Some b) e = omega (arith, up_by i b e, (reached_by t tree i b e).downwards, h)

    -- ---- boxes
    -- a bound that is set back makes the box of a node that of its parent
    pub left_box : (i : ℕ) (b : Branch) (z : ℤ) → branch_at t i ≡ Some b → IsReplacedBy t b z → cut_on b.side (box_at t i) b.column z ≡ box_at t (up t i)
    left_box i b z e h =
        ap (λ ss. cut_on b.side ss b.column z) (child_box t tree i b e)
        ∙ cut_back b.side (box_at t b.parent) b.column b.bound z h
        ∙ ap (box_at t) (sym (up_by i b e))

    -- to meet the parent's box after the branch was taken is to meet the node's before that
    pub entered_box : (i : ℕ) (ss : List Span) → meet (tightened_at t i ss) (box_at t (up t i)) ≡ meet ss (box_at t i)
    entered_box i ss = step (branch_at t i) refl
      where
        step : (o : Option Branch) → branch_at t i ≡ o → meet (tightened_at t i ss) (box_at t (up t i)) ≡ meet ss (box_at t i)
        step None e = (λ k. meet (option_map_or (λ (b : Branch). tightened b ss) (e k) ss) (box_at t (up_none i e k)))
        step (Some b) e =
            (λ k. meet (option_map_or (λ (b : Branch). tightened b ss) (e k) ss) (box_at t (up_by i b e k)))
            ∙ meet_step b.side ss (box_at t b.parent) b.column b.bound (reached_by t tree i b e).inside.inside
            ∙ ap (meet ss) (sym (child_box t tree i b e))

    pub entered_in : (i : ℕ) (ss cs : List Span) → IsBoxIn ss cs → IsBoxIn (tightened_at t i ss) cs
    entered_in i ss cs h = step (branch_at t i) refl
      where
        step : (o : Option Branch) → branch_at t i ≡ o → IsBoxIn (tightened_at t i ss) cs
        step None e = subst (λ (o : Option Branch). IsBoxIn (option_map_or (λ (b : Branch). tightened b ss) o ss) cs) (sym e) h
        step (Some b) e = subst (λ (o : Option Branch). IsBoxIn (option_map_or (λ (b : Branch). tightened b ss) o ss) cs) (sym e) (tightened_in b.side ss cs b.column b.bound h)

    box_in_up : (i : ℕ) → IsBoxIn (box_at t i) (box_at t (up t i))
    box_in_up i = step (branch_at t i) refl
      where
        step : (o : Option Branch) → branch_at t i ≡ o → IsBoxIn (box_at t i) (box_at t (up t i))
        step None e = subst (λ (j : ℕ). IsBoxIn (box_at t i) (box_at t j)) (sym (up_none i e)) (box_in_itself (box_at t i))
        step (Some b) e =
            let cut = cut_in b.side (box_at t b.parent) b.column b.bound (reached_by t tree i b e).inside.inside in
            subst (λ (j : ℕ). IsBoxIn (box_at t i) (box_at t j)) (sym (up_by i b e)) (subst (λ (ss : List Span). IsBoxIn ss (box_at t b.parent)) (sym (child_box t tree i b e)) cut)

    box_in_climbed : (k i : ℕ) → IsBoxIn (box_at t i) (box_at t (climbed t k i))
    box_in_climbed zero i = box_in_itself (box_at t i)
    box_in_climbed (suc k) i = box_in_box (box_at t i) (box_at t (up t i)) (box_at t (climbed t k (up t i))) (box_in_up i) (box_in_climbed k (up t i))

    -- the box of a node lies in that of each node above
    pub box_in_above : (top i : ℕ) → IsAbove t top i → IsBoxIn (box_at t i) (box_at t top)
    box_in_above top i h = subst (λ (j : ℕ). IsBoxIn (box_at t i) (box_at t j)) h.1 (box_in_climbed h.0 i)
