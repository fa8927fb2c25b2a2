use Rattle.std.proofs.Common.{◌≡◌, ℕ, ◌<◌, ◌∙◌, List, ap, subst, sym, arith}
use Rattle.problem_box.specs.declared.span.Span.{Span}
use Rattle.node_tree.specs.Paths.{path_at, box_at}
use Rattle.node_tree.specs.Walks.{IsAbove}
use Rattle.node_tree.specs.Lemmas.Boxes.{length-box}
use Rattle.node_tree.proofs.Meets.{meet, IsBoxIn, meet_in, in_meet, box_in_itself, length-box_in}
use Rattle.node_tree.proofs.Climbing.{above_parent, above_positive, up_smaller, up_there, entered_box, entered_in, box_in_above}
use Rattle.node_tree.proofs.nodes.Nodes.descend.Goals as goal

pub loop-at-init : goal.loop-at-init
loop-at-init c =
    let t = c.args.self.now in
    let r = c.requires in
    let top = box_at t c.args.top in
    let here = box_at t c.args.node in
    record {
      here = r.there;
      above = r.above;
      left = ap (λ (ss : List Span). meet ss here) r.here ∙ in_meet here top (box_in_above t c.conditions_hold.ensures.tree c.args.top c.args.node r.above);
      within = subst (λ (ss : List Span). IsBoxIn ss top) (sym r.here) (box_in_itself top);
    }

pub enter-at-requires-clause-columns : goal.enter-at-requires-clause-columns
enter-at-requires-clause-columns c =
    let t = c.args.self.now in
    length-box_in c.loop-at.area (box_at t c.args.top) c.loop-at.invariant.within ∙ length-box (path_at t c.args.top) 0 t.root

pub loop-at-smaller : goal.loop-at-smaller
loop-at-smaller c =
    let t = c.args.self.now in
    let tree = c.conditions_hold.ensures.tree in
    let i = c.loop-at.invariant in
    let other : c.loop-at.at ≡ c.args.top → ⊥ = λ e. omega arith in
    let positive : 0 < c.loop-at.at = above_positive t tree c.args.top c.loop-at.at i.above other in
    omega (arith, c.enter-at.ensures.up, up_smaller t tree c.loop-at.at positive i.here)

pub loop-at-preserved : goal.loop-at-preserved
loop-at-preserved c =
    let t = c.args.self.now in
    let tree = c.conditions_hold.ensures.tree in
    let i = c.loop-at.invariant in
    let e = c.enter-at.ensures in
    let other : c.loop-at.at ≡ c.args.top → ⊥ = λ e. omega arith in
    record {
      here = omega (arith, e.up, up_there t tree c.loop-at.at i.here);
      above = subst (λ (n : ℕ). IsAbove t c.args.top n) (sym e.up) (above_parent t c.args.top c.loop-at.at i.above other);
      left = (λ k. meet (e.tightened k) (box_at t (e.up k))) ∙ entered_box t tree c.loop-at.at c.loop-at.area ∙ i.left;
      within = subst (λ (ss : List Span). IsBoxIn ss (box_at t c.args.top)) (sym e.tightened) (entered_in t tree c.loop-at.at c.loop-at.area (box_at t c.args.top) i.within);
    }

pub returns : goal.returns
returns c =
    let t = c.args.self.now in
    let i = c.loop-at.invariant in
    let e : c.loop-at.at ≡ c.args.top = omega arith in
    sym (meet_in c.loop-at.area (box_at t c.args.top) i.within) ∙ ap (λ (j : ℕ). meet c.loop-at.area (box_at t j)) (sym e) ∙ i.left
