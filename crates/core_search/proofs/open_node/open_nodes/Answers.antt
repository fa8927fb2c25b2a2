use Rattle.std.proofs.Common.{◌≡◌, ℕ, ◌<◌, ◌∙◌, sym, ap, subst, refl, ◌+◌, ◌++◌, ◌∷◌, [], Vec, Global, None, length, arith}
use Rattle.std.specs.Prelude.{All}
use Rattle.std.proofs.lemmas.List.Elements.{All-nil, All-cons, All-append}
use Rattle.node_tree.specs.Paths.{box_at}
use Rattle.node_tree.specs.Lemmas.Boxes.{box_of_root}
use Rattle.core_search.specs.declared.open_node.OpenNode.{OpenNode}
use Rattle.core_search.specs.OpenNodes.{HasNoOrigin}
use Rattle.core_search.proofs.OpenLists.{AreOpenNodesBelow, none_below, node_more, node_passed, same_box}
use Rattle.core_search.proofs.open_node.open_nodes.Goals as goal
use Rattle.core_search.proofs.open_node.open_nodes.Goals.{then-is_open+in_ok-area+in_ok-push, else-is_open}

pub loop-number-init : goal.loop-number-init
loop-number-init c =
    let t = c.tree-tree.result.now in
    record {
      listed = subst (AreOpenNodesBelow c.args.state.now.state 0) (sym c.new-nodes.ensures.items) (none_below c.args.state.now.state);
      new = subst (All HasNoOrigin) (sym c.new-nodes.ensures.items) (All-nil HasNoOrigin);
      there = c.conditions_hold.ensures.tree.root_there;
      box = c.in_ok-walked.ensures ∙ c.root.ensures ∙ sym (box_of_root 0 t.root);
    }

pub loop-number-preserved : goal.loop-number-preserved
loop-number-preserved c =
    let s = c.args.state.now.state in
    let t = c.tree-tree.result.now in
    let n = c.loop-number.number in
    let os = c.loop-number.nodes.items in
    elim c.if-is_open.branch [
      | then-is_open+in_ok-area+in_ok-push w ↦
          (let o : OpenNode = record { number = n; area = w.in_ok-area.area; origin = None } in
          let items : c.if-is_open.nodes.items ≡ os ++ o ∷ [] = ap (λ (v : Vec OpenNode Global). v.items) w.nodes-is ∙ w.in_ok-push.ensures.items in
          let there : n < length t.nodes = omega (arith, c.len-count.ensures) in
          record {
            listed = subst (AreOpenNodesBelow s (n + 1)) (sym items)
                (node_more s n os o c.loop-number.invariant.listed refl (record {
                  opened = sym c.is_open.ensures ∙ w.if-is_open.true;
                  area = w.in_ok-area.ensures ∙ w.walk.ensures ∙ same_box s t n c.tree-tree.ensures.root c.tree-tree.ensures.nodes;
                  origin = tt;
                }));
            new = subst (All HasNoOrigin) (sym items) (All-append HasNoOrigin os (o ∷ []) c.loop-number.invariant.new (All-cons HasNoOrigin o [] refl (All-nil HasNoOrigin)));
            there = subst (λ (p : ℕ). p < length t.nodes) (sym w.place-is) there;
            box = w.walked-is ∙ w.walk.ensures ∙ ap (box_at t) (sym w.place-is);
          })
      | else-is_open w ↦
          (let items : c.if-is_open.nodes.items ≡ os = ap (λ (v : Vec OpenNode Global). v.items) w.nodes-is in
          record {
            listed = subst (AreOpenNodesBelow s (n + 1)) (sym items)
                (node_passed s n os c.loop-number.invariant.listed (λ e. let f = c.is_open.ensures ∙ e in let g = w.if-is_open.false in cc));
            new = subst (All HasNoOrigin) (sym items) c.loop-number.invariant.new;
            there = subst (λ (p : ℕ). p < length t.nodes) (sym w.place-is) c.loop-number.invariant.there;
            box = w.walked-is ∙ c.loop-number.invariant.box ∙ ap (box_at t) (sym w.place-is);
          })
    ]
