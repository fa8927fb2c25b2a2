use Rattle.std.proofs.Common.{◌≡◌, ◌∙◌, sym, ap, subst, arith, Vec, Global, ℕ, ◌+◌, ◌++◌, ◌∷◌, [], length, vec_len, vec_capacity}
use Rattle.node_pool.proofs.FreeNodes.{AreOpenBelow, open_more, open_passed, all_open}
use Rattle.node_pool.proofs.free.free_nodes.Goals as goal
use Rattle.node_pool.proofs.free.free_nodes.Goals.{then-is_open, else-is_open}

pub loop-number-preserved : goal.loop-number-preserved
loop-number-preserved c =
    let s = c.args.state.now.state in
    let n = c.loop-number.number in
    let ns = c.loop-number.nodes.items in
    elim c.if-is_open.branch [
      | then-is_open w ↦
          (let items : c.if-is_open.nodes.items ≡ ns ++ n ∷ [] = ap (λ (v : Vec ℕ Global). v.items) w.nodes-is ∙ w.push_reserved.ensures.items in
          let size = ap (λ (v : Vec ℕ Global). vec_len v) w.nodes-is in
          let room = ap (λ (v : Vec ℕ Global). vec_capacity v) w.nodes-is in
          record {
            nodes = subst (AreOpenBelow s (n + 1)) (sym items) (open_more s n ns (sym c.is_open.ensures ∙ w.if-is_open.true) c.loop-number.invariant.nodes);
            room = omega (arith, room, w.push_reserved.ensures.capacity, c.loop-number.invariant.room);
            size = omega (arith, size, w.push_reserved.ensures.len, c.loop-number.invariant.size);
          })
      | else-is_open w ↦
          (let items : c.if-is_open.nodes.items ≡ ns = ap (λ (v : Vec ℕ Global). v.items) w.nodes-is in
          let size = ap (λ (v : Vec ℕ Global). vec_len v) w.nodes-is in
          let room = ap (λ (v : Vec ℕ Global). vec_capacity v) w.nodes-is in
          record {
            nodes = subst (AreOpenBelow s (n + 1)) (sym items) (open_passed s n ns (sym c.is_open.ensures ∙ w.if-is_open.false) c.loop-number.invariant.nodes);
            room = omega (arith, room, c.loop-number.invariant.room);
            size = omega (arith, size, c.loop-number.invariant.size);
          })
    ]

pub returns-clause-nodes : goal.returns-clause-nodes
returns-clause-nodes c =
    let s = c.args.state.now.state in
    let all : c.loop-number.number ≡ length s.nodes = omega (arith, c.len-count.ensures, ap (λ (ns : _). length ns) c.tree-tree.ensures.nodes, c.loop-number.auto.number-end, c.loop-number-test.false) in
    all_open s c.loop-number.number c.loop-number.nodes.items c.requires c.conditions_hold-2.ensures.sound.lengths all c.loop-number.invariant.nodes
