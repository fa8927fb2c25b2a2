use Rattle.std.proofs.Common.{sym, ap, ◌∙◌}
use Rattle.event_core.specs.Rooms.{Recorded}
use Rattle.worker_gate.proofs.Asking.{node_there}
use Rattle.worker_gate.proofs.kin.Kin.glance.Goals as goal

pub box_of-requires : goal.box_of-requires
box_of-requires g c =
    let k = c.self.inside in
    node_there k.first.value k.pool k.count k.stop k.cuts k.workers c.args._worker c.self.invariant c.args.self.now (sym c.self.view_is) c.args.node c.requires.holds c.tree-tree.result.now.nodes
    (c.tree-tree.ensures.nodes ∙ ap (λ (r : Recorded). r.state.nodes) c.state-state.ensures)

pub branch-tree-requires : goal.branch-tree-requires
branch-tree-requires g c =
    let k = c.self.inside in
    node_there k.first.value k.pool k.count k.stop k.cuts k.workers c.args._worker c.self.invariant c.args.self.now (sym c.self.view_is) c.args.node c.requires.holds c.tree-tree.result.now.nodes
    (c.tree-tree.ensures.nodes ∙ ap (λ (r : Recorded). r.state.nodes) c.state-state.ensures)
