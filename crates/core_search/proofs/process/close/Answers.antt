use Rattle.std.specs.Prelude.{length}
use Rattle.event_core.specs.States.{State, box_of}
use Rattle.expand.specs.Lemmas.Events.{settlement_fits}
use Rattle.core_search.proofs.Closing.{settles_legally, closing_some, closing_nodes, closing_cuts, closing_unspent, either_keeps}
use Rattle.core_search.proofs.process.close.Goals as goal

pub settle_node-requires-clause-some : goal.settle_node-requires-clause-some
settle_node-requires-clause-some g c = closing_some c.args.node c.args.settlement c.requires.closing

pub settle_node-requires-clause-legal : goal.settle_node-requires-clause-legal
settle_node-requires-clause-legal g c = settles_legally c.args.pool.now.state.state c.args.node c.args.settlement c.requires.held c.requires.legal

pub settle_node-requires-clause-fits : goal.settle_node-requires-clause-fits
settle_node-requires-clause-fits g c =
    let s = c.args.pool.now.state.state in settlement_fits s (box_of s c.args.node) c.args.node c.args.settlement c.requires.legal

pub returns-clause-unspent : goal.returns-clause-unspent
returns-clause-unspent g c = λ e.
    let a = c.args.pool.now in
    closing_unspent a.budget (length a.state.state.nodes) c.args.node c.args.settlement c.requires.closing (c.settle_node.ensures.spent e)

pub returns-clause-nodes : goal.returns-clause-nodes
returns-clause-nodes g c =
    let s = c.args.pool.now.state in
    either_keeps (λ (u : State). u.nodes) c.args.node c.args.settlement s _ c.settle_node.result
    (closing_nodes s.state c.args.node c.args.settlement c.requires.closing) c.settle_node.ensures.made c.settle_node.ensures.unmade

pub returns-clause-cuts : goal.returns-clause-cuts
returns-clause-cuts g c =
    let s = c.args.pool.now.state in
    either_keeps (λ (u : State). u.cuts) c.args.node c.args.settlement s _ c.settle_node.result
    (closing_cuts s.state c.args.node c.args.settlement c.requires.closing) c.settle_node.ensures.made c.settle_node.ensures.unmade
