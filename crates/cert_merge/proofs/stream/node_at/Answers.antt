use Rattle.cert_merge.proofs.Sources.{kept_of}
use Rattle.cert_merge.proofs.stream.node_at.Goals as goal

pub node_line-requires-clause-setters : goal.node_line-requires-clause-setters
node_line-requires-clause-setters c =
    kept_of c.tree-tree.result.now c.conditions_hold-2.ensures.tree c.args.state.now.state c.walk.new.self c.args.node c.tree-tree.ensures.root c.tree-tree.ensures.nodes c.walk.ensures.kept c.in_ok-walk.ensures.there
