use Rattle.node_tree.specs.Lemmas.Splitting.{splits_share}
use Rattle.node_tree.proofs.laws.splits_share_boxes.Goals as goal

pub returns : goal.returns
returns c = splits_share c.args.tree.now c.conditions_hold.ensures.tree
