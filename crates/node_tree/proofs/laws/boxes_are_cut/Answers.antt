use Rattle.node_tree.specs.Lemmas.Insides.{boxes_cut}
use Rattle.node_tree.proofs.laws.boxes_are_cut.Goals as goal

pub returns : goal.returns
returns c = boxes_cut c.args.tree.now c.conditions_hold.ensures.tree
