use Rattle.std.proofs.Common.{◌∙◌, sym}
use Rattle.cert_merge.proofs.Keeping.{reached}
use Rattle.cert_merge.proofs.path_setters.branch_to.Goals as goal

pub unreachable-requires : goal.unreachable-requires
unreachable-requires c = reached c.args.tree.now c.conditions_hold.ensures.tree c.args.node c.requires.below c.requires.there (sym c.in_default-branch.is ∙ c.branch-branch.ensures)
