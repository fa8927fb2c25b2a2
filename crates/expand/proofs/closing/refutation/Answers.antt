use Rattle.std.proofs.Common.{sym, ◌∙◌}
use Rattle.expand.proofs.Choosing.{multiplier_nonzero}
use Rattle.expand.proofs.closing.refutation.Goals as goal

pub single-requires : goal.single-requires
single-requires c = λ e. multiplier_nonzero c.args.sign (sym c.multiplier.ensures ∙ e)
