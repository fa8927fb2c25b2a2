use Rattle.std.proofs.Common.{sym, subst}
use Rattle.row_activity.specs.Extremes.{IsLeast}
use Rattle.row_activity.specs.Lemmas.Extremes.{IsLeast-low_of}
use Rattle.row_activity.proofs.activity.low.Goals as goal

pub returns-clause-least : goal.returns-clause-least
returns-clause-least c =
    subst (IsLeast c.args.area.now c.args.terms.now) (sym c.sum_of_ends.ensures)
    (IsLeast-low_of c.args.area.now c.args.terms.now c.requires.limited_box.nonempty c.requires.limited.below c.requires.limited.rising)
