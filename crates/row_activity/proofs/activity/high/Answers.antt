use Rattle.std.proofs.Common.{sym, subst}
use Rattle.row_activity.specs.Extremes.{IsGreatest}
use Rattle.row_activity.specs.Lemmas.Extremes.{IsGreatest-high_of}
use Rattle.row_activity.proofs.activity.high.Goals as goal

pub returns-clause-greatest : goal.returns-clause-greatest
returns-clause-greatest c =
    subst (IsGreatest c.args.area.now c.args.terms.now) (sym c.sum_of_ends.ensures)
    (IsGreatest-high_of c.args.area.now c.args.terms.now c.requires.limited_box.nonempty c.requires.limited.below c.requires.limited.rising)
