use Rattle.std.proofs.Common.{sym, ap, ◌∙◌}
use Rattle.std.specs.Option.{option_map}
use Rattle.fraction.specs.Checked.{compare}
use Rattle.dual_simplex.specs.PointSums.{checked_sum}
use Rattle.gomory_cuts.proofs.Steps.{below_is, not_below}
use Rattle.gomory_cuts.proofs.violation.is_violated.Goals as goal

pub returns-in-Some : goal.returns-in-Some
returns-in-Some c =
    c.is_lt.ensures
    ∙ below_is (checked_sum c.args.row.now.terms c.args.point.now) c.args.row.now.rhs c.in-Some.ordering
    (sym c.in-Some.is ∙ c.compare.ensures ∙ ap (λ ts. option_map (λ v. compare v c.args.row.now.rhs) (checked_sum ts c.args.point.now)) c.as_slice.ensures)

pub returns-in-None : goal.returns-in-None
returns-in-None c =
    not_below (checked_sum c.args.row.now.terms c.args.point.now) c.args.row.now.rhs
    (sym c.in-None.is ∙ c.compare.ensures ∙ ap (λ ts. option_map (λ v. compare v c.args.row.now.rhs) (checked_sum ts c.args.point.now)) c.as_slice.ensures)
