use Rattle.std.proofs.Common.{sym, subst}
use Rattle.std.specs.Prelude.{All}
use Rattle.problem.specs.Limited.{IsModestSpan}
use Rattle.problem.specs.Limits.{largest_bound}
use Rattle.event_core.proofs.parts.Parts.kept_box.Goals as goal

pub returns-in-Some-clause-modest : goal.returns-in-Some-clause-modest
returns-in-Some-clause-modest c =
    let root : All IsModestSpan c.self.inside.tree.root = subst (All IsModestSpan) (sym c.self.invariant.0) c.limits_hold.ensures.spans in
    subst (All IsModestSpan) (sym c.in-Some.ensures) (c.boxes_are_cut.ensures.within largest_bound root c.args.node)
