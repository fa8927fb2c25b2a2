use Rattle.std.proofs.Common.{sym, subst}
use Rattle.std.specs.Prelude.{All}
use Rattle.problem.specs.Limited.{IsModestSpan}
use Rattle.problem.specs.Limits.{largest_bound}
use Rattle.event_core.specs.Lemmas.Boxes.{modest_result}
use Rattle.event_core.proofs.parts.Parts.box_of.Goals as goal

pub returns-clause-modest : goal.returns-clause-modest
returns-clause-modest c =
    let root : All IsModestSpan c.self.inside.tree.root = subst (All IsModestSpan) (sym c.self.invariant.0) c.limits_hold.ensures.spans in
    modest_result _ _ c.box_of.ensures (c.boxes_are_cut.ensures.within largest_bound root c.args.node)
