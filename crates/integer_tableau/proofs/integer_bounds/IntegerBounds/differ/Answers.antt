use Rattle.std.proofs.Common.{ap, rules, w64}
use Rattle.std.specs.Prelude.{not}
use mir.Val.{SFits}
use Rattle.integer_tableau.proofs.Lists.{tie_is}
use Rattle.integer_tableau.proofs.integer_bounds.IntegerBounds.differ.Goals as goal

pub returns-in-Some-upper : goal.returns-in-Some-upper
returns-in-Some-upper c =
    let f : SFits w64 c.in-Some.lower = search rules in
    let g : SFits w64 c.in-Some-upper.upper = search rules in
    rw (c.in-Some.is, c.in-Some-upper.is) (ap not (tie_is c.in-Some.lower c.in-Some-upper.upper f g))
