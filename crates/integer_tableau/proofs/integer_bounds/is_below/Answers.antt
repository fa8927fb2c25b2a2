use Rattle.std.proofs.Common.{rules, ◌≡◌, ◌*ℤ◌, w64}
use Rattle.std.specs.Int.{w128}
use mir.Val.{SFits}
use Rattle.std.proofs.lemmas.Int.{to_z-of_z}
use Rattle.integer_tableau.proofs.Lists.{below_is}
use Rattle.integer_tableau.proofs.integer_bounds.is_below.Goals as goal

pub returns-in-Some : goal.returns-in-Some
returns-in-Some c =
    let t : SFits w128 c.product.result = search rules in
    let u : SFits w64 c.in-Some.lower = search rules in
    let v = c.ranges.value in let d = c.ranges.denominator in
    let e : c.product.result ≡ c.in-Some.lower *ℤ c.args.denominator = simp to_z-of_z at c.product.ensures in
    simp to_z-of_z (rw c.in-Some.is (below_is c.args.value c.in-Some.lower c.args.denominator c.product.result c.requires e))
