use Rattle.std.proofs.Common.{◌≡◌, ap, ◌∙◌, ◌++◌, ◌∷◌, [], arith}
use Rattle.std.proofs.lemmas.Int.{ints, to_z-of_z}
use Rattle.fraction.specs.Rational.{floor}
use Rattle.expand.proofs.Optima.{floor_modest, floors_more}
use Rattle.expand.proofs.whole_point.floors.Goals as goal

pub overflow_cast-number : goal.overflow_cast-number
overflow_cast-number c =
    let h = floor_modest c.args.area.now c.args.point.now c.loop-column.column c.get.result c.requires.inside c.requires.modest c.get.ensures in
    omega (arith, ints, h, c.floor-number.ensures.value)

pub loop-column-preserved : goal.loop-column-preserved
loop-column-preserved c =
    let x = c.args.point.now in
    let h = floor_modest c.args.area.now x c.loop-column.column c.get.result c.requires.inside c.requires.modest c.get.ensures in
    let pushed : c.push.new.self.items ≡ c.loop-column.numbers.items ++ floor c.get.result ∷ [] = grind (arith, ints, to_z-of_z, h, c.in_ok-push.ensures.items, c.floor-number.ensures.value) in
    pushed ∙ ap (λ zs. zs ++ floor c.get.result ∷ []) c.loop-column.invariant ∙ floors_more x c.loop-column.column c.get.result c.get.ensures
