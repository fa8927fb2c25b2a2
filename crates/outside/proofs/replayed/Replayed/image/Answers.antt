use Rattle.std.proofs.Common.{arith, length, ◌≡◌}
use Rattle.outside.specs.Choice.{moment_of}
use Rattle.outside.proofs.Choosing.{closest}
use Rattle.outside.proofs.replayed.Replayed.image.Goals as goal

pub returns-clause-each : goal.returns-clause-each
returns-clause-each c is =
    let len : length c.loop-place.image.items ≡ length c.args.wish.now = omega (arith, c.loop-place.invariant.0, c.loop-place-test.false, c.loop-place.auto.place-end, c.max.ensures, c.min-length.ensures, is.no_shorter, is.no_longer) in
    closest (moment_of c.args.self.now) c.args.wish.now c.loop-place.image.items is len (λ i lt. c.loop-place.invariant.1 i (omega (arith, lt, c.loop-place.invariant.0)))
