use Rattle.std.proofs.Common.{◌∙◌}
use Rattle.outside.specs.Images.{resting}
use Rattle.outside.specs.Choice.{moment_of}
use Rattle.outside.proofs.Choosing.{replay_more}
use Rattle.outside.proofs.replayed.Replayed.new.Goals as goal

pub loop-call-preserved : goal.loop-call-preserved
loop-call-preserved c =
    c.in_ok-step.ensures ∙ replay_more (resting c.args.first.now) c.args.calls.now c.loop-call.call-index c.call-item.result (moment_of c.loop-call.now) c.loop-call-test.true c.call-item.is c.loop-call.invariant
