use Rattle.std.proofs.Common.{◌≡◌, take}
use Rattle.outside.specs.Replay.{replay}
use Rattle.outside.specs.Images.{resting}
use Rattle.outside.specs.Choice.{moment_of}
use Rattle.outside.proofs.replayed.Replayed.new.Given as goal

abbrev pub invariant-loop-call : goal.invariant-loop-call
invariant-loop-call l = moment_of l.now ≡ replay (resting l.first) (take l.call-index l.calls)
