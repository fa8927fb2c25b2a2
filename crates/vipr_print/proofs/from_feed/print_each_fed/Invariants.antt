use Rattle.std.proofs.Common.{length}
use Rattle.vipr_print.proofs.Feeding.{IsFedSoFar}
use Rattle.vipr_print.proofs.from_feed.print_each_fed.Given as goal

abbrev pub invariant-lines : goal.invariant-lines
invariant-lines g l =
    IsFedSoFar g.C.Sink.tells (g.C.Sink.taken l.fn.sink) (g.C.Sink.taken l.sink) (g.C.Sink.faults l.fn.sink) (g.C.Sink.faults l.sink) (g.F.LineFeed.lines l.fn.feed) (g.F.LineFeed.lines l.feed)

abbrev pub decreases-lines : goal.decreases-lines
decreases-lines g l = length (g.F.LineFeed.lines l.feed)
