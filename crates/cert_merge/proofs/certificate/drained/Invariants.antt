use Rattle.std.proofs.Common.{◌≡◌, ◌++◌, length}
use Rattle.cert_merge.proofs.certificate.drained.Given as goal

abbrev pub invariant-lines : goal.invariant-lines
invariant-lines g l = l.lines.items ++ g.F.LineFeed.lines l.feed ≡ g.F.LineFeed.lines l.fn.feed

abbrev pub decreases-lines : goal.decreases-lines
decreases-lines g l = length (g.F.LineFeed.lines l.feed)
