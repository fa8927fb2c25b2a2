use Rattle.dual_simplex.specs.Prepared.{IsKept}
use Rattle.node_journal.specs.Views.{payloads_of}
use Rattle.resume.proofs.Replaying.{HasRead}
use Rattle.resume.proofs.replay.replay.Given as goal

abbrev pub invariant-loop-number : goal.invariant-loop-number
invariant-loop-number l = HasRead l.fn.problem (payloads_of l.scanned) l.number l.enc l.state × IsKept l.state.state.problem l.state.state.cuts l.kept
