use Rattle.std.proofs.Common.{◌≡◌, drop}
use Rattle.row_activity.specs.Verdicts.{refuted_from}
use Rattle.row_activity.proofs.verdict.first_refuted.Given as goal

abbrev pub invariant-loop-index : goal.invariant-loop-index
invariant-loop-index l = refuted_from l.index l.area (drop l.index l.problem.rows) ≡ refuted_from 0 l.area l.problem.rows
