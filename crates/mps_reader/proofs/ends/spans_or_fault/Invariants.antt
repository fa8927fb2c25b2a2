use Rattle.mps_reader.proofs.Ended.{AreFineBefore}
use Rattle.mps_reader.specs.BoundTables.{summary_in}
use Rattle.mps_reader.specs.Tables.{table}
use Rattle.mps_reader.proofs.ends.spans_or_fault.Given as goal

abbrev pub invariant-loop-index : goal.invariant-loop-index
invariant-loop-index g l = AreFineBefore l.upper (summary_in (table l.bounds.limits.entries)) (table l.columns.entries) l.spans.items l.index
