use Rattle.std.proofs.Common.{◌≡◌, ◌<◌, List, length, get_or}
use Rattle.integer_tableau.specs.Entering.{candidate_if_there}
use Rattle.integer_tableau.specs.Positions.{AreNonbasic}
use Rattle.integer_tableau.specs.declared.position.Position.{Position}
use Rattle.integer_tableau.proofs.DroppedColumns.{AreUpTo}
use Rattle.integer_tableau.proofs.EnteringByColumn.{candidate_at}
use Rattle.integer_tableau.proofs.FirstOf.{IsFirst}
use Rattle.integer_tableau.proofs.column_ranking.rank_to_best.Given as goal

abbrev pub invariant-loop-column : goal.invariant-loop-column
invariant-loop-column l = record {
  first : (ss : List Position) → AreNonbasic ss l.nonbasic → length l.at_upper ≡ length ss
      → IsFirst (λ k. candidate_at l.direction ss l.at_upper l.bounds l.reduced_costs l.row (get_or l.nonbasic k 0)) l.column (candidate_if_there l.best);
  great : l.best.coefficient ≡ 0 → 0 < l.best.reduced_cost;
  ranked : AreUpTo l.nonbasic l.reduced_costs l.row l.last l.best l.column l.columns.items;
}
