use Rattle.std.proofs.Common.{rules, not}
use Rattle.std.proofs.lemmas.Fn.{filter_same}
use Rattle.integer_tableau.specs.Entering.{comes_first}
use Rattle.integer_tableau.specs.RankedColumns.{ranked_candidate}
use Rattle.integer_tableau.proofs.column_ranking.drop_behind.Goals as goal

pub returns : goal.returns
returns c = filter_same _ (λ x. not (comes_first c.args.best (ranked_candidate x))) _ (λ x b f k. search rules) _ _ c.retain.ensures.filtered
