use Rattle.std.proofs.Common.{sym, subst, ◌<◌, length}
use Rattle.std.specs.Prelude.{All}
use Rattle.expand.specs.Columns.{fractional_columns}
use Rattle.expand.proofs.Fractional.{listed_within}
use Rattle.expand.proofs.relaxing.cuts_or_optimum.Goals as goal

pub split_column-column-requires-clause-there : goal.split_column-column-requires-clause-there
split_column-column-requires-clause-there c =
    subst (All (λ j. j < length c.args.costs.now)) (sym c.requires.columns) (subst (λ n. All (λ j. j < n) (fractional_columns c.args.point)) (sym c.requires.there) (listed_within c.args.point))
