use Rattle.std.proofs.Common.{ap, ◌∙◌}
use Rattle.mps_reader.proofs.BoundTables.{value_under_insert}
use Rattle.mps_reader.specs.Tables.{table}
use Rattle.mps_reader.specs.Words.{value_under}
use Rattle.mps_reader.proofs.bounds.Bounds.keep.Goals as goal

pub returns-in-Ok-clause-limits : goal.returns-in-Ok-clause-limits
returns-in-Ok-clause-limits g c name =
    ap (λ es. value_under (table es) name) c.in-Ok.ensures.entries
    ∙ value_under_insert c.args.self.now.limits.entries c.args.line.now.column c.args.limits name
