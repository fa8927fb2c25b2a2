use Rattle.std.proofs.Common.{sym, ◌∙◌}
use Rattle.mps_reader.specs.RowState.{bare_row}
use Rattle.mps_reader.proofs.State.{repeated_same}
use Rattle.mps_reader.specs.Tables.{entry_of}
use Rattle.mps_reader.proofs.columns.Columns.is_repeated.Goals as goal

pub returns-then-same-clause-repeated : goal.returns-then-same-clause-repeated
returns-then-same-clause-repeated g c es entries h r k =
    c.is_named_by.ensures ∙ repeated_same c.args.self.now es entries h (entry_of c.args.e.now) c.args.index bare_row r (sym c.if-same.true ∙ k)
