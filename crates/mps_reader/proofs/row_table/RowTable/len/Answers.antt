use Rattle.std.proofs.Common.{sym, ap, ◌∙◌, length}
use Rattle.mps_reader.proofs.RowTable.{states_length}
use Rattle.mps_reader.proofs.row_table.RowTable.len.Goals as goal

pub returns : goal.returns
returns c = c.len.ensures ∙ c.self.inside.entries.ok.0 ∙ sym (states_length c.self.inside.kept.items c.self.inside.entries.items) ∙ ap length c.self.view_is
