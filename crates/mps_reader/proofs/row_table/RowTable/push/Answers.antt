use Rattle.std.proofs.Common.{Bool, ◌++◌, ◌∷◌, [], ap, sym, ◌∙◌}
use Rattle.mps_reader.specs.RowState.{new_row, bare_row}
use Rattle.mps_reader.specs.RowTable.{row_states}
use Rattle.mps_reader.proofs.RowTable.{states_push}
use Rattle.mps_reader.proofs.row_table.RowTable.push.Goals as goal

pub returns : goal.returns
returns c = ap (row_states c.self.inside.kept.items) c.in_ok-push.ensures.items ∙ states_push c.self.inside.kept.items c.self.inside.entries.items
    ∙ ap (λ rs. rs ++ bare_row ∷ []) c.self.view_is ∙ ap (λ (b : Bool). c.args.self.now ++ new_row b ∷ []) (sym c.if-keeps.false)
