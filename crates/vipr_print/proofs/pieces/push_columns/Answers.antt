use Rattle.std.proofs.Common.{◌++◌, ◌∙◌, ap, sym, append_assoc}
use Rattle.vipr_print.specs.Spelling.{column_numbers, next_column}
use Rattle.vipr_print.proofs.Sequence.{more_columns}
use Rattle.vipr_print.proofs.pieces.push_columns.Goals as goal

pub loop-column-preserved : goal.loop-column-preserved
loop-column-preserved c =
    c.in_ok-push_column.ensures ∙ ap (λ t. t ++ next_column c.loop-column.column) c.loop-column.invariant ∙ append_assoc c.args.out.now.items (column_numbers c.loop-column.column) (next_column c.loop-column.column)
    ∙ ap (λ t. c.args.out.now.items ++ t) (sym (more_columns c.loop-column.column))
