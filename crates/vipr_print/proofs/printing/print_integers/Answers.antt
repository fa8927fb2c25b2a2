use Rattle.std.specs.Prelude.{codes}
use Rattle.vipr_print.specs.Spelling.{count_line, integer_line}
use Rattle.vipr_print.proofs.Sequence.{printed-then, printed-stopped, handed_on}
use Rattle.vipr_print.proofs.printing.print_integers.Goals as goal

pub returns-in_err-print_count : goal.returns-in_err-print_count
returns-in_err-print_count g c = rw (handed_on _ _ c.from_residual.ensures.1)
    (printed-stopped _ _ _ _ _ (count_line (codes "INT ") c.args.count) (integer_line c.args.count) _ c.in_err-print_count.ensures)

pub returns : goal.returns
returns g c =
    printed-then _ _ _ _ _ _ _ (count_line (codes "INT ") c.args.count) (integer_line c.args.count) _ c.in_ok-print_count.ensures
    (c.print_columns.ensures)
