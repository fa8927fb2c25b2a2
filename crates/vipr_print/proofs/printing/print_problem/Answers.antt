use Rattle.std.specs.Prelude.{◌++◌, length}
use Rattle.vipr_print.specs.Spelling.{names_text, integers_text, rows_text}
use Rattle.vipr_print.proofs.Sequence.{printed-then, printed-stopped, handed_on}
use Rattle.vipr_print.proofs.printing.print_problem.Goals as goal

pub returns-in_err-print_names : goal.returns-in_err-print_names
returns-in_err-print_names g c = rw (handed_on _ _ c.from_residual.ensures.1)
    (printed-stopped _ _ _ _ _ (names_text c.args.part.now.names) (integers_text (length c.args.part.now.names) ++ (rows_text c.args.part.now)) _ c.in_err-print_names.ensures)

pub returns-in_err-print_integers : goal.returns-in_err-print_integers
returns-in_err-print_integers g c = rw (handed_on _ _ c.from_residual-in_err-print_integers.ensures.1)
    (printed-then _ _ _ _ _ _ _ (names_text c.args.part.now.names) (integers_text (length c.args.part.now.names) ++ (rows_text c.args.part.now)) _ c.in_ok-print_names.ensures
    (printed-stopped _ _ _ _ _ (integers_text (length c.args.part.now.names)) (rows_text c.args.part.now) _ (rw c.len.ensures at c.in_err-print_integers.ensures)))

pub returns : goal.returns
returns g c =
    printed-then _ _ _ _ _ _ _ (names_text c.args.part.now.names) (integers_text (length c.args.part.now.names) ++ (rows_text c.args.part.now)) _ c.in_ok-print_names.ensures
    (printed-then _ _ _ _ _ _ _ (integers_text (length c.args.part.now.names)) (rows_text c.args.part.now) _ (rw c.len.ensures at c.in_ok-print_integers.ensures)
    (c.print_rows.ensures))
