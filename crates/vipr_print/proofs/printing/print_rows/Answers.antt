use Rattle.std.specs.Prelude.{◌++◌, length}
use Rattle.std.specs.List.{flat_map}
use Rattle.vipr_print.specs.Spelling.{sense_line, objective_line, constraint_line, row_line}
use Rattle.vipr_print.proofs.Sequence.{printed-then, printed-stopped, handed_on}
use Rattle.vipr_print.proofs.printing.print_rows.Goals as goal

pub returns-in_err-print_sense : goal.returns-in_err-print_sense
returns-in_err-print_sense g c = rw (handed_on _ _ c.from_residual.ensures.1)
    (printed-stopped _ _ _ _ _ (sense_line c.args.part.now.sense) (objective_line c.args.part.now.objective ++ (constraint_line (length c.args.part.now.rows) (length c.args.part.now.names) ++ (flat_map row_line c.args.part.now.rows))) _ c.in_err-print_sense.ensures)

pub returns-in_err-print_objective : goal.returns-in_err-print_objective
returns-in_err-print_objective g c = rw (handed_on _ _ c.from_residual-in_err-print_objective.ensures.1)
    (printed-then _ _ _ _ _ _ _ (sense_line c.args.part.now.sense) (objective_line c.args.part.now.objective ++ (constraint_line (length c.args.part.now.rows) (length c.args.part.now.names) ++ (flat_map row_line c.args.part.now.rows))) _ c.in_ok-print_sense.ensures
    (printed-stopped _ _ _ _ _ (objective_line c.args.part.now.objective) (constraint_line (length c.args.part.now.rows) (length c.args.part.now.names) ++ (flat_map row_line c.args.part.now.rows)) _ c.in_err-print_objective.ensures))

pub returns-in_err-print_constraints : goal.returns-in_err-print_constraints
returns-in_err-print_constraints g c = rw (handed_on _ _ c.from_residual-in_err-print_constraints.ensures.1)
    (printed-then _ _ _ _ _ _ _ (sense_line c.args.part.now.sense) (objective_line c.args.part.now.objective ++ (constraint_line (length c.args.part.now.rows) (length c.args.part.now.names) ++ (flat_map row_line c.args.part.now.rows))) _ c.in_ok-print_sense.ensures
    (printed-then _ _ _ _ _ _ _ (objective_line c.args.part.now.objective) (constraint_line (length c.args.part.now.rows) (length c.args.part.now.names) ++ (flat_map row_line c.args.part.now.rows)) _ c.in_ok-print_objective.ensures
    (printed-stopped _ _ _ _ _ (constraint_line (length c.args.part.now.rows) (length c.args.part.now.names)) (flat_map row_line c.args.part.now.rows) _ (rw c.len.ensures at (rw c.as_slice-rows.ensures at c.in_err-print_constraints.ensures)))))

pub returns : goal.returns
returns g c =
    printed-then _ _ _ _ _ _ _ (sense_line c.args.part.now.sense) (objective_line c.args.part.now.objective ++ (constraint_line (length c.args.part.now.rows) (length c.args.part.now.names) ++ (flat_map row_line c.args.part.now.rows))) _ c.in_ok-print_sense.ensures
    (printed-then _ _ _ _ _ _ _ (objective_line c.args.part.now.objective) (constraint_line (length c.args.part.now.rows) (length c.args.part.now.names) ++ (flat_map row_line c.args.part.now.rows)) _ c.in_ok-print_objective.ensures
    (printed-then _ _ _ _ _ _ _ (constraint_line (length c.args.part.now.rows) (length c.args.part.now.names)) (flat_map row_line c.args.part.now.rows) _ (rw c.len.ensures at (rw c.as_slice-rows.ensures at c.in_ok-print_constraints.ensures))
    ((rw c.as_slice-rows.ensures at c.print_each_row.ensures))))
