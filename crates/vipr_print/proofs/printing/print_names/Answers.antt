use Rattle.std.specs.Prelude.{◌++◌, length, codes}
use Rattle.std.specs.List.{flat_map}
use Rattle.vipr_print.specs.Spelling.{count_line, name_line}
use Rattle.vipr_print.proofs.Sequence.{printed-then, printed-stopped, handed_on}
use Rattle.vipr_print.proofs.printing.print_names.Goals as goal

pub returns-in_err-write_line : goal.returns-in_err-write_line
returns-in_err-write_line g c = rw (handed_on _ _ c.from_residual.ensures.1)
    (printed-stopped _ _ _ _ _ (codes "VER 1.0\n") (count_line (codes "VAR ") (length c.args.names.now) ++ (flat_map name_line c.args.names.now)) _ c.in_err-write_line.ensures)

pub returns-in_err-print_count : goal.returns-in_err-print_count
returns-in_err-print_count g c = rw (handed_on _ _ c.from_residual-in_err-print_count.ensures.1)
    (printed-then _ _ _ _ _ _ _ (codes "VER 1.0\n") (count_line (codes "VAR ") (length c.args.names.now) ++ (flat_map name_line c.args.names.now)) _ c.in_ok-write_line.ensures
    (printed-stopped _ _ _ _ _ (count_line (codes "VAR ") (length c.args.names.now)) (flat_map name_line c.args.names.now) _ (rw c.len.ensures at c.in_err-print_count.ensures)))

pub returns : goal.returns
returns g c =
    printed-then _ _ _ _ _ _ _ (codes "VER 1.0\n") (count_line (codes "VAR ") (length c.args.names.now) ++ (flat_map name_line c.args.names.now)) _ c.in_ok-write_line.ensures
    (printed-then _ _ _ _ _ _ _ (count_line (codes "VAR ") (length c.args.names.now)) (flat_map name_line c.args.names.now) _ (rw c.len.ensures at c.in_ok-print_count.ensures)
    (c.print_each_name.ensures))
