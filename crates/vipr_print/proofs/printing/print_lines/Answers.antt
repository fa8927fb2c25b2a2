use Rattle.std.specs.Prelude.{length, codes}
use Rattle.std.specs.List.{flat_map}
use Rattle.vipr_print.specs.Spelling.{count_line, derived_line}
use Rattle.vipr_print.proofs.Sequence.{printed-then, printed-stopped, handed_on}
use Rattle.vipr_print.proofs.printing.print_lines.Goals as goal

pub returns-in_err-print_count : goal.returns-in_err-print_count
returns-in_err-print_count g c = rw (handed_on _ _ c.from_residual.ensures.1)
    (printed-stopped _ _ _ _ _ (count_line (codes "DER ") (length c.args.lines.now)) (flat_map derived_line c.args.lines.now) _ (rw c.as_slice-derived.ensures at c.in_err-print_count.ensures))

pub returns : goal.returns
returns g c =
    printed-then _ _ _ _ _ _ _ (count_line (codes "DER ") (length c.args.lines.now)) (flat_map derived_line c.args.lines.now) _ (rw c.as_slice-derived.ensures at c.in_ok-print_count.ensures)
    ((rw c.as_slice-derived.ensures at c.print_each_derived.ensures))
