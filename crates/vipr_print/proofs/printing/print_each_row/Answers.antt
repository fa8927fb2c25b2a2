use Rattle.std.proofs.Common.{◌<◌, length, arith}
use Rattle.vipr_print.specs.Spelling.{row_line}
use Rattle.vipr_print.proofs.Sequence.{printed-more, printed-broken, handed_on}
use Rattle.vipr_print.proofs.printing.print_each_row.Goals as goal

pub returns-in_err-print_row : goal.returns-in_err-print_row
returns-in_err-print_row g c = rw (handed_on _ _ c.from_residual.ensures.1)
    (printed-broken _ _ _ _ _ _ _ row_line c.args.rows.now c.loop-row.row-index c.row-item.result _ (let l : c.loop-row.row-index < length c.args.rows.now = omega arith in l) c.row-item.is c.loop-row.invariant c.in_err-print_row.ensures)

pub loop-row-preserved : goal.loop-row-preserved
loop-row-preserved g c =
    printed-more _ _ _ _ _ _ _ row_line c.args.rows.now c.loop-row.row-index c.row-item.result (let l : c.loop-row.row-index < length c.args.rows.now = omega arith in l) c.row-item.is c.loop-row.invariant c.in_ok-print_row.ensures
