use Rattle.std.specs.Prelude.{◌++◌, length, codes}
use Rattle.vipr_print.specs.Spelling.{count_line, claim_line, point_lines}
use Rattle.vipr_print.proofs.Sequence.{printed-then, printed-stopped, handed_on}
use Rattle.vipr_print.proofs.printing.print_claimed.Goals as goal

pub returns-in_err-print_claim : goal.returns-in_err-print_claim
returns-in_err-print_claim g c = rw (handed_on _ _ c.from_residual.ensures.1)
    (printed-stopped _ _ _ _ _ (claim_line c.args.claim.now) (count_line (codes "SOL ") (length c.args.points.now) ++ (point_lines 0 c.args.points.now)) _ c.in_err-print_claim.ensures)

pub returns-in_err-print_count : goal.returns-in_err-print_count
returns-in_err-print_count g c = rw (handed_on _ _ c.from_residual-in_err-print_count.ensures.1)
    (printed-then _ _ _ _ _ _ _ (claim_line c.args.claim.now) (count_line (codes "SOL ") (length c.args.points.now) ++ (point_lines 0 c.args.points.now)) _ c.in_ok-print_claim.ensures
    (printed-stopped _ _ _ _ _ (count_line (codes "SOL ") (length c.args.points.now)) (point_lines 0 c.args.points.now) _ (rw c.as_slice-listed.ensures at c.in_err-print_count.ensures)))

pub returns : goal.returns
returns g c =
    printed-then _ _ _ _ _ _ _ (claim_line c.args.claim.now) (count_line (codes "SOL ") (length c.args.points.now) ++ (point_lines 0 c.args.points.now)) _ c.in_ok-print_claim.ensures
    (printed-then _ _ _ _ _ _ _ (count_line (codes "SOL ") (length c.args.points.now)) (point_lines 0 c.args.points.now) _ (rw c.as_slice-listed.ensures at c.in_ok-print_count.ensures)
    ((rw c.as_slice-listed.ensures at c.print_each_point.ensures)))
