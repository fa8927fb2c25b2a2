use Rattle.std.specs.Prelude.{length, codes}
use Rattle.std.specs.List.{flat_map}
use Rattle.vipr_print.specs.Spelling.{count_line, derived_line}
use Rattle.vipr_print.proofs.Sequence.{printed-then, printed-stopped, handed_on}
use Rattle.vipr_print.proofs.from_feed.print_fed_lines.Goals as goal

pub returns-in_err-print_count-clause-printed : goal.returns-in_err-print_count-clause-printed
returns-in_err-print_count-clause-printed g c = let ls = g.F.LineFeed.lines c.args.feed.now in rw (handed_on _ _ c.from_residual.ensures.1)
    (printed-stopped _ _ _ _ _ (count_line (codes "DER ") (length ls)) (flat_map derived_line ls) _ (rw c.requires at c.in_err-print_count.ensures))

pub returns-clause-printed : goal.returns-clause-printed
returns-clause-printed g c =
    let ls = g.F.LineFeed.lines c.args.feed.now in
    printed-then _ _ _ _ _ _ _ (count_line (codes "DER ") (length ls)) (flat_map derived_line ls) _ (rw c.requires at c.in_ok-print_count.ensures) c.print_each_fed.ensures.printed
