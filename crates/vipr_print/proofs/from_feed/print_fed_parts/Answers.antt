use Rattle.std.specs.Prelude.{◌++◌}
use Rattle.vipr_print.specs.Spelling.{problem_text, claim_text, derived_text}
use Rattle.vipr_print.proofs.Sequence.{printed-then, printed-stopped, handed_on}
use Rattle.vipr_print.proofs.from_feed.print_fed_parts.Goals as goal

pub returns-in_err-print_problem-clause-printed : goal.returns-in_err-print_problem-clause-printed
returns-in_err-print_problem-clause-printed g c = let h = c.args.head.now in rw (handed_on _ _ c.from_residual.ensures.1)
    (printed-stopped _ _ _ _ _ (problem_text h.part) (claim_text h.claim h.points ++ derived_text (g.F.LineFeed.lines c.args.feed.now)) _ c.in_err-print_problem.ensures)

pub returns-in_err-print_claimed-clause-printed : goal.returns-in_err-print_claimed-clause-printed
returns-in_err-print_claimed-clause-printed g c = let h = c.args.head.now in rw (handed_on _ _ c.from_residual-in_err-print_claimed.ensures.1)
    (printed-then _ _ _ _ _ _ _ (problem_text h.part) (claim_text h.claim h.points ++ derived_text (g.F.LineFeed.lines c.args.feed.now)) _ c.in_ok-print_problem.ensures
    (printed-stopped _ _ _ _ _ (claim_text h.claim h.points) (derived_text (g.F.LineFeed.lines c.args.feed.now)) _ c.in_err-print_claimed.ensures))

pub returns-clause-printed : goal.returns-clause-printed
returns-clause-printed g c =
    let h = c.args.head.now in
    printed-then _ _ _ _ _ _ _ (problem_text h.part) (claim_text h.claim h.points ++ derived_text (g.F.LineFeed.lines c.args.feed.now)) _ c.in_ok-print_problem.ensures
    (printed-then _ _ _ _ _ _ _ (claim_text h.claim h.points) (derived_text (g.F.LineFeed.lines c.args.feed.now)) _ c.in_ok-print_claimed.ensures c.print_fed_lines.ensures.printed)
