use Rattle.std.specs.Prelude.{◌++◌}
use Rattle.vipr_print.specs.Spelling.{problem_text, claim_text, derived_text}
use Rattle.vipr_print.proofs.Sequence.{printed-then, printed-stopped, handed_on}
use Rattle.vipr_print.proofs.printing.print_parts.Goals as goal

pub returns-in_err-print_problem : goal.returns-in_err-print_problem
returns-in_err-print_problem g c = rw (handed_on _ _ c.from_residual.ensures.1)
    (printed-stopped _ _ _ _ _ (problem_text c.args.cert.now.part) (claim_text c.args.cert.now.claim c.args.cert.now.points ++ (derived_text c.args.cert.now.lines)) _ c.in_err-print_problem.ensures)

pub returns-in_err-print_claimed : goal.returns-in_err-print_claimed
returns-in_err-print_claimed g c = rw (handed_on _ _ c.from_residual-in_err-print_claimed.ensures.1)
    (printed-then _ _ _ _ _ _ _ (problem_text c.args.cert.now.part) (claim_text c.args.cert.now.claim c.args.cert.now.points ++ (derived_text c.args.cert.now.lines)) _ c.in_ok-print_problem.ensures
    (printed-stopped _ _ _ _ _ (claim_text c.args.cert.now.claim c.args.cert.now.points) (derived_text c.args.cert.now.lines) _ c.in_err-print_claimed.ensures))

pub returns : goal.returns
returns g c =
    printed-then _ _ _ _ _ _ _ (problem_text c.args.cert.now.part) (claim_text c.args.cert.now.claim c.args.cert.now.points ++ (derived_text c.args.cert.now.lines)) _ c.in_ok-print_problem.ensures
    (printed-then _ _ _ _ _ _ _ (claim_text c.args.cert.now.claim c.args.cert.now.points) (derived_text c.args.cert.now.lines) _ c.in_ok-print_claimed.ensures
    (c.print_lines.ensures))
