use Rattle.std.specs.Prelude.{IfSome}
use Rattle.std.proofs.Common.{◌≡◌, ◌+◌, ◌*◌, refl, ap, sym, ◌∙◌, subst, Option, length}
use Rattle.tableau.specs.Tableau.{Tableau}
use Rattle.tableau.specs.Start.{started}
use Rattle.dual_simplex.proofs.Stopping.{stopped_run}
use Rattle.dual_simplex.proofs.cramped_run.is_cramped_by_fractions.Goals as goal

pub is_cramped_from-requires-clause-stops : goal.is_cramped_from-requires-clause-stops
is_cramped_from-requires-clause-stops c =
    stopped_run c.args.problem.now c.args.book.now.cuts c.args.cuts c.args.area.now c.requires.few c.requires.columns (20 * (length c.args.problem.now.spans + (length c.args.problem.now.rows + c.args.cuts)) + 100) refl
    c.in-Some.start (ap started (sym c.in_ok-program.ensures) ∙ sym c.in_ok-start.ensures.value ∙ c.in-Some.is)
    (subst (λ (o : Option Tableau). IfSome o (λ t. t.pivots ≡ 0)) c.in-Some.is c.in_ok-start.ensures.pivots) c.args.claim c.claimed_cap-cap.result c.claimed_cap-cap.ensures.limited c.claimed_cap-cap.ensures.enough
