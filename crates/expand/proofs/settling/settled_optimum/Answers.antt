use Rattle.std.proofs.Common.{sym, subst}
use Rattle.problem_box.specs.Boxes.{IsInBox}
use Rattle.expand.specs.Findings.{IsFractionalIn}
use Rattle.expand.proofs.Optima.{whole_feasible}
use Rattle.expand.proofs.settling.settled_optimum.Goals as goal

pub improved_or_closed-requires : goal.improved_or_closed-requires
improved_or_closed-requires c =
    let s = c.args.state.now.state in
    let x = c.args.point in
    subst (IsInBox s.problem.spans) (sym c.in_ok-point-in-None.ensures)
    (whole_feasible s.problem s.cuts c.args.area.now c.args.cuts x c.args.mult c.args.value c.requires.solved.optimal (subst (IsFractionalIn x) c.in-None.is c.requires.solved.fractional) c.requires.part).in_box
