use Rattle.std.proofs.Common.{arith}
use Rattle.expand.proofs.Reading.{tableau_columns}
use Rattle.expand.proofs.cuts.cuts_found.Goals as goal

pub separate-requires-clause-columns : goal.separate-requires-clause-columns
separate-requires-clause-columns c =
    tableau_columns c.args.subproblem.now.problem.now c.args.subproblem.now.book.now.cuts c.args.subproblem.now.area.now c.args.point.now c.requires.optimal.0 c.args.value c.args.tableau.now c.in-Some.tableau
    c.requires.area c.requires.optimal.1 (c.requires.tableau (omega (arith, c.if-room-eq0.false))) c.in-Some.is
