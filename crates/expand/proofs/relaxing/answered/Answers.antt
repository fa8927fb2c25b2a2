use Rattle.expand.proofs.Answering.{tableau_left}
use Rattle.expand.proofs.relaxing.answered.Goals as goal

pub returns-clause-tableau : goal.returns-clause-tableau
returns-clause-tableau c = λ room.
    let g = c.args.subproblem.now in
    tableau_left g.problem.now g.book.now.cuts g.area.now c.args.relaxation.now.cuts c.requires.all_cuts c.in_ok-answer-2.field-0.tableau c.in_ok-answer-2.ensures.tableau
