use Rattle.std.proofs.Common.{◌∙◌, take}
use Rattle.dual_simplex.proofs.Ending.{is_end, answer_is, left_is, told}
use Rattle.dual_simplex.proofs.solution.solution_at.Goals as goal

pub answer_at-requires-clause-end : goal.answer_at-requires-clause-end
answer_at-requires-clause-end c = is_end c.args.problem.now (take c.args.cuts c.args.book.now.cuts) c.args.area.now c.args.tableau c.args.place c.requires.ends

pub returns : goal.returns
returns c = record {
  answer = c.in_ok-answer.ensures ∙ answer_is c.args.problem.now (take c.args.cuts c.args.book.now.cuts) c.args.area.now c.args.tableau c.args.place c.requires.ends;
  tableau = left_is c.args.problem.now (take c.args.cuts c.args.book.now.cuts) c.args.area.now c.args.tableau c.args.place c.requires.ends;
  pivots = told c.args.problem.now (take c.args.cuts c.args.book.now.cuts) c.args.area.now c.args.tableau c.args.place c.requires.ends;
}
