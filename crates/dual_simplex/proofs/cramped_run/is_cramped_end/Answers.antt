use Rattle.std.proofs.Common.{◌≡◌, sym, ◌∙◌, take}
use Rattle.dual_simplex.specs.Answers.{answer}
use Rattle.dual_simplex.proofs.Ending.{is_end, answer_is}
use Rattle.dual_simplex.proofs.cramped_run.is_cramped_end.Goals as goal

pub answer_at-requires-clause-end : goal.answer_at-requires-clause-end
answer_at-requires-clause-end c = is_end c.args.problem.now (take c.args.cuts c.args.book.now.cuts) c.args.area.now c.args.tableau.now c.args.place c.requires.ends

pub returns : goal.returns
returns c =
    let e : c.in_ok-answer.answer ≡ answer c.args.problem.now (take c.args.cuts c.args.book.now.cuts) c.args.area.now = c.in_ok-answer.ensures ∙ answer_is c.args.problem.now (take c.args.cuts c.args.book.now.cuts) c.args.area.now c.args.tableau.now c.args.place c.requires.ends in
    (λ h. sym e ∙ c.is_cramped.ensures.0 h, λ f. c.is_cramped.ensures.1 (e ∙ f))
