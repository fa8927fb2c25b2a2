use Rattle.std.specs.Prelude.{◌≡◌, Bool, IsTrue, ◌↔◌, take}
use Rattle.std.specs.Bool.{one_answer}
use Rattle.std.proofs.lemmas.Result.{IfOk-weaker}
use Rattle.dual_simplex.specs.declared.answer.Answer.{Answer}
use Rattle.dual_simplex.specs.declared.answer.Answer.TheVariants.{Stalled as StalledRun}
use Rattle.dual_simplex.specs.Answers.{answer}
use Rattle.event_core.specs.Splits.{is_stalled}
use Rattle.event_core.specs.Lemmas.Reasons.{decides-stalled}
use Rattle.event_core.proofs.split_rule.is_stalled.Goals as goal

pub returns-clause-value : goal.returns-clause-value
returns-clause-value c =
    let a : Answer = answer c.args.problem.now (take c.args.cuts c.args.book.now.cuts) c.args.area.now in
    IfOk-weaker c.is_stalled.result (λ (b : Bool). IsTrue b ↔ (a ≡ StalledRun)) (λ (b : Bool). b ≡ is_stalled a) (λ b h. one_answer b (is_stalled a) h (decides-stalled a)) c.is_stalled.ensures.stalled
