use Rattle.std.specs.Prelude.{◌≡◌, Bool, IsTrue, ◌↔◌, take}
use Rattle.std.specs.Bool.{one_answer}
use Rattle.std.proofs.lemmas.Result.{IfOk-weaker}
use Rattle.dual_simplex.specs.declared.answer.Answer.{Answer}
use Rattle.dual_simplex.specs.declared.answer.Answer.TheVariants.{Cramped as CrampedRun}
use Rattle.dual_simplex.specs.Answers.{answer}
use Rattle.event_core.specs.Splits.{is_cramped}
use Rattle.event_core.specs.Lemmas.Reasons.{decides-cramped}
use Rattle.event_core.proofs.split_rule.is_cramped.Goals as goal

pub returns-clause-value : goal.returns-clause-value
returns-clause-value c =
    let a : Answer = answer c.args.problem.now (take c.args.cuts c.args.book.now.cuts) c.args.area.now in
    IfOk-weaker c.is_cramped_after.result (λ (b : Bool). IsTrue b ↔ (a ≡ CrampedRun c.args.pivots)) (λ (b : Bool). b ≡ is_cramped c.args.pivots a) (λ b h. one_answer b (is_cramped c.args.pivots a) h (decides-cramped c.args.pivots a)) c.is_cramped_after.ensures.cramped
