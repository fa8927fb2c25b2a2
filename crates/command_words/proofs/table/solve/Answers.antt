use Rattle.std.proofs.Common.{◌≡◌, ◌∙◌, ap}
use Rattle.std.proofs.lemmas.Result.{IfOk-weaker}
use Rattle.clap.specs.Words.{app_of, rule_of, with_rule}
use Rattle.command_words.specs.Table.{solve_command, with_journal_cert, with_limits}
use Rattle.command_words.proofs.table.solve.Goals as goal

pub returns-clause-app : goal.returns-clause-app
returns-clause-app c =
    let model = c.in_ok-command.ensures.app ∙ (λ i. with_rule (c.new.ensures.app i) (c.path.ensures.rule i)) in
    let limits = c.in_ok-command-3.ensures.app ∙ ap with_limits (c.in_ok-command-2.ensures.app ∙ ap with_journal_cert model) in
    IfOk-weaker c.with_arg-2.result (λ s. app_of s ≡ with_rule (app_of c.in_ok-command-3.command) (rule_of c.number.result)) (λ s. app_of s ≡ solve_command)
    (λ s h. h ∙ (λ i. with_rule (limits i) (c.number.ensures.rule i))) c.with_arg-2.ensures.app
