use Rattle.std.proofs.Common.{◌≡◌, ◌∙◌, ap}
use Rattle.std.proofs.lemmas.Result.{IfOk-weaker}
use Rattle.clap.specs.Words.{app_of, with_subcommand}
use Rattle.command_words.specs.Table.{commands, with_journal_commands}
use Rattle.command_words.proofs.table.table.Goals as goal

pub returns : goal.returns
returns c =
    let solving = c.in_ok-command.ensures ∙ (λ i. with_subcommand (c.program.ensures i) (c.in_ok-solve.ensures.app i).top) in
    let journal = c.in_ok-command-2.ensures ∙ ap with_journal_commands solving in
    IfOk-weaker c.with_command-2.result (λ s. app_of s ≡ with_subcommand (app_of c.in_ok-command-2.command) (app_of c.in_ok-drill.field-0).top)
    (λ s. app_of s ≡ commands) (λ s h. h ∙ (λ i. with_subcommand (journal i) (c.in_ok-drill.ensures.app i).top)) c.with_command-2.ensures
