use Rattle.std.proofs.Common.{◌≡◌, ◌∙◌}
use Rattle.std.proofs.lemmas.Result.{IfOk-weaker}
use Rattle.clap.specs.Words.{app_of, with_subcommand}
use Rattle.command_words.specs.Table.{with_journal_commands}
use Rattle.command_words.proofs.table.with_journal_commands.Goals as goal

pub returns : goal.returns
returns c =
    let resumed = c.in_ok-command.ensures ∙ (λ i. with_subcommand (app_of c.args.command) (c.in_ok-resume.ensures.app i).top) in
    IfOk-weaker c.with_command-2.result (λ s. app_of s ≡ with_subcommand (app_of c.in_ok-command.command) (app_of c.in_ok-show.field-0).top)
    (λ s. app_of s ≡ with_journal_commands (app_of c.args.command))
    (λ s h. h ∙ (λ i. with_subcommand (resumed i) (c.in_ok-show.ensures.app i).top)) c.with_command-2.ensures
