use Rattle.std.proofs.Common.{rules, ◌≡◌, map}
use Rattle.std.specs.Prelude.{string_bytes}
use Rattle.clap.specs.Words.{subcommand_rows_of}
use Rattle.command_words.specs.Commands.{asked_of, command_of}
use Rattle.command_words.proofs.Entered.{refused, taken}
use Rattle.command_words.proofs.command.parse.Goals as goal

pub returns-in_err-matches-clause-usage : goal.returns-in_err-matches-clause-usage
returns-in_err-matches-clause-usage c is =
    let words = map string_bytes c.as_slice.result.now in
    rw (← c.as_slice.ensures) (refused words (c.in_err-matches.ensures.usage (search rules)))

pub returns-clause-command : goal.returns-clause-command
returns-clause-command c =
    let words = map string_bytes c.as_slice.result.now in
    let e : command_of c.args.words.now ≡ asked_of (subcommand_rows_of c.in_ok-matches.matches) =
    rw (← c.as_slice.ensures) (taken words (subcommand_rows_of c.in_ok-matches.matches) c.in_ok-matches.ensures.taken c.in_ok-matches.ensures.matches) in
    rw e c.entered.ensures.asked

pub returns-clause-usage : goal.returns-clause-usage
returns-clause-usage c is =
    let words = map string_bytes c.as_slice.result.now in
    let e : command_of c.args.words.now ≡ asked_of (subcommand_rows_of c.in_ok-matches.matches) =
    rw (← c.as_slice.ensures) (taken words (subcommand_rows_of c.in_ok-matches.matches) c.in_ok-matches.ensures.taken c.in_ok-matches.ensures.matches) in
    rw e (c.entered.ensures.usage is)
