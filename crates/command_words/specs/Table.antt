-- The table of commands, as a simple command of clap with one level of subcommands.
use Rattle.std.specs.Prelude.{ℕ, codes, Some, true}
use Rattle.clap.specs.Words.{App, Rule, Text, new_app, new_rule, with_rule, with_subcommand}
use Rattle.clap.specs.declared.builder.value_parser.ValueParser.TheVariants as vp
use Rattle.problem.specs.Limits.{most_cuts, largest_bound}
use Rattle.node_tree.specs.Limits.{most_nodes}
use Rattle.command_words.specs.Limits.{largest_seed, most_workers}

-- a path, which the command has to have
abbrev pub path : Text → Rule
path id = record (new_rule id) { required = true }

-- the seed of a drill, which it has to have: one whole number
abbrev pub seed : Rule
seed = record (new_rule (codes "SEED")) { required = true; parser = Some (vp.Unsigned 0 largest_seed) }

-- an option with one whole number from low to high
abbrev pub number : Text → ℕ → ℕ → Rule
number id low high = record (new_rule id) { long = Some id; parser = Some (vp.Unsigned low high) }

-- the paths of the journal and the certificate
abbrev pub with_journal_cert : App → App
with_journal_cert a = with_rule (with_rule a (path (codes "JOURNAL"))) (path (codes "CERT"))

-- the most nodes and the most cuts of a search, and how many workers search
abbrev pub with_limits : App → App
with_limits a = with_rule (with_rule (with_rule a (number (codes "nodes") 1 most_nodes)) (number (codes "cuts") 0 most_cuts)) (number (codes "workers") 1 most_workers)

-- `solve MODEL JOURNAL CERT [--nodes N] [--cuts C] [--workers W] [--upper U]`
abbrev pub solve_command : App
solve_command =
    let a = with_rule (new_app (codes "solve")) (path (codes "MODEL")) in
    with_rule (with_limits (with_journal_cert a)) (number (codes "upper") 0 largest_bound)

-- `resume JOURNAL CERT [--nodes N] [--cuts C] [--workers W]`
abbrev pub resume_command : App
resume_command = with_limits (with_journal_cert (new_app (codes "resume")))

-- `show JOURNAL`
abbrev pub show_command : App
show_command = with_rule (new_app (codes "show")) (path (codes "JOURNAL"))

-- `drill SEED CERT [--nodes N] [--cuts C] [--workers W]`
abbrev pub drill_command : App
drill_command = with_limits (with_rule (with_rule (new_app (codes "drill")) seed) (path (codes "CERT")))

-- the program: its name isn't among the words, it has no form of help, and a command has to follow
abbrev pub no_commands : App
no_commands =
    let a = new_app (codes "bnc") in
    record a { top = record a.top { no_binary_name = true; disable_help_flag = true; disable_help_subcommand = true; subcommand_required = true } }

-- the commands on a journal that is there
abbrev pub with_journal_commands : App → App
with_journal_commands a = with_subcommand (with_subcommand a resume_command.top) show_command.top

-- the whole table: `solve`, `resume`, `show` and `drill`
abbrev pub commands : App
commands = with_subcommand (with_journal_commands (with_subcommand no_commands solve_command.top)) drill_command.top
