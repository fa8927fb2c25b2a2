-- Which words are a command, and what it asks for.
use Rattle.std.specs.Prelude.{◌≤◌, IfSome, option_map, ℕ, Bool, not, ◌&&◌, List, [], ◌∷◌, Option, Some, None, is_some, unwrap_or, codes, string_bytes, if◌then◌else◌}
use Rattle.std.specs.Str.{bytes_eq}
use Rattle.std.specs.Str.Parse.{digits_value, without_leading_plus}
use Rattle.clap.specs.Words.{Row, Text, fault_of, first_of, one_of, subcommand_of}
use Rattle.clap.specs.Kinds.{Kinds}
use Rattle.clap.specs.ValueTests.{is_unsigned_in}
use Rattle.command_words.specs.Table.{commands}
use Rattle.command_words.specs.declared.command.Command.{Command}
use Rattle.command_words.specs.declared.command.Command.TheVariants as command
use Rattle.command_words.specs.declared.limits.Limits.{Limits}
use Rattle.command_words.specs.declared.paths.Paths.{Paths}
use Rattle.command_words.specs.Limits.{largest_seed, most_workers, default_nodes, default_workers}
use Rattle.problem.specs.Limits.{most_cuts, largest_bound}
use Rattle.node_tree.specs.Limits.{most_nodes}

-- What a command asks for.
pub data Asked : Type 0 where
  -- the paths of the model, the journal and the certificate; the limits of the search; the bound for columns that have none
  solve : Text → Text → Text → Limits → Option ℕ → Asked
  -- the paths of the journal and the certificate; the limits of the search
  resume : Text → Text → Limits → Asked
  -- the path of the journal
  show : Text → Asked
  -- the seed; the path of the certificate; the limits of the search
  drill : ℕ → Text → Limits → Asked

-- no two of the paths are the same
abbrev pub are_different : Text → Text → Text → Bool
are_different model journal cert = not (bytes_eq model journal) && (not (bytes_eq model cert) && not (bytes_eq journal cert))

-- The number of an argument: none where the words don't have the argument, and no answer where its text isn't a whole number
-- from low to high. The text has decimal digits, and a plus may stand before them.
abbrev pub number_in : ℕ → ℕ → Option Text → Option (Option ℕ)
number_in low high None = Some None
number_in low high (Some text) = if is_unsigned_in low high text then Some (Some (digits_value 10 (without_leading_plus text))) else None

-- the limits of these numbers, each with its default where the words lack it; none where one of them is no answer
abbrev pub limits_with : Option (Option ℕ) → Option (Option ℕ) → Option (Option ℕ) → Option Limits
limits_with (Some nodes) (Some cuts) (Some workers) = Some (record { nodes = unwrap_or nodes default_nodes; cuts = unwrap_or cuts most_cuts; workers = unwrap_or workers default_workers })
limits_with nodes cuts workers = None

-- the limits that the matches of a command ask for: numbers in their ranges
unfoldable pub limits_of : List Row → Option Limits
limits_of rows =
    limits_with (number_in 1 most_nodes (one_of (codes "nodes") rows)) (number_in 0 most_cuts (one_of (codes "cuts") rows))
    (number_in 1 most_workers (one_of (codes "workers") rows))

-- what `solve` asks for with these arguments; none where one is missing or two paths are the same
abbrev pub solve_with : Option Text → Option Text → Option Text → Option Limits → Option (Option ℕ) → Option Asked
solve_with (Some model) (Some journal) (Some cert) (Some limits) (Some upper) =
    if are_different model journal cert then Some (solve model journal cert limits upper) else None
solve_with model journal cert limits upper = None

-- what the matches of `solve` ask for: three paths that are all different, and the numbers in their ranges
abbrev pub solve_of : List Row → Option Asked
solve_of rows =
    solve_with (first_of (codes "MODEL") rows) (first_of (codes "JOURNAL") rows) (first_of (codes "CERT") rows) (limits_of rows)
    (number_in 0 largest_bound (one_of (codes "upper") rows))

-- what `resume` asks for with these arguments; none where one is missing or the paths are the same
abbrev pub resume_with : Option Text → Option Text → Option Limits → Option Asked
resume_with (Some journal) (Some cert) (Some limits) = if bytes_eq journal cert then None else Some (resume journal cert limits)
resume_with journal cert limits = None

-- what the matches of `resume` ask for: two paths that differ, and the numbers in their ranges
abbrev pub resume_of : List Row → Option Asked
resume_of rows = resume_with (first_of (codes "JOURNAL") rows) (first_of (codes "CERT") rows) (limits_of rows)

-- what the matches of `show` ask for: one path
abbrev pub show_of : List Row → Option Asked
show_of rows = option_map show (first_of (codes "JOURNAL") rows)

-- what `drill` asks for with these arguments; none where one is missing
abbrev pub drill_with : Option (Option ℕ) → Option Text → Option Limits → Option Asked
drill_with (Some (Some seed)) (Some cert) (Some limits) = Some (drill seed cert limits)
drill_with seed cert limits = None

-- what the matches of `drill` ask for: a seed and one path, and the numbers in their ranges
abbrev pub drill_of : List Row → Option Asked
drill_of rows =
    drill_with (number_in 0 largest_seed (one_of (codes "SEED") rows)) (first_of (codes "CERT") rows) (limits_of rows)

-- what the command of this name asks for by its matches
abbrev pub asked_of : Option (Text × List Row) → Option Asked
asked_of None = None
asked_of (Some entered) =
    if bytes_eq entered.0 (codes "solve") then solve_of entered.1
    else if bytes_eq entered.0 (codes "resume") then resume_of entered.1
    else if bytes_eq entered.0 (codes "show") then show_of entered.1
    else if bytes_eq entered.0 (codes "drill") then drill_of entered.1
    else None

-- what is asked for, where clap finds no fault
abbrev pub unless_fault : Kinds → Option Asked → Option Asked
unless_fault [] asked = asked
unless_fault (kind ∷ kinds) asked = None

-- What the words ask for. They are a command exactly where clap finds no fault by the table, and the paths and the numbers
-- of its matches are as above.
unfoldable pub command_of : List Text → Option Asked
command_of words = unless_fault (fault_of commands words) (asked_of (subcommand_of commands words))

-- the words ask for something
abbrev pub is_command : List Text → Bool
is_command words = is_some (command_of words)

-- what a command asks for, as plain values
abbrev pub asked : Command → Asked
asked (command.Solve model journal cert limits upper) = solve (string_bytes model) (string_bytes journal) (string_bytes cert) limits upper
asked (command.Resume journal cert limits) = resume (string_bytes journal) (string_bytes cert) limits
asked (command.Show journal) = show (string_bytes journal)
asked (command.Drill seed cert limits) = drill seed (string_bytes cert) limits

-- the numbers of these limits are in their ranges
pub record AreInRange (l : Limits) : Type 0 where
  pub some_nodes : 1 ≤ l.nodes
  pub few_nodes : l.nodes ≤ most_nodes
  pub few_cuts : l.cuts ≤ most_cuts
  pub some_workers : 1 ≤ l.workers
  pub few_workers : l.workers ≤ most_workers

-- its numbers are in their ranges
abbrev pub HasRanges : Command → Type 0
HasRanges (command.Solve model journal cert limits upper) = AreInRange limits × IfSome upper (λ u. u ≤ largest_bound)
HasRanges (command.Resume journal cert limits) = AreInRange limits
HasRanges (command.Show journal) = Unit {0}
HasRanges (command.Drill seed cert limits) = (seed ≤ largest_seed) × AreInRange limits

-- the paths of what is asked, each there as the command has it
abbrev pub paths_asked : Asked → Option Text × Option Text × Option Text
paths_asked (solve model journal cert limits upper) = (Some model, Some journal, Some cert)
paths_asked (resume journal cert limits) = (None, Some journal, Some cert)
paths_asked (show journal) = (None, Some journal, None)
paths_asked (drill seed cert limits) = (None, None, Some cert)

-- the same of paths
abbrev pub texts_of : Paths → Option Text × Option Text × Option Text
texts_of paths = (option_map string_bytes paths.model, option_map string_bytes paths.journal, option_map string_bytes paths.cert)
