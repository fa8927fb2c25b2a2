-- What a command asks for, without its paths.
use Rattle.std.specs.Prelude.{ℕ, ◌≤◌, List, Option, option_map, IfSome}
use Rattle.command_words.specs.Commands.{Asked, AreInRange, command_of, solve, resume, show, drill}
use Rattle.command_words.specs.declared.limits.Limits.{Limits}
use Rattle.command_words.specs.Limits.{default_nodes, default_workers}
use Rattle.solve_top.specs.declared.request.Request.{Request}
use Rattle.solve_top.specs.declared.request.Request.TheVariants as request
use Rattle.problem.specs.Limits.{most_cuts, largest_bound}

-- what a command asks for, without the paths of its files
abbrev pub without_paths : Asked → Request
without_paths (solve model journal cert limits upper) = request.Solve limits upper
without_paths (resume journal cert limits) = request.Resume limits
without_paths (show journal) = request.Show
without_paths (drill seed cert limits) = request.Drill seed limits

-- what the words ask for; nothing where they are no command
unfoldable pub requested : List (List ℕ) → Option Request
requested words = option_map without_paths (command_of words)

-- the limits of the search; where there is none, those of a command that doesn't say
abbrev pub limits_in : Request → Limits
limits_in (request.Solve limits upper) = limits
limits_in (request.Resume limits) = limits
limits_in request.Show = record { nodes = default_nodes; cuts = most_cuts; workers = default_workers }
limits_in (request.Drill seed limits) = limits

-- its numbers are in their ranges
abbrev pub HasRanges : Request → Type 0
HasRanges (request.Solve limits upper) = AreInRange limits × IfSome upper (λ u. u ≤ largest_bound)
HasRanges (request.Resume limits) = AreInRange limits
HasRanges request.Show = Unit {0}
HasRanges (request.Drill seed limits) = AreInRange limits
