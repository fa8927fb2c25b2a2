-- The numbers of the options that no other crate limits.
use Rattle.std.specs.Prelude.{ℕ, ◌^◌}

-- the most nodes of a search where the words don't say
abbrev pub default_nodes : ℕ
default_nodes = 1_000_000

-- how many workers search where the words don't say
abbrev pub default_workers : ℕ
default_workers = 1

-- the most workers that may be asked for
abbrev pub most_workers : ℕ
most_workers = 16

-- the largest seed of a drill
abbrev pub largest_seed : ℕ
largest_seed = 10 ^ 9
