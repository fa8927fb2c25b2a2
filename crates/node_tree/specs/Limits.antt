-- The limit of a tree.
use Rattle.std.specs.Prelude.{ℕ, ◌^◌}

-- the most nodes of a tree, and so of a search
abbrev pub most_nodes : ℕ
most_nodes = 10 ^ 9
