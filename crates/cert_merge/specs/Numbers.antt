-- The numbers of a certificate's lines, by its layout.
use Rattle.std.specs.Prelude.{◌<◌, ℕ, ◌+◌, ◌-◌, ◌*◌, ◌^◌, List, [], ◌∷◌, length, Option, Some, None}
use Rattle.problem_box.specs.declared.span.Span.{Span}
use Rattle.problem.specs.Problem.{Problem}
use Rattle.node_tree.specs.declared.branch.Side.{Side}
use Rattle.node_tree.specs.declared.branch.Side.TheVariants.{Low, High}
use Rattle.node_tree.specs.Paths.{setter, path_at}
use Rattle.derivation_book.specs.Known.{first_cut}
use Rattle.event_core.specs.States.{State, tree_of}
use Rattle.cert_merge.specs.Closing.{BoundSource}
use Rattle.cert_merge.specs.Layout.{layout_of}

-- the assumption of node i, which is at least 1, behind the rows, the bounds and the cuts
abbrev pub assumption_line : State → ℕ → ℕ
assumption_line s i = (layout_of s).assumptions + (i - 1)

-- node i, behind the assumptions
abbrev pub node_line : State → ℕ → ℕ
node_line s i = (layout_of s).nodes + (length s.nodes - 1 - i)

-- the row that states a column's bound in the problem
abbrev pub bound_line : Problem → ℕ → Side → ℕ
bound_line p j Low = length p.rows + 2 * j
bound_line p j High = length p.rows + 2 * j + 1

-- the line of a column's bound that this node's branch set, or no branch
abbrev pub set_line : State → ℕ → Side → Option ℕ → ℕ
set_line s j side None = bound_line s.problem j side
set_line s j side (Some k) = assumption_line s k

-- the line that states the bound in a node's box: the assumption of the deepest node that set it, else the bound in the problem
abbrev pub line_of_bound : State → ℕ → ℕ → Side → ℕ
line_of_bound s i j side = set_line s j side (setter j side (path_at (tree_of s) i))

-- for each column from j on
abbrev pub sources_from : State → ℕ → ℕ → List Span → List BoundSource
sources_from s i j [] = []
sources_from s i j (b ∷ bs) = record { lower = line_of_bound s i j Low; upper = line_of_bound s i j High } ∷ sources_from s i (j + 1) bs

-- the lines that state the bounds of node i's box, for each column
abbrev pub sources_of : State → ℕ → List BoundSource
sources_of s i = sources_from s i 0 s.problem.spans

-- the lines are numbered below 2^32
abbrev pub IsNumbered : State → Type 0
IsNumbered s = first_cut s.problem + length s.cuts + 2 * length s.nodes < 2 ^ 32
