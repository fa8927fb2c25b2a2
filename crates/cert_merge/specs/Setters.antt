-- For each column, the nodes of a path that set its bounds: the table behind the lines of a node's bounds.
use Rattle.std.specs.Prelude.{◌≡◌, ◌<◌, ℕ, ◌+◌, List, [], ◌∷◌, length, Option, Some, None, slice_index_or, slice_set}
use Rattle.node_tree.specs.declared.branch.Side.{Side}
use Rattle.node_tree.specs.declared.branch.Side.TheVariants.{Low, High}
use Rattle.node_tree.specs.Nodes.{Tree}
use Rattle.node_tree.specs.Paths.{setter, path_at}
use Rattle.event_core.specs.States.{State, tree_of}
use Rattle.cert_merge.specs.declared.setters.Setter.{Setter}
use Rattle.cert_merge.specs.Closing.{BoundSource}
use Rattle.cert_merge.specs.Numbers.{set_line}

-- ---- the table
-- no node has set a bound of the column
abbrev pub no_setter : Setter
no_setter = record { low = None; high = None }

-- the node that set this bound of a column
abbrev pub set_by : Side → Setter → Option ℕ
set_by Low t = t.low
set_by High t = t.high

-- the node that set this bound of column j
abbrev pub set_at : List Setter → ℕ → Side → Option ℕ
set_at ts j side = set_by side (slice_index_or ts j no_setter)

-- the same, but that this node, or none, set the bound
abbrev pub with_setter : Side → Option ℕ → Setter → Setter
with_setter Low o t = record t { low = o }
with_setter High o t = record t { high = o }

-- the table, where this node, or none, set this bound of column j
abbrev pub with_set : List Setter → ℕ → Side → Option ℕ → List Setter
with_set ts j side o = slice_set ts j (with_setter side o (slice_index_or ts j no_setter))

-- the table of node i
abbrev pub AreSetters : Tree → ℕ → List Setter → Type 0
AreSetters t i ts = (j : ℕ) (side : Side) → j < length ts → set_at ts j side ≡ setter j side (path_at t i)

-- the table names nodes below n
abbrev pub NameNodes : ℕ → List Setter → Type 0
NameNodes n ts = (j : ℕ) (side : Side) (k : ℕ) → j < length ts → set_at ts j side ≡ Some k → k < n

-- ---- lines
-- the lines of the bounds, for each column from j on
abbrev pub sources_by : State → ℕ → List Setter → List BoundSource
sources_by s j [] = []
sources_by s j (t ∷ ts) = record { lower = set_line s j Low t.low; upper = set_line s j High t.high } ∷ sources_by s (j + 1) ts

-- the table of node i of a state
pub record AreSettersOf (s : State) (i : ℕ) (ts : List Setter) : Type 0 where
  pub columns : length ts ≡ length s.problem.spans
  pub nodes : NameNodes (length s.nodes) ts
  pub setters : AreSetters (tree_of s) i ts
