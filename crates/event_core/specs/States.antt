-- Where a search stands.
use Rattle.std.specs.Prelude.{ℕ, Bool, true, false, not, List, [], ◌∷◌, Option, None, slice_index_or}
use Rattle.std.specs.List.{count_by}
use Rattle.std.specs.Option.{option_map}
use Rattle.fraction.specs.Rational.{ℚ}
use Rattle.problem_box.specs.declared.span.Span.{Span}
use Rattle.problem.specs.Problem.{Problem}
use Rattle.problem.specs.Directions.{directed_value}
use Rattle.node_tree.specs.declared.branch.Node.{Node}
use Rattle.node_tree.specs.Nodes.{Tree, no_node}
use Rattle.node_tree.specs.Paths.{box_at}
use Rattle.derivation_book.specs.declared.cut.Cut.{Cut}
use Rattle.incumbent.specs.declared.best.Best.{Best}
use Rattle.incumbent.specs.Offers.{cutoff_of}
use Rattle.event_core.specs.declared.entry.Holder.{Holder}

-- the problem, the nodes in the order of their numbers, for each node whether it has ended (it was split or closed), the cuts, the incumbent, and who holds which node
pub record State : Type 0 where
  pub problem : Problem
  pub nodes : List Node
  pub ended : List Bool
  pub cuts : List Cut
  pub incumbent : Option Best
  pub holds : List Holder

-- node 0 alone, which is open; no cut, no incumbent, and nobody holds a node
abbrev pub first_state : Problem → State
first_state p = record { problem = p; nodes = no_node ∷ []; ended = false ∷ []; cuts = []; incumbent = None; holds = [] }

-- the tree of a state, without the room that the program keeps
abbrev pub tree_of : State → Tree
tree_of s = record { root = s.problem.spans; nodes = s.nodes; room = 0 }

-- the box of a node
abbrev pub box_of : State → ℕ → List Span
box_of s i = box_at (tree_of s) i

-- the incumbent's aim, if there is an incumbent
abbrev pub cutoff : State → Option ℚ
cutoff s = cutoff_of s.incumbent

-- the problem's own objective at the incumbent, if there is an incumbent
abbrev pub best_value : State → Option ℚ
best_value s = option_map (λ v. directed_value s.problem.sense v) (cutoff s)

-- the node is there and has not ended
abbrev pub is_open : State → ℕ → Bool
is_open s i = not (slice_index_or s.ended i true)

-- how many nodes are open
abbrev pub open_count : State → ℕ
open_count s = count_by not s.ended
