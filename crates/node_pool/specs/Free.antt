-- The open nodes that nobody holds.
use Rattle.std.specs.Prelude.{◌≡◌, ◌<◌, ◌+◌, ℕ, Bool, true, not, if◌then◌else◌, ◌&&◌, nat_eq, List, [], ◌∷◌, ◌++◌, length}
use Rattle.std.specs.List.{AllPairs, list_any}
use Rattle.node_events.specs.declared.event.Event.{Event}
use Rattle.event_core.specs.States.{State, is_open}
use Rattle.event_core.specs.Holds.{is_held}
use Rattle.event_core.specs.Frames.{is_split, nodes_made}

-- the node is open, and nobody holds it
abbrev pub is_free : State → ℕ → Bool
is_free s i = is_open s i && not (is_held s i)

-- node i is one of these
abbrev pub has_node : List ℕ → ℕ → Bool
has_node ns i = list_any (λ n. nat_eq n i) ns

-- each number is less than those behind it
abbrev pub AreRising : List ℕ → Type 0
AreRising ns = AllPairs (λ m n. m < n) ns

-- the open nodes that nobody holds, by rising number
pub record AreFreeNodes (s : State) (ns : List ℕ) : Type 0 where
  pub rising : AreRising ns
  pub listed : (i : ℕ) → has_node ns i ≡ is_free s i

-- the children of the node that the event splits, where the next node has this number
abbrev pub children_of : Event → ℕ → List ℕ
children_of e n = if is_split e then n ∷ (n + 1) ∷ [] else []

-- the children of the nodes that the events split, where the next node has this number
abbrev pub children_of_all : List Event → ℕ → List ℕ
children_of_all [] n = []
children_of_all (e ∷ es) n = children_of e n ++ children_of_all es (n + nodes_made e)

-- a split is alone in its list
abbrev pub SplitsAlone : List Event → Type 0
SplitsAlone es = list_any is_split es ≡ true → length es ≡ 1
