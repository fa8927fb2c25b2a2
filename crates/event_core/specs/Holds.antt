-- Who holds which node.
use Rattle.std.specs.Prelude.{ℕ, Bool, true, false, not, nat_eq, ◌&&◌, List, [], ◌∷◌, filter, Option, Some, None}
use Rattle.std.specs.List.{list_any}
use Rattle.event_core.specs.declared.entry.Holder.{Holder}
use Rattle.event_core.specs.States.{State}

-- somebody holds the node
abbrev pub is_held : State → ℕ → Bool
is_held s i = list_any (λ (h : Holder). nat_eq h.node i) s.holds

-- the worker holds a node
abbrev pub is_holding : State → ℕ → Bool
is_holding s w = list_any (λ (h : Holder). nat_eq h.worker w) s.holds

-- the worker holds this node
abbrev pub holds_node : State → ℕ → ℕ → Bool
holds_node s w i = list_any (λ (h : Holder). nat_eq h.worker w && nat_eq h.node i) s.holds

-- the worker, if there is one, holds a node
abbrev pub is_busy : State → Option ℕ → Bool
is_busy s None = false
is_busy s (Some w) = is_holding s w

-- the worker, if there is one, holds this node
abbrev pub is_yours : State → Option ℕ → ℕ → Bool
is_yours s None i = true
is_yours s (Some w) i = holds_node s w i

-- the worker, if there is one, with this node
abbrev pub hold_of : Option ℕ → ℕ → List Holder
hold_of None i = []
hold_of (Some w) i = record { worker = w; node = i } ∷ []

-- those that hold other nodes
abbrev pub without_hold : ℕ → List Holder → List Holder
without_hold i hs = filter (λ (h : Holder). not (nat_eq h.node i)) hs
