-- What is true of each state that legal events led to.
use Rattle.std.specs.Prelude.{◌≡◌, ◌≤◌, ℕ, true, false, nat_eq, List, [], ◌∷◌, length, All, None}
use Rattle.std.specs.List.{list_any}
use Rattle.node_tree.specs.Nodes.{children_at}
use Rattle.node_tree.specs.Trees.{IsTree}
use Rattle.derivation_book.specs.Cuts.{AreCutsOf}
use Rattle.incumbent.specs.Offers.{IsIncumbentOf}
use Rattle.event_core.specs.declared.entry.Holder.{Holder}
use Rattle.event_core.specs.States.{State, tree_of, is_open}
use Rattle.problem.specs.Limits.{most_cuts}

-- each worker holds one node at most, and each node is held by one worker at most
abbrev pub AreApart : List Holder → Type 0
AreApart [] = Unit {0}
AreApart (h ∷ hs) = (list_any (λ (k : Holder). nat_eq k.worker h.worker) hs ≡ false) × (list_any (λ (k : Holder). nat_eq k.node h.node) hs ≡ false) × AreApart hs

-- The parts of a state fit one another, and nothing in it is false: its nodes are a tree whose open nodes are leaves, each cut is the rounded row
-- of its multipliers, the incumbent is feasible, and each node that is held is open, and held by one worker, who holds no other.
pub record IsSound (s : State) : Type 0 where
  pub lengths : length s.ended ≡ length s.nodes
  pub tree : IsTree (tree_of s)
  pub leaves : (i : ℕ) → is_open s i ≡ true → children_at (tree_of s) i ≡ None
  pub cuts : AreCutsOf s.problem s.cuts
  pub few_cuts : length s.cuts ≤ most_cuts
  pub incumbent : IsIncumbentOf s.problem s.incumbent
  pub holds_open : All (λ (h : Holder). is_open s h.node ≡ true) s.holds
  pub apart : AreApart s.holds
