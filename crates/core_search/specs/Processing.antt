-- What a step does with its node, and how it ends a search.
use Rattle.std.specs.Prelude.{◌≡◌, ◌<◌, ℕ, List, []}
use Rattle.event_core.specs.States.{State, open_count}
use Rattle.expand.specs.declared.settlement.Settlement.{Settlement}
use Rattle.expand.specs.declared.settlement.Settlement.TheVariants.{Separated, Closed, Improved, Branched}
use Rattle.core_search.specs.declared.open_node.OpenNode.{OpenNode}
use Rattle.core_search.specs.declared.node_loop.Ending.{Ending}
use Rattle.core_search.specs.declared.node_loop.Ending.TheVariants.{Finished, Spent, Disk, Memory}
use Rattle.core_search.specs.OpenNodes.{AreOpenNodes, work_left}
use Rattle.core_search.specs.Endings.{IsSpent, HasSplitNext}

-- the held node was closed or split: nobody holds a node, the open nodes are known, and less work is left
pub record EndsNode (budget : ℕ) (old : State) (before : List OpenNode) (new : State) (after : List OpenNode) : Type 0 where
  pub unheld : new.holds ≡ []
  pub nodes : AreOpenNodes new after
  pub less : work_left budget new after < work_left budget old before

-- the node that is next admits a split, and its two children would pass the budget
abbrev pub IsExhausted : ℕ → State → Type 0
IsExhausted budget s = IsSpent budget s × HasSplitNext s

-- the search ends so
abbrev pub IsEnding : ℕ → Ending → State → Type 0
IsEnding budget Finished s = open_count s ≡ 0
IsEnding budget Spent s = IsExhausted budget s
IsEnding budget Disk s = Unit {0}
IsEnding budget Memory s = Unit {0}

-- the settlement closes its node
abbrev pub IsClosing : Settlement → Type 0
IsClosing (Separated mults) = ⊥
IsClosing (Closed proof) = Unit {0}
IsClosing (Improved x proof) = Unit {0}
IsClosing (Branched b) = ⊥
