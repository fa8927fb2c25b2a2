-- Events that settle the node that is held, and those that close it.
use Rattle.std.specs.Prelude.{◌≡◌, ◌<◌, ◌≤◌, ◌+◌, ℕ, true, false, ◌||◌, nat_lt, List, [], length, Result, OnOk, OnErr, refl}
use Rattle.std.proofs.Common.{ap, ◌∙◌, arith}
use Rattle.std.proofs.lemmas.Bool.Decides.{Decides-ltb}
use Rattle.event_core.specs.States.{State, box_of}
use Rattle.event_core.specs.Histories.{state_from, AreLegalFrom}
use Rattle.event_core.specs.Rooms.{Recorded}
use Rattle.expand.specs.declared.settlement.Branching.{Branching}
use Rattle.expand.specs.declared.settlement.Settlement.{Settlement}
use Rattle.expand.specs.declared.settlement.Settlement.TheVariants.{Separated, Closed, Improved, Branched}
use Rattle.expand.specs.Laws.{entries_of}
use Rattle.expand.specs.Settlements.{events_of, IsSettlement}
use Rattle.expand.specs.Lemmas.Events.{settlement_legal}
use Rattle.expand.specs.Lemmas.Rooms.{IsNotSeparated}
use Rattle.node_pool.specs.Halting.{spends}
use Rattle.node_pool.specs.Lemmas.Budgets.{or_false}
use Rattle.core_search.specs.Holding.{IsHeldAlone}
use Rattle.core_search.specs.declared.open_node.OpenNode.{OpenNode}
use Rattle.core_search.specs.Visits.{Makes, nodes_left}
use Rattle.core_search.specs.Processing.{IsClosing}
use Rattle.core_search.proofs.Acting.{yours}
use Rattle.core_search.proofs.Stepping.{on_either}

pub settles_legally : (s : State) (i : ℕ) (g : Settlement) → IsHeldAlone s i → IsSettlement s (box_of s i) g → AreLegalFrom s (entries_of 0 (events_of i g))
settles_legally s i g held h = settlement_legal s 0 i g held.opened (yours s i held) h

-- ---- a split and the budget
module _ (budget nodes i : ℕ) (b : Branching) where
  pub split_spends : budget < nodes + 2 → spends budget nodes (events_of i (Branched b)) ≡ true
  split_spends l = ap (λ t. t || false) ((Decides-ltb budget (nodes + 2)).1 l)

  pub split_unspent : nodes + 2 ≤ budget → spends budget nodes (events_of i (Branched b)) ≡ true → ⊥
  split_unspent l e = let over = (Decides-ltb budget (nodes + 2)).0 (or_false (nat_lt budget (nodes + 2)) e) in omega (arith, l, over)

-- ---- what closes a node
pub closing_some : (i : ℕ) (g : Settlement) → IsClosing g → 0 < length (events_of i g)
closing_some i (Separated mults) k = absurd k
closing_some i (Closed proof) k = omega arith
closing_some i (Improved x proof) k = omega arith
closing_some i (Branched b) k = absurd k

pub closing_nodes : (s : State) (i : ℕ) (g : Settlement) → IsClosing g → (state_from s (entries_of 0 (events_of i g))).nodes ≡ s.nodes
closing_nodes s i (Separated mults) k = absurd k
closing_nodes s i (Closed proof) k = refl
closing_nodes s i (Improved x proof) k = refl
closing_nodes s i (Branched b) k = absurd k

pub closing_cuts : (s : State) (i : ℕ) (g : Settlement) → IsClosing g → (state_from s (entries_of 0 (events_of i g))).cuts ≡ s.cuts
closing_cuts s i (Separated mults) k = absurd k
closing_cuts s i (Closed proof) k = refl
closing_cuts s i (Improved x proof) k = refl
closing_cuts s i (Branched b) k = absurd k

-- what closing keeps of a state, and no event changes
pub either_keeps : {A E B : Type 0} (part : State → B) (i : ℕ) (g : Settlement) (s t : Recorded) (r : Result A E) → part (state_from s.state (entries_of 0 (events_of i g))) ≡ part s.state
    → OnOk r (Makes (events_of i g) s t) → OnErr r (Makes [] s t) → part t.state ≡ part s.state
either_keeps part i g s t r keeps = on_either r (λ h. ap part h.state ∙ keeps) (λ h. ap part h.state)

pub closing_unspent : (budget nodes i : ℕ) (g : Settlement) → IsClosing g → spends budget nodes (events_of i g) ≡ true → ⊥
closing_unspent budget nodes i (Separated mults) k e = absurd k
closing_unspent budget nodes i (Closed proof) k e = cc
closing_unspent budget nodes i (Improved x proof) k e = cc
closing_unspent budget nodes i (Branched b) k e = absurd k

-- what neither separates nor splits closes
pub closes_else : (g : Settlement) → ((b : Branching) → g ≡ Branched b → ⊥) → IsNotSeparated g → IsClosing g
closes_else (Separated mults) b s = s mults refl
closes_else (Closed proof) b s = tt
closes_else (Improved x proof) b s = tt
closes_else (Branched branching) b s = b branching refl

pub closing_left : (k : ℕ) (o : OpenNode) (g : Settlement) (others : List OpenNode) → IsClosing g → others ≡ nodes_left k o g others
closing_left k o (Separated mults) others h = refl
closing_left k o (Closed proof) others h = refl
closing_left k o (Improved x proof) others h = refl
closing_left k o (Branched b) others h = absurd h
