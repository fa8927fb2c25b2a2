-- How the search visits its nodes, one after another, each looked at with the room that is left for cuts.
use Rattle.std.specs.Prelude.{◌≡◌, ℕ, ◌-◌, List, [], ◌∷◌, ◌++◌, map, replicate, length, All}
use Rattle.problem.specs.Linear.{Multipliers}
use Rattle.node_events.specs.declared.event.Event.{Event}
use Rattle.node_events.specs.declared.event.Event.TheVariants.{Claim, Cut, Split, Close}
use Rattle.pseudo_cost.specs.declared.column_gains.ColumnGains.{ColumnGains}
use Rattle.pseudo_cost.specs.ColumnGains.{no_column_gains}
use Rattle.event_core.specs.States.{State, cutoff}
use Rattle.event_core.specs.Histories.{state_from}
use Rattle.event_core.specs.Rooms.{Recorded}
use Rattle.expand.specs.declared.finding.Finding.{Finding}
use Rattle.expand.specs.declared.settlement.Settlement.{Settlement}
use Rattle.expand.specs.declared.settlement.Settlement.TheVariants.{Separated, Closed, Improved, Branched}
use Rattle.expand.specs.Expansion.{IsExpansion, costs_after}
use Rattle.expand.specs.Laws.{entries_of}
use Rattle.expand.specs.Settlements.{events_of}
use Rattle.expand.specs.Settling.{settled}
use Rattle.core_search.specs.declared.open_node.OpenNode.{OpenNode}
use Rattle.core_search.specs.OpenNodes.{AreOpenNodes, HasNoOrigin, children}

-- the history goes on with these events of worker 0
pub record Makes (es : List Event) (old new : Recorded) : Type 0 where
  pub history : new.history ≡ old.history ++ entries_of 0 es
  pub state : new.state ≡ state_from old.state (entries_of 0 es)

-- the event neither closes nor splits a node
abbrev pub EndsNone : Event → Type 0
EndsNone (Split i j b reason) = ⊥
EndsNone (Close i proof) = ⊥
EndsNone e = Unit {0}

-- the history goes on with events of worker 0 that end no node
pub record EndsNoNode (old new : Recorded) : Type 0 where
  pub events : List Event
  pub none : All EndsNone events
  pub makes : Makes events old new

-- What a look at a node comes to, with room for so many cuts and at most `limit` cuts in the book. What is noted of the node changes the costs first.
pub record IsLook (limit room : ℕ) (s : State) (o : OpenNode) (before after : List ColumnGains) (g : Settlement) : Type 0 where
  pub finding : Finding
  pub noted : after ≡ costs_after s.problem s.cuts o.area (cutoff s) o.origin before
  pub found : IsExpansion s.problem s.cuts o.area (cutoff s) after room finding
  pub settles : g ≡ settled s o.area limit finding

-- A node is decided by one look, with the room that is left for cuts. Where that finds cuts, these are made, and it is decided by a second look, without
-- room.
pub data IsDecision (limit : ℕ) (o : OpenNode) (old new : Recorded) (before after : List ColumnGains) (g : Settlement) : Type 0 where
  at_once : IsLook limit (limit - length old.state.cuts) old.state o before after g → Makes [] old new → IsDecision limit o old new before after g
  with_cuts : (mults : List Multipliers) (middle : List ColumnGains)
      → IsLook limit (limit - length old.state.cuts) old.state o before middle (Separated mults)
      → Makes (map Cut mults) old new → IsLook limit 0 new.state o middle after g → IsDecision limit o old new before after g

-- The open nodes once this node is settled: where it is split, its two children come behind the others, with what the split told of them. The left one
-- has number k.
abbrev pub nodes_left : ℕ → OpenNode → Settlement → List OpenNode → List OpenNode
nodes_left k o (Separated mults) others = others
nodes_left k o (Closed proof) others = others
nodes_left k o (Improved x proof) others = others
nodes_left k o (Branched b) others = others ++ children k o.area b.place.column b.place.bound b.value

-- a node that is held beside the other open nodes is decided, and the events that settle it are made
pub record IsSettledBy (limit : ℕ) (o : OpenNode) (before after : List ColumnGains) (others nodes : List OpenNode) (old new : Recorded) : Type 0 where
  pub settlement : Settlement
  pub decided : Recorded
  pub decision : IsDecision limit o old decided before after settlement
  pub settles : Makes (events_of o.number settlement) decided new
  pub left : nodes ≡ nodes_left (length old.state.nodes) o settlement others

-- the node is claimed and then settled
pub record Visits (limit : ℕ) (o : OpenNode) (before after : List ColumnGains) (others nodes : List OpenNode) (old new : Recorded) : Type 0 where
  pub claimed : Recorded
  pub claims : Makes (Claim o.number ∷ []) old claimed
  pub settled : IsSettledBy limit o before after others nodes claimed new

-- Nodes are visited, one after another, the last of the open ones each time. It begins with all open nodes, of whose splits nothing is known, and with
-- costs in which nothing is noted.
pub data AreVisits (limit : ℕ) (old : Recorded) : Recorded → List ColumnGains → List OpenNode → Type 0 where
  none : (nodes : List OpenNode) → AreOpenNodes old.state nodes → All HasNoOrigin nodes
      → AreVisits limit old old (replicate (length old.state.problem.spans) no_column_gains) nodes
  visit : (middle new : Recorded) (before after : List ColumnGains) (others nodes : List OpenNode) (o : OpenNode)
      → AreVisits limit old middle before (others ++ o ∷ []) → Visits limit o before after others nodes middle new → AreVisits limit old new after nodes

-- A search visits nodes. The last events may be of a visit that was broken off, which ends no node. Or it visits none, and ends no node.
pub data SearchesNodes (limit : ℕ) (old new : Recorded) : Type 0 where
  visited : (middle : Recorded) (costs : List ColumnGains) (nodes : List OpenNode) → AreVisits limit old middle costs nodes → EndsNoNode middle new → SearchesNodes limit old new
  unvisited : EndsNoNode old new → SearchesNodes limit old new
