-- A feed of the lines of a merged certificate: where it stands, and what it keeps.
use Rattle.std.specs.Prelude.{◌≡◌, ◌<◌, suc, ℕ, List, [], ◌++◌, length, drop}
use Rattle.cert_rows.specs.declared.line.CertRow.{CertRow}
use Rattle.cert_rows.specs.declared.line.Why.{Why}
use Rattle.event_core.specs.declared.entry.Entry.{Entry}
use Rattle.event_core.specs.States.{State, tree_of, open_count}
use Rattle.event_core.specs.Rooms.{Recorded}
use Rattle.cert_merge.specs.declared.layout.Layout.{Layout}
use Rattle.cert_merge.specs.declared.feed_place.FeedPlace.{FeedPlace}
use Rattle.cert_merge.specs.declared.feed_place.FeedPlace.TheVariants.{Cut, Assumption, Node, End}
use Rattle.cert_merge.specs.declared.path_setters.PathSetters.{PathSetters}
use Rattle.cert_merge.specs.Endings.{AreClosings}
use Rattle.cert_merge.specs.Kept.{AreKept}
use Rattle.cert_merge.specs.Layout.{layout_of}
use Rattle.cert_merge.specs.Merged.{cut_lines, assumption_lines, node_lines}

-- there is such a line
abbrev pub IsPlace : State → FeedPlace → Type 0
IsPlace s (Cut i) = i < length s.cuts
IsPlace s (Assumption i) = (0 < i) × (i < length s.nodes)
IsPlace s (Node i) = i < length s.nodes
IsPlace s End = Unit {0}

-- the lines of all nodes
abbrev pub nodes_behind : State → List Entry → List (CertRow × Why)
nodes_behind s es = node_lines s es (length s.nodes)

-- the lines from a place on
abbrev pub lines_from : State → List Entry → FeedPlace → List (CertRow × Why)
lines_from s es (Cut i) = cut_lines i (drop i s.cuts) ++ (assumption_lines 0 s.nodes ++ nodes_behind s es)
lines_from s es (Assumption i) = assumption_lines i (drop i s.nodes) ++ nodes_behind s es
lines_from s es (Node i) = node_lines s es (suc i)
lines_from s es End = []

-- what a feed keeps: no node is open, the layout is the state's, the closings and the setters are those of its tree, and there is such a line
pub record IsReadyFeed (r : Recorded) (layout : Layout) (closings : List ℕ) (setters : PathSetters) (place : FeedPlace) : Type 0 where
  pub ended : open_count r.state ≡ 0
  pub laid : layout ≡ layout_of r.state
  pub places : AreClosings r.history closings
  pub all : length closings ≡ length r.state.nodes
  pub kept : AreKept (tree_of r.state) setters
  pub there : IsPlace r.state place
