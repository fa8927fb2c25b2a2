-- The state after an event.
use Rattle.std.specs.Prelude.{ℕ, ℤ, true, false, [], ◌∷◌, ◌++◌, Option, Some, None, slice_set}
use Rattle.problem.specs.declared.row.Row.{Row}
use Rattle.node_tree.specs.Splits.{with_split}
use Rattle.node_events.specs.declared.event.Event.{Event}
use Rattle.node_events.specs.declared.event.Event.TheVariants.{Claim, Release, Cut, Offer, Split, Close}
use Rattle.derivation_book.specs.Rounded.{rounded_row}
use Rattle.incumbent.specs.Offers.{offered}
use Rattle.event_core.specs.States.{State, tree_of}
use Rattle.event_core.specs.Holds.{hold_of, without_hold}
use Rattle.problem.specs.Linear.{Multipliers, Point}

-- a claim: its worker holds the node
abbrev pub after_claim : State → Option ℕ → ℕ → State
after_claim s w i = record s { holds = s.holds ++ hold_of w i }

-- a release: nobody holds the node
abbrev pub after_release : State → ℕ → State
after_release s i = record s { holds = without_hold i s.holds }

-- a cut stands behind those before it, where its row can be made
abbrev pub after_cut : State → Multipliers → Option Row → State
after_cut s mult None = s
after_cut s mult (Some r) = record s { cuts = s.cuts ++ record { row = r; mult = mult } ∷ [] }

-- an offer is the incumbent now
abbrev pub after_offer : State → Point → State
after_offer s x = record s { incumbent = offered s.problem x }

-- the node has ended, and two open nodes are its children
abbrev pub after_split : State → ℕ → ℕ → ℤ → State
after_split s i j b = record s {
  nodes = (with_split (tree_of s) i j b).nodes;
  ended = slice_set s.ended i true ++ false ∷ false ∷ [];
  holds = without_hold i s.holds;
}

-- a close: the node has ended, and nobody holds it
abbrev pub after_close : State → ℕ → State
after_close s i = record s { ended = slice_set s.ended i true; holds = without_hold i s.holds }

-- the state after an event of a worker
abbrev pub after : State → Option ℕ → Event → State
after s w (Claim i) = after_claim s w i
after s w (Release i) = after_release s i
after s w (Cut mult) = after_cut s mult (rounded_row s.problem s.cuts mult)
after s w (Offer x) = after_offer s x
after s w (Split i j b reason) = after_split s i j b
after s w (Close i proof) = after_close s i
