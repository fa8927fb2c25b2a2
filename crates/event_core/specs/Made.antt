-- What is made for events before they are applied, so that they take no memory.
use Rattle.std.specs.Prelude.{List, [], ◌∷◌, ◌++◌, Option, Some, None}
use Rattle.problem.specs.declared.row.Row.{Row}
use Rattle.problem.specs.Linear.{Multipliers}
use Rattle.problem.specs.Problem.{Problem}
use Rattle.node_events.specs.declared.event.Event.{Event}
use Rattle.node_events.specs.declared.event.Event.TheVariants as event
use Rattle.derivation_book.specs.declared.cut.Cut.{Cut}
use Rattle.derivation_book.specs.Rounded.{rounded_row}
use Rattle.event_core.specs.declared.made.Made.{Made}
use Rattle.event_core.specs.declared.made.Made.TheVariants as made
use Rattle.event_core.specs.Frames.{cut_by, cut_of_row}

-- the cut of these multipliers, if they have a row
abbrev pub made_cut : Multipliers → Option Row → Made
made_cut mult None = made.Nothing
made_cut mult (Some r) = made.Cut (record { row = r; mult = mult })

-- what is made for an event, by the cuts that there are then
abbrev pub made_for : Problem → List Cut → Event → Made
made_for p cs (event.Claim i) = made.Nothing
made_for p cs (event.Release i) = made.Nothing
made_for p cs (event.Cut mult) = made_cut mult (rounded_row p cs mult)
made_for p cs (event.Offer x) = made.Point x
made_for p cs (event.Split i j b reason) = made.Nothing
made_for p cs (event.Close i proof) = made.Nothing

-- the cut that an event adds to these cuts, if it adds one
abbrev pub cut_added : Problem → List Cut → Option Multipliers → List Cut
cut_added p cs None = []
cut_added p cs (Some mult) = cut_of_row mult (rounded_row p cs mult)

-- the cuts after the event
abbrev pub cuts_with : Problem → List Cut → Event → List Cut
cuts_with p cs e = cs ++ cut_added p cs (cut_by e)

-- what is made for each event of a list: a cut is rounded over those that there are, and over those of the events before it
abbrev pub made_for_each : Problem → List Cut → List Event → List Made
made_for_each p cs [] = []
made_for_each p cs (e ∷ es) = made_for p cs e ∷ made_for_each p (cuts_with p cs e) es
