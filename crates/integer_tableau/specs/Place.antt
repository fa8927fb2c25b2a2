-- The place of a tableau on whole numbers.
use Rattle.std.specs.Prelude.{ℕ, Option, Some, None}
use Rattle.tableau.specs.declared.place.Place.{Place}
use Rattle.tableau.specs.declared.place.Place.TheVariants.{NoColumn, Pivot}
use Rattle.integer_tableau.specs.declared.entering.Candidate.{Candidate}

-- by the variable that enters where variable r leaves
abbrev pub place_of_candidate : ℕ → Option Candidate → Place
place_of_candidate r None = NoColumn r
place_of_candidate r (Some b) = Pivot r b.variable
