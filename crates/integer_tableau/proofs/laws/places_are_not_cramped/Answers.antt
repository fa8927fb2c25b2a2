use Rattle.integer_tableau.proofs.Places.{never_cramped}
use Rattle.integer_tableau.proofs.laws.places_are_not_cramped.Goals as goal

pub returns : goal.returns
returns c = never_cramped
