use Rattle.std.proofs.Common.{◌≡◌, ◌<◌, ℕ, false}
use Rattle.integer_tableau.specs.Exits.{edge_at}
use Rattle.integer_tableau.proofs.FreeEdges.{free_enters}
use Rattle.integer_tableau.proofs.exits.first_that_enters.Given as goal

abbrev pub invariant-loop-index : goal.invariant-loop-index
invariant-loop-index l = (q : ℕ) → q < l.index → free_enters l.direction l.at_upper l.free (edge_at l.edges q) ≡ false
