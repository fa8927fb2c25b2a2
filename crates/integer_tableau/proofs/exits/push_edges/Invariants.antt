use Rattle.std.proofs.Common.{◌≡◌, ◌++◌, map, take}
use Rattle.integer_tableau.specs.RankedColumns.{edge_of}
use Rattle.integer_tableau.proofs.exits.push_edges.Given as goal

abbrev pub invariant-loop-ranked : goal.invariant-loop-ranked
invariant-loop-ranked l = l.edges.items ≡ l.fn.edges.items ++ map (edge_of l.from l.leaving) (take l.ranked-index l.columns)
