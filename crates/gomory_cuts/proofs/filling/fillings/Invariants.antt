use Rattle.std.proofs.Common.{◌≡◌, ◌++◌, drop}
use Rattle.std.specs.Option.{option_map}
use Rattle.gomory_cuts.specs.Multipliers.{fillings}
use Rattle.gomory_cuts.proofs.filling.fillings.Given as goal

abbrev pub invariant-loop-column : goal.invariant-loop-column
invariant-loop-column l = fillings l.first l.tableau 0 l.coefficients ≡ option_map (λ fs. l.multipliers ++ fs) (fillings l.first l.tableau l.column (drop l.column l.coefficients))
