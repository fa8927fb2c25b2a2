use Rattle.std.proofs.Common.{◌≡◌, ◌++◌, ◌+◌, drop}
use Rattle.std.specs.Option.{option_map}
use Rattle.gomory_cuts.specs.Multipliers.{row_multipliers}
use Rattle.gomory_cuts.proofs.multiplier.of_rows.Given as goal

abbrev pub invariant-loop-index : goal.invariant-loop-index
invariant-loop-index l = row_multipliers l.sign l.rest 0 0 l.problem.rows ≡ option_map (λ us. l.multipliers ++ us) (row_multipliers l.sign l.rest (0 + l.index) (0 + l.index) (drop l.index l.problem.rows))
