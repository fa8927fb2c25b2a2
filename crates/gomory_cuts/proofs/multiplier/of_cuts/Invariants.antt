use Rattle.std.proofs.Common.{◌≡◌, ◌++◌, ◌+◌, drop, map}
use Rattle.std.specs.Option.{option_map}
use Rattle.derivation_book.specs.declared.cut.Cut.{Cut}
use Rattle.gomory_cuts.specs.Multipliers.{row_multipliers}
use Rattle.gomory_cuts.proofs.multiplier.of_cuts.Given as goal

abbrev pub invariant-loop-index : goal.invariant-loop-index
invariant-loop-index l =
    row_multipliers l.sign l.rest l.variable l.number (map (λ (c : Cut). c.row) l.book.cuts)
    ≡ option_map (λ us. l.multipliers ++ us) (row_multipliers l.sign l.rest (l.variable + l.index) (l.number + l.index) (drop l.index (map (λ (c : Cut). c.row) l.book.cuts)))
