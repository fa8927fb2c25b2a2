use Rattle.std.proofs.Common.{◌≡◌, ◌≤◌, ◌-◌, length, take}
use Rattle.gomory_cuts.specs.Separation.{cuts_from, with_cuts, separation, most_separated}
use Rattle.gomory_cuts.proofs.separation.separate.Given as goal

abbrev pub invariant-loop-column : goal.invariant-loop-column
invariant-loop-column l = record {
  rest : take most_separated (with_cuts l.found.items (cuts_from l.problem l.book.cuts l.tableau l.point l.column (l.columns - l.column))) ≡ separation l.problem l.book.cuts l.tableau l.point;
  few_found : length l.found.items ≤ most_separated;
}
