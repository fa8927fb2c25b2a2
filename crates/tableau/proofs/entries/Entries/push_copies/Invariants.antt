use Rattle.std.proofs.Common.{◌≡◌, ◌++◌, drop}
use Rattle.tableau.proofs.entries.Entries.push_copies.Given as goal

abbrev pub invariant-loop-entry : goal.invariant-loop-entry
invariant-loop-entry l = l.self ++ drop l.entry-index l.entries ≡ l.fn.self ++ l.entries
