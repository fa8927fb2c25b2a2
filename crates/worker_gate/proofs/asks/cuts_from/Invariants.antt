use Rattle.std.specs.Prelude.{◌≡◌, ◌≤◌, take, drop}
use Rattle.worker_gate.proofs.asks.cuts_from.Given as goal

abbrev pub invariant-loop-number : goal.invariant-loop-number
invariant-loop-number l = (l.known ≤ l.number) × (l.cuts.items ≡ drop l.known (take l.number l.book.cuts))
