use Rattle.std.proofs.Common.{◌≡◌, ◌++◌, take}
use Rattle.gomory_cuts.proofs.gomory.append.Given as goal

abbrev pub invariant-loop-term : goal.invariant-loop-term
invariant-loop-term l = l.terms ≡ l.initial.terms ++ take l.term-index l.more
