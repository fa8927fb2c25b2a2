use Rattle.std.proofs.Common.{◌≡◌, ◌++◌, take}
use Rattle.cert_merge.proofs.multipliers.push_all.Given as goal

abbrev pub invariant-loop-multiplier : goal.invariant-loop-multiplier
invariant-loop-multiplier l = l.items.items ≡ l.initial.items.items ++ take l.multiplier-index l.mult
