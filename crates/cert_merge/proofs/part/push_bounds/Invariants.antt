use Rattle.std.proofs.Common.{◌≡◌, ◌++◌, drop}
use Rattle.cert_merge.specs.Merged.{bound_lines}
use Rattle.cert_merge.proofs.part.push_bounds.Given as goal

abbrev pub invariant-loop-j : goal.invariant-loop-j
invariant-loop-j l = l.lines.items ++ bound_lines l.j (drop l.j l.root) ≡ l.initial.lines.items ++ bound_lines 0 l.root
