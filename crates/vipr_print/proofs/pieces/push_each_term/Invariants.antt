use Rattle.std.proofs.Common.{◌≡◌, ◌++◌, take}
use Rattle.std.specs.List.{flat_map}
use Rattle.vipr_print.specs.Spelling.{spelled_term}
use Rattle.vipr_print.proofs.pieces.push_each_term.Given as goal

abbrev pub invariant-loop-term : goal.invariant-loop-term
invariant-loop-term l = l.out.items ≡ l.initial.out.items ++ flat_map spelled_term (take l.term-index l.terms)
