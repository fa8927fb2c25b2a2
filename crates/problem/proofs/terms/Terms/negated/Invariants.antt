use Rattle.std.proofs.Common.{◌≡◌, take}
use Rattle.problem.specs.Directions.{negated}
use Rattle.problem.proofs.terms.Terms.negated.Given as goal

abbrev pub invariant-loop-term : goal.invariant-loop-term
invariant-loop-term l = l.items.items ≡ negated (take l.term-index l.term-items)
