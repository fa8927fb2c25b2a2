use Rattle.std.proofs.Common.{◌≡◌, drop}
use Rattle.problem.specs.Checked.{terms_from, checked_value}
use Rattle.problem.proofs.terms.Terms.checked_value.Given as goal

abbrev pub invariant-loop-term : goal.invariant-loop-term
invariant-loop-term l = terms_from l.total (drop l.term-index l.term-items) l.point ≡ checked_value l.self l.point
