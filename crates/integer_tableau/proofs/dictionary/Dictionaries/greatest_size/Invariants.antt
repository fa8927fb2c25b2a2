use Rattle.std.proofs.Common.{◌≤◌, nat_abs, take}
use Rattle.std.specs.Prelude.{All}
use Rattle.integer_tableau.specs.declared.dictionary.Dictionary.{Dictionary}
use Rattle.integer_tableau.proofs.dictionary.Dictionaries.greatest_size.Given as goal

abbrev pub invariant-loop-own : goal.invariant-loop-own
invariant-loop-own l = All (λ (d : Dictionary). (d.size ≤ l.size) × (nat_abs d.divisor.number ≤ l.size)) (take l.own-index l.own-items)
