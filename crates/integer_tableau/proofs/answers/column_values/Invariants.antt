use Rattle.std.proofs.Common.{◌≡◌, ◌++◌, drop, nat_abs}
use Rattle.integer_tableau.specs.IntegerTableau.{values_of}
use Rattle.integer_tableau.proofs.answers.column_values.Given as goal

abbrev pub invariant-loop-j : goal.invariant-loop-j
invariant-loop-j l = l.all.items ++ values_of (nat_abs l.denominator) (drop l.j l.positions) (drop l.j l.nonbasic_values) (drop l.j l.values) ≡ values_of (nat_abs l.denominator) l.positions l.nonbasic_values l.values
