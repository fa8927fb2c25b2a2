use Rattle.std.proofs.Common.{◌≡◌, ◌++◌, drop, length}
use Rattle.integer_tableau.specs.Combined.{value_numerators}
use Rattle.integer_tableau.proofs.combination.column_numerators.Given as goal

abbrev pub invariant-loop-j : goal.invariant-loop-j
invariant-loop-j l = record {
  numerators : l.all.items ++ value_numerators l.denominator (drop l.j l.positions) (drop l.j l.nonbasic_values) (drop l.j l.values) ≡ value_numerators l.denominator l.positions l.nonbasic_values l.values;
  count : length l.all.items ≡ l.j;
}
