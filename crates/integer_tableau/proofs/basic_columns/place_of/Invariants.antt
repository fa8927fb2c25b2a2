use Rattle.std.proofs.Common.{◌≡◌, ◌+◌, drop}
use Rattle.integer_tableau.specs.BasicColumns.{count_below}
use Rattle.integer_tableau.proofs.basic_columns.place_of.Given as goal

abbrev pub invariant-loop-place : goal.invariant-loop-place
invariant-loop-place l = count_below l.number l.numbers ≡ l.place + count_below l.number (drop l.place l.numbers)
