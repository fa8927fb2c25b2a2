use Rattle.std.proofs.Common.{◌≡◌, ◌+◌, length, map, drop, nat_abs}
use Rattle.integer_tableau.specs.Leaving.{leaving_by_numerators}
use Rattle.integer_tableau.specs.Positions.{products}
use Rattle.integer_tableau.proofs.leaving.leaving_row.Given as goal

abbrev pub invariant-loop-i : goal.invariant-loop-i
invariant-loop-i l = leaving_by_numerators (nat_abs l.denominator) (length l.numerators + l.i) (drop (length l.numerators + l.i) l.positions) (drop (length l.numerators + l.i) l.bounds)
    (map (λ a. products a l.numerators) (drop l.i l.program_rows))
    ≡ leaving_by_numerators (nat_abs l.denominator) (length l.numerators) (drop (length l.numerators) l.positions) (drop (length l.numerators) l.bounds)
    (map (λ a. products a l.numerators) l.program_rows)
