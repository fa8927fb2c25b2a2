use Rattle.std.proofs.Common.{◌≡◌, ℕ, ℤ, pos, ◌+◌, List, length, map, drop, nat_abs}
use Rattle.integer_tableau.specs.Combined.{combined_value}
use Rattle.integer_tableau.specs.Leaving.{leaving_by_numerators}
use Rattle.integer_tableau.specs.RowSums.{AreColumnsOf, AreSummed}
use Rattle.integer_tableau.proofs.row_sums.leaving_by_sums.Given as goal

abbrev pub invariant-loop-row : goal.invariant-loop-row
invariant-loop-row l = (ps : List (List ℤ)) (reach : ℕ) (xs : List ℤ) → AreColumnsOf ps l.columns → AreSummed ps l.columns.weight reach l.positions xs l.row_sums l.values l.basic_columns l.denominator →
    leaving_by_numerators (nat_abs l.denominator) (length l.values + l.row) (drop (length l.values + l.row) l.positions) (drop (length l.values + l.row) l.bounds)
    (map (λ a. combined_value (pos (nat_abs l.denominator)) a l.positions xs l.values) (drop l.row ps))
    ≡ leaving_by_numerators (nat_abs l.denominator) (length l.values) (drop (length l.values) l.positions) (drop (length l.values) l.bounds)
    (map (λ a. combined_value (pos (nat_abs l.denominator)) a l.positions xs l.values) ps)
