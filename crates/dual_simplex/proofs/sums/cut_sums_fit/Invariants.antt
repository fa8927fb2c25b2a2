use Rattle.std.proofs.Common.{◌≡◌, take, true}
use Rattle.std.specs.Prelude.{is_some}
use Rattle.std.specs.List.{list_all}
use Rattle.derivation_book.specs.declared.cut.Cut.{Cut}
use Rattle.dual_simplex.specs.PointSums.{checked_sum}
use Rattle.dual_simplex.proofs.sums.cut_sums_fit.Given as goal

abbrev pub invariant-loop-index : goal.invariant-loop-index
invariant-loop-index l = list_all (λ (c : Cut). is_some (checked_sum c.row.terms l.sums)) (take l.index l.book.cuts) ≡ true
