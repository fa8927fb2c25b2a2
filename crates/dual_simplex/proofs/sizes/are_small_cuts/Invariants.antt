use Rattle.std.proofs.Common.{All, take}
use Rattle.derivation_book.specs.declared.cut.Cut.{Cut}
use Rattle.dual_simplex.specs.Sizes.{IsIntegerRow}
use Rattle.dual_simplex.proofs.sizes.are_small_cuts.Given as goal

abbrev pub invariant-loop-index : goal.invariant-loop-index
invariant-loop-index l = All (λ (c : Cut). IsIntegerRow c.row) (take l.index l.book.cuts)
