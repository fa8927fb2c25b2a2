use Rattle.std.proofs.Common.{◌≡◌, take, true}
use Rattle.std.specs.List.{list_all}
use Rattle.derivation_book.specs.declared.cut.Cut.{Cut}
use Rattle.event_core.specs.Relaxed.{satisfies_row}
use Rattle.event_core.proofs.relaxed.satisfies_cuts.Given as goal

abbrev pub invariant-loop-index : goal.invariant-loop-index
invariant-loop-index l = list_all (λ (c : Cut). satisfies_row l.sums c.row) (take l.index l.book.cuts) ≡ true
