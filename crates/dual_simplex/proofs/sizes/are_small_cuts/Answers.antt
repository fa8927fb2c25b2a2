use Rattle.std.proofs.Common.{sym, subst, arith}
use Rattle.std.specs.Prelude.{slice_get}
use Rattle.std.proofs.lemmas.List.Elements.{All-more}
use Rattle.std.proofs.lemmas.Option.{get_or_from_slice_get}
use Rattle.fraction.specs.Lemmas.Bounds.{was_mapped}
use Rattle.derivation_book.specs.declared.cut.Cut.{Cut}
use Rattle.dual_simplex.specs.Sizes.{IsIntegerRow}
use Rattle.dual_simplex.proofs.sizes.are_small_cuts.Goals as goal

pub loop-index-preserved : goal.loop-index-preserved
loop-index-preserved c =
    let w = was_mapped (λ (d : Cut). d.row) (slice_get c.args.book.now.cuts c.loop-index.index) c.cut.result.now c.cut.ensures.row in
    All-more (λ (d : Cut). IsIntegerRow d.row) c.args.book.now.cuts c.loop-index.index w.0 (omega arith) c.loop-index.invariant
    (subst (λ (d : Cut). IsIntegerRow d.row) (sym (get_or_from_slice_get c.args.book.now.cuts c.loop-index.index w.0 w.0 w.1))
    (subst IsIntegerRow (sym w.2) (c.is_small_row.ensures c.if-not-is_small_row.false)))
