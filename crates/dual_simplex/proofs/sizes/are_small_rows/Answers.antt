use Rattle.std.proofs.Common.{sym, subst, arith}
use Rattle.std.proofs.lemmas.List.{take_all}
use Rattle.std.proofs.lemmas.List.Elements.{All-more, All-same}
use Rattle.std.proofs.lemmas.Option.{get_or_from_slice_get}
use Rattle.dual_simplex.specs.Sizes.{IsIntegerRow}
use Rattle.dual_simplex.proofs.sizes.are_small_rows.Goals as goal

pub loop-index-preserved : goal.loop-index-preserved
loop-index-preserved c =
    All-more IsIntegerRow c.args.problem.now.rows c.loop-index.index c.row.result.now (omega arith) c.loop-index.invariant
    (subst IsIntegerRow (sym (get_or_from_slice_get c.args.problem.now.rows c.loop-index.index c.row.result.now c.row.result.now c.row.ensures)) (c.is_small_row.ensures c.if-not-is_small_row.false))

pub returns : goal.returns
returns c = λ q. All-same IsIntegerRow c.args.problem.now.rows _ (sym (take_all c.loop-index.index c.args.problem.now.rows (omega arith))) c.loop-index.invariant
