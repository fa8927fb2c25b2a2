use Rattle.std.proofs.Common.{sym, subst, arith}
use Rattle.std.proofs.lemmas.List.{take_all}
use Rattle.std.proofs.lemmas.List.Elements.{All-more, All-same}
use Rattle.std.proofs.lemmas.Option.{get_or_from_slice_get}
use Rattle.problem.specs.Limited.{IsModestSpan}
use Rattle.dual_simplex.proofs.sizes.is_modest.Goals as goal

pub loop-column-preserved : goal.loop-column-preserved
loop-column-preserved c =
    All-more IsModestSpan c.args.area.now c.loop-column.column c.span.result (omega arith) c.loop-column.invariant
    (subst IsModestSpan (sym (get_or_from_slice_get c.args.area.now c.loop-column.column c.span.result c.span.result c.span.ensures)) (c.is_modest_span.ensures c.if-not-is_modest_span.false))

pub returns : goal.returns
returns c = λ q. All-same IsModestSpan c.args.area.now _ (sym (take_all c.loop-column.column c.args.area.now (omega arith))) c.loop-column.invariant
