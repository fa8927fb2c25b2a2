use Rattle.std.proofs.Common.{subst}
use Rattle.std.specs.Prelude.{IfSome}
use Rattle.integer_tableau.specs.RowSums.{AreColumnsOf}
use Rattle.integer_tableau.proofs.integer_program.IntegerProgram.from_parts.Goals as goal

pub invariant_of-result : goal.invariant_of-result
invariant_of-result c =
    let columns = subst (λ ps. IfSome c.make-columns.result (AreColumnsOf ps)) c.deref.ensures.value c.make-columns.ensures in
    (c.requires, c.new-2.ensures c.args.rows.items.value.items c.args.weight c.args.costs, columns, c.new.ensures c.args.rows.items.value.items)
