use Rattle.std.proofs.Common.{arith, sym}
use Rattle.derivation_book.specs.Lemmas.Columns.{past_added, one_added, one_cramped}
use Rattle.derivation_book.proofs.combination.add_term.Goals as goal

pub returns-then-column-sums-clause-sums : goal.returns-then-column-sums-clause-sums
returns-then-column-sums-clause-sums c = past_added c.args.sums.now 0 c.args.factor c.args.column c.args.coefficient c.requires (omega arith)

pub returns-in-Some-clause-sums : goal.returns-in-Some-clause-sums
returns-in-Some-clause-sums c =
    one_added c.args.sums.now 0 c.args.column c.args.factor c.args.column c.args.coefficient c.index-sums-column.result c.in-Some.sum c.requires (omega arith) (omega arith) c.index-sums-column.is (sym c.in-Some.ensures)

pub returns-in-None-clause-sums : goal.returns-in-None-clause-sums
returns-in-None-clause-sums c =
    one_cramped c.args.sums.now 0 c.args.column c.args.factor c.args.column c.args.coefficient c.index-sums-column.result (omega arith) (omega arith) c.index-sums-column.is (sym c.in-None.ensures)
