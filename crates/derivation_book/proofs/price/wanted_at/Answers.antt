use Rattle.std.proofs.Common.{◌∙◌, sym, arith}
use Rattle.derivation_book.specs.Lemmas.Columns.{stands_first, stands_later, stands_nowhere}
use Rattle.derivation_book.proofs.price.wanted_at.Goals as goal

pub returns-then-column-clause-coefficient : goal.returns-then-column-clause-coefficient
returns-then-column-clause-coefficient c =
    c.coefficient.ensures
    ∙ sym (stands_first c.args.target.now c.args.next c.index-target-next.result (omega arith) c.index-target-next.is c.args.column c.requires (sym c.column.ensures ∙ c.if-column.true))

pub returns-then-column-clause-later : goal.returns-then-column-clause-later
returns-then-column-clause-later c =
    stands_later c.args.target.now c.args.next c.index-target-next.result (omega arith) c.index-target-next.is c.args.column c.requires (sym c.column.ensures ∙ c.if-column.true)

pub returns-else-column-clause-coefficient : goal.returns-else-column-clause-coefficient
returns-else-column-clause-coefficient c =
    c.of-else-column.ensures
    ∙ sym (stands_nowhere c.args.target.now c.args.next c.index-target-next.result (omega arith) c.index-target-next.is c.args.column c.requires (λ e. c.if-column.false (c.column.ensures ∙ e)))
