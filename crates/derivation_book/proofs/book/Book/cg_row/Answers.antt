use Rattle.std.proofs.Common.{◌∙◌, sym, arith, length}
use Rattle.derivation_book.specs.Known.{known_lines}
use Rattle.derivation_book.specs.Lemmas.Combining.{combined_length}
use Rattle.derivation_book.proofs.book.Book.cg_row.Goals as goal

pub rounded-requires : goal.rounded-requires
rounded-requires c =
    omega (
      arith,
      c.limits_hold.ensures.few_columns,
      combined_length (known_lines c.args.problem.now c.args.self.now.cuts) c.as_slice-2.result.now (length c.args.problem.now.spans)
          c.in-Some.sums (sym c.in_ok-sums.ensures ∙ c.in-Some.is),
    )
