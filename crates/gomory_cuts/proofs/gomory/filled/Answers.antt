use Rattle.std.proofs.Common.{arith, ap, length}
use Rattle.std.specs.Bool.{⊤}
use Rattle.std.proofs.lemmas.Option.{MatchOption-at_some}
use Rattle.derivation_book.specs.Known.{known_lines}
use Rattle.derivation_book.specs.Lemmas.Combining.{columns_length}
use Rattle.gomory_cuts.proofs.gomory.filled.Goals as goal

pub fillings-requires-clause-numbered : goal.fillings-requires-clause-numbered
fillings-requires-clause-numbered c =
    let e = MatchOption-at_some ⊤ _ c.in-Some.coefficients c.in-Some.is c.in_ok-coefficients.ensures.some in
    let n = columns_length (known_lines c.args.problem.now c.args.book.now.cuts) c.as_slice.result.now 0 (length c.args.problem.now.spans) c.in-Some.coefficients.items e in
    omega (arith, ap length c.deref.ensures.value, n, c.rows.ensures, c.limits_hold.ensures.few_rows, c.limits_hold.ensures.few_columns)

pub fillings-requires-clause-there : goal.fillings-requires-clause-there
fillings-requires-clause-there c =
    let e = MatchOption-at_some ⊤ _ c.in-Some.coefficients c.in-Some.is c.in_ok-coefficients.ensures.some in
    let n = columns_length (known_lines c.args.problem.now c.args.book.now.cuts) c.as_slice.result.now 0 (length c.args.problem.now.spans) c.in-Some.coefficients.items e in
    omega (arith, ap length c.deref.ensures.value, n, c.requires.columns)
