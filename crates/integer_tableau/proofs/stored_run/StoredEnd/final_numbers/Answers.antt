use Rattle.std.proofs.Common.{subst}
use Rattle.tableau.specs.Run.{run_from}
use Rattle.integer_tableau.proofs.FinalEnds.{numbers_within}
use Rattle.integer_tableau.specs.StoredRun.{IsStoredEnd}
use Rattle.integer_tableau.proofs.stored_run.StoredEnd.final_numbers.Goals as goal

pub returns-in_ok-final_numbers-in-Alone-clause-numbers : goal.returns-in_ok-final_numbers-in-Alone-clause-numbers
returns-in_ok-final_numbers-in-Alone-clause-numbers c = λ cap start h.
    let a = c.args in
    let n = c.in_ok-final_numbers-in-Alone in
    let x = subst (IsStoredEnd a.numbers.now a.program_rows.now.items.value.items a.weight a.dictionaries.now cap (run_from cap start)) c.in-Alone.is h in
    numbers_within cap start c.in-Alone.end.place c.in-Alone.end.tableau n.field-0 x.ends x.exact x.capped n.ensures.place n.ensures.pivots n.ensures.numbers
