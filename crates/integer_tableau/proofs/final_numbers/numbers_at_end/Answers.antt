use Rattle.std.proofs.Common.{◌∙◌, sym}
use Rattle.integer_tableau.proofs.FinalEnds.{numbers_within}
use Rattle.integer_tableau.specs.Kept.{kept_at, view_of}
use Rattle.integer_tableau.proofs.final_numbers.numbers_at_end.Goals as goal

pub returns-in_ok-done-in-Done-clause-numbers : goal.returns-in_ok-done-in-Done-clause-numbers
returns-in_ok-done-in-Done-clause-numbers c = λ cap start k.
    let a = c.args in
    let n = c.in_ok-done-in-Done in
    numbers_within cap start a.place (view_of a.numbers.now a.program_rows.now.items.value.items (kept_at a.dictionaries.now.all a.at) a.solution) n.done k.ends k.exact k.capped (n.ensures.place ∙ sym c.in-Done.is)
    n.ensures.pivots n.ensures.numbers
