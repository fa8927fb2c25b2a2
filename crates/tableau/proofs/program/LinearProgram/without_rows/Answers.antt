use Rattle.tableau.proofs.Programming.{first_sizes}
use Rattle.tableau.proofs.program.LinearProgram.without_rows.Goals as goal

pub invariant_of-result : goal.invariant_of-result
invariant_of-result c =
    first_sizes c.args.objective.now c.args.area.now c.new.result.items c.in_ok-costs.costs c.in_ok-bounds.bounds.items c.new-2.result.items c.len.result
    c.requires.few c.len.ensures c.new.ensures.items c.new-2.ensures.items c.in_ok-costs.ensures c.in_ok-bounds.ensures
