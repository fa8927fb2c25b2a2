use Rattle.std.proofs.Common.{arith, sym, ◌∷◌, []}
use Rattle.gomory_cuts.specs.Separation.{cut_at}
use Rattle.gomory_cuts.proofs.Steps.{full_stays}
use Rattle.gomory_cuts.proofs.separation.add_cut.Goals as goal

pub returns-then-len-eq-MOST_SEPARATED-clause-value : goal.returns-then-len-eq-MOST_SEPARATED-clause-value
returns-then-len-eq-MOST_SEPARATED-clause-value c =
    λ rest. full_stays c.args.found.now.items (cut_at c.args.problem.now c.args.book.now.cuts c.args.tableau.now c.args.point.now c.args.column c.args.sign ∷ []) rest (sym (omega (arith, c.if-len-eq-MOST_SEPARATED.true, c.len.ensures)))
