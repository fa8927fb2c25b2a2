use Rattle.std.proofs.Common.{◌∷◌, ◌∙◌}
use Rattle.gomory_cuts.specs.declared.sign.Sign.TheVariants.{Minus}
use Rattle.gomory_cuts.specs.Separation.{cut_at}
use Rattle.gomory_cuts.proofs.separation.add_cuts_of_row.Goals as goal

pub returns-clause-value : goal.returns-clause-value
returns-clause-value c =
    λ rest. c.in_ok-add_cut-2.ensures.value rest ∙ c.in_ok-add_cut.ensures.value (cut_at c.args.problem.now c.args.book.now.cuts c.args.tableau.now c.args.point.now c.args.column Minus ∷ rest)
