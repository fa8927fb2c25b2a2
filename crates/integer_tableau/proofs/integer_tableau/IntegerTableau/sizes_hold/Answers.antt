use Rattle.std.proofs.Common.{arith, refl, ap}
use Rattle.integer_tableau.proofs.Answering.{row_short}
use Rattle.integer_tableau.proofs.ToFractions.{columns_within, statuses_many}
use Rattle.tableau.specs.Tableau.{Tableau}
use Rattle.integer_tableau.proofs.integer_tableau.IntegerTableau.sizes_hold.Goals as goal

pub returns-clause-columns : goal.returns-clause-columns
returns-clause-columns c =
    let here = statuses_many _ _ _ _ _ _ c.args.self.now c.self.invariant.0 c.self.view_is refl in
    omega (arith, ap (λ (t : Tableau). t.columns) c.self.view_is, columns_within _ _ _ _ _ _ c.args.self.now c.self.invariant.0 c.self.view_is refl, here)

pub returns-clause-rows : goal.returns-clause-rows
returns-clause-rows c = λ i l.
    let here = statuses_many _ _ _ _ _ _ c.args.self.now c.self.invariant.0 c.self.view_is refl in
    omega (arith, l, here, row_short _ _ _ _ _ _ c.args.self.now c.self.invariant.0 c.self.view_is refl i (omega (arith, l, here)))

pub returns-clause-few : goal.returns-clause-few
returns-clause-few c =
    let here = statuses_many _ _ _ _ _ _ c.args.self.now c.self.invariant.0 c.self.view_is refl in
    omega (arith, here, c.self.inside.positions.ok)
