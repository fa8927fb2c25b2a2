use Rattle.std.proofs.Common.{arith, refl, ◌∙◌}
use Rattle.integer_tableau.proofs.FromCode.{is_there}
use Rattle.integer_tableau.proofs.Statuses.{status_is}
use Rattle.integer_tableau.proofs.integer_tableau.IntegerTableau.status.Goals as goal

pub index-requires : goal.index-requires
index-requires c = omega (arith, is_there _ _ _ _ _ _ c.args.self.now c.self.invariant.0 c.self.view_is c.self.inside.positions.items c.args.variable refl c.requires, c.self.inside.positions.ok)

pub index-requires-2 : goal.index-requires-2
index-requires-2 c = omega (arith, is_there _ _ _ _ _ _ c.args.self.now c.self.invariant.0 c.self.view_is c.self.inside.positions.items c.args.variable refl c.requires, c.self.inside.at_upper.ok, c.self.invariant.0.consistent.at_upper)

pub returns : goal.returns
returns c =
    c.status.ensures
    ∙ status_is _ _ _ c.args.self.now c.self.invariant.0.consistent c.self.view_is c.args.variable (is_there _ _ _ _ _ _ c.args.self.now c.self.invariant.0 c.self.view_is c.self.inside.positions.items c.args.variable refl c.requires) _ _
    c.index.ensures c.index-2.ensures
