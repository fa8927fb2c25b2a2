use Rattle.std.proofs.Common.{ap, sym, ◌∙◌, pos}
use Rattle.std.specs.Ordering.{int_eq}
use Rattle.fraction.specs.Rational.{ℚ}
use Rattle.tableau.proofs.Substituting.{substituted_in_none}
use Rattle.tableau.proofs.Eliminating.{row_stays}
use Rattle.tableau.proofs.elimination.prepare.Goals as goal

pub returns-then-is_zero : goal.returns-then-is_zero
returns-then-is_zero c =
    let none = ap (λ (q : ℚ). int_eq q.num (pos 0)) (sym c.coefficient.ensures) ∙ sym c.is_zero.ensures ∙ c.if-is_zero.true in
    row_stays c.args.variable c.args.row.now c.args.ready.now c.args.source.now none (substituted_in_none c.args.variable c.args.source.now c.args.row.now none c.limits_hold.ensures)
