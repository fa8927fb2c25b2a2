use Rattle.std.proofs.Common.{◌<◌, length, refl, subst, arith}
use Rattle.std.specs.Prelude.{All}
use Rattle.std.proofs.lemmas.List.{take_all}
use Rattle.std.proofs.lemmas.List.Elements.{All-more}
use Rattle.problem.specs.Rows.{Satisfies}
use Rattle.problem.proofs.program.are_satisfied.Goals as goal

pub loop-row-preserved : goal.loop-row-preserved
loop-row-preserved c =
    All-more (Satisfies c.args.point.now) c.args.rows.now c.loop-row.row-index c.row-item.result (let l : c.loop-row.row-index < length c.args.rows.now = omega arith in l) c.loop-row.invariant
    (subst (Satisfies c.args.point.now) c.row-item.is (c.if-not-is_satisfied.ensures.0 refl))

pub returns : goal.returns
returns c = (λ _. subst (All (Satisfies c.args.point.now)) (take_all _ _ (omega arith)) c.loop-row.invariant, λ _. refl)
