use Rattle.std.proofs.Common.{arith, ap, sym, ◌∙◌, []}
use Rattle.std.proofs.lemmas.List.{get_or_default}
use Rattle.tableau.specs.Elimination.{substituted}
use Rattle.tableau.proofs.Pushing.{when_false}
use Rattle.tableau.proofs.Eliminating.{others_cramped}
use Rattle.tableau.proofs.elimination.prepare_others.Goals as goal

pub returns-then-not-branch : goal.returns-then-not-branch
returns-then-not-branch c =
    others_cramped c.args.leaving c.args.variable c.args.rows.now c.args.source.now c.loop-i.i c.requires.leaving_there (omega arith) c.if-i-leaving.false
    (ap (substituted c.args.variable c.args.source.now) (get_or_default c.args.rows.now c.loop-i.i [] c.index-rows-i.result (omega arith) ∙ sym c.index-rows-i.is)
    ∙ when_false _ _ c.in_ok-prepare.field-0 c.in_ok-prepare.ensures c.if-not-branch.true)
