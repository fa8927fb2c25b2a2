use Rattle.std.proofs.Common.{◌≡◌, ◌+◌, ◌++◌, ◌∷◌, [], ap, arith, ◌∙◌}
use Rattle.integer_tableau.proofs.Refilled.{put_next}
use Rattle.integer_tableau.proofs.Starting.{length_columns}
use Rattle.integer_tableau.proofs.StartFromCode.{columns_more}
use Rattle.integer_tableau.specs.Start.{columns_from}
use Rattle.integer_tableau.specs.declared.position.Position.TheVariants.{InBasis, InColumn}
use Rattle.integer_tableau.proofs.start_lists.put_columns.Goals as goal

pub loop-column-preserved : goal.loop-column-preserved
loop-column-preserved c =
    let i = c.loop-column.column in
    put_next (columns_from 0 i) c.args.positions.now c.loop-column.positions (columns_from 0 (i + 1)) i (InColumn i) InBasis c.loop-column.invariant (length_columns 0 i)
    (omega (arith, c.requires, c.loop-column-test.true)) (columns_more 0 i ∙ ap (λ k. columns_from 0 i ++ (InColumn k ∷ [])) (let q : 0 + i ≡ i = omega arith in q))
