use Rattle.std.proofs.Common.{◌+◌, ◌++◌, ◌∷◌, [], None, arith, sym, ◌∙◌, map, take}
use Rattle.std.proofs.lemmas.List.{length-map, length-take}
use Rattle.tableau.specs.Lemmas.Programs.{next_mapped}
use Rattle.integer_tableau.proofs.Refilled.{put_next}
use Rattle.integer_tableau.specs.IntegerProgram.{column_bounds}
use Rattle.integer_tableau.proofs.start_lists.put_box.Goals as goal

pub loop-column-preserved : goal.loop-column-preserved
loop-column-preserved c =
    let i = c.loop-column.column in
    let xs = c.args.area.now in
    put_next (map column_bounds (take i xs)) c.args.bounds.now c.loop-column.bounds (map column_bounds (take (i + 1) xs)) i c.column_bounds.result (record { lower = None; upper = None }) c.loop-column.invariant
    (omega (arith, length-map (take i xs) column_bounds, length-take i xs, c.loop-column-test.true)) (omega (arith, c.requires, c.loop-column-test.true))
    (next_mapped column_bounds xs i c.span.result c.span.ensures ∙ (λ t. map column_bounds (take i xs) ++ (sym c.column_bounds.ensures t ∷ [])))
