use Rattle.std.proofs.Common.{◌+◌, ◌++◌, ◌∷◌, [], None, ap, arith, sym, ◌∙◌, take, false, Bool}
use Rattle.std.proofs.lemmas.List.{length-map, length-take, map_more}
use Rattle.tableau.specs.Leaving.{bounds_differ}
use Rattle.integer_tableau.proofs.Refilled.{put_next}
use Rattle.integer_tableau.specs.Exits.{are_free}
use Rattle.integer_tableau.specs.IntegerTableau.{fraction_bounds}
use Rattle.integer_tableau.specs.declared.integer_bounds.IntegerBounds.{IntegerBounds}
use Rattle.integer_tableau.proofs.start_lists.put_each_free.Goals as goal

pub loop-variable-preserved : goal.loop-variable-preserved
loop-variable-preserved c =
    let i = c.loop-variable.variable in
    let bs = c.args.bounds.now in
    let f : IntegerBounds → Bool = λ b. bounds_differ (fraction_bounds b) in
    put_next (are_free (take i bs)) c.args.free.now c.loop-variable.free (are_free (take (i + 1) bs)) i c.differ.result false c.loop-variable.invariant
    (omega (arith, length-map (take i bs) f, length-take i bs, c.loop-variable-test.true)) (omega (arith, c.requires, c.loop-variable-test.true))
    (map_more f bs i (record { lower = None; upper = None }) c.loop-variable-test.true ∙ ap (λ (u : Bool). are_free (take i bs) ++ u ∷ []) (sym c.differ.ensures))
