use Rattle.std.proofs.Common.{◌+◌, ◌++◌, ◌∷◌, [], ap, arith, sym, ◌∙◌, get_or, map, take, pos, ℤ, false, rules, w64}
use mir.Val.{SFits}
use Rattle.std.proofs.lemmas.Int.{to_z-of_z}
use Rattle.std.proofs.lemmas.List.{length-map, length-take, map_more}
use Rattle.integer_tableau.proofs.Refilled.{put_next}
use Rattle.integer_tableau.specs.Start.{is_negative}
use Rattle.integer_tableau.proofs.start_lists.put_sides.Goals as goal

pub loop-column-preserved : goal.loop-column-preserved
loop-column-preserved c =
    let i = c.loop-column.column in
    let xs = c.args.costs.now in
    let x = get_or xs i (pos 0) in
    let f : SFits w64 x = search rules in
    put_next (map is_negative (take i xs)) c.args.at_upper.now c.loop-column.at_upper (map is_negative (take (i + 1) xs)) i _ false c.loop-column.invariant
    (omega (arith, length-map (take i xs) is_negative, length-take i xs, c.loop-column-test.true)) (omega (arith, c.requires, c.loop-column-test.true))
    (map_more is_negative xs i (pos 0) c.loop-column-test.true ∙ ap (λ (z : ℤ). map is_negative (take i xs) ++ is_negative z ∷ []) (sym (to_z-of_z w64 x f)))
