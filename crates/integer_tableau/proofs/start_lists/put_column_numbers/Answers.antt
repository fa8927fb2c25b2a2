use Rattle.std.proofs.Common.{◌+◌, ◌++◌, ◌∷◌, [], None, ap, arith, sym, ◌∙◌, get_or, take, pos, ℤ, rules, w64}
use mir.Val.{SFits}
use Rattle.std.proofs.lemmas.Int.{to_z-of_z}
use Rattle.std.proofs.lemmas.List.{length-take}
use Rattle.integer_tableau.proofs.Refilled.{put_next, start_numbers_more}
use Rattle.integer_tableau.proofs.Starting.{length_start_numbers}
use Rattle.integer_tableau.specs.Start.{start_number, start_numbers}
use Rattle.integer_tableau.proofs.start_lists.put_column_numbers.Goals as goal

pub loop-column-preserved : goal.loop-column-preserved
loop-column-preserved c =
    let i = c.loop-column.column in
    let xs = c.args.costs.now in
    let bs = c.args.bounds.now in
    let x = get_or xs i (pos 0) in
    let f : SFits w64 x = search rules in
    let g : SFits w64 c.start_number.result = search rules in
    put_next (start_numbers (take i xs) bs) c.args.numbers.now c.loop-column.numbers (start_numbers (take (i + 1) xs) bs) i _ (pos 0) c.loop-column.invariant
    (omega (arith, length_start_numbers (take i xs) bs (omega (arith, length-take i xs, c.requires.bounds_there, c.loop-column-test.true)), length-take i xs, c.loop-column-test.true))
    (omega (arith, c.requires.numbers_there, c.loop-column-test.true))
    (start_numbers_more xs bs i c.loop-column-test.true (omega (arith, c.requires.bounds_there, c.loop-column-test.true))
    ∙ ap (λ (z : ℤ). start_numbers (take i xs) bs ++ z ∷ []) (sym (to_z-of_z w64 c.start_number.result g ∙ c.start_number.ensures ∙ ap (λ z. start_number z (get_or bs i (record { lower = None; upper = None }))) (to_z-of_z w64 x f))))
