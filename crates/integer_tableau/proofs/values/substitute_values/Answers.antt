use Rattle.std.proofs.Common.{◌<◌, [], length, get_or, arith, rules, pos, sym, ◌∙◌, w64, to_z, of_z}
use Rattle.std.specs.Int.{w128}
use mir.Val.{SFits}
use Rattle.std.proofs.lemmas.Int.{to_z-of_z}
use Rattle.std.proofs.lemmas.List.{get_or_default}
use Rattle.integer_tableau.proofs.ListedRows.{listed_more, still_unlisted, unlisted_more}
use Rattle.integer_tableau.proofs.Lists.{value_at}
use Rattle.integer_tableau.specs.Pivot.{IsSubstitutedValue}
use Rattle.integer_tableau.proofs.values.substitute_values.Goals as goal

pub loop-basic-preserved : goal.loop-basic-preserved
loop-basic-preserved c =
    let js = c.args.basic_columns.now in
    let i = c.loop-basic.basic-index in
    let j = get_or js i 0 in
    let l : i < length js = c.loop-basic-test.true in
    let there : j < length c.loop-basic.values = omega (arith, c.requires.listed.there i l, c.requires.values_there) in
    let f : SFits w64 (get_or c.loop-basic.values j (pos 0)) = search rules in
    let g : SFits w64 c.in-Some.after = search rules in
    record {
      done = listed_more (λ j. IsSubstitutedValue c.args.width c.args.column (to_z w64 (of_z w64 c.args.nonbasic_value)) (to_z w64 (of_z w64 c.args.pivot_size)) (to_z w128 (of_z w128 c.args.entering)) c.args.divisor.number (get_or c.args.rows.now j [])) (pos 0)
          js c.args.values.now c.loop-basic.values i (to_z w64 (of_z w64 c.in-Some.after)) c.requires.listed.rise l there c.loop-basic.invariant.done
          (value_at c.args.width c.args.column _ _ _ _ c.index-rows-v.result (get_or c.args.rows.now j []) _ _ _ _
          (c.index-rows-v.is ∙ get_or_default c.args.rows.now j c.index-rows-v.result [] (c.requires.listed.there i l))
          (to_z-of_z w64 (get_or c.loop-basic.values j (pos 0)) f ∙ still_unlisted (pos 0) js c.args.values.now c.loop-basic.values i c.requires.listed.rise l c.loop-basic.invariant.left)
          (sym (to_z-of_z w64 c.in-Some.after g))
          c.in-Some.ensures);
      left = unlisted_more (pos 0) js c.args.values.now c.loop-basic.values i (to_z w64 (of_z w64 c.in-Some.after)) c.loop-basic.invariant.left;
    }
