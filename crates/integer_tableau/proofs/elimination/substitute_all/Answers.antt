use Rattle.std.proofs.Common.{◌<◌, [], arith, length, get_or, refl, subst, w64, to_z, of_z}
use Rattle.std.proofs.lemmas.Int.{to_z-of_z}
use Rattle.std.proofs.lemmas.List.{get_or_default}
use Rattle.integer_tableau.proofs.ListedRows.{done_at, listed_more, no_numbers, none_stays, still_unlisted, unlisted_more}
use Rattle.integer_tableau.specs.Substitution.{IsSubstitutedIfFull}
use Rattle.integer_tableau.proofs.elimination.substitute_all.Goals as goal

pub loop-basic-preserved : goal.loop-basic-preserved
loop-basic-preserved c =
    let js = c.args.basic_columns.now in
    let i = c.loop-basic.basic-index in
    let l : i < length js = c.loop-basic-test.true in
    let there : get_or js i 0 < length c.loop-basic.rows = omega (arith, c.requires.listed.there i l) in
    let e = still_unlisted [] js c.args.rows.now c.loop-basic.rows i c.requires.listed.rise l c.loop-basic.invariant.left in
    let d = get_or_default c.loop-basic.rows (get_or js i 0) c.index-rows-basic.result [] there in
    record {
      done = listed_more (λ _. IsSubstitutedIfFull c.args.divisor.number (to_z w64 (of_z w64 c.args.pivot_size)) c.args.column c.args.source.now) [] js c.args.rows.now c.loop-basic.rows i c.substitute_if_full.new.self
          c.requires.listed.rise l there c.loop-basic.invariant.done (rw (← e, ← d) (c.if-not-substitute_if_full.ensures refl));
      left = unlisted_more [] js c.args.rows.now c.loop-basic.rows i c.substitute_if_full.new.self c.loop-basic.invariant.left;
    }

pub returns : goal.returns
returns c = λ _ v h.
    let js = c.args.basic_columns.now in
    subst (λ e. IsSubstitutedIfFull c.args.divisor.number e c.args.column c.args.source.now (get_or c.args.rows.now v []) (get_or c.loop-basic.rows v [])) (to_z-of_z w64 c.args.pivot_size c.ranges.pivot_size)
    (done_at (λ _. IsSubstitutedIfFull c.args.divisor.number (to_z w64 (of_z w64 c.args.pivot_size)) c.args.column c.args.source.now) [] js c.args.rows.now c.loop-basic.rows c.loop-basic.basic-index v c.loop-basic.invariant.done
    (λ u. none_stays _ _ _ _ _ _ c.requires.column (no_numbers js c.args.rows.now v c.requires.listed h (λ p l. u p (omega (arith, l, c.loop-basic-test.false)))) (c.loop-basic.invariant.left v u)))
