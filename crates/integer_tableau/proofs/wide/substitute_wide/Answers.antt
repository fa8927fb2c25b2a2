use Rattle.std.proofs.Common.{◌-◌, ◌≤◌, ◌-ℤ◌, ◌*ℤ◌, w64, to_z, of_z, nat_abs, arith, ◌∙◌, rules}
use Rattle.std.specs.Int.{w128}
use mir.Val.{SFits}
use Rattle.std.proofs.lemmas.Int.{to_z-of_z}
use Rattle.integer_tableau.proofs.Loops.{all_done, back64_within, done_more, left_more}
use Rattle.integer_tableau.specs.Numbers.{number_at}
use Rattle.integer_tableau.specs.Range.{size_limit}
use Rattle.integer_tableau.proofs.wide.substitute_wide.Goals as goal

pub loop-i-preserved : goal.loop-i-preserved
loop-i-preserved c =
    let i = c.loop-i.i in
    let e = c.loop-i.invariant.left i (omega arith) in
    let h : nat_abs (number_at c.loop-i.row i) ≤ size_limit - 1 = rw e (c.requires.row_small i) in
    let y = c.determinant-dividend.ensures.value ∙ (λ j. back64_within (number_at c.args.source.now i) (c.requires.source_small i) j *ℤ to_z w64 (of_z w64 c.args.source_factor) -ℤ (back64_within (number_at c.loop-i.row i) h ∙ e) j *ℤ to_z w64 (of_z w64 c.args.row_factor)) in
    record {
      done = done_more c.loop-i.row c.args.row.now c.args.source.now i _ _ _ _ c.loop-i.differences c.discrepancy-differences.result (omega arith) c.loop-i.invariant.done
          (λ a. c.discrepancy-differences.ensures a ∙ to_z-of_z w128 c.determinant-dividend.result (let f : SFits w128 c.determinant-dividend.result = record { sfits = c.determinant-dividend.type_inv } in f) ∙ y);
      left = left_more c.loop-i.row c.args.row.now i _ c.loop-i.invariant.left;
    }

pub returns : goal.returns
returns c = λ a. all_done c.loop-i.row c.args.row.now c.args.source.now c.args.denominator c.args.row_factor c.args.source_factor (omega (arith, c.loop-i.auto.row)) (omega arith)
    (let d = c.ranges.denominator in let m = c.ranges.row_factor in let q = c.ranges.source_factor in λ k h. simp to_z-of_z at (c.loop-i.invariant.done (search rules) k (omega arith)))
