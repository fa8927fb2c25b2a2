use Rattle.std.proofs.Common.{◌+◌, ◌+ℤ◌, ◌*ℤ◌, pos, get_or, arith, rules, ap, sym, subst, ◌∙◌, w64, to_z, of_z}
use Rattle.std.specs.Int.{int_wrap}
use mir.Val.{SFits}
use Rattle.std.proofs.lemmas.Int.{to_z-of_z}
use Rattle.integer_tableau.proofs.KeptSums.{IsSaidBefore, said_more, said_nothing}
use Rattle.integer_tableau.specs.Numbers.{number_at}
use Rattle.integer_tableau.proofs.low_sums.put_nonbasic.Goals as goal
use Rattle.integer_tableau.proofs.low_sums.put_nonbasic.Goals.{then-variable-coefficients, else-variable-coefficients}

pub loop-column-init : goal.loop-column-init
loop-column-init c = record { done = λ k l. absurd (omega (arith, l)); left = λ k l. c.requires.zero k }

pub loop-column-preserved : goal.loop-column-preserved
loop-column-preserved c =
    let vs = c.args.nonbasic.now in
    let cs = c.args.coefficients.now in
    let ss = c.loop-column.sums in
    let i = c.loop-column.column in
    let d = to_z w64 (of_z w64 c.args.denominator) in
    elim c.if-variable-coefficients.branch [
      | then-variable-coefficients w ↦
          let f : SFits w64 w.multiple_sum.result = search rules in
          let g : SFits w64 (get_or cs (get_or vs i 0) (pos 0)) = search rules in
          subst (IsSaidBefore d cs vs (i + 1)) (sym w.sums-is) (said_more d cs vs i ss _ (omega arith) c.loop-column.invariant (to_z-of_z w64 w.multiple_sum.result f ∙ w.multiple_sum.ensures
          ∙ ap (λ z. int_wrap w64 (pos 0 +ℤ d *ℤ z)) (to_z-of_z w64 (get_or cs (get_or vs i 0) (pos 0)) g)))
      | else-variable-coefficients w ↦ subst (IsSaidBefore d cs vs (i + 1)) (sym w.sums-is) (said_nothing d cs vs i ss (omega (arith, w.if-variable-coefficients.false)) c.loop-column.invariant)
    ]

pub returns : goal.returns
returns c = λ k l. c.loop-column.invariant.done k (omega (arith, l, c.requires.as_many))
    ∙ ap (λ z. int_wrap w64 (z *ℤ number_at c.args.coefficients.now (get_or c.args.nonbasic.now k 0))) (to_z-of_z w64 c.args.denominator c.ranges.denominator)
