use Rattle.std.proofs.Common.{◌≡◌, ◌≤◌, ◌*ℤ◌, ℕ, arith, below_more, get_or, nat_abs, rules, subst, w64, to_z, of_z}
use mir.Val.{SFits}
use Rattle.std.proofs.lemmas.Bool.{false≢true}
use Rattle.std.proofs.lemmas.Int.{to_z-of_z}
use Rattle.integer_tableau.specs.Numbers.{number_at}
use Rattle.integer_tableau.specs.Range.{size_limit}
use Rattle.integer_tableau.specs.declared.position.Position.TheVariants.{InBasis, InColumn}
use Rattle.integer_tableau.proofs.denominator.are_nonbasic_small.Goals as goal

pub returns-then-not-is_small_if_nonbasic : goal.returns-then-not-is_small_if_nonbasic
returns-then-not-is_small_if_nonbasic c = λ ok. absurd (false≢true ok)

pub loop-v-preserved : goal.loop-v-preserved
loop-v-preserved c = λ u k from l is.
    let a = c.args in
    let v = c.loop-v.v in
    let d = to_z w64 (of_z w64 a.denominator) in
    let x = number_at a.nonbasic_values.now v in
    let f : SFits w64 x = search rules in
    below_more (λ (u : ℕ). (k : ℕ) → a.first ≤ u → get_or a.positions.now u InBasis ≡ InColumn k → nat_abs (number_at a.nonbasic_values.now u *ℤ d) ≤ size_limit) v
    (λ u l k from is. c.loop-v.invariant u k from l is)
    (λ k from is. subst (λ z. nat_abs (z *ℤ d) ≤ size_limit) (to_z-of_z w64 x f) (c.is_small_if_nonbasic.ensures c.if-not-is_small_if_nonbasic.false k is)) u l k from is

pub returns : goal.returns
returns c = λ ok v k from l is.
    let a = c.args in
    subst (λ z. nat_abs (number_at a.nonbasic_values.now v *ℤ z) ≤ size_limit) (to_z-of_z w64 a.denominator c.ranges.denominator)
    (c.loop-v.invariant v k from (omega (arith, l, c.loop-v-test.false)) is)
