use Rattle.std.proofs.Common.{◌≡◌, ◌*◌, ◌∙◌, ap, arith, rules}
use Rattle.std.specs.Prelude.{pos, ◌*ℤ◌}
use Rattle.std.specs.Int.{w64, w128}
use Rattle.std.proofs.lemmas.Int.{ints, to_z-of_z}
use mir.Val.{SFits, to_z, of_z}
use Rattle.dual_simplex.proofs.Scaling.{number_over}
use Rattle.dual_simplex.proofs.single_sum.narrow_numerator.Goals as goal

pub returns-then-is_whole : goal.returns-then-is_whole
returns-then-is_whole c =
    let q = c.args.number in
    let d = c.args.denominator in
    let n = c.numer.result in
    let w = c.in-Ok.whole in
    let z = c.in_ok-numerator.numerator in
    let fn : SFits w128 n = search rules in
    let fw : SFits w64 w = search rules in
    let fz : SFits w64 z = search rules in
    let one : d * q.den ≡ d = ap (λ k. d * k) (c.is_whole.ensures.0 c.if-is_whole.true) ∙ omega arith in
    let whole : to_z w64 (of_z w64 w) ≡ q.num = to_z-of_z w64 w fw ∙ c.in-Ok.ensures.1 ∙ to_z-of_z w128 n fn ∙ c.numer.ensures in
    let factor : to_z w64 d ≡ pos d = omega (arith, ints, c.requires.narrow) in
    number_over q _ d d c.requires.denominator.positive one (to_z-of_z w64 z fz ∙ c.in_ok-numerator.ensures.1 ∙ (λ i. whole i *ℤ factor i))
