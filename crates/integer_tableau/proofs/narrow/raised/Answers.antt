use Rattle.std.proofs.Common.{◌≡◌, ◌^◌, ◌+◌, ◌%◌, w64, of_z, ap, subst, ◌∙◌, arith}
use Rattle.std.proofs.lemmas.Int.{ints, to_z-of_z}
use Rattle.integer_tableau.proofs.LowProducts.{raised_whole}
use Rattle.integer_tableau.proofs.narrow.raised.Goals as goal

pub returns-clause-whole : goal.returns-clause-whole
returns-clause-whole c = λ k h e f. raised_whole c.args.number c.args.reach k (omega (arith, ints)) h e
    (subst (λ z. (z + c.args.reach) % 2 ^ 64 % 2 ^ k ≡ 0) (c.cast_unsigned.ensures ∙ ap (of_z w64) (to_z-of_z w64 c.args.number c.ranges.number)) f)
