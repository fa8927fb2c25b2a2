use Rattle.std.proofs.Common.{◌≡◌, ◌∙◌, List, pos, map, replicate, ap, arith, rules}
use Rattle.std.proofs.lemmas.Grind.{common_steps}
use Rattle.fraction.specs.Rational.{ℚ, whole}
use Rattle.derivation_book.specs.Sums.{sums_of}
use Rattle.derivation_book.proofs.Numerators.{zeros_are}
use Rattle.derivation_book.proofs.integer_sums.IntegerSums.zero.Goals as goal

pub returns : goal.returns
returns c =
    let items : c.in_ok-coefficients.coefficients.items ≡ replicate c.args.columns (pos 0) = first_of (search rules, grind (arith, common_steps)) in
    ap (λ (cs : List ℚ). sums_of cs (whole (pos 0))) (ap (map whole) items ∙ zeros_are c.args.columns)
