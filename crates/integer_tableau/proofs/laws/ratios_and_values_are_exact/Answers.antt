use Rattle.std.proofs.Common.{◌-◌, arith}
use Rattle.integer_tableau.specs.Range.{size_limit}
use Rattle.integer_tableau.specs.Lemmas.Comparing.{ratio_exact}
use Rattle.integer_tableau.proofs.Sums.{value_is}
use Rattle.integer_tableau.proofs.laws.ratios_and_values_are_exact.Goals as goal

pub returns : goal.returns
returns c = record { ratios = ratio_exact; values = λ d positions row xs o l h small. value_is d (size_limit - 1) row positions xs o l h (omega (arith, small)) }
