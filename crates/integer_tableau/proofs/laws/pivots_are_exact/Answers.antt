use Rattle.integer_tableau.specs.Lemmas.Fractions.{add_multiple_exact, negative_quotient_exact}
use Rattle.integer_tableau.proofs.laws.pivots_are_exact.Goals as goal

pub returns : goal.returns
returns c = record { substitutions = add_multiple_exact; solutions = λ p a d o l m hp ha. negative_quotient_exact p a d o l m hp ha }
