use Rattle.std.proofs.Common.{arith}
use Rattle.std.proofs.Math.Nat.{mul-le-mul_left}
use Rattle.integer_tableau.proofs.combined_sizes.with_column.Goals as goal

pub returns-in_ok-basic-in-InBasis-clause-basic : goal.returns-in_ok-basic-in-InBasis-clause-basic
returns-in_ok-basic-in-InBasis-clause-basic c = λ k q. omega (arith, c.in_ok-basic-in-InBasis.ensures, mul-le-mul_left c.args.size (c.bound.ensures k))
