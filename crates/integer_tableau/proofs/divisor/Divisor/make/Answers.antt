use Rattle.std.proofs.Common.{arith}
use Rattle.std.proofs.lemmas.Int.{ints}
use Rattle.std.proofs.lemmas.Nat.{and_le_r}
use Rattle.integer_tableau.proofs.divisor.Divisor.make.Goals as goal

pub invariant_of-result : goal.invariant_of-result
invariant_of-result c = record {
  positive = omega (arith, ints, c.requires.positive);
  small = omega (arith, ints, c.requires.small);
  few_zeros = omega (arith, and_le_r c.trailing_zeros-zeros.result 63);
  parts = c.reach_of.ensures.parts;
  inverts = c.reach_of.ensures.inverts;
  reach_small = c.reach_of.ensures.small;
  reach_whole = c.reach_of.ensures.whole;
  within = c.reach_of.ensures.within;
}
