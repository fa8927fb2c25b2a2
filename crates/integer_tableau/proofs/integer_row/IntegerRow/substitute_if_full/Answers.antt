use Rattle.std.proofs.Common.{arith, subst, w64}
use Rattle.std.proofs.lemmas.Int.{to_z-of_z}
use Rattle.integer_tableau.specs.Substitution.{IsSubstitutedRow}
use Rattle.integer_tableau.proofs.integer_row.IntegerRow.substitute_if_full.Goals as goal

pub returns-then-width : goal.returns-then-width
returns-then-width c = λ a. record {
  full = λ _. subst (λ e. IsSubstitutedRow c.args.divisor.number e c.args.column c.args.source.now c.args.self.now c.substitute.new.self) (to_z-of_z w64 c.args.pivot_size c.ranges.pivot_size) (c.substitute.ensures a);
  other = λ n. absurd (n (omega arith));
}
