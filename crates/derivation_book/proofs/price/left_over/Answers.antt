use Rattle.std.proofs.Common.{ℕ, ◌+◌, ap, ◌∙◌, arith, length}
use Rattle.std.specs.Prelude.{pos, slice_index_or}
use Rattle.std.proofs.lemmas.List.{length_push, get_or_default}
use Rattle.fraction.specs.Rational.{whole, ◌+ℚ◌, neg_ℚ}
use Rattle.problem.specs.Linear.{coefficient}
use Rattle.derivation_book.proofs.Leaving.{left_is, one_more}
use Rattle.derivation_book.proofs.price.left_over.Goals as goal

pub loop-column-preserved : goal.loop-column-preserved
loop-column-preserved c =
    let j = c.loop-column.column in
    let old = c.loop-column.invariant in
    let items = c.in_ok-push-in-Some.ensures.items in
    record {
      rising = c.wanted_at-wanted.ensures.rising;
      same = λ i l. c.wanted_at-wanted.ensures.later i (omega (arith, l)) ∙ old.same i (omega (arith, l));
      long = ap length items ∙ length_push c.loop-column.items.items c.in-Some.left ∙ ap (λ n. n + 1) old.long;
      left = one_more (λ (i : ℕ). coefficient c.args.target.now i +ℚ neg_ℚ (slice_index_or c.args.coefficients.now i (whole (pos 0)))) c.loop-column.items.items c.push.new.self.items j c.in-Some.left items old.long
          (left_is c.wanted_at-wanted.result.0 c.index-coefficients-column.result (coefficient c.args.target.now j) (slice_index_or c.args.coefficients.now j (whole (pos 0))) c.in-Some.left c.in-Some.ensures
          (c.wanted_at-wanted.ensures.coefficient ∙ old.same j (omega arith))
          (c.index-coefficients-column.is ∙ get_or_default c.args.coefficients.now j c.index-coefficients-column.result (whole (pos 0)) (omega arith)))
          old.left;
    }
