-- One more term in a sum over ends of spans whose terms have whole coefficients.
use Rattle.std.specs.Prelude.{◌≡◌, ◌<◌, ◌≤◌, ◌+◌, ◌*◌, ◌^◌, ℕ, ℤ, pos, ◌+ℤ◌, ◌*ℤ◌, nat_abs, List, Some}
use Rattle.std.proofs.Common.{sym, ap, ◌∙◌, subst, arith}
use Rattle.std.specs.Int.{w64}
use Rattle.std.proofs.lemmas.Int.{ints, to_z-of_z}
use mir.Val.{SFits, to_z, of_z}
use Rattle.fraction.specs.Rational.{ℚ, whole, ◌+ℚ◌, ◌*ℚ◌}
use Rattle.fraction.specs.Narrow.{narrow_integer}
use Rattle.fraction.specs.Lemmas.Rational.{zero-+ℚ}
use Rattle.fraction.specs.Lemmas.Bounds.{whole_parts}
use Rattle.fraction.specs.Lemmas.Whole.{narrow_integer_is, whole-+, whole-*}
use Rattle.problem_box.specs.declared.span.Span.{Span}
use Rattle.problem.specs.Lemmas.Modest.{largest_term, IsSumOf, whole_within}
use Rattle.problem.specs.Limits.{most_columns, largest_bound, finest}
use Rattle.row_activity.specs.declared.activity.Extreme.{Extreme}
use Rattle.row_activity.specs.Activity.{end_for}
use Rattle.row_activity.specs.IntegerSums.{IsIntegerSum}
use Rattle.row_activity.proofs.Steps.{IsTotal, IsNext, few, one_more}

-- the coefficient of a term that is whole
pub coefficient_is : (x : ℚ) (z : ℤ) → SFits w64 z → Some z ≡ narrow_integer x → x ≡ whole (to_z w64 (of_z w64 z))
coefficient_is x z f e = narrow_integer_is x z e ∙ ap whole (sym (to_z-of_z w64 z f))

-- the sum over no terms
pub no_integers : (e : ℚ → Span → ℤ) (ss : List Span) (ts : List (ℕ × ℚ)) → IsIntegerSum e ss ts 0 (pos 0)
no_integers e ss ts = record { there = omega arith; small = omega arith; rest = zero-+ℚ _ }

-- a whole number is a sum of k products, if it is as small as they are
small_from_sum : (z : ℤ) (k : ℕ) → IsSumOf k (whole z) → nat_abs z ≤ k * (largest_bound * largest_bound)
small_from_sum z k h =
    let l = subst (λ n. n * finest ≤ k * largest_term * (whole z).den) (ap nat_abs (whole_parts z).0) h.size in
    let m = subst (λ d. nat_abs z * finest ≤ k * largest_term * d) (whole_parts z).1 l in
    omega (arith, m)

-- the total with which the sum goes on in fractions
as_total : (a : Extreme) (ss : List Span) (ts : List (ℕ × ℚ)) (k : ℕ) (z : ℤ) → IsIntegerSum (end_for a) ss ts k z → IsTotal a ss ts k (whole z)
as_total a ss ts k z h = record { size = whole_within z (k * largest_term) (omega (arith, h.small)); rest = h.rest }

pub begun : (a : Extreme) (ss : List Span) (ts us : List (ℕ × ℚ)) (k : ℕ) (z : ℤ) (total : ℚ) → us ≡ ts → IsIntegerSum (end_for a) ss us k z → total ≡ whole z → IsTotal a ss ts (k + 0) total
begun a ss ts us k z total e h f =
    let here = as_total a ss ts k z (subst (λ vs. IsIntegerSum (end_for a) ss vs k z) e h) in
    subst (λ m. IsTotal a ss ts m total) (omega arith) (subst (IsTotal a ss ts k) (sym f) here)

-- the sum fits into 128 bits
has_room : (z : ℤ) (k : ℕ) → k ≤ most_columns → nat_abs z ≤ k * (largest_bound * largest_bound) → nat_abs z < 2 ^ 127
has_room z k l h = omega (arith, l, h)

module _ (a : Extreme) {ss : List Span} {ts : List (ℕ × ℚ)} {i : ℕ} {z : ℤ} {t : ℕ × ℚ} {s : Span} (n : IsNext ss ts i t s) (so_far : IsIntegerSum (end_for a) ss ts i z) (c : ℤ) (e : t.1 ≡ whole c) where
  abbrev next : ℤ
  next = z +ℤ c *ℤ end_for a (whole c) s

  next_is : whole next ≡ whole z +ℚ t.1 *ℚ whole (end_for a t.1 s)
  next_is =
      let p = c *ℤ end_for a (whole c) s in
      let same : next ≡ z *ℤ pos 1 +ℤ p *ℤ pos 1 = omega (arith, ints) in
      ap whole same ∙ sym (whole-+ z p) ∙ ap (λ v. whole z +ℚ v) (sym (whole-* c (end_for a (whole c) s)))
      ∙ ap (λ v. whole z +ℚ v *ℚ whole (end_for a v s)) (sym e)

  more : IsTotal a ss ts (i + 1) (whole next)
  more = one_more n (as_total a ss ts i z so_far) next_is

  pub one_more_integer : IsIntegerSum (end_for a) ss ts (i + 1) next
  one_more_integer = record { there = omega (arith, n.within); small = small_from_sum next (i + 1) more.size; rest = more.rest }

  pub integer_room : nat_abs next < 2 ^ 127
  integer_room = has_room next (i + 1) (omega (arith, few n (as_total a ss ts i z so_far))) one_more_integer.small
