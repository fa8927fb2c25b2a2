-- Lemmas: the sizes that a problem keeps to.
use Rattle.std.specs.Prelude.{◌≡◌, ℕ, ◌<◌, ◌≤◌, ℤ, nat_abs, List, [], ◌∷◌, length, All}
use Rattle.std.proofs.Common.{arith, subst, sym}
use Rattle.std.proofs.lemmas.Int.{ints}
use Rattle.std.proofs.lemmas.List.Elements.{All-nil, All-cons, All-head, All-tail, All-weaker}
use Rattle.fraction.specs.Rational.{ℚ}
use Rattle.problem_box.specs.declared.span.Span.{Span}
use Rattle.problem_box.specs.Boxes.{IsInBox}
use Rattle.problem_box.specs.Lemmas.Boxes.{IsInBox-length}
use Rattle.problem.specs.declared.row.Row.{Row}
use Rattle.problem.specs.Lemmas.Rising.{length-rising}
use Rattle.problem.specs.Modest.{AreModest, IsModestPoint}
use Rattle.problem.specs.Limited.{IsModestSpan, AreLimited, IsLimitedRow}
use Rattle.problem.specs.Limits.{most_columns, largest_bound}

-- ---- what follows
pub are_modest : (n : ℕ) (ts : List (ℕ × ℚ)) → n ≤ most_columns → AreLimited n ts → AreModest ts
are_modest n ts l h = record { few = omega (arith, length-rising n 0 ts (omega arith) h.rising h.below); modest = h.modest }

pub rows_below : (n : ℕ) (rs : List Row) → All (IsLimitedRow n) rs → All (λ r. All (λ t. t.0 < n) r.terms) rs
rows_below n rs h = All-weaker (IsLimitedRow n) (λ (r : Row). All (λ (t : ℕ × ℚ). t.0 < n) r.terms) (λ r k. k.terms.below) rs h

pub rows_modest : (n : ℕ) (rs : List Row) → n ≤ most_columns → All (IsLimitedRow n) rs → All (λ r. AreModest r.terms) rs
rows_modest n rs l h = All-weaker (IsLimitedRow n) (λ (r : Row). AreModest r.terms) (λ r k. are_modest n r.terms l k.terms) rs h

-- the points of a modest box are modest
pub modest_inside : (ss : List Span) (xs : List ℤ) → All IsModestSpan ss → IsInBox ss xs → IsModestPoint xs
modest_inside [] [] h b = All-nil (λ x. nat_abs x ≤ largest_bound)
modest_inside [] (x ∷ xs) h b = absurd b
modest_inside (s ∷ ss) [] h b = absurd b
modest_inside (s ∷ ss) (x ∷ xs) h b =
    let m = All-head IsModestSpan s ss h in
    All-cons (λ x. nat_abs x ≤ largest_bound) x xs (omega (arith, ints, m.0, m.1, b.0.0, b.0.1)) (modest_inside ss xs (All-tail IsModestSpan s ss h) b.1)

pub over_point : (ss : List Span) (xs : List ℤ) (ts : List (ℕ × ℚ)) → IsInBox ss xs → All (λ t. t.0 < length ss) ts → All (λ t. t.0 < length xs) ts
over_point ss xs ts b h = subst (λ n. All (λ (t : ℕ × ℚ). t.0 < n) ts) (sym (IsInBox-length ss xs b)) h

pub rows_over_point : (ss : List Span) (xs : List ℤ) (rs qs : List Row) → qs ≡ rs → IsInBox ss xs → All (λ r. All (λ t. t.0 < length ss) r.terms) rs → All (λ r. All (λ t. t.0 < length xs) r.terms) qs
rows_over_point ss xs rs qs e b h =
    subst (λ n. All (λ (r : Row). All (λ (t : ℕ × ℚ). t.0 < n) r.terms) qs) (sym (IsInBox-length ss xs b))
    (subst (λ vs. All (λ (r : Row). All (λ (t : ℕ × ℚ). t.0 < length ss) r.terms) vs) (sym e) h)
