-- Lemmas: a price is at most the target's value.
use Rattle.std.specs.Prelude.{◌≡◌, ◌+◌, ℕ, suc, ℤ, pos, int_lt, Bool, true, false, cond, List, [], ◌∷◌, length, All, refl, Some}
use Rattle.std.proofs.Common.{sym, ap, ◌∙◌, subst, arith}
use Rattle.std.proofs.lemmas.Int.{ints}
use Rattle.fraction.specs.Rational.{ℚ, whole, ◌+ℚ◌, ◌*ℚ◌, ◌≤ℚ◌, neg_ℚ}
use Rattle.fraction.specs.Lemmas.Rational.{+ℚ_comm, neg-+ℚ, ≤ℚ_refl, *ℚ-≤ℚ}
use Rattle.fraction.specs.Lemmas.Order.{at_least_zero, at_most_zero, whole-≤ℚ, *ℚ-≥ℚ, +ℚ-≤ℚ-both, along}
use Rattle.fraction.specs.Lemmas.Ring.{+ℚ_left_comm, +ℚ-zero}
use Rattle.problem_box.specs.declared.span.Span.{Span}
use Rattle.problem_box.specs.Boxes.{IsInBox, IsWithin}
use Rattle.problem.specs.declared.row.Sense.TheVariants.{G}
use Rattle.problem.specs.Linear.{value, coefficient}
use Rattle.problem.specs.Lemmas.Linear.{columns_sum, sum-add, sum-same, value-columns}
use Rattle.problem.specs.Rows.{Satisfies}
use Rattle.cert_rows.specs.Lines.{CertLine, row_at}
use Rattle.cert_rows.specs.Combination.{AllSigned, combined_terms, combined_rhs}
use Rattle.cert_rows.specs.Lemmas.Signs.{Satisfies-combination}
use Rattle.problem.specs.Problem.{Problem}
use Rattle.derivation_book.specs.declared.cut.Cut.{Cut}
use Rattle.derivation_book.specs.Known.{known_lines}
use Rattle.derivation_book.specs.Price.{bound_for, price, reduced_cost, bounds_price, exact_price}
use Rattle.derivation_book.specs.Lemmas.Exact.{price_exact}

least_end : (r : ℚ) (s : Span) (x : ℤ) → IsWithin s x → (r *ℚ whole (bound_for r s)) ≤ℚ (r *ℚ whole x)
least_end r s x h = step (int_lt (pos 0) r.num) refl
  where
    step : (b : Bool) → int_lt (pos 0) r.num ≡ b → (r *ℚ whole (cond b s.lo s.hi)) ≤ℚ (r *ℚ whole x)
    step true e = *ℚ-≤ℚ r (whole s.lo) (whole x) (at_least_zero r (grind (arith, ints))) (whole-≤ℚ s.lo x h.0)
    step false e = *ℚ-≥ℚ r (whole x) (whole s.hi) (at_most_zero r (grind (arith, ints))) (whole-≤ℚ x s.hi h.1)

least_sum : (r : ℕ → ℚ) (j : ℕ) (ss : List Span) (xs : List ℤ) → IsInBox ss xs → bounds_price r j ss ≤ℚ columns_sum (λ i. r (j + i)) xs
least_sum r j [] [] h = ≤ℚ_refl _
least_sum r j [] (x ∷ xs) h = absurd h
least_sum r j (s ∷ ss) [] h = absurd h
least_sum r j (s ∷ ss) (x ∷ xs) h =
    along _ _ _ _ refl ((λ i. r (here i) *ℚ whole x +ℚ columns_sum (λ k. r (there k i)) xs))
    (+ℚ-≤ℚ-both (r j *ℚ whole (bound_for (r j) s)) (r j *ℚ whole x) (bounds_price r (j + 1) ss) (columns_sum (λ i. r (j + 1 + i)) xs) (least_end (r j) s x h.0) (least_sum r (j + 1) ss xs h.1))
  where
    here : j ≡ j + 0
    here = omega arith

    there : (k : ℕ) → j + 1 + k ≡ j + suc k
    there k = omega arith

sum_apart : (f g : ℕ → ℚ) (xs : List ℤ) → columns_sum f xs +ℚ columns_sum (λ j. g j +ℚ neg_ℚ (f j)) xs ≡ columns_sum g xs
sum_apart f g xs = sym (sum-add f (λ j. g j +ℚ neg_ℚ (f j)) xs) ∙ sum-same _ _ (λ j. cancelled (f j) (g j)) xs
  where
    cancelled : (x y : ℚ) → x +ℚ (y +ℚ neg_ℚ x) ≡ y
    cancelled x y = +ℚ_left_comm x y (neg_ℚ x) ∙ ap (λ z. y +ℚ z) (+ℚ_comm x (neg_ℚ x) ∙ neg-+ℚ x) ∙ +ℚ-zero y

pub exact_below : (ls : List CertLine) (target mult : List (ℕ × ℚ)) (ss : List Span) (x : List ℤ)
    → AllSigned G ls mult → IsInBox ss x → All (λ m. Satisfies x (row_at ls m.0)) mult → exact_price ls target mult ss ≤ℚ value target x
exact_below ls target mult ss x signs inside rows =
    let terms = combined_terms ls mult in
    let r = reduced_cost target terms in
    along _ _ _ _ refl
    ((λ i. value-columns terms x i +ℚ columns_sum (λ j. r (there j i)) x) ∙ sum_apart (coefficient terms) (coefficient target) x ∙ sym (value-columns target x))
    (+ℚ-≤ℚ-both (combined_rhs ls mult) (value terms x) (bounds_price r 0 ss) (columns_sum (λ j. r (0 + j)) x) (Satisfies-combination x G ls mult signs rows) (least_sum r 0 ss x inside))
  where
    there : (j : ℕ) → 0 + j ≡ j
    there j = omega arith

pub price_below : (p : Problem) (cs : List Cut) (box : List Span) (target mult : List (ℕ × ℚ)) (v : ℚ) (x : List ℤ)
    → length box ≡ length p.spans → AllSigned G (known_lines p cs) mult → price p cs box target mult ≡ Some v
    → IsInBox box x → All (λ m. Satisfies x (row_at (known_lines p cs) m.0)) mult → v ≤ℚ value target x
price_below p cs box target mult v x l signs e inside rows =
    subst (λ u. u ≤ℚ value target x) (sym (price_exact p cs box target mult v l e)) (exact_below (known_lines p cs) target mult box x signs inside rows)
