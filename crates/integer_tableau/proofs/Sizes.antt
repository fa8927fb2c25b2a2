-- Sizes after a pivot.
use Rattle.std.proofs.Common.{◌≡◌, ℕ, ◌+◌, ◌-◌, ◌*◌, ◌/◌, ◌<◌, ◌≤◌, max, arith, ap, sym, subst, ◌∙◌, refl, List, length, set, take, drop, ◌++◌, inl, inr, get_or-set_other, get_or-set_same}
use Rattle.std.specs.Prelude.{ℤ, pos, negsuc, neg_ℤ, nat_abs, ◌+ℤ◌, ◌*ℤ◌, ◌<ℤ◌}
use Rattle.std.proofs.lemmas.Int.{ints, unsigned_abs-mul}
use Rattle.std.proofs.lemmas.Bool.{cases_eq, cases_lt}
use Rattle.std.proofs.lemmas.List.{length-set, get_or_past, set-get_or}
use Rattle.std.proofs.Math.Seq.{take-append_seam}
use Rattle.std.proofs.Math.Nat.{mul-le-mul_right, le-div_iff_mul-le}
use Rattle.integer_tableau.specs.Numbers.{IsWithin, number_at}
use Rattle.integer_tableau.specs.Range.{size_limit}
use Rattle.integer_tableau.specs.Substitution.{IsSolvedFor, IsSubstituted, IsSubstitutedRow, substituted_size}
use Rattle.fraction.specs.Lemmas.Integers.{abs-neg}
use Rattle.integer_tableau.specs.Lemmas.Fractions.{abs-negative_quotient}

size_step : (t d r e s q : ℤ) (top most : ℕ) → 0 < nat_abs d → t *ℤ d ≡ r *ℤ e +ℤ s *ℤ q → nat_abs r ≤ top → nat_abs s ≤ most
    → nat_abs t ≤ (top * nat_abs e + most * nat_abs q) / nat_abs d
size_step t d r e s q top most o h k l = (le-div_iff_mul-le {k = nat_abs d} {x = nat_abs t} {y = top * nat_abs e + most * nat_abs q} o).1
    (let sum : nat_abs (r *ℤ e +ℤ s *ℤ q) ≤ nat_abs (r *ℤ e) + nat_abs (s *ℤ q) = size (r *ℤ e) (s *ℤ q) in
    let whole : nat_abs t * nat_abs d ≡ nat_abs (r *ℤ e +ℤ s *ℤ q) = sym (unsigned_abs-mul t d) ∙ ap nat_abs h in
    omega (arith, unsigned_abs-mul r e, unsigned_abs-mul s q, mul-le-mul_right (nat_abs e) k, mul-le-mul_right (nat_abs q) l))
  where
    size : (a b : ℤ) → nat_abs (a +ℤ b) ≤ nat_abs a + nat_abs b
    size a b = omega (arith, ints)

set_within : (row : List ℤ) (k top : ℕ) → IsWithin top row → IsWithin top (set row k (pos 0))
set_within row k top h j = elim (cases_eq j k) [
  | inl p ↦ rw p here
  | inr p ↦ rw (get_or-set_other row k j (pos 0) (pos 0) p) (h j)
]
  where
    here : nat_abs (number_at (set row k (pos 0)) k) ≤ top
    here = elim (cases_lt k (length row)) [
      | inl l ↦ rw (get_or-set_same row k (pos 0) (pos 0) l) (omega arith)
      | inr l ↦ rw (get_or_past (set row k (pos 0)) k (pos 0) (omega (arith, l, length-set row k (pos 0)))) (omega arith)
    ]

pub substituted_within : (row source new : List ℤ) (d e q d' : ℤ) (k top most b : ℕ) → d' ≡ d → 0 < nat_abs d → IsWithin top row → IsWithin most source
    → IsSubstituted d e q (set row k (pos 0)) source new → b ≡ substituted_size top (nat_abs e) most (nat_abs q) (nat_abs d') → IsWithin b new
substituted_within row source new d e q d' k top most b same o h s step is j = rw (is, same) (size_step (number_at new j) d _ e _ q top most o (step j) (set_within row k top h j) (s j))

-- ---- the solved row
pub solved_within : (row new : List ℤ) (p : ℤ) (k top d : ℕ) → k < length row → IsWithin top row → IsSolvedFor p k d row new → IsWithin (max top d) new
solved_within row new p k top d l h turn j = rw (turn j, abs-negative_quotient p (number_at (set row k (neg_ℤ (pos d))) j)) (elim (cases_eq j k) [
  | inl q ↦ rw (q, get_or-set_same row k (neg_ℤ (pos d)) (pos 0) l, abs-neg (pos d)) (omega arith)
  | inr q ↦ rw (get_or-set_other row k j (neg_ℤ (pos d)) (pos 0) q) (omega (arith, h j))
])

-- where p is not negative, each number has the other sign
pub solved_up : (p : ℤ) (k : ℕ) (d : ℤ) (row new : List ℤ) → pos 0 <ℤ d → (p <ℤ pos 0 → ⊥) → ((j : ℕ) → number_at new j ≡ neg_ℤ (number_at (set row k (neg_ℤ d)) j)) → IsSolvedFor p k (nat_abs d) row new
solved_up (pos p) k (pos d) row new o h e j = e j
solved_up (pos p) k (negsuc d) row new o h e j = absurd (omega (arith, ints))
solved_up (negsuc p) k d row new o h e j = absurd (h (omega (arith, ints)))

pub solved_down : (p : ℤ) (k : ℕ) (d : ℤ) (row : List ℤ) → pos 0 <ℤ d → p <ℤ pos 0 → IsSolvedFor p k (nat_abs d) row (set row k (neg_ℤ d))
solved_down (pos p) k d row o h j = absurd (omega (arith, ints))
solved_down (negsuc p) k (pos d) row o h j = refl
solved_down (negsuc p) k (negsuc d) row o h j = absurd (omega (arith, ints))

-- ---- what code leaves of a row
pub written : {X : Type 0} (row items : List X) (n : ℕ) → length row ≡ n → take n (row ++ drop (length row) items) ≡ row
written row items n e = ap (λ m. take m (row ++ drop (length row) items)) (sym e) ∙ take-append_seam row (drop (length row) items)

pub step_from : (d e : ℤ) (k : ℕ) (source s l l' row m : List ℤ) → l' ≡ l → s ≡ source → m ≡ row → IsWithin (size_limit - 1) l → IsWithin (size_limit - 1) m
    → IsSubstituted d e (number_at l' k) (set l' k (pos 0)) s row → length row ≡ length l' → IsSubstitutedRow d e k source l m
step_from d e k source s l l' row m p q r h g t n = record {
  before = h;
  after = g;
  numbers = rw (r, ← p, ← q) t;
  width = rw (r, ← p) n;
}

-- the variable isn't in the row, and the denominator stays
pub stays_from : (d e : ℤ) (k : ℕ) (source row new : List ℤ) → new ≡ row → number_at row k ≡ pos 0 → e ≡ d → IsWithin (size_limit - 1) new → IsSubstitutedRow d e k source row new
stays_from d e k source row new same none is small = record {
  before = subst (IsWithin (size_limit - 1)) same small;
  after = small;
  numbers = λ j.
      ap (λ xs. number_at xs j *ℤ d) (same ∙ sym (ap (set row k) (sym none) ∙ set-get_or row k (pos 0)))
      ∙ ap (λ z. number_at (set row k (pos 0)) j *ℤ z) (sym is)
      ∙ and_none (number_at (set row k (pos 0)) j *ℤ e) (number_at source j)
      ∙ ap (λ z. number_at (set row k (pos 0)) j *ℤ e +ℤ number_at source j *ℤ z) (sym none);
  width = ap length same;
}
  where
    and_none : (x s : ℤ) → x ≡ x +ℤ s *ℤ pos 0
    and_none x s = omega (arith, ints)
