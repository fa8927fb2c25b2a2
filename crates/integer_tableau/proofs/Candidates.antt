-- The code's best candidate, whose coefficient is 0 where there is none yet: it stays where a variable doesn't come first, and where it may not enter.
use Rattle.std.proofs.Common.{◌≡◌, ℕ, ◌*◌, ◌<◌, ◌≤◌, arith, refl, ap, sym, ◌∙◌, Bool, true, false, Some, None}
use Rattle.std.specs.Prelude.{ℤ, pos, nat_abs, nat_eq, int_lt, ◌&&◌, ◌||◌, if◌then◌else◌}
use Rattle.std.proofs.lemmas.Bool.{and_parts}
use Rattle.std.proofs.lemmas.Bool.Decides.{nat_tests}
use Rattle.std.proofs.lemmas.Int.{ints}
use Rattle.std.proofs.Math.Nat.{mul-le-mul_left}
use Rattle.integer_tableau.proofs.RatioTest.{entry_there}
use Rattle.integer_tableau.specs.Entering.{candidate_if_there, candidate_of, comes_first, first_of, is_eligible_at}
use Rattle.integer_tableau.specs.IntegerTableau.{bound_status}
use Rattle.integer_tableau.specs.declared.entering.Candidate.{Candidate}
use Rattle.tableau.specs.Leaving.{bounds_differ}
use Rattle.tableau.specs.declared.bounds.Bounds.{Bounds}
use Rattle.tableau.specs.declared.bounds.Direction.{Direction}

-- of two that may both enter the old one stays, if the new one doesn't come first
pub kept : (new best : Candidate) → 0 < new.coefficient → (best.coefficient ≡ 0 → 0 < best.reduced_cost) → comes_first new best ≡ false
    → candidate_if_there best ≡ first_of (Some new) (candidate_if_there best)
kept new best o great l = by_test (nat_eq best.coefficient 0) refl
  where
    nothing : (n : ℕ) → n * 0 ≡ 0
    nothing n = omega arith

    above : (a b : ℕ) (t : Bool) → a ≡ 0 → 0 < b → (int_lt (pos a) (pos b) || t) ≡ false → ⊥
    above a b t z o e = grind (arith, ints)

    none : best.coefficient ≡ 0 → ⊥
    none z = above (new.reduced_cost * best.coefficient) (best.reduced_cost * new.coefficient) _ (ap (λ n. new.reduced_cost * n) z ∙ nothing new.reduced_cost)
        (omega (arith, great z, mul-le-mul_left best.reduced_cost (let q : 1 ≤ new.coefficient = omega (arith, o) in q))) l

    is_zero : (n : ℕ) → nat_eq n 0 ≡ true → n ≡ 0
    is_zero n e = grind (arith, nat_tests)

    by_test : (t : Bool) → nat_eq best.coefficient 0 ≡ t → (if t then None else Some best) ≡ first_of (Some new) (if t then None else Some best)
    by_test true e = absurd (none (is_zero best.coefficient e))
    by_test false e = sym (ap (λ t. if t then Some new else Some best) l)

module _ (j : ℕ) (w : Direction) (u : Bool) (b : Bounds) (d t : ℤ) (best : Candidate) where
  -- the best one is that with this variable more
  abbrev pub IsStillBest : Type 0
  IsStillBest = candidate_if_there best ≡ first_of (candidate_of j w (bound_status u) b d t) (candidate_if_there best)

  pub still_best_by_order : (cost size : ℕ) → cost ≡ nat_abs d → size ≡ nat_abs t → (best.coefficient ≡ 0 → 0 < best.reduced_cost)
      → comes_first record { variable = j; reduced_cost = cost; coefficient = size } best ≡ false → IsStillBest
  still_best_by_order cost size cost_is size_is great l = by_test (is_eligible_at w u t && bounds_differ b) refl
    where
      new : Candidate
      new = record { variable = j; reduced_cost = nat_abs d; coefficient = nat_abs t }

      by_test : (e : Bool) → (is_eligible_at w u t && bounds_differ b) ≡ e → candidate_if_there best ≡ first_of (if e then Some new else None) (candidate_if_there best)
      by_test true e = kept new best (entry_there w (bound_status u) t (and_parts (is_eligible_at w u t) (bounds_differ b) e).0) great
          (sym (λ i. comes_first record { variable = j; reduced_cost = cost_is i; coefficient = size_is i } best) ∙ l)
      by_test false e = refl

  pub still_best_by_bound : (is_eligible_at w u t && bounds_differ b) ≡ false → IsStillBest
  still_best_by_bound e = sym (ap (λ q. first_of (if q then Some record { variable = j; reduced_cost = nat_abs d; coefficient = nat_abs t } else None) (candidate_if_there best)) e)
