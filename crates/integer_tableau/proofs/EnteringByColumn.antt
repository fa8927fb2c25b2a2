-- Which variable enters, by the columns of the nonbasic variables: the same as by all variables.
use Rattle.std.proofs.Common.{◌≡◌, ℕ, zero, suc, ◌+◌, ◌*◌, ◌<◌, ◌≤◌, arith, refl, ap, sym, subst, ◌∙◌, inl, inr, Bool, true, false, Some, None, Option, List, [], ◌∷◌, length, get_or}
use Rattle.std.specs.Prelude.{ℤ, pos, nat_abs, nat_eq, nat_lt, int_lt, ◌&&◌, ◌||◌, if◌then◌else◌}
use Rattle.std.specs.Option.{IfSome}
use Rattle.std.proofs.lemmas.Bool.{and_parts, cases_lt}
use Rattle.std.proofs.lemmas.Bool.Decides.{nat_tests}
use Rattle.std.proofs.lemmas.List.{get_or_past}
use Rattle.integer_tableau.proofs.FirstOf.{IsFirst, first_more, same_first_of}
use Rattle.integer_tableau.proofs.RatioTest.{entry_there}
use Rattle.integer_tableau.specs.Entering.{better_candidate, candidate_if_there, candidate_of, entering_by_numerators, first_of, is_eligible_numerator, with_candidate}
use Rattle.integer_tableau.specs.IntegerTableau.{bound_status, fraction_bounds, status}
use Rattle.integer_tableau.specs.Numbers.{number_at}
use Rattle.integer_tableau.specs.Positions.{AreNonbasic, numerator}
use Rattle.integer_tableau.specs.declared.entering.Candidate.{Candidate}
use Rattle.integer_tableau.specs.declared.integer_bounds.IntegerBounds.{IntegerBounds}
use Rattle.integer_tableau.specs.declared.position.Position.{Position}
use Rattle.integer_tableau.specs.declared.position.Position.TheVariants.{InBasis, InColumn}
use Rattle.tableau.specs.Leaving.{bounds_differ}
use Rattle.tableau.specs.declared.bounds.Bounds.{Bounds}
use Rattle.tableau.specs.declared.bounds.Direction.{Direction}
use Rattle.tableau.specs.declared.status.BasisStatus.{BasisStatus}

-- ---- one candidate
module _ (j : ℕ) (w : Direction) (s : BasisStatus) (b : Bounds) (d t : ℤ) where
  abbrev own : Candidate
  own = record { variable = j; reduced_cost = nat_abs d; coefficient = nat_abs t }

  candidate_numbered : IfSome (candidate_of j w s b d t) (λ c. c.variable ≡ j)
  candidate_numbered = by_test (is_eligible_numerator w s t && bounds_differ b)
    where
      by_test : (e : Bool) → IfSome (if e then Some own else None) (λ c. c.variable ≡ j)
      by_test true = refl
      by_test false = tt

  candidate_has : IfSome (candidate_of j w s b d t) (λ c. 0 < c.coefficient)
  candidate_has = by_test (is_eligible_numerator w s t && bounds_differ b) refl
    where
      by_test : (e : Bool) → (is_eligible_numerator w s t && bounds_differ b) ≡ e → IfSome (if e then Some own else None) (λ c. 0 < c.coefficient)
      by_test true e = entry_there w s t (and_parts (is_eligible_numerator w s t) (bounds_differ b) e).0
      by_test false e = tt

  -- the variables so far have lower numbers
  chosen : (best : Option Candidate) → IfSome best (λ c. c.variable < j) → better_candidate own best ≡ first_of (Some own) best
  chosen None l = refl
  chosen (Some c) l = ap (λ t. if t then Some own else Some c) (without (int_lt (pos (nat_abs d * c.coefficient)) (pos (c.reduced_cost * nat_abs t))) (nat_eq (nat_abs d * c.coefficient) (c.reduced_cost * nat_abs t)) j c.variable l)
    where
      without : (p q : Bool) (m n : ℕ) → n < m → p ≡ (p || (q && nat_lt m n))
      without p q m n l = grind (arith, nat_tests)

  with_candidate_first : (best : Option Candidate) → IfSome best (λ c. c.variable < j) → with_candidate j w best s b d t ≡ first_of (candidate_of j w s b d t) best
  with_candidate_first best l = by_test (is_eligible_numerator w s t && bounds_differ b)
    where
      by_test : (e : Bool) → (if e then better_candidate own best else best) ≡ first_of (if e then Some own else None) best
      by_test true = chosen best l
      by_test false = refl

  with_candidate_below : (best : Option Candidate) → IfSome best (λ c. c.variable < j) → IfSome (with_candidate j w best s b d t) (λ c. c.variable < j + 1)
  with_candidate_below best l = by_test (is_eligible_numerator w s t && bounds_differ b)
    where
      more : (best : Option Candidate) → IfSome best (λ c. c.variable < j) → IfSome best (λ c. c.variable < j + 1)
      more None l = tt
      more (Some c) l = omega (arith, l)

      picked : (c : Candidate) (t : Bool) → c.variable < j → IfSome (if t then Some own else Some c) (λ c. c.variable < j + 1)
      picked c true l = omega arith
      picked c false l = omega (arith, l)

      better : (best : Option Candidate) → IfSome best (λ c. c.variable < j) → IfSome (better_candidate own best) (λ c. c.variable < j + 1)
      better None l = omega arith
      better (Some c) l = picked c (int_lt (pos (nat_abs d * c.coefficient)) (pos (c.reduced_cost * nat_abs t))) l

      by_test : (e : Bool) → IfSome (if e then better_candidate own best else best) (λ c. c.variable < j + 1)
      by_test true = better best l
      by_test false = more best l

-- the variable of a column
pub variable_there : (ss : List Position) (nonbasic : List ℕ) → AreNonbasic ss nonbasic → (k : ℕ) → k < length nonbasic → get_or nonbasic k 0 < length ss
variable_there ss nonbasic are k l = elim (cases_lt (get_or nonbasic k 0) (length ss)) [
  | inl m ↦ m
  | inr m ↦ absurd (let wrong : InBasis ≡ InColumn k = sym (get_or_past ss (get_or nonbasic k 0) InBasis m) ∙ are.there k l in cc)
]

-- ---- all of them
-- the candidate that a variable of these lists is
abbrev pub candidate_at : Direction → List Position → List Bool → List IntegerBounds → List ℤ → List ℤ → ℕ → Option Candidate
candidate_at w ss us bs costs row v =
    candidate_of v w (status (get_or ss v InBasis) (get_or us v false)) (fraction_bounds (get_or bs v (record { lower = None; upper = None }))) (numerator costs (get_or ss v InBasis)) (numerator row (get_or ss v InBasis))

module _ (w : Direction) (ss : List Position) (us : List Bool) (bs : List IntegerBounds) (costs row : List ℤ) where
  abbrev at : ℕ → Option Candidate
  at v = candidate_at w ss us bs costs row v

  pub have : (v : ℕ) → IfSome (at v) (λ c. 0 < c.coefficient)
  have v = candidate_has v w (status (get_or ss v InBasis) (get_or us v false)) (fraction_bounds (get_or bs v (record { lower = None; upper = None }))) (numerator costs (get_or ss v InBasis)) (numerator row (get_or ss v InBasis))

  pub numbered : (v : ℕ) → IfSome (at v) (λ c. c.variable ≡ v)
  numbered v = candidate_numbered v w (status (get_or ss v InBasis) (get_or us v false)) (fraction_bounds (get_or bs v (record { lower = None; upper = None }))) (numerator costs (get_or ss v InBasis)) (numerator row (get_or ss v InBasis))

  -- from variable j on, which these further lists have
  by_variable : (j : ℕ) (best : Option Candidate) (ps : List Position) (qs : List Bool) (ls : List IntegerBounds) → length qs ≡ length ps → length ls ≡ length ps
      → ((i : ℕ) → i < length ps → at (j + i) ≡ candidate_of (j + i) w (status (get_or ps i InBasis) (get_or qs i false)) (fraction_bounds (get_or ls i (record { lower = None; upper = None }))) (numerator costs (get_or ps i InBasis)) (numerator row (get_or ps i InBasis)))
      → IfSome best (λ c. c.variable < j) → IsFirst at j best → IsFirst at (j + length ps) (entering_by_numerators j w best ps qs ls costs row)
  by_variable j best [] qs ls e f h l k = subst (λ n. IsFirst at n best) (let q : j ≡ j + 0 = omega arith in q) k
  by_variable j best (p ∷ ps) [] ls e f h l k = absurd (omega arith)
  by_variable j best (p ∷ ps) (q ∷ qs) [] e f h l k = absurd (omega arith)
  by_variable j best (p ∷ ps) (q ∷ qs) (b ∷ ls) e f h l k =
      let here : at j ≡ candidate_of j w (status p q) (fraction_bounds b) (numerator costs p) (numerator row p) = subst (λ n. at n ≡ candidate_of n w (status p q) (fraction_bounds b) (numerator costs p) (numerator row p)) (let r : j + 0 ≡ j = omega arith in r) (h zero (omega arith)) in
      subst (λ n. IsFirst at n (entering_by_numerators j w best (p ∷ ps) (q ∷ qs) (b ∷ ls) costs row)) (let r : j + 1 + length ps ≡ j + suc (length ps) = omega arith in r)
      (by_variable (j + 1) (with_candidate j w best (status p q) (fraction_bounds b) (numerator costs p) (numerator row p)) ps qs ls (omega arith) (omega arith)
      (λ i m. subst (λ n. at n ≡ candidate_of n w (status (get_or ps i InBasis) (get_or qs i false)) (fraction_bounds (get_or ls i (record { lower = None; upper = None }))) (numerator costs (get_or ps i InBasis)) (numerator row (get_or ps i InBasis)))
      (let r : j + suc i ≡ j + 1 + i = omega arith in r) (h (suc i) (omega (arith, m))))
      (with_candidate_below j w (status p q) (fraction_bounds b) (numerator costs p) (numerator row p) best l)
      (subst (IsFirst at (j + 1)) (ap (λ o. first_of o best) here ∙ sym (with_candidate_first j w (status p q) (fraction_bounds b) (numerator costs p) (numerator row p) best l)) (first_more at have j best k)))

  module _ (nonbasic : List ℕ) (are : AreNonbasic ss nonbasic) (us_there : length us ≡ length ss) (bs_there : length bs ≡ length ss) where
    abbrev in_column : ℕ → Option Candidate
    in_column k = at (get_or nonbasic k 0)

    into : (v : ℕ) (c : Candidate) → at v ≡ Some c → (k : ℕ) × (k < length nonbasic) × (in_column k ≡ at v)
    into v c e = by_position (get_or ss v InBasis) refl
      where
        by_position : (s : Position) → get_or ss v InBasis ≡ s → (k : ℕ) × (k < length nonbasic) × (in_column k ≡ at v)
        by_position InBasis q =
            let none : at v ≡ None = ap (λ s. candidate_of v w (status s (get_or us v false)) (fraction_bounds (get_or bs v (record { lower = None; upper = None }))) (numerator costs s) (numerator row s)) q in
            let wrong : None ≡ Some c = sym none ∙ e in cc
        by_position (InColumn k) q = let a = are.all v k q in (k, a.0, ap at a.1)

    from_start : (i : ℕ) → at (0 + i) ≡ candidate_of (0 + i) w (status (get_or ss i InBasis) (get_or us i false)) (fraction_bounds (get_or bs i (record { lower = None; upper = None }))) (numerator costs (get_or ss i InBasis)) (numerator row (get_or ss i InBasis))
    from_start i = subst (λ n. at (0 + i) ≡ candidate_of (0 + i) w (status (get_or ss n InBasis) (get_or us n false)) (fraction_bounds (get_or bs n (record { lower = None; upper = None }))) (numerator costs (get_or ss n InBasis)) (numerator row (get_or ss n InBasis)))
        (let q : 0 + i ≡ i = omega arith in q) refl

    by_variables : IsFirst at (length ss) (entering_by_numerators 0 w None ss us bs costs row)
    by_variables = subst (λ n. IsFirst at n (entering_by_numerators 0 w None ss us bs costs row)) (let q : 0 + length ss ≡ length ss = omega arith in q)
        (by_variable 0 None ss us bs us_there bs_there (λ i l. from_start i) tt (λ i l. absurd (omega (arith, l))))

    -- the choice by columns is the one by variables
    pub entering_by_columns : (best : Option Candidate) → IsFirst in_column (length nonbasic) best → best ≡ entering_by_numerators 0 w None ss us bs costs row
    entering_by_columns best h =
        same_first_of at in_column (length ss) (length nonbasic) numbered into (λ k l. (get_or nonbasic k 0, variable_there ss nonbasic are k l, refl)) best (entering_by_numerators 0 w None ss us bs costs row) h by_variables

    -- the variable that enters is that of a column
    pub entered_column : (b : Candidate) → entering_by_numerators 0 w None ss us bs costs row ≡ Some b → (k : ℕ) × (k < length nonbasic) × (in_column k ≡ Some b)
    entered_column b e =
        let first = subst (IsFirst at (length ss)) e by_variables in
        let k = into first.0.0 b first.0.2 in
        (k.0, k.1, k.2 ∙ first.0.2)

    entering_within : (best : Option Candidate) → IsFirst in_column (length nonbasic) best → IfSome best (λ c. c.variable < length ss)
    entering_within None h = tt
    entering_within (Some c) h =
        let k = h.0.0 in
        let e : c.variable ≡ get_or nonbasic k 0 = subst (λ o. IfSome o (λ c. c.variable ≡ get_or nonbasic k 0)) h.0.2 (numbered (get_or nonbasic k 0)) in
        omega (arith, e, variable_there ss nonbasic are k h.0.1)

    -- as the code has the best one, once all columns were gone through
    module _ (k : ℕ) (best : Candidate) (l : length nonbasic ≤ k) (m : k ≤ length nonbasic) (h : IsFirst in_column k (candidate_if_there best)) where
      there_is : (if_there : Option Candidate) → candidate_if_there best ≡ if_there → IsFirst in_column (length nonbasic) if_there
      there_is if_there e = subst (IsFirst in_column (length nonbasic)) e (subst (λ n. IsFirst in_column n (candidate_if_there best)) (let q : k ≡ length nonbasic = omega (arith, l, m) in q) h)

      has_none : best.coefficient ≡ 0 → candidate_if_there best ≡ None
      has_none e = ap (λ n. if nat_eq n 0 then None else Some best) e

      has_some : (best.coefficient ≡ 0 → ⊥) → candidate_if_there best ≡ Some best
      has_some e = ap (λ t. if t then None else Some best) (tested best.coefficient e)
        where
          tested : (n : ℕ) → (n ≡ 0 → ⊥) → nat_eq n 0 ≡ false
          tested n e = grind (arith, nat_tests)

      pub none_enters : best.coefficient ≡ 0 → None ≡ entering_by_numerators 0 w None ss us bs costs row
      none_enters e = entering_by_columns None (there_is None (has_none e))

      pub best_enters : (best.coefficient ≡ 0 → ⊥) → Some best ≡ entering_by_numerators 0 w None ss us bs costs row
      best_enters e = entering_by_columns (Some best) (there_is (Some best) (has_some e))

      pub best_within : (best.coefficient ≡ 0 → ⊥) → best.variable < length ss
      best_within e = entering_within (Some best) (there_is (Some best) (has_some e))

    -- one column more
    pub column_more : (k : ℕ) (best more : Option Candidate) (u : Bool) (b : IntegerBounds) (d t : ℤ) → k < length nonbasic → u ≡ get_or us (get_or nonbasic k 0) false → b ≡ get_or bs (get_or nonbasic k 0) (record { lower = None; upper = None })
        → d ≡ number_at costs k → t ≡ number_at row k → more ≡ first_of (candidate_of (get_or nonbasic k 0) w (bound_status u) (fraction_bounds b) d t) best → IsFirst in_column k best → IsFirst in_column (k + 1) more
    column_more k best more u b d t l u_is b_is d_is t_is more_is h =
        subst (IsFirst in_column (k + 1)) (sym (more_is ∙ ap (λ o. first_of o best) same)) (first_more in_column (λ k. have (get_or nonbasic k 0)) k best h)
      where
        v : ℕ
        v = get_or nonbasic k 0

        same : candidate_of v w (bound_status u) (fraction_bounds b) d t ≡ in_column k
        same = (λ i. candidate_of v w (bound_status (u_is i)) (fraction_bounds (b_is i)) (d_is i) (t_is i))
            ∙ sym (ap (λ s. candidate_of v w (status s (get_or us v false)) (fraction_bounds (get_or bs v (record { lower = None; upper = None }))) (numerator costs s) (numerator row s)) (are.there k l))
