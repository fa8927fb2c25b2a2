-- Lemmas: the ratio test gives an eligible variable of least ratio.
use Rattle.fraction.specs.Lemmas.Bounds.{was_some}
use Rattle.std.proofs.Common.{◌≡◌, ℕ, zero, suc, ◌+◌, ◌<◌, arith, refl, ap, sym, ◌∙◌, subst, Bool, true, false, Option, Some, None, List, [], ◌∷◌, length, get_or, inl, inr}
use Rattle.std.specs.Prelude.{◌⊎◌, if◌then◌else◌, ◌&&◌}
use Rattle.std.specs.declared.cmp.Ordering.{Ordering}
use Rattle.std.specs.declared.cmp.Ordering.TheVariants.{Less, Equal, Greater}
use Rattle.std.specs.Ordering.{is_lt}
use Rattle.std.specs.Option.{option_map, ForSome}
use Rattle.std.proofs.lemmas.Bool.{and_parts}
use Rattle.fraction.specs.Checked.{abs_ℚ, compare, div_checked}
use Rattle.fraction.specs.Lemmas.Order.{equal, greater, less, less_at_most, same_le, less_only}
use Rattle.fraction.specs.Lemmas.Rational.{≤ℚ_refl, ≤ℚ_trans}
use Rattle.fraction.specs.Rational.{ℚ, ◌≤ℚ◌}
use Rattle.tableau.specs.Elimination.{zero_ℚ}
use Rattle.tableau.specs.Entering.{better, entering_from, is_eligible, with_ratio}
use Rattle.tableau.specs.Leaving.{bounds_differ, unbounded}
use Rattle.tableau.specs.declared.bounds.Bounds.{Bounds}
use Rattle.tableau.specs.declared.bounds.Direction.{Direction}
use Rattle.tableau.specs.declared.status.BasisStatus.{BasisStatus}
use Rattle.tableau.specs.declared.status.BasisStatus.TheVariants.{Basic}

-- ---- the entering variable
-- a variable of this status, these bounds, this reduced cost and this coefficient may enter, with ratio q
pub record IsCandidate (w : Direction) (s : BasisStatus) (b : Bounds) (d t q : ℚ) : Type 0 where
  pub eligible : is_eligible w s t ≡ true
  pub not_fixed : bounds_differ b ≡ true
  pub quotient : div_checked (abs_ℚ d) (abs_ℚ t) ≡ Some q

-- where this variable may enter, its ratio is at least q
abbrev pub IsNotLess : Direction → BasisStatus → Bounds → ℚ → ℚ → ℚ → Type 0
IsNotLess w s b d t q = is_eligible w s t ≡ true → bounds_differ b ≡ true → (k : ℚ) × (div_checked (abs_ℚ d) (abs_ℚ t) ≡ Some k) × (q ≤ℚ k)

-- of the variables from j on and the best before, c has the least ratio
pub record IsLeast (j : ℕ) (w : Direction) (best : Option (ℕ × ℚ)) (ss : List BasisStatus) (bs : List Bounds) (ds row : List ℚ) (c : ℕ) (q : ℚ) : Type 0 where
  pub chosen : (best ≡ Some (c, q)) ⊎ ((i : ℕ) × (i < length ss) × (c ≡ j + i) × IsCandidate w (get_or ss i Basic) (get_or bs i unbounded) (get_or ds i zero_ℚ) (get_or row (j + i) zero_ℚ) q)
  pub before : ForSome best (λ b. q ≤ℚ b.1)
  pub least : (i : ℕ) → i < length ss → IsNotLess w (get_or ss i Basic) (get_or bs i unbounded) (get_or ds i zero_ℚ) (get_or row (j + i) zero_ℚ) q

pub not_lt : (x y : ℚ) → is_lt (compare x y) ≡ false → y ≤ℚ x
not_lt x y e = step (compare x y) refl e
  where
    step : (o : Ordering) → o ≡ compare x y → is_lt o ≡ false → y ≤ℚ x
    step Less f e = cc
    step Equal f e = same_le y x (sym (equal x y f))
    step Greater f e = less_at_most y x (greater x y f)

-- the better of the best so far and a new one
pub record IsBetter (j : ℕ) (k : ℚ) (best better_one : Option (ℕ × ℚ)) : Type 0 where
  pub it : ℕ × ℚ
  pub there : better_one ≡ Some it
  pub either : (it ≡ (j, k)) ⊎ (best ≡ Some it)
  pub new : it.1 ≤ℚ k
  pub old : ForSome best (λ b. it.1 ≤ℚ b.1)

better_is : (j : ℕ) (k : ℚ) (best : Option (ℕ × ℚ)) → IsBetter j k best (better j k best)
better_is j k None = record { it = (j, k); there = refl; either = inl refl; new = ≤ℚ_refl k; old = λ b e. absurd (let f : ⊥ = cc in f) }
better_is j k (Some b) = at (is_lt (compare k b.1)) refl
  where
    at : (t : Bool) → is_lt (compare k b.1) ≡ t → IsBetter j k (Some b) (if t then Some (j, k) else Some b)
    at true e = record { it = (j, k); there = refl; either = inl refl; new = ≤ℚ_refl k; old = λ a f. let g : b ≡ a = cc in subst (λ (a : ℕ × ℚ). k ≤ℚ a.1) g (less_at_most k b.1 (less k b.1 (less_only _ e))) }
    at false e = record { it = b; there = refl; either = inr refl; new = not_lt k b.1 e; old = λ a f. let g : b ≡ a = cc in subst (λ (a : ℕ × ℚ). b.1 ≤ℚ a.1) g (≤ℚ_refl b.1) }

-- one variable taken into account
pub record IsTaken (j : ℕ) (w : Direction) (best next : Option (ℕ × ℚ)) (s : BasisStatus) (b : Bounds) (d t : ℚ) : Type 0 where
  pub chosen : (c : ℕ) (q : ℚ) → next ≡ Some (c, q) → (best ≡ Some (c, q)) ⊎ ((c ≡ j) × IsCandidate w s b d t q)
  pub before : (q : ℚ) → ForSome next (λ b. q ≤ℚ b.1) → ForSome best (λ b. q ≤ℚ b.1)
  pub not_less : (q : ℚ) → ForSome next (λ b. q ≤ℚ b.1) → IsNotLess w s b d t q

one_pair : (o : Option (ℕ × ℚ)) (x y : ℕ × ℚ) → o ≡ Some x → o ≡ Some y → x ≡ y
one_pair o x y e f = cc

better_taken : (j : ℕ) (w : Direction) (best next : Option (ℕ × ℚ)) (s : BasisStatus) (b : Bounds) (d t k : ℚ) → (is_eligible w s t ≡ true) × (bounds_differ b ≡ true) → div_checked (abs_ℚ d) (abs_ℚ t) ≡ Some k
    → IsBetter j k best (better j k best) → better j k best ≡ next → IsTaken j w best next s b d t
better_taken j w best next s b d t k parts g m z = record {
  chosen = λ c q h. chosen c q h m.either;
  before = λ q h a u. ≤ℚ_trans q m.it.1 a.1 (h m.it there) (m.old a u);
  not_less = λ q h u v. (k, g, ≤ℚ_trans q m.it.1 k (h m.it there) m.new);
}
  where
    there : next ≡ Some m.it
    there = subst (λ o. o ≡ Some m.it) z m.there

    chosen : (c : ℕ) (q : ℚ) → next ≡ Some (c, q) → (m.it ≡ (j, k)) ⊎ (best ≡ Some m.it) → (best ≡ Some (c, q)) ⊎ ((c ≡ j) × IsCandidate w s b d t q)
    chosen c q h (inr u) = inl (u ∙ ap Some (one_pair next m.it (c, q) there h))
    chosen c q h (inl u) =
        let v : (c, q) ≡ (j, k) = one_pair next (c, q) m.it h there ∙ u in
        inr (ap (λ (p : ℕ × ℚ). p.0) v, record { eligible = parts.0; not_fixed = parts.1; quotient = g ∙ ap (λ (p : ℕ × ℚ). Some p.1) (sym v) })

taken : (j : ℕ) (w : Direction) (best next : Option (ℕ × ℚ)) (s : BasisStatus) (b : Bounds) (d t : ℚ) → with_ratio j w best s b d t ≡ Some next → IsTaken j w best next s b d t
taken j w best next s b d t e = at (is_eligible w s t && bounds_differ b) refl (div_checked (abs_ℚ d) (abs_ℚ t)) refl e
  where
    at : (x : Bool) → (is_eligible w s t && bounds_differ b) ≡ x → (o : Option ℚ) → div_checked (abs_ℚ d) (abs_ℚ t) ≡ o
        → (if x then option_map (λ q. better j q best) o else Some best) ≡ Some next → IsTaken j w best next s b d t
    at true f None g e = cc
    at true f (Some k) g e = better_taken j w best next s b d t k (and_parts (is_eligible w s t) (bounds_differ b) f) g (better_is j k best) (let z : better j k best ≡ next = cc in z)
    at false f o g e =
        let n : best ≡ next = cc in record {
          chosen = λ c q h. inl (n ∙ h);
          before = λ q h a u. h a (sym n ∙ u);
          not_less = λ q h u v. absurd (let z : (is_eligible w s t && bounds_differ b) ≡ true = rw (u, v) refl in let y : ⊥ = cc in y);
        }

pub entering_is : (j : ℕ) (w : Direction) (best : Option (ℕ × ℚ)) (ss : List BasisStatus) (bs : List Bounds) (ds row : List ℚ) (c : ℕ) (q : ℚ)
    → length bs ≡ length ss → length ds ≡ length ss → entering_from j w best ss bs ds row ≡ Some (Some (c, q)) → IsLeast j w best ss bs ds row c q
entering_is j w best [] bs ds row c q l m e = record {
  chosen = inl (cc);
  before = λ b f. let g : (c, q) ≡ b = let h : Some (c, q) ≡ Some b = (let z : best ≡ Some (c, q) = cc in sym z ∙ f) in cc in subst (λ (b : ℕ × ℚ). q ≤ℚ b.1) g (≤ℚ_refl q);
  least = λ i k. absurd (omega arith);
}
entering_is j w best (s ∷ ss) [] ds row c q l m e = absurd (omega arith)
entering_is j w best (s ∷ ss) (b ∷ bs) [] row c q l m e = absurd (omega arith)
entering_is j w best (s ∷ ss) (b ∷ bs) (d ∷ ds) row c q l m e =
    let a = was_some (λ best. entering_from (j + 1) w best ss bs ds row) (with_ratio j w best s b d (get_or row j zero_ℚ)) (Some (c, q)) e in
    from (taken j w best a.0 s b d (get_or row j zero_ℚ) a.1) (entering_is (j + 1) w a.0 ss bs ds row c q (omega arith) (omega arith) a.2)
  where
    step_at : (i : ℕ) → j + 1 + i ≡ j + suc i
    step_at i = omega arith

    from : {next : Option (ℕ × ℚ)} → IsTaken j w best next s b d (get_or row j zero_ℚ) → IsLeast (j + 1) w next ss bs ds row c q → IsLeast j w best (s ∷ ss) (b ∷ bs) (d ∷ ds) row c q
    from {next} t r = record {
      chosen = elim r.chosen [
        | inl u ↦ elim (t.chosen c q u) [
          | inl v ↦ inl v
          | inr v ↦ inr (0, omega arith, omega (arith, v.0), subst (λ k. IsCandidate w s b d (get_or row k zero_ℚ) q) (omega arith) v.1)
        ]
        | inr u ↦ inr (
          suc u.0,
          omega (arith, u.1),
          omega (arith, u.2),
          subst (λ k. IsCandidate w (get_or ss u.0 Basic) (get_or bs u.0 unbounded) (get_or ds u.0 zero_ℚ) (get_or row k zero_ℚ) q) (step_at u.0) u.3,
        )
      ];
      before = t.before q r.before;
      least = λ i k. at i k (t.not_less q r.before) r.least;
    }
      where
        at : (i : ℕ) → i < suc (length ss) → IsNotLess w s b d (get_or row j zero_ℚ) q
            → ((i : ℕ) → i < length ss → IsNotLess w (get_or ss i Basic) (get_or bs i unbounded) (get_or ds i zero_ℚ) (get_or row (j + 1 + i) zero_ℚ) q)
            → IsNotLess w (get_or (s ∷ ss) i Basic) (get_or (b ∷ bs) i unbounded) (get_or (d ∷ ds) i zero_ℚ) (get_or row (j + i) zero_ℚ) q
        at zero k first rest = subst (λ k. IsNotLess w s b d (get_or row k zero_ℚ) q) (omega arith) first
        at (suc i) k first rest = subst (λ k. IsNotLess w (get_or ss i Basic) (get_or bs i unbounded) (get_or ds i zero_ℚ) (get_or row k zero_ℚ) q) (step_at i) (rest i (omega arith))
