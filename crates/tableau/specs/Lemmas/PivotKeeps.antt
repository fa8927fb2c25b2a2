-- Lemmas: a pivot keeps bounds, canonical form, solutions and the objective at them.
use Rattle.std.proofs.Common.{◌≡◌, ℕ, zero, suc, ◌<◌, arith, refl, ap, sym, ◌∙◌, subst, Bool, true, false, Option, Some, None, List, [], ◌∷◌, length, get_or, set, inl, inr}
use Rattle.std.specs.Prelude.{◌⊎◌, if◌then◌else◌}
use Rattle.std.specs.Option.{option_map, unwrap_or}
use Rattle.std.proofs.lemmas.Bool.{cases_eq}
use Rattle.std.proofs.lemmas.List.{length-set, get_or-set_same, get_or-set_other}
use Rattle.fraction.specs.Lemmas.Bounds.{dot_value, was_some, was_mapped}
use Rattle.fraction.specs.Lemmas.Rational.{zero-*ℚ, zero-+ℚ, divided}
use Rattle.fraction.specs.Lemmas.Ring.{*ℚ-zero, +ℚ-zero}
use Rattle.fraction.specs.Rational.{ℚ, ◌*ℚ◌, ◌+ℚ◌}
use Rattle.tableau.specs.Elimination.{add_multiple, add_multiple_of_row, entry, negative_quotient, negative_quotients, solved_for, substituted, zero_ℚ}
use Rattle.tableau.specs.Invariants.{AreAtBounds, HasSameObjective, HasSameSolutions, IsAtBound, IsCanonical, IsCanonicalRow, IsNonbasic, Solves}
use Rattle.tableau.specs.Leaving.{is_above, is_below, unbounded, violated_bound, violation}
use Rattle.tableau.specs.Lemmas.Pivoted.{IsPivoted, length-substituted}
use Rattle.tableau.specs.Lemmas.Places.{not_both_statuses}
use Rattle.tableau.specs.Lemmas.RowAlgebra.{add_multiple_is, length-negative_quotients, minus_one, negative_quotient_is, row_says, solved_for_parts, solved_for_says, substituted_keeps}
use Rattle.tableau.specs.LinearProgram.{LinearProgram}
use Rattle.tableau.specs.Pivot.{status_after}
use Rattle.tableau.specs.Tableau.{Tableau, bounds_of, nonbasic_value_of, row_of, status_of, value_of}
use Rattle.tableau.specs.declared.bounds.Bounds.{Bounds}
use Rattle.tableau.specs.declared.bounds.Direction.{Direction}
use Rattle.tableau.specs.declared.bounds.Direction.TheVariants.{Fall, Rise}
use Rattle.tableau.specs.declared.status.BasisStatus.{BasisStatus}
use Rattle.tableau.specs.declared.status.BasisStatus.TheVariants.{Basic}

-- ---- coefficients after a substitution
negative_quotient_at : (p : ℚ) (ts ds : List ℚ) (j : ℕ) → negative_quotients p ts ≡ Some ds → j < length ts → negative_quotient p (get_or ts j zero_ℚ) ≡ Some (get_or ds j zero_ℚ)
negative_quotient_at p [] ds j e l = absurd (omega arith)
negative_quotient_at p (t ∷ ts) ds j e l =
    let a = was_some (λ d. option_map (λ ds. d ∷ ds) (negative_quotients p ts)) (negative_quotient p t) ds e in
    let b = was_mapped (λ ds. a.0 ∷ ds) (negative_quotients p ts) ds a.2 in
    rw (← b.2) (at j a.0 b.0 a.1 (λ j l. negative_quotient_at p ts b.0 j b.1 l) l)
  where
    at : (j : ℕ) (d : ℚ) (ds : List ℚ) → negative_quotient p t ≡ Some d → ((j : ℕ) → j < length ts → negative_quotient p (get_or ts j zero_ℚ) ≡ Some (get_or ds j zero_ℚ)) → j < suc (length ts)
        → negative_quotient p (get_or (t ∷ ts) j zero_ℚ) ≡ Some (get_or (d ∷ ds) j zero_ℚ)
    at zero d ds e f l = e
    at (suc j) d ds e f l = f j (omega arith)

add_multiple_at : (q : ℚ) (ts ss ds : List ℚ) (j : ℕ) → length ts ≡ length ss → add_multiple_of_row q ts ss ≡ Some ds → j < length ts → add_multiple q (get_or ts j zero_ℚ) (get_or ss j zero_ℚ) ≡ Some (get_or ds j zero_ℚ)
add_multiple_at q [] ss ds j k e l = absurd (omega arith)
add_multiple_at q (t ∷ ts) [] ds j k e l = absurd (omega arith)
add_multiple_at q (t ∷ ts) (s ∷ ss) ds j k e l =
    let a = was_some (λ d. option_map (λ ds. d ∷ ds) (add_multiple_of_row q ts ss)) (add_multiple q t s) ds e in
    let b = was_mapped (λ ds. a.0 ∷ ds) (add_multiple_of_row q ts ss) ds a.2 in
    rw (← b.2) (at j a.0 b.0 a.1 (λ j l. add_multiple_at q ts ss b.0 j (omega arith) b.1 l) l)
  where
    at : (j : ℕ) (d : ℚ) (ds : List ℚ) → add_multiple q t s ≡ Some d → ((j : ℕ) → j < length ts → add_multiple q (get_or ts j zero_ℚ) (get_or ss j zero_ℚ) ≡ Some (get_or ds j zero_ℚ)) → j < suc (length ts)
        → add_multiple q (get_or (t ∷ ts) j zero_ℚ) (get_or (s ∷ ss) j zero_ℚ) ≡ Some (get_or (d ∷ ds) j zero_ℚ)
    at zero d ds e f l = e
    at (suc j) d ds e f l = f j (omega arith)

-- a coefficient of a row after the substitution
pub substituted_entry : (c : ℕ) (new row ds : List ℚ) (j : ℕ) → length row ≡ length new → substituted c new row ≡ Some ds → j < length row
    → entry ds j ≡ entry (set row c zero_ℚ) j +ℚ entry row c *ℚ entry new j
substituted_entry c new row ds j k e l =
    add_multiple_is (entry row c) (entry (set row c zero_ℚ) j) (entry new j) (entry ds j)
    (add_multiple_at (entry row c) (set row c zero_ℚ) new ds j (length-set row c zero_ℚ ∙ k) e (rw length-set l))

-- a coefficient of the solved row, times the pivot's
pub solved_for_entry : (r c : ℕ) (row new : List ℚ) (j : ℕ) → solved_for r c row ≡ Some new → j < length row
    → entry new j *ℚ entry row c +ℚ entry (set (set row r minus_one) c zero_ℚ) j ≡ zero_ℚ
solved_for_entry r c row new j e l =
    let p = solved_for_parts r c row new e in
    negative_quotient_is (entry row c) (entry (set (set row r minus_one) c zero_ℚ) j) (entry new j) p.0
    (negative_quotient_at (entry row c) (set (set row r minus_one) c zero_ℚ) new j p.1 (rw (length-set, length-set) l))

pub length-solved_for : (r c : ℕ) (row new : List ℚ) → solved_for r c row ≡ Some new → length new ≡ length row
length-solved_for r c row new e =
    let p = solved_for_parts r c row new e in
    length-negative_quotients (entry row c) (set (set row r minus_one) c zero_ℚ) new p.1 ∙ length-set (set row r minus_one) c zero_ℚ ∙ length-set row r minus_one

-- what is 0 in the row stays 0
solved_for_zero : (r c : ℕ) (row new : List ℚ) (j : ℕ) → solved_for r c row ≡ Some new → j < length row → entry (set (set row r minus_one) c zero_ℚ) j ≡ zero_ℚ → entry new j ≡ zero_ℚ
solved_for_zero r c row new j e l z =
    divided (entry row c) (entry new j) zero_ℚ (solved_for_parts r c row new e).0
    (sym (+ℚ-zero _) ∙ ap (λ v. entry new j *ℚ entry row c +ℚ v) (sym z) ∙ solved_for_entry r c row new j e l ∙ sym (zero-*ℚ (entry row c)))

substituted_zero : (c : ℕ) (new row ds : List ℚ) (j : ℕ) → length row ≡ length new → substituted c new row ≡ Some ds → j < length row
    → entry (set row c zero_ℚ) j ≡ zero_ℚ → entry new j ≡ zero_ℚ → entry ds j ≡ zero_ℚ
substituted_zero c new row ds j k e l z y = substituted_entry c new row ds j k e l ∙ (λ i. z i +ℚ entry row c *ℚ y i) ∙ ap (λ v. zero_ℚ +ℚ v) (*ℚ-zero (entry row c)) ∙ zero-+ℚ zero_ℚ

-- ---- the variables of a pivot
-- r is basic, and c isn't
pub record IsExchange (n r c : ℕ) (t : Tableau) : Type 0 where
  pub leaving_there : r < n
  pub entering_there : c < n
  pub leaving : status_of t r ≡ Basic
  pub entering : IsNonbasic (status_of t c)

pub apart : (n r c : ℕ) (t : Tableau) → IsExchange n r c t → r ≡ c → ⊥
apart n r c t x e = not_both_statuses (status_of t c) (subst (λ i. status_of t i ≡ Basic) e x.leaving) x.entering

nonbasic_on : (w : Direction) → IsNonbasic (status_after w)
nonbasic_on Rise = tt
nonbasic_on Fall = tt

nonbasic_at : (s : BasisStatus) (w : Direction) → s ≡ status_after w → IsNonbasic s
nonbasic_at s w e = subst IsNonbasic (sym e) (nonbasic_on w)

-- a basic variable after the pivot is c, or it was basic and isn't r
pub basic_before : (n r c : ℕ) (w : Direction) (t u : Tableau) → IsPivoted n r c w t u → (i : ℕ) → status_of u i ≡ Basic → (i ≡ c) ⊎ ((status_of t i ≡ Basic) × (i ≡ r → ⊥) × (i ≡ c → ⊥))
basic_before n r c w t u p i e = elim (cases_eq i c) [
  | inl f ↦ inl f
  | inr f ↦
      let g : i ≡ r → ⊥ = λ h. not_both_statuses (status_of u r) (subst (λ i. status_of u i ≡ Basic) h e) (nonbasic_at _ w p.status_left) in
      inr (sym (p.statuses i g f) ∙ e, g, f)
]

-- ---- bounds of nonbasic variables
pub violated_bound_is : (w : Direction) (b : Bounds) (v : ℚ) → violation b v ≡ Some w → IsAtBound b (status_after w) (violated_bound w b)
violated_bound_is w b v e = at b.lower refl
  where
    rise : (l : ℚ) (x : Bool) → b.lower ≡ Some l → w ≡ Rise → IsAtBound b (status_after w) (violated_bound w b)
    rise l x f g = subst (λ w. IsAtBound b (status_after w) (violated_bound w b)) (sym g) (f ∙ ap Some (sym (ap (λ o. unwrap_or o zero_ℚ) f)))

    fall : (o : Option ℚ) → b.upper ≡ o → (if is_above v o then Some Fall else None) ≡ Some w → IsAtBound b (status_after w) (violated_bound w b)
    fall None f g = cc
    fall (Some h) f g = tested (is_above v (Some h)) g
      where
        tested : (x : Bool) → (if x then Some Fall else None) ≡ Some w → IsAtBound b (status_after w) (violated_bound w b)
        tested true g = let k : Fall ≡ w = cc in subst (λ w. IsAtBound b (status_after w) (violated_bound w b)) k (f ∙ ap Some (sym (ap (λ o. unwrap_or o zero_ℚ) f)))
        tested false g = cc

    at : (o : Option ℚ) → b.lower ≡ o → IsAtBound b (status_after w) (violated_bound w b)
    at None f = fall b.upper refl (ap (λ o. if is_below v o then Some Rise else if is_above v b.upper then Some Fall else None) (sym f) ∙ e)
    at (Some l) f = tested (is_below v b.lower) e
      where
        tested : (x : Bool) → (if x then Some Rise else if is_above v b.upper then Some Fall else None) ≡ Some w → IsAtBound b (status_after w) (violated_bound w b)
        tested true g = rise l true f (let k : Rise ≡ w = cc in sym k)
        tested false g = fall b.upper refl g

pub keeps_bounds : (n r c : ℕ) (w : Direction) (t u : Tableau) → IsPivoted n r c w t u → AreAtBounds n t → AreAtBounds n u
keeps_bounds n r c w t u p h i l = elim (cases_eq i r) [
  | inl e ↦ subst (λ i. IsAtBound (bounds_of u i) (status_of u i) (nonbasic_value_of u i)) (sym e)
      (subst (λ s. IsAtBound (bounds_of u r) s (nonbasic_value_of u r)) (sym p.status_left)
      (subst (λ q. IsAtBound (bounds_of u r) (status_after w) q) (sym p.value_left)
      (subst (λ bs. IsAtBound (get_or bs r unbounded) (status_after w) (violated_bound w (bounds_of t r))) (sym p.bounds) (violated_bound_is w (bounds_of t r) (value_of t r) p.is_violated))))
  | inr m ↦ elim (cases_eq i c) [
    | inl e ↦ subst (λ i. IsAtBound (bounds_of u i) (status_of u i) (nonbasic_value_of u i)) (sym e)
        (subst (λ s. IsAtBound (bounds_of u c) s (nonbasic_value_of u c)) (sym p.status_entered) p.value_entered)
    | inr k ↦ subst (λ s. IsAtBound (bounds_of u i) s (nonbasic_value_of u i)) (sym (p.statuses i m k))
        (subst (λ q. IsAtBound (bounds_of u i) (status_of t i) q) (sym (p.nonbasic_values i m k))
        (subst (λ bs. IsAtBound (get_or bs i unbounded) (status_of t i) (nonbasic_value_of t i)) (sym p.bounds) (h i l)))
  ]
]

-- ---- canonical form
new_clear : (n r c : ℕ) (w : Direction) (t u : Tableau) → IsExchange n r c t → (p : IsPivoted n r c w t u) → IsCanonical n t → IsCanonicalRow n u p.new
new_clear n r c w t u x p h =
    let old = h.rows r x.leaving_there x.leaving in record {
      full = length-solved_for r c (row_of t r) p.new p.is_solved ∙ old.full;
      clear = λ j l b. solved_for_zero r c (row_of t r) p.new j p.is_solved (omega (arith, old.full)) (elim (basic_before n r c w t u p j b) [
        | inl e ↦ subst (λ j. entry (set (set (row_of t r) r minus_one) c zero_ℚ) j ≡ zero_ℚ) (sym e) (get_or-set_same (set (row_of t r) r minus_one) c zero_ℚ zero_ℚ (rw length-set (omega (arith, old.full, x.entering_there))))
        | inr e ↦ get_or-set_other (set (row_of t r) r minus_one) c j zero_ℚ zero_ℚ e.2 ∙ get_or-set_other (row_of t r) r j minus_one zero_ℚ e.1 ∙ old.clear j l e.0
      ]);
    }

-- a row in canonical form is so after the substitution
substituted_clear : (n r c : ℕ) (w : Direction) (t u : Tableau) → IsExchange n r c t → (p : IsPivoted n r c w t u) → IsCanonical n t → (row ds : List ℚ) → IsCanonicalRow n t row → substituted c p.new row ≡ Some ds → IsCanonicalRow n u ds
substituted_clear n r c w t u x p h row ds k e =
    let new = new_clear n r c w t u x p h in record {
      full = length-substituted c p.new row ds e ∙ k.full;
      clear = λ j l b. substituted_zero c p.new row ds j (k.full ∙ sym new.full) e (omega (arith, k.full)) (elim (basic_before n r c w t u p j b) [
        | inl f ↦ subst (λ j. entry (set row c zero_ℚ) j ≡ zero_ℚ) (sym f) (get_or-set_same row c zero_ℚ zero_ℚ (omega (arith, k.full, x.entering_there)))
        | inr f ↦ get_or-set_other row c j zero_ℚ zero_ℚ f.2 ∙ k.clear j l f.0
      ]) (new.clear j l b);
    }

empty_substituted : (c : ℕ) (new row ds : List ℚ) → row ≡ [] → substituted c new row ≡ Some ds → ds ≡ []
empty_substituted c new [] ds e f = let g : [] ≡ ds = cc in sym g
empty_substituted c new (t ∷ ts) ds e f = let g : ⊥ = cc in absurd g

pub keeps_canonical : (n r c : ℕ) (w : Direction) (t u : Tableau) → IsExchange n r c t → IsPivoted n r c w t u → IsCanonical n t → IsCanonical n u
keeps_canonical n r c w t u x p h = record {
  rows = λ i l b. elim (basic_before n r c w t u p i b) [
    | inl e ↦ subst (λ i. IsCanonicalRow n u (row_of u i)) (sym e) (subst (IsCanonicalRow n u) (sym p.row_entered) (new_clear n r c w t u x p h))
    | inr e ↦ substituted_clear n r c w t u x p h (row_of t i) (row_of u i) (h.rows i l e.0) (p.rows i l e.1 e.2)
  ];
  costs = substituted_clear n r c w t u x p h t.reduced_costs u.reduced_costs h.costs p.costs;
  nonbasic = λ i l b. elim (cases_eq i r) [
    | inl e ↦ subst (λ i. row_of u i ≡ []) (sym e) (empty_substituted c p.new (row_of t c) (row_of u r) (h.nonbasic c x.entering_there x.entering) p.row_left)
    | inr m ↦ elim (cases_eq i c) [
      | inl e ↦ absurd (not_both_statuses (status_of u c) p.status_entered (subst (λ i. IsNonbasic (status_of u i)) e b))
      | inr k ↦ empty_substituted c p.new (row_of t i) (row_of u i) (h.nonbasic i l (subst IsNonbasic (p.statuses i m k) b)) (p.rows i l m k)
    ]
  ];
}

-- ---- solutions
-- what the new row says of c, at a solution of either tableau
pub says_before : (n r c : ℕ) (w : Direction) (t u : Tableau) → IsExchange n r c t → (p : IsPivoted n r c w t u) → IsCanonical n t → (x : List ℚ) → length x ≡ n → Solves n t x → dot_value p.new x ≡ entry x c
says_before n r c w t u x p h y l s =
    let old = h.rows r x.leaving_there x.leaving in
    solved_for_says r c (row_of t r) p.new y (old.full ∙ sym l) (omega (arith, old.full, x.leaving_there)) (omega (arith, old.full, x.entering_there)) (λ e. apart n r c t x (sym e))
    (old.clear r x.leaving_there x.leaving) p.is_solved (s r x.leaving_there x.leaving)

says_after : (n r c : ℕ) (w : Direction) (t u : Tableau) → IsExchange n r c t → (p : IsPivoted n r c w t u) → (x : List ℚ) → Solves n u x → dot_value p.new x ≡ entry x c
says_after n r c w t u x p y s = ap (λ row. dot_value row y) (sym p.row_entered) ∙ s c x.entering_there p.status_entered

-- the substitution keeps what a row says, where the new row says what c is
step_says : (n r c : ℕ) (w : Direction) (t u : Tableau) → IsExchange n r c t → (p : IsPivoted n r c w t u) → IsCanonical n t → (row ds : List ℚ) → length row ≡ n → substituted c p.new row ≡ Some ds
    → (x : List ℚ) → length x ≡ n → dot_value p.new x ≡ entry x c → dot_value ds x ≡ dot_value row x
step_says n r c w t u x p h row ds k e y l s =
    substituted_keeps c p.new row ds y (k ∙ sym l) ((new_clear n r c w t u x p h).full ∙ sym l) (omega (arith, x.entering_there)) s e

pub solves_after : (n r c : ℕ) (w : Direction) (t u : Tableau) → IsExchange n r c t → IsPivoted n r c w t u → IsCanonical n t → (x : List ℚ) → length x ≡ n → Solves n t x → Solves n u x
solves_after n r c w t u x p h y l s i k b =
    let new = says_before n r c w t u x p h y l s in elim (basic_before n r c w t u p i b) [
      | inl e ↦ subst (λ i. dot_value (row_of u i) y ≡ entry y i) (sym e) (ap (λ row. dot_value row y) p.row_entered ∙ new)
      | inr e ↦ step_says n r c w t u x p h (row_of t i) (row_of u i) (h.rows i k e.0).full (p.rows i k e.1 e.2) y l new ∙ s i k e.0
    ]

pub solves_before : (n r c : ℕ) (w : Direction) (t u : Tableau) → IsExchange n r c t → IsPivoted n r c w t u → IsCanonical n t → (x : List ℚ) → length x ≡ n → Solves n u x → Solves n t x
solves_before n r c w t u x p h y l s i k b =
    let new = says_after n r c w t u x p y s in elim (cases_eq i r) [
      | inl e ↦
          let old = h.rows r x.leaving_there x.leaving in
          subst (λ i. dot_value (row_of t i) y ≡ entry y i) (sym e)
          (row_says r c (row_of t r) p.new y (old.full ∙ sym l) (omega (arith, old.full, x.leaving_there)) (omega (arith, old.full, x.entering_there)) (λ e. apart n r c t x (sym e))
          (old.clear r x.leaving_there x.leaving) p.is_solved new)
      | inr m ↦
          let d : i ≡ c → ⊥ = λ e. not_both_statuses (status_of t c) (subst (λ i. status_of t i ≡ Basic) e b) x.entering in
          sym (step_says n r c w t u x p h (row_of t i) (row_of u i) (h.rows i k b).full (p.rows i k m d) y l new) ∙ s i k (p.statuses i m d ∙ b)
    ]

pub keeps_solutions : (n r c : ℕ) (w : Direction) (l : LinearProgram) (t u : Tableau) → IsExchange n r c t → IsPivoted n r c w t u → IsCanonical n t → HasSameSolutions n l t → HasSameSolutions n l u
keeps_solutions n r c w l t u x p h s = record {
  to = λ y k q. solves_after n r c w t u x p h y k (s.to y k q);
  back = λ y k q. s.back y k (solves_before n r c w t u x p h y k q);
}

pub keeps_objective : (n r c : ℕ) (w : Direction) (l : LinearProgram) (t u : Tableau) → IsExchange n r c t → IsPivoted n r c w t u → IsCanonical n t → HasSameObjective n l t → HasSameObjective n l u
keeps_objective n r c w l t u x p h s y k q =
    step_says n r c w t u x p h t.reduced_costs u.reduced_costs h.costs.full p.costs y k (says_after n r c w t u x p y q) ∙ s y k (solves_before n r c w t u x p h y k q)
