-- Lemmas: by the least ratio, a pivot keeps the tableau dual feasible.
use Rattle.std.proofs.Common.{◌≡◌, ℕ, ◌<◌, arith, refl, ap, sym, ◌∙◌, subst, true, Some, get_or, set, inl, inr}
use Rattle.std.specs.Prelude.{nat_abs}
use Rattle.std.proofs.lemmas.Bool.{cases_eq, cases_Bool}
use Rattle.std.proofs.lemmas.List.{get_or-set_same, get_or-set_other}
use Rattle.fraction.specs.Checked.{abs_ℚ, div_checked}
use Rattle.fraction.specs.Lemmas.Bounds.{value_from_mul}
use Rattle.fraction.specs.Lemmas.Order.{along, either_order, less_at_most}
use Rattle.fraction.specs.Lemmas.Rational.{*ℚ-≤ℚ, *ℚ_assoc, *ℚ_comm, +ℚ-≤ℚ, +ℚ_assoc, +ℚ_comm, mul-inv_ℚ, one-*ℚ, zero-*ℚ, zero-+ℚ, ≤ℚ_antisymm, ≤ℚ_refl, ≤ℚ_trans, divided}
use Rattle.fraction.specs.Lemmas.Ring.{*ℚ-zero, +ℚ-zero, ring_ℚ}
use Rattle.fraction.specs.Rational.{inv_ℚ, ℚ, ◌*ℚ◌, ◌+ℚ◌, ◌≤ℚ◌}
use Rattle.tableau.specs.Elimination.{entry, zero_ℚ}
use Rattle.tableau.specs.Entering.{is_eligible}
use Rattle.tableau.specs.Invariants.{HasDualSign, IsCanonical, IsDualFeasible, IsNonbasic}
use Rattle.tableau.specs.Leaving.{bounds_differ, unbounded}
use Rattle.tableau.specs.Lemmas.PivotKeeps.{IsExchange, apart, length-solved_for, solved_for_entry, substituted_entry}
use Rattle.tableau.specs.Lemmas.Pivoted.{IsPivoted}
use Rattle.tableau.specs.Lemmas.Places.{basic_or, eligible_nonbasic, eligible_nonzero}
use Rattle.tableau.specs.Lemmas.RatioTest.{IsCandidate, IsNotLess}
use Rattle.tableau.specs.Lemmas.RowAlgebra.{cancelled, less_one, minus_one}
use Rattle.tableau.specs.Lemmas.Signs.{IsSign, abs_is, course, course_sign, eligible_above, minus_gone, minus_twice, nonzero_num, not_eligible, num_nonzero, one_ℚ, plain_nonneg, right_sign, right_sign_from, side, side_sign, sign_back, sign_twice, turned_ge}
use Rattle.tableau.specs.Pivot.{status_after}
use Rattle.tableau.specs.Tableau.{HasSize, Tableau, bounds_of, reduced_cost_of, row_of, status_of}
use Rattle.tableau.specs.declared.bounds.Bounds.{Bounds}
use Rattle.tableau.specs.declared.bounds.Direction.{Direction}
use Rattle.tableau.specs.declared.bounds.Direction.TheVariants.{Fall, Rise}
use Rattle.tableau.specs.declared.status.BasisStatus.{BasisStatus}

-- ---- ratios
-- q is the ratio of the sizes of d and t, whose signs are these
quotient_is : (m k d t q : ℚ) → IsSign m → IsSign k → zero_ℚ ≤ℚ (m *ℚ d) → zero_ℚ ≤ℚ (k *ℚ t) → 0 < nat_abs t.num → div_checked (abs_ℚ d) (abs_ℚ t) ≡ Some q
    → q *ℚ (k *ℚ t) ≡ m *ℚ d
quotient_is m k d t q sm sk hm hk n e =
    let ed = abs_is m d sm hm in
    let et = abs_is k t sk hk in
    let v : (m *ℚ d) *ℚ inv_ℚ (k *ℚ t) ≡ q = (λ i. sym ed i *ℚ inv_ℚ (sym et i)) ∙ value_from_mul (abs_ℚ d) (inv_ℚ (abs_ℚ t)) q e in
    let there : 0 < nat_abs (k *ℚ t).num = nonzero_num (k *ℚ t) (λ z. num_nonzero t n (sym (sign_back k t sk) ∙ ap (λ v. k *ℚ v) z ∙ *ℚ-zero k)) in
    ap (λ z. z *ℚ (k *ℚ t)) (sym v) ∙ *ℚ_assoc (m *ℚ d) (inv_ℚ (k *ℚ t)) (k *ℚ t)
    ∙ ap (λ z. (m *ℚ d) *ℚ z) (*ℚ_comm (inv_ℚ (k *ℚ t)) (k *ℚ t) ∙ mul-inv_ℚ (k *ℚ t) there) ∙ *ℚ_comm (m *ℚ d) one_ℚ ∙ one-*ℚ (m *ℚ d)

nonneg_quotient : (q b a : ℚ) → q *ℚ b ≡ a → zero_ℚ ≤ℚ a → zero_ℚ ≤ℚ b → 0 < nat_abs b.num → zero_ℚ ≤ℚ q
nonneg_quotient q b a e ha hb n = elim (either_order zero_ℚ q) [
  | inl h ↦ h
  | inr h ↦
      let down : (b *ℚ q) ≤ℚ (b *ℚ zero_ℚ) = *ℚ-≤ℚ b q zero_ℚ hb (less_at_most q zero_ℚ h) in
      let none : q *ℚ b ≡ zero_ℚ = ≤ℚ_antisymm _ _ (along _ _ _ _ (*ℚ_comm b q) (*ℚ-zero b) down) (along _ _ _ _ refl (sym e) ha) in
      let z : q ≡ zero_ℚ = divided b q zero_ℚ n (none ∙ sym (zero-*ℚ b)) in
      along _ _ _ _ z refl (≤ℚ_refl q)
]

-- a_j is at least q b_j
at_least_part : (a b q k : ℚ) → zero_ℚ ≤ℚ b → k *ℚ b ≡ a → q ≤ℚ k → (q *ℚ b) ≤ℚ a
at_least_part a b q k hb e h = along _ _ _ _ (*ℚ_comm b q) (*ℚ_comm b k ∙ e) (*ℚ-≤ℚ b q k hb h)

at_least_none : (a b q : ℚ) → zero_ℚ ≤ℚ q → b ≤ℚ zero_ℚ → zero_ℚ ≤ℚ a → (q *ℚ b) ≤ℚ a
at_least_none a b q hq hb ha = ≤ℚ_trans _ _ _ (along _ _ _ _ refl (*ℚ-zero q) (*ℚ-≤ℚ q b zero_ℚ hq hb)) ha

-- a - q b, said without subtraction
left_over : (a b q v : ℚ) → (q *ℚ b) ≤ℚ a → v +ℚ q *ℚ b ≡ a → zero_ℚ ≤ℚ v
left_over a b q v h e =
    along _ _ _ _ (+ℚ_comm _ _ ∙ minus_gone (q *ℚ b)) (cancel v (q *ℚ b) a e) (+ℚ-≤ℚ (q *ℚ b) a (minus_one *ℚ (q *ℚ b)) h)
  where
    cancel : (v x a : ℚ) → v +ℚ x ≡ a → a +ℚ minus_one *ℚ x ≡ v
    cancel v x a e = ap (λ z. z +ℚ minus_one *ℚ x) (sym e) ∙ +ℚ_assoc v x _ ∙ ap (λ z. v +ℚ z) (+ℚ_comm x _ ∙ minus_gone x) ∙ +ℚ-zero v

-- ---- the new reduced cost
-- d + dc new, where new p + t = 0, dc = w q p: with the sign m it is m d - q (w m t)
new_cost : (m w d dc new p t q : ℚ) → new *ℚ p +ℚ t ≡ zero_ℚ → dc ≡ (w *ℚ q) *ℚ p → m *ℚ (d +ℚ dc *ℚ new) +ℚ q *ℚ (w *ℚ (m *ℚ t)) ≡ m *ℚ d
new_cost m w d dc new p t q e f =
    ap (λ z. m *ℚ (d +ℚ z *ℚ new) +ℚ q *ℚ (w *ℚ (m *ℚ t))) f ∙ grouped m w d new p t q ∙ ap (λ z. m *ℚ d +ℚ (m *ℚ (w *ℚ q)) *ℚ z) e ∙ ap (λ z. m *ℚ d +ℚ z) (*ℚ-zero _) ∙ +ℚ-zero _
  where
    grouped : (m w d new p t q : ℚ) → m *ℚ (d +ℚ ((w *ℚ q) *ℚ p) *ℚ new) +ℚ q *ℚ (w *ℚ (m *ℚ t)) ≡ m *ℚ d +ℚ (m *ℚ (w *ℚ q)) *ℚ (new *ℚ p +ℚ t)
    grouped m w d new p t q = simp ring_ℚ

-- the entering variable's reduced cost by its ratio
entering_cost : (w m dc p q : ℚ) → IsSign m → q *ℚ (w *ℚ (m *ℚ p)) ≡ m *ℚ dc → dc ≡ (w *ℚ q) *ℚ p
entering_cost w m dc p q s e =
    sym (sign_back m dc s) ∙ ap (λ z. m *ℚ z) (sym e) ∙ regroup m w p q ∙ ap (λ z. z *ℚ ((w *ℚ q) *ℚ p)) (sign_twice m s) ∙ one-*ℚ _
  where
    regroup : (m w p q : ℚ) → m *ℚ (q *ℚ (w *ℚ (m *ℚ p))) ≡ (m *ℚ m) *ℚ ((w *ℚ q) *ℚ p)
    regroup m w p q = simp ring_ℚ

-- two signs are a sign
sign_product : (w m t : ℚ) → w *ℚ (m *ℚ t) ≡ (w *ℚ m) *ℚ t
sign_product w m t = sym (*ℚ_assoc w m t)

product_sign : (w m : ℚ) → IsSign w → IsSign m → IsSign (w *ℚ m)
product_sign w m hw hm = elim hw.is [
  | inl e ↦ elim hm.is [
    | inl f ↦ record { is = inl ((λ i. e i *ℚ f i) ∙ one-*ℚ one_ℚ) }
    | inr f ↦ record { is = inr ((λ i. e i *ℚ f i) ∙ one-*ℚ minus_one) }
  ]
  | inr e ↦ elim hm.is [
    | inl f ↦ record { is = inr ((λ i. e i *ℚ f i) ∙ *ℚ_comm _ _ ∙ one-*ℚ minus_one) }
    | inr f ↦ record { is = inl ((λ i. e i *ℚ f i) ∙ minus_twice) }
  ]
]

-- what a variable that may enter says of its ratio
candidate_quotient : (w : Direction) (s : BasisStatus) (b : Bounds) (d t q : ℚ) → bounds_differ b ≡ true → HasDualSign b s d → is_eligible w s t ≡ true → div_checked (abs_ℚ d) (abs_ℚ t) ≡ Some q
    → q *ℚ (course w *ℚ (side s *ℚ t)) ≡ side s *ℚ d
candidate_quotient w s b d t q db h e f =
    let i = eligible_nonbasic w s t e in
    ap (λ z. q *ℚ z) (sign_product (course w) (side s) t)
    ∙ quotient_is (side s) (course w *ℚ side s) d t q (side_sign s) (product_sign _ _ (course_sign w) (side_sign s)) (right_sign b s d i db h)
    (along _ _ _ _ refl (sign_product (course w) (side s) t) (eligible_above w s t e)) (eligible_nonzero w s t e) f

-- ---- the pivot
-- the sign of the least ratio, and the entering variable's reduced cost by it
pub record IsStepLength (w : Direction) (dc p q : ℚ) : Type 0 where
  pub nonneg : zero_ℚ ≤ℚ q
  pub cost : dc ≡ (course w *ℚ q) *ℚ p

step_length : (w : Direction) (s : BasisStatus) (b : Bounds) (dc p q : ℚ) → IsCandidate w s b dc p q → HasDualSign b s dc → IsStepLength w dc p q
step_length w s b dc p q k h =
    let e = candidate_quotient w s b dc p q k.not_fixed h k.eligible k.quotient in
    let i = eligible_nonbasic w s p k.eligible in
    let n = eligible_nonzero w s p k.eligible in
    let z : 0 < nat_abs (course w *ℚ (side s *ℚ p)).num =
    nonzero_num _ (λ z. num_nonzero p n (sym (sign_back (side s) p (side_sign s)) ∙ ap (λ v. side s *ℚ v) (sym (sign_back (course w) (side s *ℚ p) (course_sign w)) ∙ ap (λ v. course w *ℚ v) z ∙ *ℚ-zero (course w)) ∙ *ℚ-zero (side s))) in
    record {
      nonneg = nonneg_quotient q (course w *ℚ (side s *ℚ p)) (side s *ℚ dc) e (right_sign b s dc i k.not_fixed h) (eligible_above w s p k.eligible) z;
      cost = entering_cost (course w) (side s) dc p q (side_sign s) e;
    }

-- any other variable
other_cost : (w : Direction) (s : BasisStatus) (b : Bounds) (d t q dc new p : ℚ) → IsNonbasic s → HasDualSign b s d → IsNotLess w s b d t q → IsStepLength w dc p q → new *ℚ p +ℚ t ≡ zero_ℚ
    → HasDualSign b s (d +ℚ dc *ℚ new)
other_cost w s b d t q dc new p i h least k e = right_sign_from b s (d +ℚ dc *ℚ new) (λ db.
    let a = right_sign b s d i db h in
    left_over (side s *ℚ d) (course w *ℚ (side s *ℚ t)) q (side s *ℚ (d +ℚ dc *ℚ new))
    (elim (cases_Bool (is_eligible w s t)) [
      | inl f ↦
          let u = least f db in
          at_least_part (side s *ℚ d) (course w *ℚ (side s *ℚ t)) q u.0 (eligible_above w s t f) (candidate_quotient w s b d t u.0 db h f u.1) u.2
      | inr f ↦ at_least_none (side s *ℚ d) (course w *ℚ (side s *ℚ t)) q k.nonneg (not_eligible w s t i f) a
    ])
    (new_cost (side s) (course w) d dc new p t q e k.cost))

-- the leaving variable
right_at : (b : Bounds) (w : Direction) (q : ℚ) → zero_ℚ ≤ℚ q → HasDualSign b (status_after w) (course w *ℚ q)
unfolding course
right_at b Rise q h = λ _. plain_nonneg q h
right_at b Fall q h = λ _. turned_ge q h

leaving_cost : (w : Direction) (b : Bounds) (d t q dc new p : ℚ) → IsStepLength w dc p q → d ≡ zero_ℚ → new *ℚ p +ℚ minus_one ≡ zero_ℚ → HasDualSign b (status_after w) (d +ℚ dc *ℚ new)
leaving_cost w b d t q dc new p k z e =
    let plain : new *ℚ p ≡ one_ℚ = cancelled (new *ℚ p) one_ℚ minus_one e less_one in
    let is : d +ℚ dc *ℚ new ≡ course w *ℚ q =
    (λ i. z i +ℚ k.cost i *ℚ new) ∙ zero-+ℚ _ ∙ *ℚ_assoc _ p new ∙ ap (λ v. (course w *ℚ q) *ℚ v) (*ℚ_comm p new ∙ plain) ∙ *ℚ_comm _ one_ℚ ∙ one-*ℚ _ in
    subst (HasDualSign b (status_after w)) (sym is) (right_at b w q k.nonneg)

-- a reduced cost after the pivot
cost_after : (n r c : ℕ) (w : Direction) (t u : Tableau) → IsExchange n r c t → (p : IsPivoted n r c w t u) → IsCanonical n t → (j : ℕ) → j < n → (j ≡ c → ⊥)
    → reduced_cost_of u j ≡ reduced_cost_of t j +ℚ reduced_cost_of t c *ℚ entry p.new j
cost_after n r c w t u x p h j l m =
    let old = h.rows r x.leaving_there x.leaving in
    substituted_entry c p.new t.reduced_costs u.reduced_costs j (h.costs.full ∙ sym (length-solved_for r c (row_of t r) p.new p.is_solved ∙ old.full)) p.costs (omega (arith, h.costs.full))
    ∙ ap (λ z. z +ℚ reduced_cost_of t c *ℚ entry p.new j) (get_or-set_other t.reduced_costs c j zero_ℚ zero_ℚ m)

-- the coefficient of another variable in the new row, times the pivot's
new_entry : (n r c : ℕ) (w : Direction) (t u : Tableau) → IsExchange n r c t → (p : IsPivoted n r c w t u) → IsCanonical n t → (j : ℕ) → j < n → (j ≡ r → ⊥) → (j ≡ c → ⊥)
    → entry p.new j *ℚ entry (row_of t r) c +ℚ entry (row_of t r) j ≡ zero_ℚ
new_entry n r c w t u x p h j l m k =
    let old = h.rows r x.leaving_there x.leaving in
    ap (λ z. entry p.new j *ℚ entry (row_of t r) c +ℚ z) (sym (get_or-set_other (set (row_of t r) r minus_one) c j zero_ℚ zero_ℚ k ∙ get_or-set_other (row_of t r) r j minus_one zero_ℚ m))
    ∙ solved_for_entry r c (row_of t r) p.new j p.is_solved (omega (arith, old.full))

-- and at the leaving one
new_leaving : (n r c : ℕ) (w : Direction) (t u : Tableau) → IsExchange n r c t → (p : IsPivoted n r c w t u) → IsCanonical n t
    → entry p.new r *ℚ entry (row_of t r) c +ℚ minus_one ≡ zero_ℚ
new_leaving n r c w t u x p h =
    let old = h.rows r x.leaving_there x.leaving in
    ap (λ z. entry p.new r *ℚ entry (row_of t r) c +ℚ z) (sym (get_or-set_other (set (row_of t r) r minus_one) c r zero_ℚ zero_ℚ (apart n r c t x) ∙ get_or-set_same (row_of t r) r minus_one zero_ℚ (omega (arith, old.full, x.leaving_there))))
    ∙ solved_for_entry r c (row_of t r) p.new r p.is_solved (omega (arith, old.full, x.leaving_there))

-- the same sign under the names that it has after the pivot
renamed : (b b' : Bounds) (s s' : BasisStatus) (d d' : ℚ) → b' ≡ b → s' ≡ s → d' ≡ d → HasDualSign b s d → HasDualSign b' s' d'
renamed b b' s s' d d' e f g h = subst (λ b. HasDualSign b s' d') (sym e) (subst (λ s. HasDualSign b s d') (sym f) (subst (HasDualSign b s) (sym g) h))

pub keeps_dual : (n r c : ℕ) (w : Direction) (t u : Tableau) (q : ℚ) → HasSize n t → IsExchange n r c t → IsPivoted n r c w t u → IsCanonical n t
    → IsCandidate w (status_of t c) (bounds_of t c) (reduced_cost_of t c) (entry (row_of t r) c) q
    → ((i : ℕ) → i < n → IsNotLess w (status_of t i) (bounds_of t i) (reduced_cost_of t i) (entry (row_of t r) i) q)
    → IsDualFeasible n t → IsDualFeasible n u
keeps_dual n r c w t u q s x p h k least d i l = elim (cases_eq i r) [
  | inl e ↦ subst (λ i. HasDualSign (bounds_of u i) (status_of u i) (reduced_cost_of u i)) (sym e) leaving
  | inr m ↦ elim (cases_eq i c) [
    | inl e ↦ subst (λ i. HasDualSign (bounds_of u i) (status_of u i) (reduced_cost_of u i)) (sym e) (subst (λ s. HasDualSign (bounds_of u c) s (reduced_cost_of u c)) (sym p.status_entered) tt)
    | inr g ↦ elim (basic_or (status_of t i)) [
      | inl b ↦ subst (λ s. HasDualSign (bounds_of u i) s (reduced_cost_of u i)) (sym (p.statuses i m g ∙ b)) tt
      | inr b ↦ renamed _ _ _ _ _ _ (same i) (p.statuses i m g) (cost_after n r c w t u x p h i l g)
          (other_cost w (status_of t i) (bounds_of t i) (reduced_cost_of t i) (entry (row_of t r) i) q (reduced_cost_of t c) (entry p.new i) (entry (row_of t r) c) b (d i l) (least i l) step (new_entry n r c w t u x p h i l m g))
    ]
  ]
]
  where
    same : (i : ℕ) → bounds_of u i ≡ bounds_of t i
    same i = ap (λ bs. get_or bs i unbounded) p.bounds

    step : IsStepLength w (reduced_cost_of t c) (entry (row_of t r) c) q
    step = step_length w (status_of t c) (bounds_of t c) (reduced_cost_of t c) (entry (row_of t r) c) q k (d c x.entering_there)

    leaving : HasDualSign (bounds_of u r) (status_of u r) (reduced_cost_of u r)
    leaving = renamed _ _ _ _ _ _ (same r) p.status_left (cost_after n r c w t u x p h r x.leaving_there (apart n r c t x))
        (leaving_cost w (bounds_of t r) (reduced_cost_of t r) (entry (row_of t r) r) q (reduced_cost_of t c) (entry p.new r) (entry (row_of t r) c) step (h.costs.clear r x.leaving_there x.leaving) (new_leaving n r c w t u x p h))
