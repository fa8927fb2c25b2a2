-- A sum of products and the ratio test, by the entries of the row; and a row solved for a variable.
use Rattle.std.proofs.Common.{◌≡◌, ℕ, zero, suc, ◌+◌, ◌<◌, ◌≤◌, arith, refl, ap, sym, ◌∙◌, Bool, true, false, Option, Some, None, List, [], ◌∷◌, length, get_or, drop, drop-cons, inl, inr}
use Rattle.std.specs.Prelude.{◌⊎◌, pos, int_lt, if◌then◌else◌}
use Rattle.std.specs.Ordering.{int_eq}
use Rattle.std.specs.Option.{option_and_then}
use Rattle.std.proofs.lemmas.Bool.{cases_lt}
use Rattle.std.proofs.lemmas.List.{drop_all}
use Rattle.std.proofs.Math.ListN.{get_or-eq_default}
use Rattle.fraction.specs.Rational.{ℚ}
use Rattle.fraction.specs.Fits.{FitsFraction}
use Rattle.fraction.specs.Lemmas.Bounds.{whole_parts}
use Rattle.fraction.specs.Checked.{add_checked, mul_checked, dot_from}
use Rattle.problem.specs.Linear.{Terms}
use Rattle.problem.specs.Rising.{RiseFrom}
use Rattle.tableau.specs.declared.bounds.Bounds.{Bounds}
use Rattle.tableau.specs.declared.bounds.Direction.{Direction}
use Rattle.tableau.specs.declared.bounds.Direction.TheVariants.{Rise, Fall}
use Rattle.tableau.specs.declared.status.BasisStatus.{BasisStatus}
use Rattle.tableau.specs.declared.status.BasisStatus.TheVariants.{Basic, AtLower, AtUpper}
use Rattle.tableau.specs.Elimination.{zero_ℚ, add_multiple}
use Rattle.tableau.specs.Leaving.{unbounded}
use Rattle.tableau.specs.Entering.{is_eligible, with_ratio, entering_from}
use Rattle.tableau.specs.Sparse.{nonzeros}
use Rattle.tableau.specs.SparseSteps.{sum_over_entries, entering_by_entries}
use Rattle.fraction.specs.Lemmas.Checked.{zero_from_test}
use Rattle.tableau.proofs.Zeros.{multiple_has_fraction, add_multiple-zero, zero-add_multiple}
use Rattle.tableau.proofs.View.{nonzeros_rise}

-- ---- a sum of products
-- past the end of the values nothing is added
sum_past : (k : ℕ) (s : ℚ) (es : Terms) (xs : List ℚ) → FitsFraction s → length xs ≤ k → RiseFrom k es → sum_over_entries s es xs ≡ Some s
sum_past k s [] xs f l h = refl
sum_past k s (e ∷ es) xs f l h =
    ap (λ x. option_and_then (λ t. sum_over_entries t es xs) (add_multiple e.1 s x)) (get_or-eq_default xs zero_ℚ (omega (arith, h.0, l)))
    ∙ ap (option_and_then (λ t. sum_over_entries t es xs)) (add_multiple-zero e.1 s f) ∙ sum_past (suc e.0) s es xs f (omega (arith, h.0, l)) h.1

-- the steps that a product takes
dot_step : (s t y : ℚ) (ts ys : List ℚ) → dot_from s (t ∷ ts) (y ∷ ys) ≡ option_and_then (λ u. dot_from u ts ys) (add_multiple t s y)
dot_step s t y ts ys = at (mul_checked t y)
  where
    at : (o : Option ℚ) → option_and_then (λ p. option_and_then (λ u. dot_from u ts ys) (add_checked s p)) o ≡ option_and_then (λ u. dot_from u ts ys) (option_and_then (λ p. add_checked s p) o)
    at None = refl
    at (Some p) = refl

same_step : (f g : ℚ → Option ℚ) (q s y : ℚ) → ((u : ℚ) → FitsFraction u → f u ≡ g u) → option_and_then f (add_multiple q s y) ≡ option_and_then g (add_multiple q s y)
same_step f g q s y h = at (add_multiple q s y) refl
  where
    at : (o : Option ℚ) → add_multiple q s y ≡ o → option_and_then f o ≡ option_and_then g o
    at None e = refl
    at (Some u) e = h u (multiple_has_fraction q s y u e)

pub sum_is : (j : ℕ) (s : ℚ) (ts xs : List ℚ) → FitsFraction s → sum_over_entries s (nonzeros j ts) xs ≡ dot_from s ts (drop j xs)
sum_is j s [] xs f = refl
sum_is j s (t ∷ ts) xs f = elim (cases_lt j (length xs)) [
  | inl l ↦ at (int_eq t.num (pos 0)) refl (λ u k. sum_is (j + 1) u ts xs k) ∙ sym (dot_step s t (get_or xs j zero_ℚ) ts (drop (j + 1) xs)) ∙ sym (ap (dot_from s (t ∷ ts)) (next l))
  | inr l ↦ sum_past j s (nonzeros j (t ∷ ts)) xs f l (nonzeros_rise j (t ∷ ts)) ∙ sym (ap (dot_from s (t ∷ ts)) (drop_all j xs l))
]
  where
    next : j < length xs → drop j xs ≡ get_or xs j zero_ℚ ∷ drop (j + 1) xs
    next l = drop-cons xs j zero_ℚ l ∙ ap (λ k. get_or xs j zero_ℚ ∷ drop k xs) (let e : suc j ≡ j + 1 = omega arith in e)

    at : (b : Bool) → int_eq t.num (pos 0) ≡ b → ((u : ℚ) → FitsFraction u → sum_over_entries u (nonzeros (j + 1) ts) xs ≡ dot_from u ts (drop (j + 1) xs))
        → sum_over_entries s (if b then nonzeros (j + 1) ts else (j, t) ∷ nonzeros (j + 1) ts) xs ≡ option_and_then (λ u. dot_from u ts (drop (j + 1) xs)) (add_multiple t s (get_or xs j zero_ℚ))
    at true e ih =
        ih s f ∙ sym (ap (option_and_then (λ u. dot_from u ts (drop (j + 1) xs))) (ap (λ t. add_multiple t s (get_or xs j zero_ℚ)) (zero_from_test t e) ∙ zero-add_multiple s (get_or xs j zero_ℚ) f))
    at false e ih = same_step (λ u. sum_over_entries u (nonzeros (j + 1) ts) xs) (λ u. dot_from u ts (drop (j + 1) xs)) t s (get_or xs j zero_ℚ) ih

-- ---- the ratio test
not_eligible : (w : Direction) (s : BasisStatus) → is_eligible w s zero_ℚ ≡ false
not_eligible w Basic = refl
not_eligible Rise AtLower = ap (λ z. int_lt (pos 0) z) (whole_parts (pos 0)).0
not_eligible Rise AtUpper = ap (λ z. int_lt z (pos 0)) (whole_parts (pos 0)).0
not_eligible Fall AtLower = ap (λ z. int_lt z (pos 0)) (whole_parts (pos 0)).0
not_eligible Fall AtUpper = ap (λ z. int_lt (pos 0) z) (whole_parts (pos 0)).0

zero_ratio : (j : ℕ) (w : Direction) (best : Option (ℕ × ℚ)) (s : BasisStatus) (b : Bounds) (d : ℚ) → with_ratio j w best s b d zero_ℚ ≡ Some best
zero_ratio j w best s b d = rw (not_eligible w s) refl

-- past the end of the statuses none is eligible
entering_past : (k : ℕ) (w : Direction) (best : Option (ℕ × ℚ)) (ss : List BasisStatus) (bs : List Bounds) (ds : List ℚ) (es : Terms) → length ss ≤ k → RiseFrom k es
    → entering_by_entries w best ss bs ds es ≡ Some best
entering_past k w best ss bs ds [] l h = refl
entering_past k w best ss bs ds (e ∷ es) l h =
    ap (λ s. option_and_then (λ best. entering_by_entries w best ss bs ds es) (with_ratio e.0 w best s (get_or bs e.0 unbounded) (get_or ds e.0 zero_ℚ) e.1)) (get_or-eq_default ss Basic (omega (arith, h.0, l)))
    ∙ entering_past (suc e.0) w best ss bs ds es (omega (arith, h.0, l)) h.1

entering_at : (m j : ℕ) (w : Direction) (best : Option (ℕ × ℚ)) (ss : List BasisStatus) (bs : List Bounds) (ds row : List ℚ) → length ss ≡ j + m → length bs ≡ length ss → length ds ≡ length ss
    → entering_by_entries w best ss bs ds (nonzeros j (drop j row)) ≡ entering_from j w best (drop j ss) (drop j bs) (drop j ds) row
entering_at zero j w best ss bs ds row e f g =
    entering_past j w best ss bs ds (nonzeros j (drop j row)) (omega arith) (nonzeros_rise j (drop j row))
    ∙ sym (ap (λ ss. entering_from j w best ss (drop j bs) (drop j ds) row) (drop_all j ss (omega arith)))
entering_at (suc m) j w best ss bs ds row e f g =
    by_row (cases_lt j (length row)) (λ best. entering_at m (j + 1) w best ss bs ds row (omega arith) f g)
    ∙ sym (λ i. entering_from j w best (next ss Basic (omega arith) i) (next bs unbounded (omega arith) i) (next ds zero_ℚ (omega arith) i) row)
  where
    use_next : j + 1 ≡ suc j
    use_next = omega arith

    next : {A : Type 0} (xs : List A) (d : A) → j < length xs → drop j xs ≡ get_or xs j d ∷ drop (j + 1) xs
    next xs d l = drop-cons xs j d l ∙ ap (λ k. get_or xs j d ∷ drop k xs) (sym use_next)

    rest : Option (ℕ × ℚ) → Option (Option (ℕ × ℚ))
    rest best = entering_from (j + 1) w best (drop (j + 1) ss) (drop (j + 1) bs) (drop (j + 1) ds) row

    by_row : (j < length row) ⊎ (length row ≤ j)
        → ((best : Option (ℕ × ℚ)) → entering_by_entries w best ss bs ds (nonzeros (j + 1) (drop (j + 1) row)) ≡ entering_from (j + 1) w best (drop (j + 1) ss) (drop (j + 1) bs) (drop (j + 1) ds) row)
        → entering_by_entries w best ss bs ds (nonzeros j (drop j row))
        ≡ option_and_then (λ best. entering_from (j + 1) w best (drop (j + 1) ss) (drop (j + 1) bs) (drop (j + 1) ds) row) (with_ratio j w best (get_or ss j Basic) (get_or bs j unbounded) (get_or ds j zero_ℚ) (get_or row j zero_ℚ))
    by_row (inl l) ih =
        ap (λ ts. entering_by_entries w best ss bs ds (nonzeros j ts)) (next row zero_ℚ l) ∙ at (int_eq (get_or row j zero_ℚ).num (pos 0)) refl
      where
        at : (b : Bool) → int_eq (get_or row j zero_ℚ).num (pos 0) ≡ b
            → entering_by_entries w best ss bs ds (if b then nonzeros (j + 1) (drop (j + 1) row) else (j, get_or row j zero_ℚ) ∷ nonzeros (j + 1) (drop (j + 1) row))
            ≡ option_and_then (λ best. entering_from (j + 1) w best (drop (j + 1) ss) (drop (j + 1) bs) (drop (j + 1) ds) row) (with_ratio j w best (get_or ss j Basic) (get_or bs j unbounded) (get_or ds j zero_ℚ) (get_or row j zero_ℚ))
        at true e =
            ih best ∙ sym (ap (option_and_then (λ best. entering_from (j + 1) w best (drop (j + 1) ss) (drop (j + 1) bs) (drop (j + 1) ds) row))
            (ap (with_ratio j w best (get_or ss j Basic) (get_or bs j unbounded) (get_or ds j zero_ℚ)) (zero_from_test (get_or row j zero_ℚ) e) ∙ zero_ratio j w best (get_or ss j Basic) (get_or bs j unbounded) (get_or ds j zero_ℚ)))
        at false e = λ i. option_and_then (λ best. ih best i) (with_ratio j w best (get_or ss j Basic) (get_or bs j unbounded) (get_or ds j zero_ℚ) (get_or row j zero_ℚ))
    by_row (inr l) ih =
        ap (λ ts. entering_by_entries w best ss bs ds (nonzeros j ts)) (drop_all j row l)
        ∙ sym (ap (λ ts. entering_by_entries w best ss bs ds (nonzeros (j + 1) ts)) (drop_all (j + 1) row (omega (arith, l)))) ∙ ih best
        ∙ sym (ap (option_and_then (λ best. entering_from (j + 1) w best (drop (j + 1) ss) (drop (j + 1) bs) (drop (j + 1) ds) row))
        (ap (with_ratio j w best (get_or ss j Basic) (get_or bs j unbounded) (get_or ds j zero_ℚ)) (get_or-eq_default row zero_ℚ l) ∙ zero_ratio j w best (get_or ss j Basic) (get_or bs j unbounded) (get_or ds j zero_ℚ)))

pub entering_is : (w : Direction) (ss : List BasisStatus) (bs : List Bounds) (ds row : List ℚ) → length bs ≡ length ss → length ds ≡ length ss
    → entering_by_entries w None ss bs ds (nonzeros 0 row) ≡ entering_from 0 w None ss bs ds row
entering_is w ss bs ds row f g = entering_at (length ss) 0 w None ss bs ds row (omega arith) f g
