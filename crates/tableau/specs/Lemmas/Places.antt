-- Lemmas: what each place of a tableau tells.
use Rattle.std.proofs.Common.{◌≡◌, ℕ, zero, suc, ◌+◌, ◌<◌, arith, refl, ap, sym, ◌∙◌, subst, true, false, Option, Some, None, List, [], ◌∷◌, length, get_or, inl, inr}
use Rattle.std.specs.Prelude.{◌⊎◌, ◌&&◌, nat_abs, ℤ, pos, int_lt}
use Rattle.std.proofs.lemmas.Int.{ints}
use Rattle.std.proofs.lemmas.Option.{some_pair_parts}
use Rattle.fraction.specs.Rational.{ℚ}
use Rattle.tableau.specs.Elimination.{entry, zero_ℚ}
use Rattle.tableau.specs.Entering.{entering_from, is_eligible}
use Rattle.tableau.specs.Invariants.{IsNonbasic}
use Rattle.tableau.specs.Leaving.{bounds_differ, found_or, leaving_at, leaving_from, unbounded, violation}
use Rattle.tableau.specs.Lemmas.Blocked.{NoneEligible, none_eligible}
use Rattle.tableau.specs.Lemmas.RatioTest.{IsCandidate, IsLeast, IsNotLess, entering_is}
use Rattle.tableau.specs.Place.{IsPivotThere, place, place_entering, place_leaving}
use Rattle.tableau.specs.Tableau.{HasSize, Tableau, bounds_of, reduced_cost_of, row_of, status_of, value_of}
use Rattle.tableau.specs.declared.bounds.Bounds.{Bounds}
use Rattle.tableau.specs.declared.bounds.Direction.{Direction}
use Rattle.tableau.specs.declared.bounds.Direction.TheVariants.{Fall, Rise}
use Rattle.tableau.specs.declared.place.Place.TheVariants.{Done, NoColumn, Pivot}
use Rattle.tableau.specs.declared.status.BasisStatus.{BasisStatus}
use Rattle.tableau.specs.declared.status.BasisStatus.TheVariants.{AtLower, AtUpper, Basic}

-- ---- the leaving variable
-- variable r is basic and outside its bounds, and w is the direction back
pub record IsLeaving (n : ℕ) (t : Tableau) (r : ℕ) (w : Direction) : Type 0 where
  pub there : r < n
  pub basic : status_of t r ≡ Basic
  pub is_violated : violation (bounds_of t r) (value_of t r) ≡ Some w

-- no basic variable is outside its bounds
abbrev pub NoneLeaves : ℕ → Tableau → Type 0
NoneLeaves n t = (i : ℕ) → i < n → status_of t i ≡ Basic → violation (bounds_of t i) (value_of t i) ≡ None

-- of the variables from j on, r leaves
pub record IsFound (j : ℕ) (ss : List BasisStatus) (bs : List Bounds) (vs : List ℚ) (r : ℕ) (w : Direction) : Type 0 where
  pub at : ℕ
  pub is : r ≡ j + at
  pub there : at < length ss
  pub basic : get_or ss at Basic ≡ Basic
  pub is_violated : violation (get_or bs at unbounded) (get_or vs at zero_ℚ) ≡ Some w

leaving_parts : (s : BasisStatus) (b : Bounds) (v : ℚ) (w : Direction) → leaving_at s b v ≡ Some w → (s ≡ Basic) × (violation b v ≡ Some w)
leaving_parts Basic b v w e = (refl, e)
leaving_parts AtLower b v w e = cc
leaving_parts AtUpper b v w e = cc

leaving_none : (s : BasisStatus) (b : Bounds) (v : ℚ) → leaving_at s b v ≡ None → s ≡ Basic → violation b v ≡ None
leaving_none Basic b v e f = e
leaving_none AtLower b v e f = cc
leaving_none AtUpper b v e f = cc

found_here : (j : ℕ) (ss : List BasisStatus) (bs : List Bounds) (vs : List ℚ) (r : ℕ) (w : Direction) (s : BasisStatus) (b : Bounds) (v : ℚ) {x : Direction} → (s ≡ Basic) × (violation b v ≡ Some x) → (j ≡ r) × (x ≡ w) → IsFound j (s ∷ ss) (b ∷ bs) (v ∷ vs) r w
found_here j ss bs vs r w s b v p q = record { at = 0; is = omega (arith, q.0); there = omega arith; basic = p.0; is_violated = p.1 ∙ ap Some q.1 }

pub leaving_is : (j : ℕ) (ss : List BasisStatus) (bs : List Bounds) (vs : List ℚ) (r : ℕ) (w : Direction) → leaving_from j ss bs vs ≡ Some (r, w) → IsFound j ss bs vs r w
leaving_is j [] bs vs r w e = cc
leaving_is j (s ∷ ss) [] vs r w e = cc
leaving_is j (s ∷ ss) (b ∷ bs) [] r w e = cc
leaving_is j (s ∷ ss) (b ∷ bs) (v ∷ vs) r w e = at (leaving_at s b v) refl e (λ f. leaving_is (j + 1) ss bs vs r w f)
  where
    at : (o : Option Direction) → leaving_at s b v ≡ o → found_or j o (leaving_from (j + 1) ss bs vs) ≡ Some (r, w)
        → (leaving_from (j + 1) ss bs vs ≡ Some (r, w) → IsFound (j + 1) ss bs vs r w) → IsFound j (s ∷ ss) (b ∷ bs) (v ∷ vs) r w
    at None f e rest =
        let k = rest e in record { at = suc k.at; is = omega (arith, k.is); there = omega (arith, k.there); basic = k.basic; is_violated = k.is_violated }
    at (Some x) f e rest =
        found_here j ss bs vs r w s b v (leaving_parts s b v x f) (some_pair_parts j r x w e)

pub none_leaves : (j : ℕ) (ss : List BasisStatus) (bs : List Bounds) (vs : List ℚ) → length bs ≡ length ss → length vs ≡ length ss → leaving_from j ss bs vs ≡ None
    → (i : ℕ) → i < length ss → get_or ss i Basic ≡ Basic → violation (get_or bs i unbounded) (get_or vs i zero_ℚ) ≡ None
none_leaves j [] bs vs l m e i k = absurd (omega arith)
none_leaves j (s ∷ ss) [] vs l m e i k = absurd (omega arith)
none_leaves j (s ∷ ss) (b ∷ bs) [] l m e i k = absurd (omega arith)
none_leaves j (s ∷ ss) (b ∷ bs) (v ∷ vs) l m e i k = at (leaving_at s b v) refl e (λ f i k. none_leaves (j + 1) ss bs vs (omega arith) (omega arith) f i k) i k
  where
    at : (o : Option Direction) → leaving_at s b v ≡ o → found_or j o (leaving_from (j + 1) ss bs vs) ≡ None
        → (leaving_from (j + 1) ss bs vs ≡ None → (i : ℕ) → i < length ss → get_or ss i Basic ≡ Basic → violation (get_or bs i unbounded) (get_or vs i zero_ℚ) ≡ None)
        → (i : ℕ) → i < suc (length ss) → get_or (s ∷ ss) i Basic ≡ Basic → violation (get_or (b ∷ bs) i unbounded) (get_or (v ∷ vs) i zero_ℚ) ≡ None
    at (Some x) f e rest i k = cc
    at None f e rest zero k = leaving_none s b v f
    at None f e rest (suc i) k = rest e i (omega arith)

-- ---- no column
pub none_eligible_at : (j : ℕ) (w : Direction) (ss : List BasisStatus) (bs : List Bounds) (ds row : List ℚ) → length bs ≡ length ss → length ds ≡ length ss → NoneEligible j w ss bs ds row
    → (i : ℕ) → i < length ss → (is_eligible w (get_or ss i Basic) (get_or row (j + i) zero_ℚ) && bounds_differ (get_or bs i unbounded)) ≡ false
none_eligible_at j w [] bs ds row l m h i k = absurd (omega arith)
none_eligible_at j w (s ∷ ss) [] ds row l m h i k = absurd (omega arith)
none_eligible_at j w (s ∷ ss) (b ∷ bs) [] row l m h i k = absurd (omega arith)
none_eligible_at j w (s ∷ ss) (b ∷ bs) (d ∷ ds) row l m h i k = at i k h.0 (λ i k. none_eligible_at (j + 1) w ss bs ds row (omega arith) (omega arith) h.1 i k)
  where
    at : (i : ℕ) → i < suc (length ss) → (is_eligible w s (get_or row j zero_ℚ) && bounds_differ b) ≡ false
        → ((i : ℕ) → i < length ss → (is_eligible w (get_or ss i Basic) (get_or row (j + 1 + i) zero_ℚ) && bounds_differ (get_or bs i unbounded)) ≡ false)
        → (is_eligible w (get_or (s ∷ ss) i Basic) (get_or row (j + i) zero_ℚ) && bounds_differ (get_or (b ∷ bs) i unbounded)) ≡ false
    at zero k first rest = subst (λ k. (is_eligible w s (get_or row k zero_ℚ) && bounds_differ b) ≡ false) (omega arith) first
    at (suc i) k first rest = subst (λ k. (is_eligible w (get_or ss i Basic) (get_or row k zero_ℚ) && bounds_differ (get_or bs i unbounded)) ≡ false) (omega arith) (rest i (omega arith))

-- ---- the places
-- r leaves and c enters, with the least ratio q
pub record IsPivot (n : ℕ) (t : Tableau) (r c : ℕ) : Type 0 where
  pub direction : Direction
  pub leaving : IsLeaving n t r direction
  pub quotient : ℚ
  pub there : c < n
  pub entering : IsCandidate direction (status_of t c) (bounds_of t c) (reduced_cost_of t c) (entry (row_of t r) c) quotient
  pub least : (i : ℕ) → i < n → IsNotLess direction (status_of t i) (bounds_of t i) (reduced_cost_of t i) (entry (row_of t r) i) quotient

-- r leaves, and each variable that could move it back is fixed
pub record IsNoColumn (n : ℕ) (t : Tableau) (r : ℕ) : Type 0 where
  pub direction : Direction
  pub leaving : IsLeaving n t r direction
  pub none : (i : ℕ) → i < n → (is_eligible direction (status_of t i) (entry (row_of t r) i) && bounds_differ (bounds_of t i)) ≡ false

found_leaving : (n : ℕ) (t : Tableau) (r : ℕ) (w : Direction) → HasSize n t → IsFound 0 t.statuses t.bounds t.values r w → IsLeaving n t r w
found_leaving n t r w s f =
    let e : f.at ≡ r = omega (arith, f.is) in record {
      there = omega (arith, f.there, e, s.statuses);
      basic = subst (λ i. status_of t i ≡ Basic) e f.basic;
      is_violated = subst (λ i. violation (bounds_of t i) (value_of t i) ≡ Some w) e f.is_violated;
    }

pub pivot_is : (n : ℕ) (t : Tableau) (r c : ℕ) → HasSize n t → place t ≡ Pivot r c → IsPivot n t r c
pivot_is n t r c s e = at (leaving_from 0 t.statuses t.bounds t.values) refl e
  where
    entered_at : (l : ℕ) (w : Direction) (o : Option (Option (ℕ × ℚ))) → entering_from 0 w None t.statuses t.bounds t.reduced_costs (row_of t l) ≡ o → IsLeaving n t l w → place_entering l o ≡ Pivot r c → IsPivot n t r c
    entered_at l w None f h e = cc
    entered_at l w (Some None) f h e = cc
    entered_at l w (Some (Some b)) f h e =
        let er : l ≡ r = cc in
        let ec : b.0 ≡ c = cc in
        let m = entering_is 0 w None t.statuses t.bounds t.reduced_costs (row_of t l) b.0 b.1 (s.bounds ∙ sym s.statuses) (s.reduced_costs ∙ sym s.statuses) f in
        subst (λ r. IsPivot n t r c) er (subst (λ c. IsPivot n t l c) ec (from m m.chosen))
      where
        from : IsLeast 0 w None t.statuses t.bounds t.reduced_costs (row_of t l) b.0 b.1 → (◌≡◌ {A = Option (ℕ × ℚ)} None (Some (b.0, b.1))) ⊎ ((i : ℕ) × (i < length t.statuses) × (b.0 ≡ 0 + i) × IsCandidate w (get_or t.statuses i Basic) (get_or t.bounds i unbounded) (get_or t.reduced_costs i zero_ℚ) (get_or (row_of t l) (0 + i) zero_ℚ) b.1) → IsPivot n t l b.0
        from m (inl u) = absurd (let z : ⊥ = cc in z)
        from m (inr u) =
            let same : u.0 ≡ b.0 = omega (arith, u.2) in
            let plain : 0 + u.0 ≡ u.0 = omega arith in record {
              direction = w;
              leaving = h;
              quotient = b.1;
              there = omega (arith, u.1, same, s.statuses);
              entering = subst (λ i. IsCandidate w (status_of t i) (bounds_of t i) (reduced_cost_of t i) (entry (row_of t l) i) b.1) same
                  (subst (λ k. IsCandidate w (status_of t u.0) (bounds_of t u.0) (reduced_cost_of t u.0) (entry (row_of t l) k) b.1) plain u.3);
              least = λ i k. subst (λ j. IsNotLess w (status_of t i) (bounds_of t i) (reduced_cost_of t i) (entry (row_of t l) j) b.1) (let z : 0 + i ≡ i = omega arith in z) (m.least i (omega (arith, s.statuses)));
            }

    at : (o : Option (ℕ × Direction)) → leaving_from 0 t.statuses t.bounds t.values ≡ o → place_leaving o t.statuses t.bounds t.reduced_costs t.rows ≡ Pivot r c → IsPivot n t r c
    at None f e = cc
    at (Some l) f e = entered_at l.0 l.1 _ refl (found_leaving n t l.0 l.1 s (leaving_is 0 t.statuses t.bounds t.values l.0 l.1 f)) e

pub no_column_is : (n : ℕ) (t : Tableau) (r : ℕ) → HasSize n t → place t ≡ NoColumn r → IsNoColumn n t r
no_column_is n t r s e = at (leaving_from 0 t.statuses t.bounds t.values) refl e
  where
    entered_at : (l : ℕ) (w : Direction) (o : Option (Option (ℕ × ℚ))) → entering_from 0 w None t.statuses t.bounds t.reduced_costs (row_of t l) ≡ o → IsLeaving n t l w → place_entering l o ≡ NoColumn r → IsNoColumn n t r
    entered_at l w None f h e = cc
    entered_at l w (Some (Some b)) f h e = cc
    entered_at l w (Some None) f h e =
        let er : l ≡ r = cc in
        subst (IsNoColumn n t) er (record {
          direction = w;
          leaving = h;
          none = λ i k. subst (λ j. (is_eligible w (status_of t i) (entry (row_of t l) j) && bounds_differ (bounds_of t i)) ≡ false) (let z : 0 + i ≡ i = omega arith in z)
              (none_eligible_at 0 w t.statuses t.bounds t.reduced_costs (row_of t l) (s.bounds ∙ sym s.statuses) (s.reduced_costs ∙ sym s.statuses) (none_eligible 0 w t.statuses t.bounds t.reduced_costs (row_of t l) f) i (omega (arith, s.statuses)));
        })

    at : (o : Option (ℕ × Direction)) → leaving_from 0 t.statuses t.bounds t.values ≡ o → place_leaving o t.statuses t.bounds t.reduced_costs t.rows ≡ NoColumn r → IsNoColumn n t r
    at None f e = cc
    at (Some l) f e = entered_at l.0 l.1 _ refl (found_leaving n t l.0 l.1 s (leaving_is 0 t.statuses t.bounds t.values l.0 l.1 f)) e

pub done_is : (n : ℕ) (t : Tableau) → HasSize n t → place t ≡ Done → NoneLeaves n t
done_is n t s e = at (leaving_from 0 t.statuses t.bounds t.values) refl e
  where
    at : (o : Option (ℕ × Direction)) → leaving_from 0 t.statuses t.bounds t.values ≡ o → place_leaving o t.statuses t.bounds t.reduced_costs t.rows ≡ Done → NoneLeaves n t
    at None f e = λ i k. none_leaves 0 t.statuses t.bounds t.values (s.bounds ∙ sym s.statuses) (s.values ∙ sym s.statuses) f i (omega (arith, s.statuses))
    at (Some l) f e = entered_at l.0 (entering_from 0 l.1 None t.statuses t.bounds t.reduced_costs (row_of t l.0)) e
      where
        entered_at : (l : ℕ) (o : Option (Option (ℕ × ℚ))) → place_entering l o ≡ Done → NoneLeaves n t
        entered_at l None e = cc
        entered_at l (Some None) e = cc
        entered_at l (Some (Some b)) e = cc

-- ---- the entering variable's coefficient isn't 0
pub eligible_nonzero : (w : Direction) (s : BasisStatus) (t : ℚ) → is_eligible w s t ≡ true → 0 < nat_abs t.num
eligible_nonzero w Basic t e = cc
eligible_nonzero Rise AtLower t e = above t.num e
  where
    above : (z : ℤ) → int_lt (pos 0) z ≡ true → 0 < nat_abs z
    above z e = grind (arith, ints)
eligible_nonzero Rise AtUpper t e = below t.num e
  where
    below : (z : ℤ) → int_lt z (pos 0) ≡ true → 0 < nat_abs z
    below z e = grind (arith, ints)
eligible_nonzero Fall AtLower t e = below t.num e
  where
    below : (z : ℤ) → int_lt z (pos 0) ≡ true → 0 < nat_abs z
    below z e = grind (arith, ints)
eligible_nonzero Fall AtUpper t e = above t.num e
  where
    above : (z : ℤ) → int_lt (pos 0) z ≡ true → 0 < nat_abs z
    above z e = grind (arith, ints)

pub eligible_nonbasic : (w : Direction) (s : BasisStatus) (t : ℚ) → is_eligible w s t ≡ true → IsNonbasic s
eligible_nonbasic w Basic t e = cc
eligible_nonbasic w AtLower t e = tt
eligible_nonbasic w AtUpper t e = tt

pub basic_or : (s : BasisStatus) → (s ≡ Basic) ⊎ IsNonbasic s
basic_or Basic = inl refl
basic_or AtLower = inr tt
basic_or AtUpper = inr tt

pub not_both_statuses : (s : BasisStatus) → s ≡ Basic → IsNonbasic s → ⊥
not_both_statuses Basic e h = h
not_both_statuses AtLower e h = cc
not_both_statuses AtUpper e h = cc

pub pivot_there : (n : ℕ) (t : Tableau) (r c : ℕ) → HasSize n t → place t ≡ Pivot r c → IsPivotThere t r c
pivot_there n t r c s e =
    let k = pivot_is n t r c s e in record {
      coefficient = eligible_nonzero k.direction (status_of t c) (entry (row_of t r) c) k.entering.eligible;
      direction = k.direction;
      violated = k.leaving.is_violated;
      leaving = k.leaving.basic;
      entering = λ b. not_both_statuses (status_of t c) b (eligible_nonbasic k.direction (status_of t c) (entry (row_of t r) c) k.entering.eligible);
    }
