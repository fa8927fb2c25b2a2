-- Loops over a list of columns: what is done at each that is listed, what stays at the others, and that these have no numbers.
use Rattle.std.proofs.Common.{◌≡◌, ◌≢◌, ℕ, zero, suc, ◌+◌, ◌<◌, ◌≤◌, arith, refl, ap, sym, ◌∙◌, subst, ◌⊎◌, inl, inr, List, [], length, get_or, set, below_more, get_or-set_other, get_or-set_same}
use Rattle.std.specs.Prelude.{ℤ}
use Rattle.std.proofs.lemmas.Bool.{cases_eq, cases_lt}
use Rattle.std.proofs.lemmas.List.{get_or_past, length-set}
use Rattle.integer_tableau.proofs.BasicColumns.{column_of, column_within, columns_exchanged, columns_rise}
use Rattle.integer_tableau.proofs.Exchanges.{positions_exchanged}
use Rattle.integer_tableau.proofs.Expanded.{column_widths}
use Rattle.integer_tableau.specs.BasicColumns.{basic_exchanged, basic_from, HaveRows}
use Rattle.integer_tableau.specs.Combined.{IsCompact}
use Rattle.integer_tableau.specs.Consistent.{row_width}
use Rattle.integer_tableau.specs.IntegerTableau.{IntegerTableau}
use Rattle.integer_tableau.specs.Pivot.{IsEliminated}
use Rattle.integer_tableau.specs.Substitution.{IsSubstitutedIfFull}
use Rattle.integer_tableau.specs.declared.position.Position.{Position}
use Rattle.integer_tableau.specs.declared.position.Position.TheVariants.{InBasis, InColumn}

-- ---- the loop
-- whether a number is among the first i
listed_or : (js : List ℕ) (v i : ℕ) → ((p : ℕ) × (p < i) × (get_or js p 0 ≡ v)) ⊎ ((p : ℕ) → p < i → get_or js p 0 ≢ v)
listed_or js v zero = inr (λ p l. absurd (omega (arith, l)))
listed_or js v (suc i) = elim (cases_eq (get_or js i 0) v) [
  | inl e ↦ inl (i, omega arith, e)
  | inr n ↦ elim (listed_or js v i) [
    | inl h ↦ inl (h.0, omega (arith, h.1), h.2)
    | inr h ↦ inr (λ p l e. elim (cases_eq p i) [
      | inl q ↦ n (subst (λ p. get_or js p 0 ≡ v) q e)
      | inr m ↦ h p (omega (arith, l, m)) e
    ])
  ]
]

apart : (js : List ℕ) (i p : ℕ) → ((p q : ℕ) → p < q → q < length js → get_or js p 0 < get_or js q 0) → i < length js → p < i → get_or js p 0 ≢ get_or js i 0
apart js i p rise l m e = omega (arith, rise p i m l, e)

-- one more
module _ {X : Type 0} (R : ℕ → X → X → Type 0) (none : X) where
  pub listed_more : (js : List ℕ) (first now : List X) (i : ℕ) (x : X) → ((p q : ℕ) → p < q → q < length js → get_or js p 0 < get_or js q 0) → i < length js → get_or js i 0 < length now
      → ((p : ℕ) → p < i → R (get_or js p 0) (get_or first (get_or js p 0) none) (get_or now (get_or js p 0) none)) → R (get_or js i 0) (get_or first (get_or js i 0) none) x
      → (p : ℕ) → p < i + 1 → R (get_or js p 0) (get_or first (get_or js p 0) none) (get_or (set now (get_or js i 0) x) (get_or js p 0) none)
  listed_more js first now i x rise l m h r =
      below_more (λ p. R (get_or js p 0) (get_or first (get_or js p 0) none) (get_or (set now (get_or js i 0) x) (get_or js p 0) none)) i
      (λ p b. subst (R (get_or js p 0) (get_or first (get_or js p 0) none)) (sym (get_or-set_other now (get_or js i 0) (get_or js p 0) x none (apart js i p rise l b))) (h p b))
      (subst (R (get_or js i 0) (get_or first (get_or js i 0) none)) (sym (get_or-set_same now (get_or js i 0) x none m)) r)

  -- at the end: at each place, if at those that aren't listed
  pub done_at : (js : List ℕ) (first now : List X) (n v : ℕ) → ((p : ℕ) → p < n → R (get_or js p 0) (get_or first (get_or js p 0) none) (get_or now (get_or js p 0) none))
      → (((p : ℕ) → p < n → get_or js p 0 ≢ v) → R v (get_or first v none) (get_or now v none)) → R v (get_or first v none) (get_or now v none)
  done_at js first now n v h other = elim (listed_or js v n) [
    | inl z ↦ subst (λ v. R v (get_or first v none) (get_or now v none)) z.2 (h z.0 z.1)
    | inr z ↦ other z
  ]

pub unlisted_more : {X : Type 0} (none : X) (js : List ℕ) (first now : List X) (i : ℕ) (x : X) → ((v : ℕ) → ((p : ℕ) → p < i → get_or js p 0 ≢ v) → get_or now v none ≡ get_or first v none)
    → (v : ℕ) → ((p : ℕ) → p < i + 1 → get_or js p 0 ≢ v) → get_or (set now (get_or js i 0) x) v none ≡ get_or first v none
unlisted_more none js first now i x h v u =
    get_or-set_other now (get_or js i 0) v x none (λ e. u i (omega arith) (sym e)) ∙ h v (λ p l. u p (omega (arith, l)))

-- as long as before
pub still_unlisted : {X : Type 0} (none : X) (js : List ℕ) (first now : List X) (i : ℕ) → ((p q : ℕ) → p < q → q < length js → get_or js p 0 < get_or js q 0) → i < length js
    → ((v : ℕ) → ((p : ℕ) → p < i → get_or js p 0 ≢ v) → get_or now v none ≡ get_or first v none) → get_or now (get_or js i 0) none ≡ get_or first (get_or js i 0) none
still_unlisted none js first now i rise l h = h (get_or js i 0) (λ p m. apart js i p rise l m)

-- ---- rows
pub no_numbers : (js : List ℕ) (rows : List (List ℤ)) (v : ℕ) → HaveRows js rows → v < length rows → ((p : ℕ) → p < length js → get_or js p 0 ≢ v) → length (get_or rows v []) ≡ 0
no_numbers js rows v h l u = elim (cases_lt 0 (length (get_or rows v []))) [
  | inl o ↦ let z = h.all v l o in absurd (u z.0 z.1 z.2)
  | inr o ↦ omega (arith, o)
]

pub none_stays : (d e : ℤ) (k : ℕ) (source row new : List ℤ) → k < length source → length row ≡ 0 → new ≡ row → IsSubstitutedIfFull d e k source row new
none_stays d e k source row new l z s = record {
  full = λ f. absurd (omega (arith, l, z, f));
  other = λ _. s;
}

-- ---- a tableau's rows
-- none but basic columns have numbers
abbrev pub AreBasic : List Position → List (List ℤ) → Type 0
AreBasic ss rows = (v : ℕ) → v < length rows → 0 < length (get_or rows v []) → get_or ss v InBasis ≡ InBasis

pub have_rows : (ss : List Position) (rows : List (List ℤ)) (js : List ℕ) → js ≡ basic_from 0 (length rows) ss → length rows ≤ length ss → AreBasic ss rows → HaveRows js rows
have_rows ss rows js e l h = subst (λ js. HaveRows js rows) (sym e) (record {
  there = λ p m. omega (arith, column_within 0 (length rows) ss p m);
  rise = columns_rise 0 (length rows) ss;
  all = λ v m o. let z = column_of 0 (length rows) v ss m (omega (arith, m, l)) (h v m o) in (z.0, z.1, omega (arith, z.2));
})

pub basic_rows : (ps : List (List ℤ)) (weight reach : ℕ) (w : IntegerTableau) → IsCompact ps weight reach w → AreBasic w.positions w.rows
basic_rows ps weight reach w compact v l o = at (get_or w.positions v InBasis) (column_widths ps weight reach w compact v l)
  where
    at : (s : Position) → length (get_or w.rows v []) ≡ row_width (length w.rows) s → s ≡ InBasis
    at InBasis e = refl
    at (InColumn k) e = absurd (omega (arith, o, e))

-- without one of them
pub basic_without : (r : ℕ) (ss : List Position) (rows : List (List ℤ)) → AreBasic ss rows → AreBasic ss (set rows r [])
basic_without r ss rows h v l o = elim (cases_eq v r) [
  | inl e ↦ absurd (let m : r < length rows = omega (arith, l, e, length-set rows r []) in omega (arith, o, ap (λ v. length (get_or (set rows r []) v [])) e, ap length (get_or-set_same rows r [] [] m)))
  | inr n ↦ h v (omega (arith, l, length-set rows r [])) (omega (arith, o, ap length (get_or-set_other rows r v [] [] n)))
]

as_long : (d e : ℤ) (k : ℕ) (source row new : List ℤ) → IsSubstitutedIfFull d e k source row new → length new ≡ length row
as_long d e k source row new h = elim (cases_eq (length row) (length source)) [
  | inl f ↦ (h.full f).width
  | inr n ↦ ap length (h.other n)
]

-- after a pivot, from rows of which that of r was taken
pub basic_after : (r c k d e : ℕ) (ss : List Position) (row solved : List ℤ) (taken new : List (List ℤ)) (costs new_costs : List ℤ) → c < length ss → length (get_or taken r []) ≡ 0
    → IsEliminated c k d e row solved taken new costs new_costs → AreBasic ss taken → AreBasic (positions_exchanged r c k ss) new
basic_after r c k d e ss row solved taken new costs new_costs c_there none ex h v l o = elim (cases_eq v c) [
  | inl q ↦ ap (λ v. get_or (positions_exchanged r c k ss) v InBasis) q ∙ get_or-set_same (set ss r (InColumn k)) c InBasis InBasis (omega (arith, c_there, length-set ss r (InColumn k)))
  | inr n ↦
      let m : v < length taken = omega (arith, l, ex.as_many) in
      let same = as_long _ _ _ _ _ _ (ex.others v m n) in
      let other : v ≢ r = λ q. omega (arith, o, same, ap (λ v. length (get_or taken v [])) q, none) in
      get_or-set_other (set ss r (InColumn k)) c v InBasis InBasis n ∙ get_or-set_other ss r v (InColumn k) InBasis other ∙ h v m (omega (arith, o, same))
]

-- the row that was taken
pub taken_empty : (r : ℕ) (rows : List (List ℤ)) → length (get_or (set rows r []) r []) ≡ 0
taken_empty r rows = elim (cases_lt r (length rows)) [
  | inl l ↦ ap length (get_or-set_same rows r [] [] l)
  | inr l ↦ ap length (get_or_past (set rows r []) r [] (omega (arith, l, length-set rows r [])))
]

-- ---- the list and the rows, as the code has them
pub compact_has_rows : (ps : List (List ℤ)) (weight reach : ℕ) (w : IntegerTableau) → IsCompact ps weight reach w → (own js : List ℕ) (rows : List (List ℤ))
    → js ≡ own → own ≡ basic_from 0 (length w.rows) w.positions → rows ≡ w.rows → HaveRows js rows
compact_has_rows ps weight reach w compact own js rows e f g =
    subst (HaveRows js) (sym g) (have_rows w.positions w.rows js (e ∙ f) (omega (arith, compact.variables)) (basic_rows ps weight reach w compact))

pub taken_has_rows : (r : ℕ) (ss : List Position) (rows taken : List (List ℤ)) (own js : List ℕ) → js ≡ own → own ≡ basic_from 0 (length rows) ss → taken ≡ set rows r []
    → length rows ≤ length ss → AreBasic ss rows → HaveRows js taken
taken_has_rows r ss rows taken own js e f g l h =
    subst (HaveRows js) (sym g) (have_rows ss (set rows r []) js (e ∙ f ∙ ap (λ n. basic_from 0 n ss) (sym (length-set rows r []))) (omega (arith, l, length-set rows r [])) (basic_without r ss rows h))

-- n is how many columns there are, m how many the code says that there are
pub list_after : (n m r c k : ℕ) (ss : List Position) (js new : List ℕ) → js ≡ basic_from 0 n ss → new ≡ basic_exchanged m r c js → m ≡ n → n ≤ length ss
    → r < length ss → c < length ss → get_or ss r InBasis ≡ InBasis → get_or ss c InBasis ≡ InColumn k → new ≡ basic_from 0 n (positions_exchanged r c k ss)
list_after n m r c k ss js new e f m_is l r_there c_there at_r at_c = f ∙ (λ i. basic_exchanged (m_is i) r c (e i)) ∙ columns_exchanged n r c k k ss l r_there c_there at_r at_c

pub after_has_rows : (r c k d e : ℕ) (ss : List Position) (row solved : List ℤ) (rows taken new : List (List ℤ)) (costs new_costs : List ℤ) (js : List ℕ) → c < length ss → taken ≡ set rows r []
    → IsEliminated c k d e row solved taken new costs new_costs → length rows ≤ length ss → AreBasic ss rows → js ≡ basic_from 0 (length rows) (positions_exchanged r c k ss) → HaveRows js new
after_has_rows r c k d e ss row solved rows taken new costs new_costs js c_there taken_is ex l h js_are =
    have_rows (positions_exchanged r c k ss) new js (js_are ∙ ap (λ n. basic_from 0 n (positions_exchanged r c k ss)) (sym many))
    (omega (arith, l, many, length-set (set ss r (InColumn k)) c InBasis, length-set ss r (InColumn k)))
    (basic_after r c k d e ss row solved taken new costs new_costs c_there (ap (λ rows. length (get_or rows r [])) taken_is ∙ taken_empty r rows) ex (subst (AreBasic ss) (sym taken_is) (basic_without r ss rows h)))
  where
    many : length new ≡ length rows
    many = ex.as_many ∙ ap length taken_is ∙ length-set rows r []
