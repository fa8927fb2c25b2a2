-- Lemmas: what a pivot leaves, read variable by variable.
use Rattle.fraction.specs.Lemmas.Bounds.{was_some, was_mapped}
use Rattle.std.proofs.Common.{◌≡◌, ℕ, zero, suc, ◌+◌, ◌-◌, ◌<◌, arith, refl, ap, sym, ◌∙◌, subst, Some, List, [], ◌∷◌, ◌++◌, length, get_or, set, take, drop, inl, inr}
use Rattle.std.specs.Option.{option_map}
use Rattle.std.specs.List.{swap}
use Rattle.std.proofs.lemmas.Bool.{cases_lt}
use Rattle.std.proofs.lemmas.List.{length-set, length-append, length-take-le, length-drop, get_or-set_same, get_or-set_other, get_or-take, get_or-drop, get_or_append_left, get_or-append-add, get_or_at}
use Rattle.std.proofs.lemmas.List.Edits.{swap_is, length-swap}
use Rattle.fraction.specs.Rational.{ℚ}
use Rattle.tableau.specs.Elimination.{add_multiple, add_multiple_of_row, all_substituted, others_substituted, solved_for, substituted, zero_ℚ}
use Rattle.tableau.specs.Leaving.{violated_bound, violation}
use Rattle.tableau.specs.Pivot.{basis_exchanged, computed_value, computed_values, eliminated, exchanged, pivoted, revalued, rows_eliminated, status_after}
use Rattle.tableau.specs.Tableau.{HasSize, Tableau, bounds_of, nonbasic_value_of, row_of, status_of, value_of}
use Rattle.tableau.specs.declared.bounds.Direction.{Direction}
use Rattle.tableau.specs.declared.status.BasisStatus.{BasisStatus}
use Rattle.tableau.specs.declared.status.BasisStatus.TheVariants.{Basic}

-- u is t with r gone out of the basis and c come into it
pub record IsPivoted (n r c : ℕ) (w : Direction) (t u : Tableau) : Type 0 where
  pub new : List ℚ
  pub is_solved : solved_for r c (row_of t r) ≡ Some new
  pub is_violated : violation (bounds_of t r) (value_of t r) ≡ Some w
  pub size : HasSize n u
  pub columns : u.columns ≡ t.columns
  pub numbers : u.numbers ≡ t.numbers
  pub bounds : u.bounds ≡ t.bounds
  pub status_left : status_of u r ≡ status_after w
  pub status_entered : status_of u c ≡ Basic
  pub statuses : (i : ℕ) → (i ≡ r → ⊥) → (i ≡ c → ⊥) → status_of u i ≡ status_of t i
  pub value_left : nonbasic_value_of u r ≡ violated_bound w (bounds_of t r)
  pub value_entered : nonbasic_value_of u c ≡ zero_ℚ
  pub nonbasic_values : (i : ℕ) → (i ≡ r → ⊥) → (i ≡ c → ⊥) → nonbasic_value_of u i ≡ nonbasic_value_of t i
  pub row_entered : row_of u c ≡ new
  pub row_left : substituted c new (row_of t c) ≡ Some (row_of u r)
  pub rows : (i : ℕ) → i < n → (i ≡ r → ⊥) → (i ≡ c → ⊥) → substituted c new (row_of t i) ≡ Some (row_of u i)
  pub costs : substituted c new t.reduced_costs ≡ Some u.reduced_costs
  pub values : computed_values u.nonbasic_values u.statuses u.nonbasic_values u.rows ≡ Some u.values

-- ---- all rows
pub length-all_substituted : (c : ℕ) (new : List ℚ) (rows rs : List (List ℚ)) → all_substituted c new rows ≡ Some rs → length rs ≡ length rows
length-all_substituted c new [] rs e = let f : [] ≡ rs = cc in ap length (sym f)
length-all_substituted c new (row ∷ rows) rs e =
    let a = was_some (λ r. option_map (λ rs. r ∷ rs) (all_substituted c new rows)) (substituted c new row) rs e in
    let b = was_mapped (λ rs. a.0 ∷ rs) (all_substituted c new rows) rs a.2 in
    rw (← b.2) (ap suc (length-all_substituted c new rows b.0 b.1))

pub substituted_at : (c : ℕ) (new : List ℚ) (rows rs : List (List ℚ)) (i : ℕ) → all_substituted c new rows ≡ Some rs → i < length rows → substituted c new (get_or rows i []) ≡ Some (get_or rs i [])
substituted_at c new [] rs i e l = absurd (omega arith)
substituted_at c new (row ∷ rows) rs i e l =
    let a = was_some (λ r. option_map (λ rs. r ∷ rs) (all_substituted c new rows)) (substituted c new row) rs e in
    let b = was_mapped (λ rs. a.0 ∷ rs) (all_substituted c new rows) rs a.2 in
    rw (← b.2) (at i a.0 b.0 a.1 (λ i l. substituted_at c new rows b.0 i b.1 l) l)
  where
    at : (i : ℕ) (r : List ℚ) (rs : List (List ℚ)) → substituted c new row ≡ Some r → ((i : ℕ) → i < length rows → substituted c new (get_or rows i []) ≡ Some (get_or rs i [])) → i < suc (length rows)
        → substituted c new (get_or (row ∷ rows) i []) ≡ Some (get_or (r ∷ rs) i [])
    at zero r rs e f l = e
    at (suc i) r rs e f l = f i (omega arith)

-- row r stays, and c is substituted in each other row
pub record AreSubstituted (r c : ℕ) (rows rs : List (List ℚ)) : Type 0 where
  pub count : length rs ≡ length rows
  pub kept : get_or rs r [] ≡ get_or rows r []
  pub others : (i : ℕ) → i < length rows → (i ≡ r → ⊥) → substituted c (get_or rows r []) (get_or rows i []) ≡ Some (get_or rs i [])

pub others_are : (r c : ℕ) (rows rs : List (List ℚ)) → r < length rows → others_substituted r c rows ≡ Some rs → AreSubstituted r c rows rs
others_are r c rows rs l e =
    let new = get_or rows r [] in
    let a = was_some (λ front. option_map (λ back. front ++ (new ∷ back)) (all_substituted c new (drop (r + 1) rows))) (all_substituted c new (take r rows)) rs e in
    let b = was_mapped (λ back. a.0 ++ (new ∷ back)) (all_substituted c new (drop (r + 1) rows)) rs a.2 in
    rw (← b.2) (at a.0 b.0 (length-all_substituted c new _ a.0 a.1 ∙ length-take-le r rows (omega arith)) (length-all_substituted c new _ b.0 b.1 ∙ length-drop (r + 1) rows) a.1 b.1)
  where
    at : (front back : List (List ℚ)) → length front ≡ r → length back ≡ length rows - (r + 1)
        → all_substituted c (get_or rows r []) (take r rows) ≡ Some front → all_substituted c (get_or rows r []) (drop (r + 1) rows) ≡ Some back
        → AreSubstituted r c rows (front ++ (get_or rows r [] ∷ back))
    at front back lf lb ef eb = record {
      count = let k = length-append front (get_or rows r [] ∷ back) in omega arith;
      kept = get_or_at front (get_or rows r []) back [] r lf;
      others = λ i k d. elim (cases_lt i r) [
        | inl h ↦
            let m : i < length (take r rows) = rw (length-take-le r rows (omega arith)) h in
            let s = substituted_at c (get_or rows r []) (take r rows) front i ef m in
            ap (substituted c (get_or rows r [])) (sym (get_or-take r rows i [] h)) ∙ s ∙ ap Some (sym (get_or_append_left front (get_or rows r [] ∷ back) [] i (omega arith)))
        | inr h ↦
            let q = i - (r + 1) in
            let g : r + 1 + q ≡ i = omega (arith, h, d) in
            let m : q < length (drop (r + 1) rows) = rw (length-drop (r + 1) rows) (omega (arith, g, k)) in
            let s = substituted_at c (get_or rows r []) (drop (r + 1) rows) back q eb m in
            ap (λ j. substituted c (get_or rows r []) (get_or rows j [])) (sym g) ∙ ap (substituted c (get_or rows r [])) (sym (get_or-drop (r + 1) rows q [])) ∙ s
            ∙ ap Some (sym (behind front back q lf)) ∙ ap (λ j. Some (get_or (front ++ (get_or rows r [] ∷ back)) j [])) g
      ];
    }
      where
        behind : (front back : List (List ℚ)) (q : ℕ) → length front ≡ r → get_or (front ++ (get_or rows r [] ∷ back)) (r + 1 + q) [] ≡ get_or back q []
        behind front back q e = ap (λ j. get_or (front ++ (get_or rows r [] ∷ back)) j []) (let k : r + 1 + q ≡ length front + suc q = omega arith in k) ∙ get_or-append-add front (get_or rows r [] ∷ back) (suc q) []

-- ---- lengths
pub length-add_multiple : (q : ℚ) (ts ss ds : List ℚ) → add_multiple_of_row q ts ss ≡ Some ds → length ds ≡ length ts
length-add_multiple q [] ss ds e = let f : [] ≡ ds = cc in ap length (sym f)
length-add_multiple q (t ∷ ts) [] ds e = let f : t ∷ ts ≡ ds = cc in ap length (sym f)
length-add_multiple q (t ∷ ts) (s ∷ ss) ds e =
    let a = was_some (λ d. option_map (λ ds. d ∷ ds) (add_multiple_of_row q ts ss)) (add_multiple q t s) ds e in
    let b = was_mapped (λ ds. a.0 ∷ ds) (add_multiple_of_row q ts ss) ds a.2 in
    rw (← b.2) (ap suc (length-add_multiple q ts ss b.0 b.1))

pub length-substituted : (c : ℕ) (new row ds : List ℚ) → substituted c new row ≡ Some ds → length ds ≡ length row
length-substituted c new row ds e = length-add_multiple (get_or row c zero_ℚ) (set row c zero_ℚ) new ds e ∙ length-set row c zero_ℚ

pub length-computed : (n : ℕ) (xs : List ℚ) (ss : List BasisStatus) (qs : List ℚ) (rows : List (List ℚ)) (vs : List ℚ)
    → length ss ≡ n → length qs ≡ n → length rows ≡ n → computed_values xs ss qs rows ≡ Some vs → length vs ≡ n
length-computed n xs [] qs rows vs a b d e = let f : [] ≡ vs = cc in ap length (sym f) ∙ a
length-computed n xs (s ∷ ss) [] rows vs a b d e = absurd (omega arith)
length-computed n xs (s ∷ ss) (q ∷ qs) [] vs a b d e = absurd (omega arith)
length-computed zero xs (s ∷ ss) (q ∷ qs) (row ∷ rows) vs a b d e = absurd (omega arith)
length-computed (suc n) xs (s ∷ ss) (q ∷ qs) (row ∷ rows) vs a b d e =
    let f = was_some (λ v. option_map (λ vs. v ∷ vs) (computed_values xs ss qs rows)) (computed_value xs s q row) vs e in
    let g = was_mapped (λ vs. f.0 ∷ vs) (computed_values xs ss qs rows) vs f.2 in
    rw (← g.2) (ap suc (length-computed n xs ss qs rows g.0 (omega arith) (omega arith) (omega arith) g.1))

pub computed_value_at : (xs : List ℚ) (ss : List BasisStatus) (qs : List ℚ) (rows : List (List ℚ)) (vs : List ℚ) (i : ℕ)
    → length ss ≡ length qs → length rows ≡ length qs → computed_values xs ss qs rows ≡ Some vs → i < length qs
    → computed_value xs (get_or ss i Basic) (get_or qs i zero_ℚ) (get_or rows i []) ≡ Some (get_or vs i zero_ℚ)
computed_value_at xs [] [] rows vs i a b e l = absurd (omega arith)
computed_value_at xs [] (q ∷ qs) rows vs i a b e l = absurd (omega arith)
computed_value_at xs (s ∷ ss) [] rows vs i a b e l = absurd (omega arith)
computed_value_at xs (s ∷ ss) (q ∷ qs) [] vs i a b e l = absurd (omega arith)
computed_value_at xs (s ∷ ss) (q ∷ qs) (row ∷ rows) vs i a b e l =
    let f = was_some (λ v. option_map (λ vs. v ∷ vs) (computed_values xs ss qs rows)) (computed_value xs s q row) vs e in
    let g = was_mapped (λ vs. f.0 ∷ vs) (computed_values xs ss qs rows) vs f.2 in
    rw (← g.2) (at i f.0 g.0 f.1 (λ i l. computed_value_at xs ss qs rows g.0 i (omega arith) (omega arith) g.1 l) l)
  where
    at : (i : ℕ) (v : ℚ) (vs : List ℚ) → computed_value xs s q row ≡ Some v → ((i : ℕ) → i < length qs → computed_value xs (get_or ss i Basic) (get_or qs i zero_ℚ) (get_or rows i []) ≡ Some (get_or vs i zero_ℚ)) → i < suc (length qs)
        → computed_value xs (get_or (s ∷ ss) i Basic) (get_or (q ∷ qs) i zero_ℚ) (get_or (row ∷ rows) i []) ≡ Some (get_or (v ∷ vs) i zero_ℚ)
    at zero v vs e f l = e
    at (suc i) v vs e f l = f i (omega arith)

-- ---- lists of which two elements are changed
set_twice_first : {A : Type 0} (xs : List A) (r c : ℕ) (x y d : A) → r < length xs → (r ≡ c → ⊥) → get_or (set (set xs r x) c y) r d ≡ x
set_twice_first xs r c x y d l n = get_or-set_other (set xs r x) c r y d n ∙ get_or-set_same xs r x d l

set_twice_last : {A : Type 0} (xs : List A) (r c : ℕ) (x y d : A) → c < length xs → get_or (set (set xs r x) c y) c d ≡ y
set_twice_last xs r c x y d l = get_or-set_same (set xs r x) c y d (rw length-set l)

set_twice_other : {A : Type 0} (xs : List A) (r c i : ℕ) (x y d : A) → (i ≡ r → ⊥) → (i ≡ c → ⊥) → get_or (set (set xs r x) c y) i d ≡ get_or xs i d
set_twice_other xs r c i x y d m n = get_or-set_other (set xs r x) c i y d n ∙ get_or-set_other xs r i x d m

length-set_twice : {A : Type 0} (xs : List A) (r c : ℕ) (x y : A) → length (set (set xs r x) c y) ≡ length xs
length-set_twice xs r c x y = length-set (set xs r x) c y ∙ length-set xs r x

-- ---- the pivot
pub pivoted_is : (n r c : ℕ) (t u : Tableau) → HasSize n t → r < n → c < n → (r ≡ c → ⊥) → pivoted r c t ≡ Some u → (w : Direction) × IsPivoted n r c w t u
pivoted_is n r c t u s lr lc d e =
    let a = was_some (λ w. exchanged r c w t) (violation (bounds_of t r) (value_of t r)) u e in
    let b = was_some (λ v. revalued (basis_exchanged r c a.0 v)) (eliminated r c t) u a.2 in
    let f = was_some (λ rows. option_map (λ costs. record t { rows = rows; reduced_costs = costs }) (substituted c (get_or rows r []) t.reduced_costs)) (rows_eliminated r c t.rows) b.0 b.1 in
    let g = was_mapped (λ costs. record t { rows = f.0; reduced_costs = costs }) (substituted c (get_or f.0 r []) t.reduced_costs) b.0 f.2 in
    let h = was_some (λ new. others_substituted r c (set t.rows r new)) (solved_for r c (row_of t r)) f.0 f.1 in
    let v = was_mapped (λ values. record (basis_exchanged r c a.0 b.0) { values = values; pivots = b.0.pivots + 1 })
    (computed_values (basis_exchanged r c a.0 b.0).nonbasic_values (basis_exchanged r c a.0 b.0).statuses (basis_exchanged r c a.0 b.0).nonbasic_values (basis_exchanged r c a.0 b.0).rows) u b.2 in
    (a.0, from a.0 f.0 h.0 g.0 b.0 v.0 u a.1 h.1 h.2 g.1 g.2 v.1 v.2)
  where
    from : (w : Direction) (rows : List (List ℚ)) (new costs : List ℚ) (m : Tableau) (values : List ℚ) (u : Tableau)
        → violation (bounds_of t r) (value_of t r) ≡ Some w → solved_for r c (row_of t r) ≡ Some new → others_substituted r c (set t.rows r new) ≡ Some rows
        → substituted c (get_or rows r []) t.reduced_costs ≡ Some costs → record t { rows = rows; reduced_costs = costs } ≡ m
        → computed_values (basis_exchanged r c w m).nonbasic_values (basis_exchanged r c w m).statuses (basis_exchanged r c w m).nonbasic_values (basis_exchanged r c w m).rows ≡ Some values
        → record (basis_exchanged r c w m) { values = values; pivots = m.pivots + 1 } ≡ u
        → IsPivoted n r c w t u
    from w rows new costs m values u eb es eo ec em ev eu =
        subst (IsPivoted n r c w t) eu (subst (λ (m : Tableau). computed_values (basis_exchanged r c w m).nonbasic_values (basis_exchanged r c w m).statuses (basis_exchanged r c w m).nonbasic_values (basis_exchanged r c w m).rows ≡ Some values
        → IsPivoted n r c w t (record (basis_exchanged r c w m) { values = values; pivots = m.pivots + 1 })) em (λ ev. made w rows new costs values eb es eo ec ev) ev)
      where
        made : (w : Direction) (rows : List (List ℚ)) (new costs values : List ℚ)
            → violation (bounds_of t r) (value_of t r) ≡ Some w → solved_for r c (row_of t r) ≡ Some new → others_substituted r c (set t.rows r new) ≡ Some rows
            → substituted c (get_or rows r []) t.reduced_costs ≡ Some costs
            → computed_values (set (set t.nonbasic_values r (violated_bound w (bounds_of t r))) c zero_ℚ) (set (set t.statuses r (status_after w)) c Basic) (set (set t.nonbasic_values r (violated_bound w (bounds_of t r))) c zero_ℚ) (swap rows r c) ≡ Some values
            → IsPivoted n r c w t (record (basis_exchanged r c w (record t { rows = rows; reduced_costs = costs })) { values = values; pivots = t.pivots + 1 })
        made w rows new costs values eb es eo ec ev =
            let k = others_are r c (set t.rows r new) rows (rw length-set (omega (arith, s.rows))) eo in
            let is_new : get_or (set t.rows r new) r [] ≡ new = get_or-set_same t.rows r new [] (omega (arith, s.rows)) in
            let at_r : get_or rows r [] ≡ new = k.kept ∙ is_new in
            let count : length rows ≡ n = k.count ∙ length-set t.rows r new ∙ s.rows in
            let lrr : r < length rows = omega arith in
            let lcr : c < length rows = omega arith in
            let swapped = swap_is rows r c [] lrr lcr in
            let old : (i : ℕ) → i < n → (i ≡ r → ⊥) → substituted c new (get_or t.rows i []) ≡ Some (get_or rows i []) =
            λ i l m. ap (substituted c new) (sym (get_or-set_other t.rows r i new [] m)) ∙ ap (λ z. substituted c z (get_or (set t.rows r new) i [])) (sym is_new) ∙ k.others i (rw length-set (omega (arith, s.rows))) m in
            record {
              new = new;
              is_solved = es;
              is_violated = eb;
              size = record {
                bounds = s.bounds;
                statuses = length-set_twice t.statuses r c (status_after w) Basic ∙ s.statuses;
                nonbasic_values = length-set_twice t.nonbasic_values r c (violated_bound w (bounds_of t r)) zero_ℚ ∙ s.nonbasic_values;
                rows = length-swap rows r c ∙ count;
                reduced_costs = length-substituted c (get_or rows r []) t.reduced_costs costs ec ∙ s.reduced_costs;
                values = length-computed n _ _ _ _ values (length-set_twice t.statuses r c (status_after w) Basic ∙ s.statuses) (length-set_twice t.nonbasic_values r c (violated_bound w (bounds_of t r)) zero_ℚ ∙ s.nonbasic_values) (length-swap rows r c ∙ count) ev;
              };
              columns = refl;
              numbers = refl;
              bounds = refl;
              status_left = set_twice_first t.statuses r c (status_after w) Basic Basic (omega (arith, s.statuses)) d;
              status_entered = set_twice_last t.statuses r c (status_after w) Basic Basic (omega (arith, s.statuses));
              statuses = λ i m q. set_twice_other t.statuses r c i (status_after w) Basic Basic m q;
              value_left = set_twice_first t.nonbasic_values r c (violated_bound w (bounds_of t r)) zero_ℚ zero_ℚ (omega (arith, s.nonbasic_values)) d;
              value_entered = set_twice_last t.nonbasic_values r c (violated_bound w (bounds_of t r)) zero_ℚ zero_ℚ (omega (arith, s.nonbasic_values));
              nonbasic_values = λ i m q. set_twice_other t.nonbasic_values r c i (violated_bound w (bounds_of t r)) zero_ℚ zero_ℚ m q;
              row_entered = ap (λ ys. get_or ys c []) (sym swapped) ∙ set_twice_last rows r c (get_or rows c []) (get_or rows r []) [] lcr ∙ at_r;
              row_left = old c lc (λ f. d (sym f)) ∙ ap Some (sym (ap (λ ys. get_or ys r []) (sym swapped) ∙ set_twice_first rows r c (get_or rows c []) (get_or rows r []) [] lrr d));
              rows = λ i l m q. old i l m ∙ ap Some (sym (ap (λ ys. get_or ys i []) (sym swapped) ∙ set_twice_other rows r c i (get_or rows c []) (get_or rows r []) [] m q));
              costs = ap (λ z. substituted c z t.reduced_costs) (sym at_r) ∙ ec;
              values = ev;
            }
