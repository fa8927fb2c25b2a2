-- The wanted columns, which are gone through and then sorted, are edges.
use Rattle.std.proofs.Common.{◌≡◌, ℕ, ◌+◌, ◌*◌, ◌<◌, ◌≤◌, arith, refl, ap, sym, subst, ◌∙◌, ◌⊎◌, inl, inr, Bool, true, false, List, [], ◌∷◌, ◌++◌, length, get_or, below_more}
use Rattle.std.specs.Prelude.{ℤ, pos, nat_abs, nat_eq, nat_lt, int_lt, map, All, ◌&&◌, ◌||◌, if◌then◌else◌}
use Rattle.std.specs.List.{Any, swap}
use Rattle.std.specs.List.Sorted.{IsPermutation, IsSorted}
use Rattle.std.specs.Ordering.{is_lt, nat_cmp, ordering_then}
use Rattle.std.proofs.lemmas.Bool.{cases_lt}
use Rattle.std.proofs.lemmas.Bool.Decides.{nat_tests}
use Rattle.std.proofs.lemmas.Int.{ints}
use Rattle.std.proofs.lemmas.List.{get_or-map, get_or_append_left, length-append, length-map}
use Rattle.std.proofs.lemmas.List.Edits.{length-swap, swapped_from_swap}
use Rattle.std.proofs.lemmas.List.Elements.{All-nil, All-push, All-weaker}
use Rattle.std.proofs.lemmas.List.Quantifiers.{Any-push, all_pairs_push}
use Rattle.std.proofs.lemmas.List.Sorted.{All-permutation, Contains-permutation, IsPermutation-keeps, ranks_by, sorted_far}
use Rattle.std.proofs.Math.Nat.{eq-or-lt_of_le}
use Rattle.integer_tableau.specs.Entering.{comes_first}
use Rattle.integer_tableau.specs.Exits.{IsEdge, IsOnceEach, candidate_by, edge_at}
use Rattle.integer_tableau.specs.Lemmas.RankedColumns.{rank_total}
use Rattle.integer_tableau.specs.Numbers.{number_at}
use Rattle.integer_tableau.specs.RankedColumns.{AreRanked, IsRanked, edge_of, rank_order}
use Rattle.integer_tableau.specs.declared.exits.Edge.{Edge}
use Rattle.integer_tableau.specs.declared.ranked_column.RankedColumn.{RankedColumn}

module _ (nonbasic : List ℕ) (costs row : List ℤ) (wanted : ℕ → Bool) where
  -- ---- one column more
  pub none_ranked : AreRanked nonbasic costs row wanted 0 []
  none_ranked = record {
    each = All-nil (IsRanked nonbasic costs row 0);
    are_wanted = All-nil (λ (c : RankedColumn). wanted c.column ≡ true);
    rise = λ i j d l m. absurd (omega (arith, m));
    all = λ k l o w. absurd (omega (arith, l));
  }

  abbrev Reaches : List RankedColumn → ℕ → Type 0
  Reaches cs k = 0 < nat_abs (number_at row k) → wanted k ≡ true → Any (λ (c : RankedColumn). c.column ≡ k) cs

  later : (n : ℕ) (c : RankedColumn) → IsRanked nonbasic costs row n c → IsRanked nonbasic costs row (n + 1) c
  later n c r = record { there = omega (arith, r.there); variable = r.variable; reduced_cost = r.reduced_cost; coefficient = r.coefficient }

  pub column_without : (n : ℕ) (cs : List RankedColumn) → (number_at row n ≡ pos 0) ⊎ (wanted n ≡ false) → AreRanked nonbasic costs row wanted n cs → AreRanked nonbasic costs row wanted (n + 1) cs
  column_without n cs out h = record {
    each = All-weaker (IsRanked nonbasic costs row n) (IsRanked nonbasic costs row (n + 1)) (later n) cs h.each;
    are_wanted = h.are_wanted;
    rise = h.rise;
    all = below_more (Reaches cs) n h.all (λ o w. absurd (elim out [
      | inl e ↦ let q : nat_abs (number_at row n) ≡ 0 = ap nat_abs e in omega (arith, o, q)
      | inr e ↦ let wrong : true ≡ false = sym w ∙ e in cc
    ]));
  }

  newest : (n : ℕ) (c : RankedColumn) → c.column ≡ n → c.variable ≡ get_or nonbasic n 0 → c.reduced_cost ≡ nat_abs (number_at costs n) → c.coefficient ≡ number_at row n → IsRanked nonbasic costs row (n + 1) c
  newest n c e variable_is cost_is coefficient_is = record {
    there = omega (arith, e);
    variable = variable_is ∙ ap (λ k. get_or nonbasic k 0) (sym e);
    reduced_cost = cost_is ∙ ap (λ k. nat_abs (number_at costs k)) (sym e);
    coefficient = coefficient_is ∙ ap (number_at row) (sym e);
  }

  pub column_with : (n : ℕ) (cs : List RankedColumn) (c : RankedColumn) → c.column ≡ n → c.variable ≡ get_or nonbasic n 0 → c.reduced_cost ≡ nat_abs (number_at costs n) → c.coefficient ≡ number_at row n
      → wanted n ≡ true → AreRanked nonbasic costs row wanted n cs → AreRanked nonbasic costs row wanted (n + 1) (cs ++ c ∷ [])
  column_with n cs c e variable_is cost_is coefficient_is is_wanted h = record {
    each = All-push (IsRanked nonbasic costs row (n + 1)) cs c (All-weaker (IsRanked nonbasic costs row n) (IsRanked nonbasic costs row (n + 1)) (later n) cs h.each) (newest n c e variable_is cost_is coefficient_is);
    are_wanted = All-push (λ (c : RankedColumn). wanted c.column ≡ true) cs c h.are_wanted (ap wanted e ∙ is_wanted);
    rise = all_pairs_push (λ (b c : RankedColumn). b.column < c.column) cs c h.rise (λ k d l. omega (arith, (h.each k d l).there, e));
    all = below_more (Reaches (cs ++ c ∷ [])) n
        (λ k l o w. let a = h.all k l o w in (a.0, a.1, omega (arith, a.2, length-append cs (c ∷ [])), get_or_append_left cs (c ∷ []) a.1 a.0 a.2 ∙ a.3, a.4))
        (λ o w. Any-push (λ (c : RankedColumn). c.column ≡ n) cs c e);
  }

-- ---- in another order
-- no two have one number
abbrev Differ : List RankedColumn → Type 0
Differ cs = (i j : ℕ) (d : RankedColumn) → i < length cs → j < length cs → (get_or cs i d).column ≡ (get_or cs j d).column → i ≡ j

rising_differ : (n : ℕ) (nonbasic : List ℕ) (costs row : List ℤ) (wanted : ℕ → Bool) (cs : List RankedColumn) → AreRanked nonbasic costs row wanted n cs → Differ cs
rising_differ n nonbasic costs row wanted cs h i j d l m e = elim (cases_lt i j) [
  | inl k ↦ absurd (omega (arith, h.rise i j d k m, e))
  | inr k ↦ elim (eq-or-lt_of_le k) [
    | inl q ↦ sym q
    | inr k ↦ absurd (omega (arith, h.rise j i d k l, e))
  ]
]

-- where a place was before a and b were exchanged
abbrev turned : ℕ → ℕ → ℕ → ℕ
turned a b m = if nat_eq m a then b else (if nat_eq m b then a else m)

turned_within : (a b m n : ℕ) → a < n → b < n → m < n → turned a b m < n
turned_within a b m n la lb l = grind (arith, nat_tests)

turned_once : (a b i j : ℕ) → turned a b i ≡ turned a b j → i ≡ j
turned_once a b i j e = grind (arith, nat_tests)

swap_is_turned : (cs : List RankedColumn) (a b : ℕ) (d : RankedColumn) → a < length cs → b < length cs → (m : ℕ) → get_or (swap cs a b) m d ≡ get_or cs (turned a b m) d
swap_is_turned cs a b d la lb m = by_tests (nat_eq m a) (nat_eq m b) refl refl
  where
    s : (get_or (swap cs a b) a d ≡ get_or cs b d) × (get_or (swap cs a b) b d ≡ get_or cs a d) × ((m : ℕ) → (m ≡ a → ⊥) → (m ≡ b → ⊥) → get_or (swap cs a b) m d ≡ get_or cs m d)
    s = swapped_from_swap cs (swap cs a b) a b d la lb refl

    same : (m n : ℕ) → nat_eq m n ≡ true → m ≡ n
    same m n e = grind (arith, nat_tests)

    other : (m n : ℕ) → nat_eq m n ≡ false → m ≡ n → ⊥
    other m n e q = grind (arith, nat_tests)

    by_tests : (t u : Bool) → nat_eq m a ≡ t → nat_eq m b ≡ u → get_or (swap cs a b) m d ≡ get_or cs (if t then b else (if u then a else m)) d
    by_tests true u p q = ap (λ m. get_or (swap cs a b) m d) (same m a p) ∙ s.0
    by_tests false true p q = ap (λ m. get_or (swap cs a b) m d) (same m b q) ∙ s.1
    by_tests false false p q = s.2 m (other m a p) (other m b q)

swap_differs : (cs : List RankedColumn) (a b : ℕ) → a < length cs → b < length cs → Differ cs → Differ (swap cs a b)
swap_differs cs a b la lb h i j d l m e =
    let n : length (swap cs a b) ≡ length cs = length-swap cs a b in
    turned_once a b i j
    (h (turned a b i) (turned a b j) d (turned_within a b i (length cs) la lb (omega (arith, l, n))) (turned_within a b j (length cs) la lb (omega (arith, m, n)))
    (ap (λ (c : RankedColumn). c.column) (sym (swap_is_turned cs a b d la lb i)) ∙ e ∙ ap (λ (c : RankedColumn). c.column) (swap_is_turned cs a b d la lb j)))

-- ---- in order
before : (p q m n : ℕ) → is_lt (ordering_then (nat_cmp q p) (nat_cmp n m)) ≡ false → (m ≡ n → ⊥) → (int_lt (pos p) (pos q) || (nat_eq p q && nat_lt m n)) ≡ true
before p q m n e ne = grind (arith, ints, nat_tests)

some_column : RankedColumn
some_column = record { column = 0; variable = 0; reduced_cost = 0; coefficient = pos 1; some = omega (arith, ints) }

-- edges in order, which are all of the wanted columns with a coefficient
pub record AreWanted (nonbasic : List ℕ) (costs row : List ℤ) (wanted : ℕ → Bool) (es : List Edge) : Type 0 where
  pub each : (p : ℕ) → p < length es → IsEdge nonbasic row (edge_at es p)
  pub are_wanted : (p : ℕ) → p < length es → wanted (edge_at es p).column ≡ true
  pub order : (p q : ℕ) → p < q → q < length es → comes_first (candidate_by costs (edge_at es p)) (candidate_by costs (edge_at es q)) ≡ true
  pub all : (k : ℕ) → k < length nonbasic → 0 < nat_abs (number_at row k) → wanted k ≡ true → (p : ℕ) × (p < length es) × ((edge_at es p).column ≡ k)

module _ (from leaving : ℕ) (nonbasic : List ℕ) (costs row : List ℤ) (wanted : ℕ → Bool) (once : IsOnceEach nonbasic) (cs ds : List RankedColumn) (ranked : AreRanked nonbasic costs row wanted (length nonbasic) cs) (moved : IsPermutation cs ds) (sorted : IsSorted rank_order ds) where
  each_is : All (IsRanked nonbasic costs row (length nonbasic)) ds
  each_is = All-permutation (IsRanked nonbasic costs row (length nonbasic)) cs ds moved ranked.each

  apart : Differ ds
  apart = IsPermutation-keeps cs Differ (rising_differ (length nonbasic) nonbasic costs row wanted cs ranked) swap_differs ds moved

  edge_is : (p : ℕ) (d : RankedColumn) → p < length ds → edge_at (map (edge_of from leaving) ds) p ≡ edge_of from leaving (get_or ds p d)
  edge_is p d l = get_or-map (edge_of from leaving) ds p d record { from = 0; leaving = 0; entering = 0; column = 0; coefficient = pos 0; target = 0 } l

  is_edge : (c : RankedColumn) → IsRanked nonbasic costs row (length nonbasic) c → IsEdge nonbasic row (edge_of from leaving c)
  is_edge c r = record { there = r.there; entering = r.variable; coefficient = r.coefficient; some = c.some }

  in_order : (b c : RankedColumn) → b.reduced_cost ≡ nat_abs (number_at costs b.column) → c.reduced_cost ≡ nat_abs (number_at costs c.column)
      → is_lt (rank_order c b) ≡ false → (b.variable ≡ c.variable → ⊥) → comes_first (candidate_by costs (edge_of from leaving b)) (candidate_by costs (edge_of from leaving c)) ≡ true
  in_order b c e f l ne =
      (λ i. comes_first record { variable = b.variable; reduced_cost = sym e i; coefficient = nat_abs b.coefficient } record { variable = c.variable; reduced_cost = sym f i; coefficient = nat_abs c.coefficient })
      ∙ before (b.reduced_cost * nat_abs c.coefficient) (c.reduced_cost * nat_abs b.coefficient) b.variable c.variable l ne

  variables_differ : (p q : ℕ) → p < q → q < length ds → (get_or ds p some_column).variable ≡ (get_or ds q some_column).variable → ⊥
  variables_differ p q l m e =
      let k : p < length ds = omega (arith, l, m) in
      let b = each_is p some_column k in
      let c = each_is q some_column m in
      let same = once (get_or ds p some_column).column (get_or ds q some_column).column b.there c.there (sym b.variable ∙ e ∙ c.variable) in
      omega (arith, l, apart p q some_column k m same)

  pub are_edges : AreWanted nonbasic costs row wanted (map (edge_of from leaving) ds)
  are_edges = record {
    each = λ p l.
        let m : p < length ds = omega (arith, l, length-map ds (edge_of from leaving)) in
        subst (IsEdge nonbasic row) (sym (edge_is p some_column m)) (is_edge (get_or ds p some_column) (each_is p some_column m));
    are_wanted = λ p l.
        let m : p < length ds = omega (arith, l, length-map ds (edge_of from leaving)) in
        ap (λ (e : Edge). wanted e.column) (edge_is p some_column m) ∙ All-permutation (λ (c : RankedColumn). wanted c.column ≡ true) cs ds moved ranked.are_wanted p some_column m;
    order = λ p q l m.
        let k : q < length ds = omega (arith, m, length-map ds (edge_of from leaving)) in
        let j : p < length ds = omega (arith, l, k) in
        let o : p ≤ q = omega (arith, l) in
        let b = get_or ds p some_column in
        let c = get_or ds q some_column in
        (λ i. comes_first (candidate_by costs (edge_is p some_column j i)) (candidate_by costs (edge_is q some_column k i)))
        ∙ in_order b c (each_is p some_column j).reduced_cost (each_is q some_column k).reduced_cost
        (sorted_far (λ b c. is_lt (rank_order b c)) (ranks_by rank_total (λ c. c)) ds sorted p q some_column o k) (variables_differ p q l k);
    all = λ k l o w.
        let a = ranked.all k l o w in
        let b = Contains-permutation cs ds a.1 moved (a.0, a.2, a.3) in
        (b.0, omega (arith, b.1, length-map ds (edge_of from leaving)), ap (λ (e : Edge). e.column) (edge_is b.0 a.1 b.1) ∙ ap (λ (c : RankedColumn). c.column) b.2 ∙ a.4);
  }
