-- The first edge that may enter is the variable that enters.
use Rattle.std.proofs.Common.{◌≡◌, ℕ, zero, suc, ◌<◌, ◌≤◌, arith, refl, ap, sym, subst, ◌∙◌, ◌⊎◌, inl, inr, Bool, true, false, Some, None, Option, List, length, get_or}
use Rattle.std.specs.Prelude.{ℤ, pos, negsuc, nat_abs, nat_lt, cond, ◌*◌, ◌&&◌, if◌then◌else◌}
use Rattle.std.specs.List.{position, position_or_len}
use Rattle.std.specs.Option.{IfSome}
use Rattle.std.proofs.lemmas.Bool.{cases_lt}
use Rattle.std.proofs.lemmas.Bool.Decides.{nat_tests}
use Rattle.std.proofs.lemmas.List.Sums.{position_or_len_is}
use Rattle.std.proofs.Math.Nat.{eq-or-lt_of_le}
use Rattle.integer_tableau.proofs.EnteringByColumn.{candidate_at, entered_column, entering_by_columns, have, variable_there}
use Rattle.integer_tableau.proofs.FirstOf.{Precedes, by_test_true, itself}
use Rattle.integer_tableau.specs.Entering.{candidate_of, comes_first, entering_by_numerators, is_eligible_numerator}
use Rattle.integer_tableau.specs.Exits.{AreFirstEdges, IsEdge, IsOnceEach, candidate_by, column_candidate, edge_at, edge_enters}
use Rattle.integer_tableau.specs.IntegerTableau.{bound_status, fraction_bounds, status}
use Rattle.integer_tableau.specs.Numbers.{number_at}
use Rattle.integer_tableau.specs.Positions.{AreNonbasic, numerator}
use Rattle.integer_tableau.specs.declared.entering.Candidate.{Candidate}
use Rattle.integer_tableau.specs.declared.exits.Edge.{Edge}
use Rattle.integer_tableau.specs.declared.integer_bounds.IntegerBounds.{IntegerBounds}
use Rattle.integer_tableau.specs.declared.position.Position.{Position}
use Rattle.integer_tableau.specs.declared.position.Position.TheVariants.{InBasis, InColumn}
use Rattle.tableau.specs.Leaving.{bounds_differ}
use Rattle.tableau.specs.declared.bounds.Direction.{Direction}
use Rattle.tableau.specs.declared.bounds.Direction.TheVariants.{Rise, Fall}
use Rattle.tableau.specs.declared.status.BasisStatus.{BasisStatus}
use Rattle.tableau.specs.declared.status.BasisStatus.TheVariants.{Basic, AtLower, AtUpper}

-- ---- what callers of the code have to show
pub once_each : (ss : List Position) (nonbasic : List ℕ) → AreNonbasic ss nonbasic → IsOnceEach nonbasic
once_each ss nonbasic are j k l m e =
    let same : InColumn j ≡ InColumn k = sym (are.there j l) ∙ ap (λ v. get_or ss v InBasis) e ∙ are.there k m in ap (λ (s : Position). column_in s) same
  where
    column_in : Position → ℕ
    column_in InBasis = 0
    column_in (InColumn k) = k

pub edges_within : (ss : List Position) (nonbasic : List ℕ) (costs row : List ℤ) (es : List Edge) → AreNonbasic ss nonbasic → AreFirstEdges nonbasic costs row es
    → (p : ℕ) → p < length es → (edge_at es p).entering < length ss
edges_within ss nonbasic costs row es are edges p l =
    let e = edges.each p l in subst (λ v. v < length ss) (sym e.entering) (variable_there ss nonbasic are (edge_at es p).column e.there)

-- ---- the targets of edges don't matter
abbrev pub aimed : Edge → ℕ → Edge
aimed e target = record e { target = target }

pub alike_edges : (nonbasic : List ℕ) (costs row : List ℤ) (es fs : List Edge) → length fs ≡ length es → ((p : ℕ) → p < length es → (t : ℕ) × (edge_at fs p ≡ aimed (edge_at es p) t))
    → AreFirstEdges nonbasic costs row es → AreFirstEdges nonbasic costs row fs
alike_edges nonbasic costs row es fs many alike h = record {
  each = λ p l. let a = alike p (old p l) in subst (IsEdge nonbasic row) (sym a.1) (is_edge (edge_at es p) a.0 (h.each p (old p l)));
  order = λ p q l m.
      let a = alike p (omega (arith, l, m, many)) in
      let b = alike q (old q m) in
      (λ j. comes_first (candidate_by costs (a.1 j)) (candidate_by costs (b.1 j))) ∙ h.order p q l (old q m);
  rest = λ k l o. elim (h.rest k l o) [
    | inl a ↦ inl (a.0, omega (arith, a.1, many), ap (λ (e : Edge). e.column) (alike a.0 a.1).1 ∙ a.2)
    | inr a ↦ inr (λ p m. ap (λ e. comes_first (candidate_by costs e) (column_candidate nonbasic costs row k)) (alike p (old p m)).1 ∙ a p (old p m))
  ];
}
  where
    old : (p : ℕ) → p < length fs → p < length es
    old p l = omega (arith, l, many)

    is_edge : (e : Edge) (t : ℕ) → IsEdge nonbasic row e → IsEdge nonbasic row (aimed e t)
    is_edge e t h = record { there = h.there; entering = h.entering; coefficient = h.coefficient; some = h.some }

-- ---- the first place that passes
module _ {X : Type 0} (test : X → Bool) (xs : List X) where
  pub some_place : (i : ℕ) (d : X) → i < length xs → ((k : ℕ) → k < i → test (get_or xs k d) ≡ false) → test (get_or xs i d) ≡ true → Some i ≡ position test xs
  some_place i d l before here =
      let at : position_or_len test xs ≡ i = position_or_len_is test xs i d (omega (arith, l)) before (λ l. here) in
      let below : nat_lt i (length xs) ≡ true = grind (arith, nat_tests) in
      sym ((λ j. cond (nat_lt (at j) (length xs)) (Some (at j)) None) ∙ ap (λ t. cond t (Some i) None) below)

  pub no_place : (i : ℕ) (d : X) → length xs ≤ i → ((k : ℕ) → k < i → test (get_or xs k d) ≡ false) → None ≡ position test xs
  no_place i d l before =
      let n : ℕ = length xs in
      let at : position_or_len test xs ≡ n = position_or_len_is test xs n d (omega arith) (λ k m. before k (omega (arith, l, m))) (λ m. absurd (omega (arith, m))) in
      let below : nat_lt n n ≡ false = grind (arith, nat_tests) in
      sym ((λ j. cond (nat_lt (at j) n) (Some (at j)) None) ∙ ap (λ t. cond t (Some n) None) below)

-- ---- coefficients that are 0
pub zero_or : (t : ℤ) → (t ≡ pos 0) ⊎ (0 < nat_abs t)
zero_or (pos zero) = inl refl
zero_or (pos (suc n)) = inr (omega arith)
zero_or (negsuc n) = inr (omega arith)

pub not_eligible : (w : Direction) (s : BasisStatus) → is_eligible_numerator w s (pos 0) ≡ false
not_eligible Rise Basic = refl
not_eligible Rise AtLower = refl
not_eligible Rise AtUpper = refl
not_eligible Fall Basic = refl
not_eligible Fall AtLower = refl
not_eligible Fall AtUpper = refl

module _ (w : Direction) (ss : List Position) (us : List Bool) (bs : List IntegerBounds) (nonbasic : List ℕ) (costs row : List ℤ) (es : List Edge) (are : AreNonbasic ss nonbasic) (us_there : length us ≡ length ss) (bs_there : length bs ≡ length ss) (edges : AreFirstEdges nonbasic costs row es) where
  abbrev in_column : ℕ → Option Candidate
  in_column k = candidate_at w ss us bs costs row (get_or nonbasic k 0)

  abbrev enters : ℕ → Bool
  enters p = edge_enters w us bs (edge_at es p)

  abbrev candidate : ℕ → Candidate
  candidate p = candidate_by costs (edge_at es p)

  abbrev with_numerators : ℕ → ℤ → ℤ → Option Candidate
  with_numerators v d t = candidate_of v w (bound_status (get_or us v false)) (fraction_bounds (get_or bs v (record { lower = None; upper = None }))) d t

  -- ---- what each column has
  column_is : (k : ℕ) → k < length nonbasic → in_column k ≡ with_numerators (get_or nonbasic k 0) (number_at costs k) (number_at row k)
  column_is k l =
      let v = get_or nonbasic k 0 in
      ap (λ s. candidate_of v w (status s (get_or us v false)) (fraction_bounds (get_or bs v (record { lower = None; upper = None }))) (numerator costs s) (numerator row s)) (are.there k l)

  edge_is : (p : ℕ) → p < length es → in_column (edge_at es p).column ≡ (if enters p then Some (candidate p) else None)
  edge_is p l =
      let e = edges.each p l in
      column_is (edge_at es p).column e.there ∙ (λ i. with_numerators (sym e.entering i) (number_at costs (edge_at es p).column) (sym e.coefficient i))

  edge_may : (p : ℕ) → p < length es → enters p ≡ true → in_column (edge_at es p).column ≡ Some (candidate p)
  edge_may p l e = edge_is p l ∙ ap (λ t. if t then Some (candidate p) else None) e

  edge_may_not : (p : ℕ) → p < length es → enters p ≡ false → in_column (edge_at es p).column ≡ None
  edge_may_not p l e = edge_is p l ∙ ap (λ t. if t then Some (candidate p) else None) e

  without_is : (k : ℕ) → k < length nonbasic → number_at row k ≡ pos 0 → in_column k ≡ None
  without_is k l e =
      let v = get_or nonbasic k 0 in
      let b = fraction_bounds (get_or bs v (record { lower = None; upper = None })) in
      column_is k l ∙ ap (with_numerators v (number_at costs k)) e
      ∙ ap (λ t. if t && bounds_differ b then Some record { variable = v; reduced_cost = nat_abs (number_at costs k); coefficient = nat_abs (pos 0) } else None) (not_eligible w (bound_status (get_or us v false)))

  -- whether the variable of a column may enter
  abbrev column_may : ℕ → Bool
  column_may k =
      let v = get_or nonbasic k 0 in
      is_eligible_numerator w (bound_status (get_or us v false)) (number_at row k) && bounds_differ (fraction_bounds (get_or bs v (record { lower = None; upper = None })))

  -- ---- the choice
  -- the column of the variable that enters isn't that of an edge that may not
  pub best_column : (b : Candidate) → entering_by_numerators 0 w None ss us bs costs row ≡ Some b → ((q : ℕ) → q < length es → enters q ≡ false)
      → (k : ℕ) × (k < length nonbasic) × (0 < nat_abs (number_at row k)) × (column_candidate nonbasic costs row k ≡ b) × ((q : ℕ) → q < length es → (edge_at es q).column ≡ k → ⊥)
  best_column b e none =
      let a = entered_column w ss us bs costs row nonbasic are us_there bs_there b e in
      let is = chosen a.0 b (column_may a.0) (sym (column_is a.0 a.1) ∙ a.2) in
      (a.0, a.1, subst (λ o. IfSome o (λ b. 0 < b.coefficient)) (a.2 ∙ ap Some (sym is)) (have w ss us bs costs row (get_or nonbasic a.0 0)), is, λ q l f. apart a.0 b a.2 q l f)
    where
      chosen : (k : ℕ) (b : Candidate) (t : Bool) → (if t then Some (column_candidate nonbasic costs row k) else None) ≡ Some b → column_candidate nonbasic costs row k ≡ b
      chosen k b true e = ap (λ o. or_else o b) e
        where
          or_else : Option Candidate → Candidate → Candidate
          or_else None b = b
          or_else (Some c) b = c
      chosen k b false e = cc

      apart : (k : ℕ) (b : Candidate) → in_column k ≡ Some b → (q : ℕ) → q < length es → (edge_at es q).column ≡ k → ⊥
      apart k b e q l f = let wrong : None ≡ Some b = sym (edge_may_not q l (none q l)) ∙ ap in_column f ∙ e in cc

  pub first_may : (p : ℕ) → p < length es → enters p ≡ true → ((q : ℕ) → q < p → enters q ≡ false) → entering_by_numerators 0 w None ss us bs costs row ≡ Some (candidate p)
  first_may p l e h = sym (entering_by_columns w ss us bs costs row nonbasic are us_there bs_there (Some (candidate p)) (((edge_at es p).column, (edges.each p l).there, edge_may p l e), each))
    where
      after : (q : ℕ) → q < length es → enters q ≡ true → Precedes (candidate p) (candidate q)
      after q m f = elim (cases_lt q p) [
        | inl k ↦ absurd (let wrong : true ≡ false = sym f ∙ h q k in cc)
        | inr k ↦ elim (eq-or-lt_of_le k) [
          | inl r ↦ subst (λ q. Precedes (candidate p) (candidate q)) r (itself (candidate p))
          | inr k ↦ let b = candidate p in let c = candidate q in by_test_true (b.reduced_cost * c.coefficient) (c.reduced_cost * b.coefficient) b.variable c.variable (edges.order p q k m)
        ]
      ]

      of_edge : (q : ℕ) → q < length es → IfSome (in_column (edge_at es q).column) (Precedes (candidate p))
      of_edge q m = by_test (enters q) refl
        where
          by_test : (t : Bool) → enters q ≡ t → IfSome (in_column (edge_at es q).column) (Precedes (candidate p))
          by_test true f = subst (λ o. IfSome o (Precedes (candidate p))) (sym (edge_may q m f)) (after q m f)
          by_test false f = subst (λ o. IfSome o (Precedes (candidate p))) (sym (edge_may_not q m f)) tt

      of_column : (k : ℕ) → comes_first (candidate p) (column_candidate nonbasic costs row k) ≡ true → (t : Bool) → IfSome (if t then Some (column_candidate nonbasic costs row k) else None) (Precedes (candidate p))
      of_column k f true = let b = candidate p in let c = column_candidate nonbasic costs row k in by_test_true (b.reduced_cost * c.coefficient) (c.reduced_cost * b.coefficient) b.variable c.variable f
      of_column k f false = tt

      each : (k : ℕ) → k < length nonbasic → IfSome (in_column k) (Precedes (candidate p))
      each k m = elim (zero_or (number_at row k)) [
        | inl z ↦ subst (λ o. IfSome o (Precedes (candidate p))) (sym (without_is k m z)) tt
        | inr o ↦ elim (edges.rest k m o) [
          | inl a ↦ subst (λ k. IfSome (in_column k) (Precedes (candidate p))) a.2 (of_edge a.0 a.1)
          | inr before ↦ subst (λ o. IfSome o (Precedes (candidate p))) (sym (column_is k m)) (of_column k (before p l) (column_may k))
        ]
      ]
