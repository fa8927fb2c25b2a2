-- Edges with further ones behind them, up to the best one, are the first ones too.
use Rattle.std.proofs.Common.{◌≡◌, ℕ, ◌+◌, ◌-◌, ◌*◌, ◌<◌, ◌≤◌, arith, refl, ap, sym, subst, ◌∙◌, ◌⊎◌, inl, inr, Bool, true, false, Some, None, Option, List, ◌++◌, length}
use Rattle.std.specs.Prelude.{ℤ, pos, nat_abs, nat_eq, nat_lt, int_lt, map, not, ◌&&◌, ◌||◌}
use Rattle.std.specs.List.Sorted.{IsPermutation, IsSorted}
use Rattle.std.specs.Option.{IfNone, IfSome}
use Rattle.std.proofs.lemmas.Bool.{cases_lt}
use Rattle.std.proofs.lemmas.Bool.Decides.{nat_tests}
use Rattle.std.proofs.lemmas.Int.{ints}
use Rattle.std.proofs.lemmas.List.{get_or_append_left, length-append}
use Rattle.std.proofs.Math.Seq.{get_or-append_right}
use Rattle.std.proofs.Math.Nat.{eq-or-lt_of_le}
use Rattle.integer_tableau.proofs.EnteringByEdge.{best_column, once_each}
use Rattle.integer_tableau.proofs.FirstOf.{Precedes, by_test_false, by_test_true, onward}
use Rattle.integer_tableau.proofs.Ranking.{AreWanted, are_edges}
use Rattle.integer_tableau.specs.Entering.{comes_first, entering_by_numerators}
use Rattle.integer_tableau.specs.Exits.{AreEdgesTo, AreFirstEdges, IsEdge, candidate_by, column_candidate, edge_at, edge_enters, is_between}
use Rattle.integer_tableau.specs.Numbers.{number_at}
use Rattle.integer_tableau.specs.Positions.{AreNonbasic}
use Rattle.integer_tableau.specs.RankedColumns.{AreRanked, edge_of, rank_order}
use Rattle.integer_tableau.specs.declared.entering.Candidate.{Candidate}
use Rattle.integer_tableau.specs.declared.exits.Edge.{Edge}
use Rattle.integer_tableau.specs.declared.integer_bounds.IntegerBounds.{IntegerBounds}
use Rattle.integer_tableau.specs.declared.position.Position.{Position}
use Rattle.integer_tableau.specs.declared.ranked_column.RankedColumn.{RankedColumn}
use Rattle.tableau.specs.declared.bounds.Direction.{Direction}

-- ---- the order
abbrev pub Comes : Candidate → Candidate → Type 0
Comes b c = comes_first b c ≡ true

-- by products p and q and by numbers m and n
not_both : (p q m n : ℕ) → (int_lt (pos p) (pos q) || (nat_eq p q && nat_lt m n)) ≡ true → (q < p) ⊎ ((q ≡ p) × (n ≤ m)) → ⊥
not_both p q m n e h = grind (arith, ints, nat_tests)

not_after : (b c : Candidate) → Comes b c → Precedes c b → ⊥
not_after b c e h = not_both (b.reduced_cost * c.coefficient) (c.reduced_cost * b.coefficient) b.variable c.variable e h

precedes : (b c : Candidate) → Comes b c → Precedes b c
precedes b c e = by_test_true (b.reduced_cost * c.coefficient) (c.reduced_cost * b.coefficient) b.variable c.variable e

no_later : (b c : Candidate) → comes_first b c ≡ false → Precedes c b
no_later b c e = by_test_false (b.reduced_cost * c.coefficient) (c.reduced_cost * b.coefficient) b.variable c.variable e

pub never_both : (b c : Candidate) → Comes b c → Comes c b → ⊥
never_both b c e f = not_after b c e (precedes c b f)

-- a is no later than b, which comes before c
pub before : (a b c : Candidate) → 0 < a.coefficient → 0 < b.coefficient → 0 < c.coefficient → comes_first b a ≡ false → Comes b c → Comes a c
before a b c oa ob oc e f = by_test (comes_first a c) refl
  where
    by_test : (t : Bool) → comes_first a c ≡ t → Comes a c
    by_test true g = g
    by_test false g = absurd (not_after b c f (onward c a b oc oa ob (no_later a c g) (no_later b a e)))

not_itself : (b : Candidate) → comes_first b b ≡ false
not_itself b = by_test (comes_first b b) refl
  where
    by_test : (t : Bool) → comes_first b b ≡ t → comes_first b b ≡ false
    by_test true e = absurd (never_both b b e e)
    by_test false e = e

-- ---- between two candidates
abbrev pub IsBehind : Option Candidate → Candidate → Type 0
IsBehind last c = IfSome last (λ l. Comes l c)

pub turned : (t : Bool) → not t ≡ true → t ≡ false
turned true e = cc
turned false e = refl

turned_back : (t : Bool) → not t ≡ false → t ≡ true
turned_back true e = refl
turned_back false e = cc

both_true : (s t : Bool) → (s && t) ≡ true → (s ≡ true) × (t ≡ true)
both_true true true e = (refl, refl)
both_true true false e = cc
both_true false t e = cc

pub not_behind_best : (last : Option Candidate) (best c : Candidate) → is_between last best c ≡ true → comes_first best c ≡ false
not_behind_best None best c e = turned (comes_first best c) e
not_behind_best (Some l) best c e = turned (comes_first best c) (both_true (comes_first l c) (not (comes_first best c)) e).1

pub behind_last : (last : Option Candidate) (best c : Candidate) → is_between last best c ≡ true → IsBehind last c
behind_last None best c e = tt
behind_last (Some l) best c e = (both_true (comes_first l c) (not (comes_first best c)) e).0

behind_best : (last : Option Candidate) (best c : Candidate) → IsBehind last c → is_between last best c ≡ false → Comes best c
behind_best None best c h e = turned_back (comes_first best c) e
behind_best (Some l) best c h e = turned_back (comes_first best c) (ap (λ t. t && not (comes_first best c)) (sym h) ∙ e)

pub is_there : (last : Option Candidate) (best c : Candidate) → IsBehind last c → comes_first best c ≡ false → is_between last best c ≡ true
is_there None best c h e = ap not e
is_there (Some l) best c h e = (λ i. h i && not (e i))

-- ---- further edges
module _ (nonbasic : List ℕ) (costs row : List ℤ) (es more : List Edge) (last : Option Candidate) (best : Candidate) (first : AreFirstEdges nonbasic costs row es)
    (no_last : IfNone last (length es ≡ 0)) (last_is : IfSome last (λ c. (0 < length es) × (c ≡ candidate_by costs (edge_at es (length es - 1)))))
    (added : AreWanted nonbasic costs row (λ k. is_between last best (column_candidate nonbasic costs row k)) more) where
  abbrev in_column : ℕ → Candidate
  in_column k = column_candidate nonbasic costs row k

  abbrev all : List Edge
  all = es ++ more

  -- each edge so far comes before column k
  abbrev AllBefore : ℕ → Type 0
  AllBefore k = (p : ℕ) → p < length es → Comes (candidate_by costs (edge_at es p)) (in_column k)

  of_edge : (e : Edge) → IsEdge nonbasic row e → candidate_by costs e ≡ in_column e.column
  of_edge e h = λ i. record { variable = h.entering i; reduced_cost = nat_abs (number_at costs e.column); coefficient = nat_abs (h.coefficient i) }

  -- ---- what is behind the last edge is behind all
  last_before : (k : ℕ) → AllBefore k → IsBehind last (in_column k)
  last_before k h = of_last last last_is
    where
      of_last : (o : Option Candidate) → IfSome o (λ c. (0 < length es) × (c ≡ candidate_by costs (edge_at es (length es - 1)))) → IsBehind o (in_column k)
      of_last None is = tt
      of_last (Some c) is = ap (λ c. comes_first c (in_column k)) is.1 ∙ h (length es - 1) (omega (arith, is.0))

  not_noted : (k p : ℕ) → p < length es → (edge_at es p).column ≡ k → IsBehind last (in_column k) → ⊥
  not_noted k p l e h = of_last last no_last last_is h
    where
      here : candidate_by costs (edge_at es p) ≡ in_column k
      here = of_edge (edge_at es p) (first.each p l) ∙ ap in_column e

      at_last : (q : ℕ) → p ≤ q → q < length es → Comes (candidate_by costs (edge_at es q)) (in_column k) → ⊥
      at_last q m o f = elim (eq-or-lt_of_le m) [
        | inl r ↦ let itself : Comes (in_column k) (in_column k) = ap (λ c. comes_first c (in_column k)) (sym here ∙ ap (λ q. candidate_by costs (edge_at es q)) r) ∙ f in never_both (in_column k) (in_column k) itself itself
        | inr r ↦ never_both (candidate_by costs (edge_at es q)) (in_column k) f (ap (λ c. comes_first c (candidate_by costs (edge_at es q))) (sym here) ∙ first.order p q r o)
      ]

      of_last : (o : Option Candidate) → IfNone o (length es ≡ 0) → IfSome o (λ c. (0 < length es) × (c ≡ candidate_by costs (edge_at es (length es - 1)))) → IsBehind o (in_column k) → ⊥
      of_last None none is h = omega (arith, none, l)
      of_last (Some c) none is h = at_last (length es - 1) (omega (arith, l)) (omega (arith, is.0)) (ap (λ c. comes_first c (in_column k)) (sym is.1) ∙ h)

  all_before : (k : ℕ) → k < length nonbasic → 0 < nat_abs (number_at row k) → IsBehind last (in_column k) → AllBefore k
  all_before k l o h = elim (first.rest k l o) [
    | inl a ↦ absurd (not_noted k a.0 a.1 a.2 h)
    | inr b ↦ b
  ]

  -- ---- old and new ones
  at_left : (p : ℕ) → p < length es → edge_at all p ≡ edge_at es p
  at_left p l = get_or_append_left es more _ p l

  at_right : (p : ℕ) → length es ≤ p → edge_at all p ≡ edge_at more (p - length es)
  at_right p g = get_or-append_right es more p _ g

  within_more : (p : ℕ) → length es ≤ p → p < length all → p - length es < length more
  within_more p g l = omega (arith, g, l, length-append es more)

  of_each : (P : Edge → Type 0) → ((p : ℕ) → p < length es → P (edge_at es p)) → ((p : ℕ) → p < length more → P (edge_at more p)) → (p : ℕ) → p < length all → P (edge_at all p)
  of_each P old new p l = elim (cases_lt p (length es)) [
    | inl m ↦ subst P (sym (at_left p m)) (old p m)
    | inr g ↦ subst P (sym (at_right p g)) (new (p - length es) (within_more p g l))
  ]

  -- a new one
  new_wanted : (q : ℕ) → q < length more → is_between last best (candidate_by costs (edge_at more q)) ≡ true
  new_wanted q m = ap (is_between last best) (of_edge (edge_at more q) (added.each q m)) ∙ added.are_wanted q m

  old_before_new : (p q : ℕ) → p < length es → q < length more → Comes (candidate_by costs (edge_at es p)) (candidate_by costs (edge_at more q))
  old_before_new p q l m =
      let e = added.each q m in
      let k : ℕ = (edge_at more q).column in
      ap (comes_first (candidate_by costs (edge_at es p))) (of_edge (edge_at more q) e)
      ∙ all_before k e.there (subst (λ z. 0 < nat_abs z) e.coefficient e.some) (behind_last last best (in_column k) (added.are_wanted q m)) p l

  in_order : (p q : ℕ) → p < q → q < length all → Comes (candidate_by costs (edge_at all p)) (candidate_by costs (edge_at all q))
  in_order p q l m = elim (cases_lt q (length es)) [
    | inl mq ↦ let mp : p < length es = omega (arith, l, mq) in
        (λ i. comes_first (candidate_by costs (at_left p mp i)) (candidate_by costs (at_left q mq i))) ∙ first.order p q l mq
    | inr gq ↦ elim (cases_lt p (length es)) [
      | inl mp ↦ (λ i. comes_first (candidate_by costs (at_left p mp i)) (candidate_by costs (at_right q gq i))) ∙ old_before_new p (q - length es) mp (within_more q gq m)
      | inr gp ↦ (λ i. comes_first (candidate_by costs (at_right p gp i)) (candidate_by costs (at_right q gq i)))
          ∙ added.order (p - length es) (q - length es) (omega (arith, l, gp, gq)) (within_more q gq m)
    ]
  ]

  -- the best one is that of a column
  module _ (column : ℕ) (there : column < length nonbasic) (some : 0 < nat_abs (number_at row column)) (is_best : in_column column ≡ best) (fresh : (p : ℕ) → p < length es → (edge_at es p).column ≡ column → ⊥) where
    best_has : 0 < best.coefficient
    best_has = subst (λ (c : Candidate). 0 < c.coefficient) is_best some

    new_before : (k : ℕ) → 0 < nat_abs (number_at row k) → Comes best (in_column k) → (q : ℕ) → q < length more → Comes (candidate_by costs (edge_at more q)) (in_column k)
    new_before k o f q m = before (candidate_by costs (edge_at more q)) best (in_column k) (added.each q m).some best_has o (not_behind_best last best (candidate_by costs (edge_at more q)) (new_wanted q m)) f

    the_rest : (k : ℕ) → k < length nonbasic → 0 < nat_abs (number_at row k) → ((p : ℕ) × (p < length all) × ((edge_at all p).column ≡ k)) ⊎ ((p : ℕ) → p < length all → Comes (candidate_by costs (edge_at all p)) (in_column k))
    the_rest k l o = elim (first.rest k l o) [
      | inl a ↦ inl (a.0, omega (arith, a.1, length-append es more), ap (λ (e : Edge). e.column) (at_left a.0 a.1) ∙ a.2)
      | inr h ↦ by_test h (is_between last best (in_column k)) refl
    ]
      where
        by_test : AllBefore k → (t : Bool) → is_between last best (in_column k) ≡ t
            → ((p : ℕ) × (p < length all) × ((edge_at all p).column ≡ k)) ⊎ ((p : ℕ) → p < length all → Comes (candidate_by costs (edge_at all p)) (in_column k))
        by_test h true e =
            let a = added.all k l o e in
            let g : length es ≤ length es + a.0 = omega arith in
            let q : length es + a.0 - length es ≡ a.0 = omega arith in
            inl (length es + a.0, omega (arith, a.1, length-append es more), ap (λ (e : Edge). e.column) (at_right (length es + a.0) g ∙ ap (edge_at more) q) ∙ a.2)
        by_test h false e = inr (of_each (λ e. Comes (candidate_by costs e) (in_column k)) h (new_before k o (behind_best last best (in_column k) (last_before k h) e)))

    pub first_edges : AreFirstEdges nonbasic costs row all
    first_edges = record { each = of_each (IsEdge nonbasic row) first.each added.each; order = in_order; rest = the_rest }

    -- ---- the best one is the last
    best_before : AllBefore column
    best_before = elim (first.rest column there some) [
      | inl a ↦ absurd (fresh a.0 a.1 a.2)
      | inr h ↦ h
    ]

    best_added : (p : ℕ) × (p < length more) × (candidate_by costs (edge_at more p) ≡ best)
    best_added =
        let wanted : is_between last best (in_column column) ≡ true = is_there last best (in_column column) (last_before column best_before) (ap (comes_first best) is_best ∙ not_itself best) in
        let a = added.all column there some wanted in
        (a.0, a.1, of_edge (edge_at more a.0) (added.each a.0 a.1) ∙ ap in_column a.2 ∙ is_best)

    none_behind : (p q : ℕ) → candidate_by costs (edge_at more p) ≡ best → p < q → q < length more → ⊥
    none_behind p q e l m =
        let wrong : true ≡ false = sym (added.order p q l m) ∙ ap (λ c. comes_first c (candidate_by costs (edge_at more q))) e ∙ not_behind_best last best (candidate_by costs (edge_at more q)) (new_wanted q m) in cc

    pub some_edge : 0 < length all
    some_edge = omega (arith, best_added.1, length-append es more)

    pub last_is_best : candidate_by costs (edge_at all (length all - 1)) ≡ best
    last_is_best =
        let p : ℕ = best_added.0 in
        let l : p < length more = best_added.1 in
        elim (cases_lt p (length more - 1)) [
          | inl m ↦ absurd (none_behind p (length more - 1) best_added.2 m (omega (arith, l)))
          | inr m ↦ let g : length es ≤ length all - 1 = omega (arith, l, length-append es more) in
              let q : length all - 1 - length es ≡ p = omega (arith, l, m, length-append es more) in
              ap (candidate_by costs) (at_right (length all - 1) g ∙ ap (edge_at more) q) ∙ best_added.2
        ]

-- ---- as the code has them
pub extended : (from leaving : ℕ) (w : Direction) (ss : List Position) (us : List Bool) (bs : List IntegerBounds) (nonbasic : List ℕ) (costs row : List ℤ) (es new : List Edge) (last : Option Candidate) (best : Candidate)
    → AreNonbasic ss nonbasic → length us ≡ length ss → length bs ≡ length ss → AreFirstEdges nonbasic costs row es → ((q : ℕ) → q < length es → edge_enters w us bs (edge_at es q) ≡ false)
    → entering_by_numerators 0 w None ss us bs costs row ≡ Some best → IfNone last (length es ≡ 0) → IfSome last (λ c. (0 < length es) × (c ≡ candidate_by costs (edge_at es (length es - 1))))
    → (cs ds : List RankedColumn) → AreRanked nonbasic costs row (λ k. is_between last best (column_candidate nonbasic costs row k)) (length nonbasic) cs → IsPermutation cs ds → IsSorted rank_order ds
    → new ≡ es ++ map (edge_of from leaving) ds → AreEdgesTo nonbasic costs row best new
extended from leaving w ss us bs nonbasic costs row es new last best are us_there bs_there first none enters no_last last_is cs ds ranked moved sorted e =
    let more : List Edge = map (edge_of from leaving) ds in
    let added = are_edges from leaving nonbasic costs row (λ k. is_between last best (column_candidate nonbasic costs row k)) (once_each ss nonbasic are) cs ds ranked moved sorted in
    let k = best_column w ss us bs nonbasic costs row es are us_there bs_there first best enters none in
    subst (AreEdgesTo nonbasic costs row best) (sym e) record {
      first = first_edges nonbasic costs row es more last best first no_last last_is added k.0 k.1 k.2 k.3 k.4;
      some = some_edge nonbasic costs row es more last best first no_last last_is added k.0 k.1 k.2 k.3 k.4;
      last = last_is_best nonbasic costs row es more last best first no_last last_is added k.0 k.1 k.2 k.3 k.4;
    }
