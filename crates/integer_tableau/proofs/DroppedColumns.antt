-- Columns are put into a list while the best candidate is looked for, and those that come behind it are dropped then.
use Rattle.std.proofs.Common.{◌≡◌, ℕ, zero, suc, ◌+◌, ◌-◌, ◌*◌, ◌<◌, arith, refl, ap, sym, subst, ◌∙◌, ◌⊎◌, inl, inr, Bool, true, false, Some, None, Option, List, [], ◌∷◌, ◌++◌, length, get_or, cond, filter, not, Contains}
use Rattle.std.specs.Prelude.{ℤ, pos, nat_abs, nat_eq, nat_lt, int_lt, ◌&&◌, ◌||◌, if◌then◌else◌}
use Rattle.std.specs.Option.{IfSome}
use Rattle.std.proofs.lemmas.Bool.{ne_eqb}
use Rattle.std.proofs.lemmas.Bool.Decides.{nat_tests}
use Rattle.std.proofs.lemmas.Int.{ints}
use Rattle.std.proofs.lemmas.List.Elements.{All-filter, filter-append, filter_passes}
use Rattle.std.proofs.lemmas.List.Kept.{AllPairs-filter}
use Rattle.integer_tableau.proofs.Candidates.{kept}
use Rattle.integer_tableau.proofs.EnteringByColumn.{candidate_at, numbered}
use Rattle.integer_tableau.proofs.EnteringByEdge.{not_eligible, once_each, zero_or}
use Rattle.integer_tableau.proofs.FirstOf.{IsFirst}
use Rattle.integer_tableau.proofs.FurtherEdges.{Comes, IsBehind, before, behind_last, is_there, never_both, not_behind_best, turned}
use Rattle.integer_tableau.proofs.Ranking.{column_with, column_without, none_ranked}
use Rattle.integer_tableau.specs.Entering.{candidate_if_there, comes_first, first_of}
use Rattle.integer_tableau.specs.Exits.{AreFirstEdges, candidate_by, column_candidate, edge_at, edge_enters, is_behind, is_between, variable_enters}
use Rattle.integer_tableau.specs.IntegerTableau.{bound_status, fraction_bounds}
use Rattle.integer_tableau.specs.Numbers.{number_at}
use Rattle.integer_tableau.specs.Positions.{AreNonbasic}
use Rattle.integer_tableau.specs.RankedColumns.{AreRanked, IsRanked, IsWithColumn, ranked_candidate}
use Rattle.integer_tableau.specs.declared.entering.Candidate.{Candidate}
use Rattle.integer_tableau.specs.declared.exits.Edge.{Edge}
use Rattle.integer_tableau.specs.declared.integer_bounds.IntegerBounds.{IntegerBounds}
use Rattle.integer_tableau.specs.declared.position.Position.{Position}
use Rattle.integer_tableau.specs.declared.ranked_column.RankedColumn.{RankedColumn}
use Rattle.tableau.specs.Leaving.{bounds_differ}
use Rattle.tableau.specs.declared.bounds.Direction.{Direction}

-- ---- what a test keeps of a list
place_kept : (p : RankedColumn → Bool) (xs : List RankedColumn) (k : ℕ) (x : RankedColumn) → k < length xs → get_or xs k x ≡ x → p x ≡ true → Contains (filter p xs) x
place_kept p [] k x l e t = absurd (omega (arith, l))
place_kept p (y ∷ ys) zero x l e t = subst (λ b. Contains (cond b (y ∷ filter p ys) (filter p ys)) x) (sym (ap p e ∙ t)) (0, omega arith, e)
place_kept p (y ∷ ys) (suc k) x l e t = by_test (p y) (place_kept p ys k x (omega (arith, l)) e t)
  where
    by_test : (b : Bool) → Contains (filter p ys) x → Contains (cond b (y ∷ filter p ys) (filter p ys)) x
    by_test true a = (suc a.0, omega (arith, a.1), a.2)
    by_test false a = a

-- a stricter test
filtered_twice : (p q : RankedColumn → Bool) → ((x : RankedColumn) → p x ≡ true → q x ≡ true) → (xs : List RankedColumn) → filter p (filter q xs) ≡ filter p xs
filtered_twice p q h [] = refl
filtered_twice p q h (x ∷ xs) = by_test (q x) refl (filtered_twice p q h xs)
  where
    not_kept : q x ≡ false → (b : Bool) → p x ≡ b → filter p (filter q xs) ≡ filter p xs → filter p (filter q xs) ≡ cond b (x ∷ filter p xs) (filter p xs)
    not_kept e true f same = absurd (let wrong : true ≡ false = sym (h x f) ∙ e in cc)
    not_kept e false f same = same

    by_test : (b : Bool) → q x ≡ b → filter p (filter q xs) ≡ filter p xs → filter p (cond b (x ∷ filter q xs) (filter q xs)) ≡ cond (p x) (x ∷ filter p xs) (filter p xs)
    by_test true e same = ap (λ ys. cond (p x) (x ∷ ys) ys) same
    by_test false e same = not_kept e (p x) refl same

-- ---- the order
-- products p and q, numbers m and n
neither : (p q m n : ℕ) → (int_lt (pos p) (pos q) || (nat_eq p q && nat_lt m n)) ≡ false → (int_lt (pos q) (pos p) || (nat_eq q p && nat_lt n m)) ≡ false → m ≡ n
neither p q m n e f = grind (arith, ints, nat_tests)

same_variable : (b c : Candidate) → comes_first b c ≡ false → comes_first c b ≡ false → b.variable ≡ c.variable
same_variable b c e f = neither (b.reduced_cost * c.coefficient) (c.reduced_cost * b.coefficient) b.variable c.variable e f

other_way : (b c : Candidate) → Comes b c → comes_first c b ≡ false
other_way b c e = by_test (comes_first c b) refl
  where
    by_test : (t : Bool) → comes_first c b ≡ t → comes_first c b ≡ false
    by_test true f = absurd (never_both b c e f)
    by_test false f = f

-- none so far: its ratio is greater than each
abbrev IsGreat : Candidate → Type 0
IsGreat b = b.coefficient ≡ 0 → 0 < b.reduced_cost

before_none : (new best : Candidate) → 0 < new.coefficient → IsGreat best → best.coefficient ≡ 0 → Comes new best
before_none new best o great z = by_test (comes_first new best) refl
  where
    nothing : candidate_if_there best ≡ None
    nothing = ap (λ n. if nat_eq n 0 then None else Some best) z

    by_test : (t : Bool) → comes_first new best ≡ t → Comes new best
    by_test true e = e
    by_test false e = absurd (let wrong : None ≡ Some new = sym nothing ∙ kept new best o great e ∙ ap (first_of (Some new)) nothing in cc)

some_or_none : (n : ℕ) → (0 < n) ⊎ (n ≡ 0)
some_or_none zero = inr refl
some_or_none (suc n) = inl (omega arith)

-- what is behind the best is behind a better one
behind_better : (best more c : Candidate) → 0 < c.coefficient → 0 < more.coefficient → IsGreat best → Comes more best → Comes best c → Comes more c
behind_better best more c oc om great e f = elim (some_or_none best.coefficient) [
  | inl ob ↦ before more best c om ob oc (other_way more best e) f
  | inr z ↦ absurd (never_both c best (before_none c best oc great z) f)
]

-- a stricter best one
not_behind : (best more c : Candidate) → 0 < c.coefficient → 0 < more.coefficient → IsGreat best → Comes more best → comes_first more c ≡ false → comes_first best c ≡ false
not_behind best more c oc om great e f = by_test (comes_first best c) refl
  where
    by_test : (t : Bool) → comes_first best c ≡ t → comes_first best c ≡ false
    by_test true g = absurd (let wrong : true ≡ false = sym (behind_better best more c oc om great e g) ∙ f in cc)
    by_test false g = g

-- ---- the list, without those behind the best one
abbrev pub stays : Candidate → RankedColumn → Bool
stays best c = not (comes_first best (ranked_candidate c))

of_behind : (last : Option Candidate) (c : Candidate) → is_behind last c ≡ true → IsBehind last c
of_behind None c e = tt
of_behind (Some l) c e = e

not_between : (last : Option Candidate) (best c : Candidate) → is_behind last c ≡ false → is_between last best c ≡ false
not_between None best c e = cc
not_between (Some l) best c e = ap (λ t. t && not (comes_first best c)) e

module _ (nonbasic : List ℕ) (costs row : List ℤ) (last : Option Candidate) where
  abbrev in_column : ℕ → Candidate
  in_column k = column_candidate nonbasic costs row k

  abbrev wanted : Candidate → ℕ → Bool
  wanted best k = is_between last best (in_column k)

  -- what stays of the list is what is wanted of the first n columns
  abbrev pub AreUpTo : Candidate → ℕ → List RankedColumn → Type 0
  AreUpTo best n cs = AreRanked nonbasic costs row (λ k. is_between last best (column_candidate nonbasic costs row k)) n (filter (stays best) cs)

  pub none_yet : (best : Candidate) (cs : List RankedColumn) → cs ≡ [] → AreUpTo best 0 cs
  none_yet best cs e = subst (AreUpTo best 0) (sym e) (none_ranked nonbasic costs row (wanted best))

  is_candidate : (n : ℕ) (c : RankedColumn) → IsRanked nonbasic costs row n c → ranked_candidate c ≡ in_column c.column
  is_candidate n c h = λ i. record { variable = h.variable i; reduced_cost = h.reduced_cost i; coefficient = nat_abs (h.coefficient i) }

  module _ (best more : Candidate) (some : 0 < more.coefficient) (great : IsGreat best) (better : Comes more best) where
    stricter : (c : RankedColumn) → stays more c ≡ true → stays best c ≡ true
    stricter c e = ap not (not_behind best more (ranked_candidate c) c.some some great better (turned (comes_first more (ranked_candidate c)) e))

    still_wanted : (n : ℕ) (c : RankedColumn) → IsRanked nonbasic costs row n c → wanted best c.column ≡ true → stays more c ≡ true → wanted more c.column ≡ true
    still_wanted n c h w e =
        is_there last more (in_column c.column) (behind_last last best (in_column c.column) w)
        (ap (comes_first more) (sym (is_candidate n c h)) ∙ turned (comes_first more (ranked_candidate c)) e)

    was_wanted : (k : ℕ) → 0 < nat_abs (number_at row k) → wanted more k ≡ true → wanted best k ≡ true
    was_wanted k o w =
        is_there last best (in_column k) (behind_last last more (in_column k) w)
        (not_behind best more (in_column k) o some great better (not_behind_best last more (in_column k) w))

    one_stays : (n : ℕ) (c : RankedColumn) → IsRanked nonbasic costs row n c → wanted more c.column ≡ true → stays more c ≡ true
    one_stays n c h w = ap not (ap (comes_first more) (is_candidate n c h) ∙ not_behind_best last more (in_column c.column) w)

    narrowed : (n : ℕ) (cs : List RankedColumn) → AreRanked nonbasic costs row (wanted best) n cs → AreRanked nonbasic costs row (wanted more) n (filter (stays more) cs)
    narrowed n cs h = record {
      each = All-filter (stays more) (IsRanked nonbasic costs row n) cs h.each;
      are_wanted = λ k d l.
          All-filter (stays more) (λ c. stays more c ≡ true → wanted more c.column ≡ true) cs (λ k d l e. still_wanted n (get_or cs k d) (h.each k d l) (h.are_wanted k d l) e) k d l
          (filter_passes (stays more) cs k d l);
      rise = AllPairs-filter (λ (b c : RankedColumn). b.column < c.column) (stays more) cs h.rise;
      all = λ k l o w.
          let a = h.all k l o (was_wanted k o w) in
          let is : IsRanked nonbasic costs row n a.1 = subst (IsRanked nonbasic costs row n) a.3 (h.each a.0 a.1 a.2) in
          let b = place_kept (stays more) cs a.0 a.1 a.2 a.3 (one_stays n a.1 is (ap (wanted more) a.4 ∙ w)) in
          (b.0, a.1, b.1, b.2, a.4);
    }

    improved : (n : ℕ) (cs : List RankedColumn) → AreUpTo best n cs → AreUpTo more n cs
    improved n cs h = subst (AreRanked nonbasic costs row (wanted more) n) (filtered_twice (stays more) (stays best) stricter cs) (narrowed n (filter (stays best) cs) h)

  -- ---- one column more
  module _ (n v : ℕ) (d t : ℤ) (v_is : v ≡ get_or nonbasic n 0) (d_is : d ≡ number_at costs n) (t_is : t ≡ number_at row n) (best : Candidate) (great : IsGreat best) where
    abbrev new : Candidate
    new = record { variable = v; reduced_cost = nat_abs d; coefficient = nat_abs t }

    new_is : new ≡ in_column n
    new_is = λ i. record { variable = v_is i; reduced_cost = nat_abs (d_is i); coefficient = nat_abs (t_is i) }

    -- one that doesn't come before the best
    passed : ((best.coefficient ≡ 0 → ⊥) → best.variable ≡ get_or nonbasic n 0 → ⊥) → comes_first new best ≡ false → (cs : List RankedColumn) → AreUpTo best n cs → AreUpTo best (n + 1) cs
    passed apart e cs h = column_without nonbasic costs row (wanted best) n (filter (stays best) cs) (by_size (zero_or t) (wanted best n) refl) h
      where
        there : 0 < nat_abs t → best.coefficient ≡ 0 → ⊥
        there o z = let wrong : true ≡ false = sym (before_none new best o great z) ∙ e in cc

        by_size : (t ≡ pos 0) ⊎ (0 < nat_abs t) → (b : Bool) → wanted best n ≡ b → (number_at row n ≡ pos 0) ⊎ (wanted best n ≡ false)
        by_size (inl z) b w = inl (sym t_is ∙ z)
        by_size (inr o) false w = inr w
        by_size (inr o) true w = absurd (apart (there o) (sym (same_variable new best e (ap (comes_first best) new_is ∙ not_behind_best last best (in_column n) w)) ∙ v_is))

    -- one that does
    taken : comes_first new best ≡ true → (cs ds : List RankedColumn) → IsWithColumn n v d t last cs ds → AreUpTo best n cs → AreUpTo best (n + 1) ds
    taken e cs ds p h = elim p [
      | inl out ↦ subst (AreUpTo best (n + 1)) (sym out.0) (column_without nonbasic costs row (wanted best) n (filter (stays best) cs) (elim out.1 [
        | inl z ↦ inl (sym t_is ∙ z)
        | inr f ↦ inr (ap (is_between last best) (sym new_is) ∙ not_between last best new f)
      ]) h)
      | inr a ↦ subst (AreUpTo best (n + 1)) (sym a.1) (subst (AreRanked nonbasic costs row (wanted best) (n + 1)) (sym (pushed cs a.0 (one_stays_now a.0 a.3 a.4 a.5)))
          (column_with nonbasic costs row (wanted best) n (filter (stays best) cs) a.0 a.2 (a.3 ∙ v_is) (a.4 ∙ ap nat_abs d_is) (a.5 ∙ t_is)
          (ap (is_between last best) (sym new_is) ∙ is_there last best new (of_behind last new a.6) behind_none) h))
    ]
      where
        behind_none : comes_first best new ≡ false
        behind_none = other_way new best e

        one_stays_now : (c : RankedColumn) → c.variable ≡ v → c.reduced_cost ≡ nat_abs d → c.coefficient ≡ t → stays best c ≡ true
        one_stays_now c p q r = (λ i. not (comes_first best record { variable = p i; reduced_cost = q i; coefficient = nat_abs (r i) })) ∙ ap not behind_none

        pushed : (cs : List RankedColumn) (c : RankedColumn) → stays best c ≡ true → filter (stays best) (cs ++ c ∷ []) ≡ filter (stays best) cs ++ c ∷ []
        pushed cs c s = filter-append (stays best) cs (c ∷ []) ∙ ap (λ b. filter (stays best) cs ++ cond b (c ∷ []) []) s

    pub one_more : ((best.coefficient ≡ 0 → ⊥) → best.variable ≡ get_or nonbasic n 0 → ⊥) → (more : Candidate) → (more ≡ best) ⊎ ((0 < more.coefficient) × (comes_first more best ≡ true)) → (cs ds : List RankedColumn)
        → ((comes_first new best ≡ false) × (ds ≡ cs)) ⊎ ((comes_first new best ≡ true) × IsWithColumn n v d t last cs ds) → AreUpTo best n cs → AreUpTo more (n + 1) ds
    one_more apart more better cs ds step h = elim better [
      | inl e ↦ subst (λ b. AreUpTo b (n + 1) ds) (sym e) by_best
      | inr a ↦ improved best more a.0 great a.1 (n + 1) ds by_best
    ]
      where
        by_best : AreUpTo best (n + 1) ds
        by_best = elim step [
          | inl a ↦ subst (AreUpTo best (n + 1)) (sym a.1) (passed apart a.0 cs h)
          | inr a ↦ taken a.0 cs ds a.1 h
        ]

-- a better one is great too
pub still_great : (best more : Candidate) → IsGreat best → (more ≡ best) ⊎ ((0 < more.coefficient) × (comes_first more best ≡ true)) → more.coefficient ≡ 0 → 0 < more.reduced_cost
still_great best more great better z = elim better [
  | inl e ↦ subst IsGreat (sym e) great z
  | inr a ↦ absurd (omega (arith, a.0, z))
]

-- ---- the best one so far is that of a column before
module _ (w : Direction) (ss : List Position) (us : List Bool) (bs : List IntegerBounds) (costs row : List ℤ) (nonbasic : List ℕ) (are : AreNonbasic ss nonbasic) where
  pub of_another : (k : ℕ) → k < length nonbasic → (best : Candidate) → IsFirst (λ k. candidate_at w ss us bs costs row (get_or nonbasic k 0)) k (candidate_if_there best)
      → (best.coefficient ≡ 0 → ⊥) → best.variable ≡ get_or nonbasic k 0 → ⊥
  of_another k l best h some e =
      let first = subst (IsFirst (λ k. candidate_at w ss us bs costs row (get_or nonbasic k 0)) k) there h in
      let numbered_so : best.variable ≡ get_or nonbasic first.0.0 0 = subst (λ o. IfSome o (λ c. c.variable ≡ get_or nonbasic first.0.0 0)) first.0.2 (numbered w ss us bs costs row (get_or nonbasic first.0.0 0)) in
      omega (arith, first.0.1, once_each ss nonbasic are first.0.0 k (omega (arith, first.0.1, l)) l (sym numbered_so ∙ e))
    where
      there : candidate_if_there best ≡ Some best
      there = ap (λ t. if t then None else Some best) (ne_eqb best.coefficient 0 some)

-- ---- what doesn't come behind the last edge may not enter where none of the edges may
module _ (w : Direction) (us : List Bool) (bs : List IntegerBounds) (nonbasic : List ℕ) (costs row : List ℤ) (es : List Edge) (last : Option Candidate) (first : AreFirstEdges nonbasic costs row es)
    (last_is : IfSome last (λ c. (0 < length es) × (c ≡ candidate_by costs (edge_at es (length es - 1))))) (none : (p : ℕ) → p < length es → edge_enters w us bs (edge_at es p) ≡ false) where
  behind_all : (k : ℕ) → ((p : ℕ) → p < length es → comes_first (candidate_by costs (edge_at es p)) (column_candidate nonbasic costs row k) ≡ true) → is_behind last (column_candidate nonbasic costs row k) ≡ true
  behind_all k h = of_last last last_is
    where
      of_last : (o : Option Candidate) → IfSome o (λ c. (0 < length es) × (c ≡ candidate_by costs (edge_at es (length es - 1)))) → is_behind o (column_candidate nonbasic costs row k) ≡ true
      of_last None is = refl
      of_last (Some c) is = ap (λ c. comes_first c (column_candidate nonbasic costs row k)) is.1 ∙ h (length es - 1) (omega (arith, is.0))

  pub noted_stay : (k : ℕ) → k < length nonbasic → is_behind last (column_candidate nonbasic costs row k) ≡ false → variable_enters w us bs (get_or nonbasic k 0) (number_at row k) ≡ false
  noted_stay k l e = elim (zero_or (number_at row k)) [
    | inl z ↦ ap (variable_enters w us bs (get_or nonbasic k 0)) z
        ∙ ap (λ t. t && bounds_differ (fraction_bounds (get_or bs (get_or nonbasic k 0) (record { lower = None; upper = None })))) (not_eligible w (bound_status (get_or us (get_or nonbasic k 0) false)))
    | inr o ↦ elim (first.rest k l o) [
      | inl a ↦ let is = first.each a.0 a.1 in
          sym (λ i. variable_enters w us bs ((is.entering ∙ ap (λ k. get_or nonbasic k 0) a.2) i) ((is.coefficient ∙ ap (number_at row) a.2) i)) ∙ none a.0 a.1
      | inr h ↦ absurd (let wrong : true ≡ false = sym (behind_all k h) ∙ e in cc)
    ]
  ]
