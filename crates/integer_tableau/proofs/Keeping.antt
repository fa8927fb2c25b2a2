-- What holds of a tableau on whole numbers between pivots, and that a pivot which wasn't given up keeps it.
use Rattle.std.proofs.Common.{◌≡◌, ◌≢◌, ℕ, ◌+◌, ◌-◌, ◌<◌, arith, refl, ap, sym, ◌∙◌, subst, false, Some, List, [], length, get_or, set, inl, inr, get_or-set_other, get_or-set_same}
use Rattle.std.specs.Prelude.{ℤ, pos, neg_ℤ, ◌+ℤ◌, ◌-ℤ◌, ◌*ℤ◌, nat_abs, map}
use Rattle.std.specs.List.{swap}
use Rattle.std.proofs.lemmas.Int.{ints}
use Rattle.std.proofs.lemmas.Bool.{cases_eq, cases_lt}
use Rattle.std.proofs.lemmas.List.{length-set, same_lists, get_or_default, get_or_past}
use Rattle.std.proofs.lemmas.List.Edits.{swap_is}
use Rattle.fraction.specs.Lemmas.Integers.{cancel_ℤ, neg-mul_ℤ}
use Rattle.fraction.specs.Rational.{frac, whole}
use Rattle.integer_tableau.proofs.Apart.{apart_after, entering_basic, in_column, leaving_there, other_stays, they_differ}
use Rattle.integer_tableau.proofs.ExactPivots.{IsExactPivot, pivoted_is}
use Rattle.integer_tableau.proofs.Sums.{value_fits, sum_exchanged, sum_solved, sum_substituted}
use Rattle.integer_tableau.specs.Consistent.{IsConsistent, row_width}
use Rattle.integer_tableau.specs.IntegerTableau.{IntegerTableau, fraction_bounds, tableau_of}
use Rattle.integer_tableau.specs.Numbers.{IsWithin, number_at, total_size}
use Rattle.integer_tableau.specs.Range.{size_limit}
use Rattle.integer_tableau.specs.Pivot.{is_upper}
use Rattle.integer_tableau.specs.Positions.{IsColumnOf, sum_over}
use Rattle.integer_tableau.proofs.Exchanges.{nonbasic_values_exchanged, positions_exchanged}
use Rattle.integer_tableau.specs.Substitution.{IsSolvedFor, IsSolvedRow, IsSubstitutedIfFull, IsSubstitutedRow, quotient_numerator}
use Rattle.integer_tableau.specs.declared.position.Position.{Position}
use Rattle.integer_tableau.specs.declared.position.Position.TheVariants.{InBasis, InColumn}
use Rattle.tableau.specs.Leaving.{unbounded, violated_bound, violation}
use Rattle.tableau.specs.Pivot.{pivoted}
use Rattle.tableau.specs.declared.bounds.Direction.{Direction}

swap_back : {X : Type 0} (xs : List X) (i j : ℕ) (d : X) → i < length xs → j < length xs → i ≢ j → swap (swap xs i j) i j ≡ xs
swap_back {X = X} xs i j d h k n =
    sym (swap_is (swap xs i j) i j d (omega (arith, long)) (omega (arith, long)))
    ∙ (λ t. set (set (swap xs i j) i (at_j t)) j (at_i t))
    ∙ ap (λ ys. set (set ys i (get_or xs i d)) j (get_or xs j d)) (sym (swap_is xs i j d h k))
    ∙ same_lists _ _ many by_index
  where
    long : length (swap xs i j) ≡ length xs
    long = ap length (sym (swap_is xs i j d h k)) ∙ length-set (set xs i (get_or xs j d)) j (get_or xs i d) ∙ length-set xs i (get_or xs j d)

    other : j ≢ i
    other e = n (sym e)

    at_j : get_or (swap xs i j) j d ≡ get_or xs i d
    at_j = ap (λ ys. get_or ys j d) (sym (swap_is xs i j d h k)) ∙ get_or-set_same (set xs i (get_or xs j d)) j (get_or xs i d) d (omega (arith, k, length-set xs i (get_or xs j d)))

    at_i : get_or (swap xs i j) i d ≡ get_or xs j d
    at_i = ap (λ ys. get_or ys i d) (sym (swap_is xs i j d h k)) ∙ get_or-set_other (set xs i (get_or xs j d)) j i (get_or xs i d) d n ∙ get_or-set_same xs i (get_or xs j d) d h

    many : length (set (set (set (set xs i (get_or xs j d)) j (get_or xs i d)) i (get_or xs i d)) j (get_or xs j d)) ≡ length xs
    many = length-set _ j _ ∙ length-set _ i _ ∙ length-set _ j _ ∙ length-set xs i _

    by_index : (v : ℕ) (e : X) → v < length (set (set (set (set xs i (get_or xs j d)) j (get_or xs i d)) i (get_or xs i d)) j (get_or xs j d))
        → get_or (set (set (set (set xs i (get_or xs j d)) j (get_or xs i d)) i (get_or xs i d)) j (get_or xs j d)) v e ≡ get_or xs v e
    by_index v e l = elim (cases_eq v j) [
      | inl p ↦ ap (λ m. get_or (set (set (set (set xs i (get_or xs j d)) j (get_or xs i d)) i (get_or xs i d)) j (get_or xs j d)) m e) p
          ∙ get_or-set_same _ j _ e (omega (arith, k, length-set (set (set xs i (get_or xs j d)) j (get_or xs i d)) i (get_or xs i d), length-set (set xs i (get_or xs j d)) j (get_or xs i d), length-set xs i (get_or xs j d)))
          ∙ get_or_default xs j d e k ∙ ap (λ m. get_or xs m e) (sym p)
      | inr q ↦ get_or-set_other _ j v _ e q ∙ inner v e q
    ]
      where
        inner : (v : ℕ) (e : X) → v ≢ j → get_or (set (set (set xs i (get_or xs j d)) j (get_or xs i d)) i (get_or xs i d)) v e ≡ get_or xs v e
        inner v e q = elim (cases_eq v i) [
          | inl p ↦ ap (λ m. get_or (set (set (set xs i (get_or xs j d)) j (get_or xs i d)) i (get_or xs i d)) m e) p
              ∙ get_or-set_same _ i _ e (omega (arith, h, length-set (set xs i (get_or xs j d)) j (get_or xs i d), length-set xs i (get_or xs j d)))
              ∙ get_or_default xs i d e h ∙ ap (λ m. get_or xs m e) (sym p)
          | inr p ↦ get_or-set_other _ i v _ e p ∙ get_or-set_other _ j v _ e q ∙ get_or-set_other xs i v _ e p
        ]

none_within : (n : ℕ) (l : List ℤ) → length l ≡ 0 → IsWithin n l
none_within n l e k = rw (get_or_past l k (pos 0) (omega (arith, e))) (omega arith)

-- of all variables: row r, solved for c, is the row of c; r has none then; c is substituted in the other rows and in the reduced costs
pub record AreEliminated (r c k d : ℕ) (rows new : List (List ℤ)) (reduced_costs new_costs : List ℤ) : Type 0 where
  pub solved : IsSolvedRow k d (get_or rows r []) (get_or new c [])
  pub emptied : get_or new r [] ≡ []
  pub others : (v : ℕ) → v < length rows → v ≢ r → v ≢ c → IsSubstitutedIfFull (pos d)
      (pos (nat_abs (number_at (get_or rows r []) k))) k (get_or new c []) (get_or rows v []) (get_or new v [])
  pub costs : IsSubstitutedRow (pos d) (pos (nat_abs (number_at (get_or rows r []) k))) k (get_or new c []) reduced_costs new_costs
  pub as_many : length new ≡ length rows

module _ (w : IntegerTableau) (consistent : IsConsistent w) (r c k : ℕ) (b : ℤ) (after : List (List ℤ)) (reduced_costs : List ℤ)
    (at_c : get_or w.positions c InBasis ≡ InColumn k) (at_r : get_or w.positions r InBasis ≡ InBasis) (c_there : c < length w.positions) (r_there : r < length w.positions)
    (pivot : 0 < nat_abs (number_at (get_or w.rows r []) k))
    (ex : AreEliminated r c k w.denominator w.rows after w.reduced_costs reduced_costs) where
  pub apart : c ≢ r
  apart = they_differ w.positions r c k at_c at_r c_there r_there

  abbrev news : List (List ℤ)
  news = swap after r c

  back : swap news r c ≡ after
  back = swap_back after r c [] (omega (arith, ex.as_many, consistent.rows)) (omega (arith, ex.as_many, consistent.rows)) (λ e. apart (sym e))

  news_is : set (set after r (get_or after c [])) c (get_or after r []) ≡ news
  news_is = swap_is after r c [] (omega (arith, ex.as_many, consistent.rows)) (omega (arith, ex.as_many, consistent.rows))

  news_long : length news ≡ length w.positions
  news_long = ap length (sym news_is) ∙ length-set _ c _ ∙ length-set after r _ ∙ ex.as_many ∙ consistent.rows

  news_r : get_or news r [] ≡ get_or after c []
  news_r = ap (λ ys. get_or ys r []) (sym news_is) ∙ get_or-set_other _ c r _ [] (λ e. apart (sym e)) ∙ get_or-set_same after r _ [] (omega (arith, ex.as_many, consistent.rows))

  news_v : (v : ℕ) → v ≢ r → v ≢ c → get_or news v [] ≡ get_or after v []
  news_v v m n = ap (λ ys. get_or ys v []) (sym news_is) ∙ get_or-set_other _ c v _ [] n ∙ get_or-set_other after r v _ [] m

  pub width : k < length w.reduced_costs
  width = consistent.within c k at_c

  pub long_at : (v : ℕ) → v < length w.positions → get_or w.positions v InBasis ≡ InBasis → length (get_or w.rows v []) ≡ length w.reduced_costs
  long_at v l q = consistent.widths v l ∙ ap (row_width (length w.reduced_costs)) q

  pub source_long : length (get_or after c []) ≡ length w.reduced_costs
  source_long = ex.solved.width ∙ long_at r r_there at_r

  pub not_c : (v : ℕ) → get_or w.positions v InBasis ≡ InBasis → v ≢ c
  not_c v q e = let f : InBasis ≡ InColumn k = sym q ∙ ap (λ v. get_or w.positions v InBasis) e ∙ at_c in cc

  pub step_v : (v : ℕ) → v < length w.positions → v ≢ r → get_or w.positions v InBasis ≡ InBasis
      → IsSubstitutedRow (pos w.denominator) (pos (nat_abs (number_at (get_or w.rows r []) k))) k (get_or after c []) (get_or w.rows v []) (get_or after v [])
  step_v v l m q = (ex.others v (omega (arith, l, consistent.rows)) m (not_c v q)).full (long_at v l q ∙ sym source_long)

  -- a row that is not basic is empty
  none_at : (v j : ℕ) → v < length w.positions → get_or w.positions v InBasis ≡ InColumn j → length (get_or w.rows v []) ≡ 0
  none_at v j l q = consistent.widths v l ∙ ap (row_width (length w.reduced_costs)) q

  stays_at : (v j : ℕ) → v < length w.positions → v ≢ r → v ≢ c → get_or w.positions v InBasis ≡ InColumn j → get_or after v [] ≡ get_or w.rows v []
  stays_at v j l m n q = (ex.others v (omega (arith, l, consistent.rows)) m n).other (λ e. omega (arith, e, none_at v j l q, source_long, width))

  small_at : (v : ℕ) → v < length w.positions → (s : Position) → get_or w.positions v InBasis ≡ s → IsWithin (size_limit - 1) (get_or w.rows v [])
  small_at v l InBasis q = elim (cases_eq v r) [
    | inl p ↦ subst (λ u. IsWithin (size_limit - 1) (get_or w.rows u [])) (sym p) ex.solved.before
    | inr p ↦ (step_v v l p q).before
  ]
  small_at v l (InColumn j) q = none_within _ _ (none_at v j l q)

  pub all_small : (v : ℕ) → IsWithin (size_limit - 1) (get_or w.rows v [])
  all_small v = elim (cases_lt v (length w.positions)) [
    | inl l ↦ small_at v l (get_or w.positions v InBasis) refl
    | inr l ↦ none_within _ _ (ap length (get_or_past w.rows v [] (omega (arith, l, consistent.rows))))
  ]

  after_at : (v : ℕ) → v < length w.positions → v ≢ r → v ≢ c → (s : Position) → get_or w.positions v InBasis ≡ s → IsWithin (size_limit - 1) (get_or after v [])
  after_at v l m n InBasis q = (step_v v l m q).after
  after_at v l m n (InColumn j) q = none_within _ _ (ap length (stays_at v j l m n q) ∙ none_at v j l q)

  pub after_small : (v : ℕ) → IsWithin (size_limit - 1) (get_or after v [])
  after_small v = elim (cases_lt v (length w.positions)) [
    | inl l ↦ elim (cases_eq v r) [
      | inl p ↦ none_within _ _ (ap (λ u. length (get_or after u [])) p ∙ ap length ex.emptied)
      | inr m ↦ elim (cases_eq v c) [
        | inl p ↦ subst (λ u. IsWithin (size_limit - 1) (get_or after u [])) (sym p) ex.solved.after
        | inr n ↦ after_at v l m n (get_or w.positions v InBasis) refl
      ]
    ]
    | inr l ↦ none_within _ _ (ap length (get_or_past after v [] (omega (arith, l, ex.as_many, consistent.rows))))
  ]

  -- ---- the values
  abbrev pub positions' : List Position
  positions' = positions_exchanged r c k w.positions

  abbrev pub nonbasic_values' : List ℤ
  nonbasic_values' = nonbasic_values_exchanged r c b w.nonbasic_values

  abbrev pub p : ℤ
  p = number_at (get_or w.rows r []) k

  pub entering_exact : (z : ℤ) → z ≡ quotient_numerator p (number_at w.values r -ℤ p *ℤ number_at w.nonbasic_values c -ℤ pos w.denominator *ℤ b)
      → z ≡ sum_over positions' (get_or after c []) nonbasic_values'
  entering_exact z is =
      is
      ∙ ap (quotient_numerator p) (ap (λ v. v -ℤ p *ℤ number_at w.nonbasic_values c -ℤ pos w.denominator *ℤ b) (consistent.exact r r_there at_r)
      ∙ left (sum_over positions' (set (get_or w.rows r []) k (neg_ℤ (pos w.denominator))) nonbasic_values') (p *ℤ number_at w.nonbasic_values c) (sum_over w.positions (get_or w.rows r []) w.nonbasic_values) (pos w.denominator *ℤ b) (sum_exchanged w.positions r c k (consistent.alone c k at_c) at_c at_r c_there r_there w.nonbasic_values consistent.nonbasic_values b (get_or w.rows r []) (neg_ℤ (pos w.denominator)) (omega (arith, long_at r r_there at_r, width)) ∙ ap (λ z. sum_over w.positions (get_or w.rows r []) w.nonbasic_values +ℤ z) (neg-mul_ℤ (pos w.denominator) b)))
      ∙ sym (sum_solved p (set (get_or w.rows r []) k (neg_ℤ (pos w.denominator))) (get_or after c []) ex.solved.numbers positions' nonbasic_values')
    where
      left : (a x v y : ℤ) → a +ℤ x ≡ v +ℤ neg_ℤ y → v -ℤ x -ℤ y ≡ a
      left a x v y h = omega (arith, ints, h)

  pub other_exact : (v : ℕ) (z entering : ℤ) → v < length w.positions → v ≢ r → get_or w.positions v InBasis ≡ InBasis → entering ≡ sum_over positions' (get_or after c []) nonbasic_values'
      → z *ℤ pos w.denominator ≡ (number_at w.values v -ℤ number_at (get_or w.rows v []) k *ℤ number_at w.nonbasic_values c) *ℤ pos (nat_abs p) +ℤ entering *ℤ number_at (get_or w.rows v []) k
      → z ≡ sum_over positions' (get_or after v []) nonbasic_values'
  other_exact v z entering l m q entering_is is =
      cancel_ℤ _ _ w.denominator consistent.positive
      (is
      ∙ (λ i. (ap (λ y. y -ℤ number_at (get_or w.rows v []) k *ℤ number_at w.nonbasic_values c) (consistent.exact v l q)
      ∙ left _ _ _ b (sum_exchanged w.positions r c k (consistent.alone c k at_c) at_c at_r c_there r_there w.nonbasic_values consistent.nonbasic_values b (get_or w.rows v []) (pos 0) (omega (arith, long_at v l q, width)))) i
      *ℤ pos (nat_abs p) +ℤ entering_is i *ℤ number_at (get_or w.rows v []) k)
      ∙ sym (sum_substituted (pos w.denominator) (pos (nat_abs p)) (number_at (get_or w.rows v []) k) (set (get_or w.rows v []) k (pos 0)) (get_or after c []) (get_or after v []) (step_v v l m q).numbers positions' nonbasic_values'))
    where
      left : (a x v b : ℤ) → a +ℤ x ≡ v +ℤ pos 0 *ℤ b → v -ℤ x ≡ a
      left a x v b h = omega (arith, ints, h)

  -- where a variable is after the pivot
  pub still : (v : ℕ) → v ≢ r → v ≢ c → get_or positions' v InBasis ≡ get_or w.positions v InBasis
  still = other_stays w.positions r c k at_c at_r c_there r_there

  pub now_c : get_or positions' c InBasis ≡ InBasis
  now_c = entering_basic w.positions r c k at_c at_r c_there r_there

  pub now_r : get_or positions' r InBasis ≡ InColumn k
  now_r = leaving_there w.positions r c k at_c at_r c_there r_there

  -- ---- it is consistent
  pub alone_after : (v j : ℕ) → get_or positions' v InBasis ≡ InColumn j → IsColumnOf positions' v j
  alone_after = apart_after w.positions r c k at_c at_r c_there r_there consistent.alone

  pub within_after : (v j : ℕ) → get_or positions' v InBasis ≡ InColumn j → j < length reduced_costs
  within_after v j q = elim (in_column w.positions r c k at_c at_r c_there r_there v j q) [
    | inl a ↦ omega (arith, a.1, width, ex.costs.width)
    | inr a ↦ omega (arith, consistent.within v j a.2, ex.costs.width)
  ]

  length_at : (v : ℕ) → v < length w.positions → v ≢ r → v ≢ c → (s : Position) → get_or w.positions v InBasis ≡ s → length (get_or after v []) ≡ row_width (length reduced_costs) s
  length_at v l m n InBasis q = (step_v v l m q).width ∙ long_at v l q ∙ sym ex.costs.width
  length_at v l m n (InColumn j) q = ap length (stays_at v j l m n q) ∙ none_at v j l q

  lengths_after : (v : ℕ) → v < length w.positions → length (get_or after v []) ≡ row_width (length reduced_costs) (get_or positions' v InBasis)
  lengths_after v l = elim (cases_eq v c) [
    | inl e ↦ ap (λ u. length (get_or after u [])) e ∙ source_long ∙ sym ex.costs.width ∙ ap (row_width (length reduced_costs)) (sym now_c ∙ ap (λ u. get_or positions' u InBasis) (sym e))
    | inr n ↦ elim (cases_eq v r) [
      | inl e ↦ ap (λ u. length (get_or after u [])) e ∙ ap length ex.emptied ∙ ap (row_width (length reduced_costs)) (sym now_r ∙ ap (λ u. get_or positions' u InBasis) (sym e))
      | inr m ↦ length_at v l m n (get_or w.positions v InBasis) refl ∙ ap (row_width (length reduced_costs)) (sym (still v m n))
    ]
  ]

  pub positions_long : length positions' ≡ length w.positions
  positions_long = length-set (set w.positions r (InColumn k)) c InBasis ∙ length-set w.positions r (InColumn k)

  -- ---- with the values
  module _ (direction : Direction) (values : List ℤ) (values_many : length values ≡ length w.values)
      (exact_after : (v : ℕ) → v < length w.positions → get_or positions' v InBasis ≡ InBasis → number_at values v ≡ sum_over positions' (get_or after v []) nonbasic_values')
      (violated : violation (get_or (map fraction_bounds w.bounds) r unbounded) (frac (number_at w.values r) w.denominator) ≡ Some direction)
      (bound : violated_bound direction (get_or (map fraction_bounds w.bounds) r unbounded) ≡ whole b)
      (total_small : total_size nonbasic_values' < size_limit) where
    is_pivot : IsExactPivot w r c k direction b news reduced_costs values
    is_pivot = record {
      alone = consistent.alone c k at_c;
      at_c = at_c;
      at_r = at_r;
      c_there = c_there;
      r_there = r_there;
      positive = consistent.positive;
      denominator_small = consistent.denominator_small;
      as_many_rows = consistent.rows;
      as_many_news = news_long;
      as_many_at_upper = consistent.at_upper;
      as_many_nonbasic_values = consistent.nonbasic_values;
      as_many_values = consistent.values;
      as_many_after = values_many ∙ consistent.values;
      long = λ v l q. omega (arith, width, long_at v l q);
      small = all_small;
      new_small = λ v. subst (λ ys. IsWithin (size_limit - 1) (get_or ys v [])) (sym back) (after_small v);
      source_small = subst (IsWithin (size_limit - 1)) (sym news_r) ex.solved.after;
      pivot = pivot;
      turn = subst (IsSolvedFor p k w.denominator (get_or w.rows r [])) (sym news_r) ex.solved.numbers;
      steps = λ v l m q. let h = (step_v v l m q).numbers in rw (news_r, news_v v m (not_c v q)) h;
      cost_long = width;
      cost_small = ex.costs.before;
      cost_step = rw news_r ex.costs.numbers;
      violated = violated;
      bound = bound;
      total_small = total_small;
      exact = λ v l q. exact_after v l q ∙ ap (λ ys. sum_over positions' (get_or ys v []) nonbasic_values') (sym back);
    }

    -- the tableau that the pivot makes
    abbrev pub made : List (List ℤ) → IntegerTableau
    made ls = record w {
      positions = positions';
      at_upper = set (set w.at_upper r (is_upper direction)) c false;
      nonbasic_values = nonbasic_values';
      rows = ls;
      reduced_costs = reduced_costs;
      values = values;
      denominator = nat_abs p;
      pivots = w.pivots + 1;
    }

    pub pivot_is : (columns : ℕ) (numbers : List ℕ) → pivoted r c (tableau_of columns numbers w) ≡ Some (tableau_of columns numbers (made after))
    pivot_is columns numbers = pivoted_is columns numbers w r c k direction b news reduced_costs values is_pivot ∙ ap (λ ls. Some (tableau_of columns numbers (made ls))) back

    pub pivot_consistent : IsConsistent (made after)
    pivot_consistent = record {
      positive = pivot;
      bounds = consistent.bounds ∙ sym positions_long;
      at_upper = length-set (set w.at_upper r (is_upper direction)) c false ∙ length-set w.at_upper r (is_upper direction) ∙ consistent.at_upper ∙ sym positions_long;
      nonbasic_values = length-set (set w.nonbasic_values r b) c (pos 0) ∙ length-set w.nonbasic_values r b ∙ consistent.nonbasic_values ∙ sym positions_long;
      rows = ex.as_many ∙ consistent.rows ∙ sym positions_long;
      values = values_many ∙ consistent.values ∙ sym positions_long;
      alone = alone_after;
      within = within_after;
      widths = λ v l. lengths_after v (omega (arith, l, positions_long));
      exact = λ v l q. exact_after v (omega (arith, l, positions_long)) q;
      fits = λ v l q. value_fits (get_or after v []) positions' nonbasic_values' (number_at values v) (after_small v) total_small (exact_after v (omega (arith, l, positions_long)) q);
      small = total_small;
      denominator_small = omega (arith, all_small r k);
      rows_within = after_small;
      costs_within = ex.costs.after;
    }
