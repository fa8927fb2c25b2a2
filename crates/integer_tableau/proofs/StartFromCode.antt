-- The start, from what the code's parts say.
use Rattle.std.proofs.Common.{◌≡◌, ℕ, zero, suc, ◌+◌, ◌-◌, ◌^◌, ◌<◌, ◌≤◌, arith, refl, ap, sym, ◌∙◌, subst, Bool, true, false, Option, Some, None, List, [], ◌∷◌, ◌++◌, length, get_or, drop, replicate, inl, inr}
use Rattle.std.specs.Prelude.{ℤ, pos, nat_abs, nat_eq, int_lt, ◌+ℤ◌, ◌*ℤ◌, map, if◌then◌else◌}
use Rattle.std.specs.Option.{unwrap_or}
use Rattle.std.proofs.Math.Seq.{drop-append_seam}
use Rattle.std.proofs.lemmas.Int.{ints}
use Rattle.std.proofs.lemmas.Bool.{cases_lt}
use Rattle.std.proofs.lemmas.Bool.Decides.{nat_tests}
use Rattle.std.proofs.lemmas.List.{get_or_default, get_or_past, length-replicate, same_lists}
use Rattle.integer_tableau.proofs.BasicColumns.{none_basic}
use Rattle.integer_tableau.specs.BasicColumns.{basic_from}
use Rattle.integer_tableau.proofs.Combining.{length-numbers_from, number_at-numbers_from}
use Rattle.integer_tableau.proofs.Expanded.{row_value, value_of_row, values_many, which}
use Rattle.integer_tableau.proofs.Starting.{column_number, length_columns, nonbasic_values_many, position_of_column, positions_many, start_consistent, start_tableau_is}
use Rattle.integer_tableau.specs.Combined.{IsCompact, bound_size, combined, combined_row, expanded, expanded_values, rows_behind, size_of, total_bound_size}
use Rattle.integer_tableau.specs.Consistent.{IsConsistent, row_width}
use Rattle.integer_tableau.specs.IntegerProgram.{fraction_program, CanStart}
use Rattle.integer_tableau.specs.IntegerTableau.{IntegerTableau, of_parts, tableau_of}
use Rattle.integer_tableau.specs.Numbers.{IsWithin, number_at, total_size}
use Rattle.integer_tableau.specs.Range.{size_limit}
use Rattle.integer_tableau.specs.Positions.{AreNonbasic, IsColumnOf, sum_over}
use Rattle.integer_tableau.specs.Start.{columns_from, is_negative, start_number, start_numbers}
use Rattle.integer_tableau.proofs.Starting.{start_tableau}
use Rattle.integer_tableau.specs.declared.integer_bounds.IntegerBounds.{IntegerBounds}
use Rattle.integer_tableau.specs.declared.position.Position.{Position}
use Rattle.integer_tableau.specs.declared.position.Position.TheVariants.{InBasis, InColumn}
use Rattle.integer_tableau.proofs.Expanded.{bounded_total}
use Rattle.tableau.specs.Start.{started}

pub columns_more : (j n : ℕ) → columns_from j (n + 1) ≡ columns_from j n ++ (InColumn (j + n) ∷ [])
columns_more j n = let q : n + 1 ≡ suc n = omega arith in ap (columns_from j) q ∙ step j n
  where
    step : (j n : ℕ) → columns_from j (suc n) ≡ columns_from j n ++ (InColumn (j + n) ∷ [])
    step j zero = ap (λ k. InColumn k ∷ []) (omega arith)
    step j (suc n) = ap (λ ss. InColumn j ∷ ss) (step (suc j) n ∙ ap (λ k. columns_from (suc j) n ++ (InColumn k ∷ [])) (omega arith))

-- ---- the rows of rows' variables are those of the linear program
abbrev no_rows : ℕ → List (List ℤ)
no_rows n = replicate n []

none_many : (n : ℕ) → length (no_rows n) ≡ n
none_many n = length-replicate n []

-- no column before the first one says anything
combined_before : (a : List ℤ) (j k : ℕ) (ss : List Position) → k < j → combined 1 a (columns_from j (length a) ++ ss) (no_rows (length a)) k ≡ pos 0
combined_before [] j k ss l = refl
combined_before (x ∷ a) j k ss l = (λ i. x *ℤ (if other i then pos 1 else pos 0) +ℤ combined_before a (suc j) k ss (omega arith) i) ∙ none x
  where
    other : nat_eq k j ≡ false
    other = let n : k ≡ j → ⊥ = omega arith in grind (arith, nat_tests)

    none : (x : ℤ) → x *ℤ pos 0 +ℤ pos 0 ≡ pos 0
    none x = omega (arith, ints)

combined_start : (a : List ℤ) (j i k : ℕ) (ss : List Position) → k ≡ j + i → combined 1 a (columns_from j (length a) ++ ss) (no_rows (length a)) k ≡ number_at a i
combined_start [] j i k ss e = refl
combined_start (x ∷ a) j zero k ss e = (λ t. x *ℤ (if same t then pos 1 else pos 0) +ℤ combined_before a (suc j) k ss (omega arith) t) ∙ one x
  where
    same : nat_eq k j ≡ true
    same = let n : k ≡ j = omega arith in grind (arith, nat_tests)

    one : (x : ℤ) → x *ℤ pos 1 +ℤ pos 0 ≡ x
    one x = omega (arith, ints)
combined_start (x ∷ a) j (suc i) k ss e = (λ t. x *ℤ (if other t then pos 1 else pos 0) +ℤ combined_start a (suc j) i k ss (omega arith) t) ∙ none x (number_at a i)
  where
    other : nat_eq k j ≡ false
    other = let n : k ≡ j → ⊥ = omega arith in grind (arith, nat_tests)

    none : (x y : ℤ) → x *ℤ pos 0 +ℤ y ≡ y
    none x y = omega (arith, ints)

row_at_start : (a : List ℤ) (n : ℕ) (ss : List Position) → length a ≡ n → combined_row 1 (columns_from 0 n ++ ss) (no_rows n) a ≡ a
row_at_start a n ss e = subst (λ n. combined_row 1 (columns_from 0 n ++ ss) (no_rows n) a ≡ a) e (same_lists _ _ long (λ j z m.
    get_or_default (combined_row 1 (columns_from 0 (length a) ++ ss) (no_rows (length a)) a) j z (pos 0) m
    ∙ number_at-numbers_from 0 (length (no_rows (length a))) (combined 1 a (columns_from 0 (length a) ++ ss) (no_rows (length a))) j (omega (arith, m, length-numbers_from 0 (length (no_rows (length a))) (combined 1 a (columns_from 0 (length a) ++ ss) (no_rows (length a)))))
    ∙ combined_start a 0 j (0 + j) ss refl
    ∙ sym (get_or_default a j z (pos 0) (omega (arith, m, long)))))
  where
    long : length (combined_row 1 (columns_from 0 (length a) ++ ss) (no_rows (length a)) a) ≡ length a
    long = length-numbers_from 0 (length (no_rows (length a))) (combined 1 a (columns_from 0 (length a) ++ ss) (no_rows (length a))) ∙ none_many (length a)

rows_at_start : (f : List ℤ → List ℤ) (ps : List (List ℤ)) → ((i : ℕ) → i < length ps → f (get_or ps i []) ≡ get_or ps i []) → rows_behind f (replicate (length ps) InBasis) ps ≡ ps
rows_at_start f [] h = refl
rows_at_start f (a ∷ ps) h = λ i. h zero (omega arith) i ∷ rows_at_start f ps (λ j l. h (suc j) (omega arith)) i

-- ---- sizes
start_number_size : (c : ℤ) (b : IntegerBounds) → nat_abs (start_number c b) ≤ bound_size b
start_number_size c b = by_test (int_lt c (pos 0))
  where
    end : (o : Option ℤ) → nat_abs (unwrap_or o (pos 0)) ≤ size_of o
    end None = omega arith
    end (Some z) = omega arith

    by_test : (t : Bool) → nat_abs (if t then unwrap_or b.upper (pos 0) else unwrap_or b.lower (pos 0)) ≤ bound_size b
    by_test true = omega (arith, end b.upper)
    by_test false = omega (arith, end b.lower)

zeros_at : (m v : ℕ) → number_at (replicate m (pos 0)) v ≡ pos 0
zeros_at zero v = refl
zeros_at (suc m) zero = refl
zeros_at (suc m) (suc v) = zeros_at m v

start_bounded : (cs : List ℤ) (bs : List IntegerBounds) (m v : ℕ) → nat_abs (number_at (start_numbers cs bs ++ replicate m (pos 0)) v) ≤ bound_size (get_or bs v (record { lower = None; upper = None }))
start_bounded [] bs m v = omega (arith, ap nat_abs (zeros_at m v))
start_bounded (c ∷ cs) [] m v = omega (arith, ap nat_abs (zeros_at m v))
start_bounded (c ∷ cs) (b ∷ bs) m zero = start_number_size c b
start_bounded (c ∷ cs) (b ∷ bs) m (suc v) = start_bounded cs bs m v

-- ---- the whole start
module _ (program_rows : List (List ℤ)) (weight reach : ℕ) (reduced_costs : List ℤ) (bounds : List IntegerBounds) (ready : CanStart program_rows weight reduced_costs bounds)
    (reached : (j : ℕ) → j < length reduced_costs → bound_size (get_or bounds j (record { lower = None; upper = None })) ≤ reach) (near : reach < 2 ^ 63) (room : total_bound_size bounds < size_limit) where
  abbrev n : ℕ
  n = length reduced_costs

  abbrev m : ℕ
  m = length program_rows

  abbrev ss : List Position
  ss = columns_from 0 n ++ replicate m InBasis

  abbrev xs : List ℤ
  xs = start_numbers reduced_costs bounds ++ replicate m (pos 0)

  -- what is kept
  abbrev pub first : IntegerTableau
  first = record {
    bounds = bounds;
    positions = ss;
    at_upper = map is_negative reduced_costs ++ replicate m false;
    nonbasic_values = xs;
    rows = no_rows n;
    reduced_costs = reduced_costs;
    values = replicate n (pos 0);
    denominator = 1;
    pivots = 0;
  }

  abbrev all_values : List ℤ
  all_values = expanded_values 1 program_rows ss xs (replicate n (pos 0))

  lengths : length ss ≡ n + m
  lengths = positions_many program_rows reduced_costs bounds [] ready.rows_full

  nonbasic_lengths : length xs ≡ n + m
  nonbasic_lengths = nonbasic_values_many program_rows reduced_costs bounds [] ready.rows_full ready.bounds_there

  behind : drop (length (no_rows n)) ss ≡ replicate m InBasis
  behind = ap (λ k. drop k ss) (none_many n ∙ sym (length_columns 0 n)) ∙ drop-append_seam (columns_from 0 n) (replicate m InBasis)

  same : expanded program_rows first ≡ start_tableau program_rows reduced_costs bounds all_values
  same = λ i. record first {
    rows = no_rows n ++ (ap (λ ss'. rows_behind (combined_row 1 ss (no_rows n)) ss' program_rows) behind
        ∙ rows_at_start (combined_row 1 ss (no_rows n)) program_rows (λ i l. row_at_start (get_or program_rows i []) n (replicate m InBasis) (ready.rows_full i l))) i;
    values = all_values;
  }

  positions_alone : (v k : ℕ) → get_or ss v InBasis ≡ InColumn k → IsColumnOf ss v k
  positions_alone v k h u g = omega (arith, (column_number 0 n m v k h).0, (column_number 0 n m u k g).0)

  columns_within : (v k : ℕ) → get_or ss v InBasis ≡ InColumn k → k < length (no_rows n)
  columns_within v k h = omega (arith, (column_number 0 n m v k h).0, (column_number 0 n m v k h).1, none_many n)

  empty_at : (n v : ℕ) → get_or (no_rows n) v [] ≡ []
  empty_at zero v = refl
  empty_at (suc n) zero = refl
  empty_at (suc n) (suc v) = empty_at n v

  exact_row : (i : ℕ) → i < m → number_at all_values (n + i) ≡ sum_over ss (get_or program_rows i []) xs
  exact_row i l =
      ap (λ k. number_at all_values (k + i)) (sym (length-replicate n (pos 0)))
      ∙ value_of_row 1 program_rows ss xs (replicate n (pos 0)) i l
      ∙ row_value 1 ss (no_rows n) xs (replicate n (pos 0)) (omega (arith, lengths, none_many n)) (nonbasic_lengths ∙ sym lengths) (length-replicate n (pos 0) ∙ sym (none_many n))
      positions_alone columns_within
      (λ j h. ap length (empty_at n j) ∙ ap (row_width (length (no_rows n))) (sym (position_of_column 0 n j (replicate m InBasis) (omega (arith, h, none_many n)))))
      (λ j h q. absurd (let f : InColumn (0 + j) ≡ InBasis = sym (position_of_column 0 n j (replicate m InBasis) (omega (arith, h, none_many n))) ∙ q in cc))
      (get_or program_rows i []) (ready.rows_full i l ∙ sym (none_many n))
      ∙ ap (λ row. sum_over ss row xs) (row_at_start (get_or program_rows i []) n (replicate m InBasis) (ready.rows_full i l))

  row_behind : (n i : ℕ) → get_or (no_rows n ++ program_rows) (n + i) [] ≡ get_or program_rows i []
  row_behind zero i = ap (λ k. get_or program_rows k []) (omega arith)
  row_behind (suc n) i = ap (λ k. get_or (no_rows (suc n) ++ program_rows) k []) (let q : suc n + i ≡ suc (n + i) = omega arith in q) ∙ row_behind n i

  exact_all : (v : ℕ) → v < length ss → get_or ss v InBasis ≡ InBasis → number_at all_values v ≡ sum_over ss (get_or (no_rows n ++ program_rows) v []) xs
  exact_all v l q = elim (which n m v (omega (arith, l, lengths))) [
    | inl h ↦ absurd (let f : InColumn (0 + v) ≡ InBasis = sym (position_of_column 0 n v (replicate m InBasis) h) ∙ q in cc)
    | inr z ↦ ap (number_at all_values) z.2 ∙ exact_row z.0 z.1 ∙ ap (λ row. sum_over ss row xs) (sym (ap (λ v. get_or (no_rows n ++ program_rows) v []) z.2 ∙ row_behind n z.0))
  ]

  all_many : length all_values ≡ n + m
  all_many = values_many 1 program_rows ss xs (replicate n (pos 0)) ∙ ap (λ k. k + m) (length-replicate n (pos 0))

  small_from : (v : ℕ) (ls : List (List ℤ)) → ((i : ℕ) → i < length ls → IsWithin (size_limit - 1) (get_or ls i [])) → IsWithin (size_limit - 1) (get_or ls v [])
  small_from v ls h = elim (cases_lt v (length ls)) [
    | inl l ↦ h v l
    | inr l ↦ subst (IsWithin (size_limit - 1)) (sym (get_or_past ls v [] l)) (λ k. omega arith)
  ]

  small_at : (n v : ℕ) → IsWithin (size_limit - 1) (get_or (no_rows n ++ program_rows) v [])
  small_at zero v = small_from v program_rows ready.rows_within
  small_at (suc n) zero = λ k. omega arith
  small_at (suc n) (suc v) = small_at n v

  total_small : total_size xs < size_limit
  total_small = omega (arith, room, bounded_total bounds xs (nonbasic_lengths ∙ sym ready.bounds_there) (λ v l. start_bounded reduced_costs bounds m v))

  first_compact : IsCompact program_rows weight reach first
  first_compact = record {
    consistent = subst IsConsistent (sym same) (start_consistent program_rows reduced_costs bounds all_values ready.rows_full ready.bounds_there all_many exact_all (small_at n) ready.costs_within total_small);
    costs = sym (none_many n);
    values = length-replicate n (pos 0) ∙ sym (none_many n);
    variables = lengths ∙ ap (λ k. k + m) (sym (none_many n));
    full = λ i l. ready.rows_full i l ∙ sym (none_many n);
    units = λ i k l q. absurd (omega (arith, (column_number 0 n m (length (no_rows n) + i) k q).1, none_many n));
    weights = ready.weights;
    light = ready.light;
    reached = λ j l. reached j (omega (arith, l, none_many n));
    near = omega (arith, near);
    bounded = λ v l. start_bounded reduced_costs bounds m v;
    room = room;
  }

  first_is : (numbers : List ℕ) → started (fraction_program program_rows reduced_costs bounds numbers) ≡ Some (tableau_of (length (no_rows n)) numbers (expanded program_rows first))
  first_is numbers =
      start_tableau_is program_rows reduced_costs bounds all_values ready.rows_full ready.bounds_there all_many exact_all numbers (small_at n) total_small
      ∙ (λ i. Some (tableau_of (sym (none_many n) i) numbers (sym same i)))

  module _ (positions : List Position) (at_upper : List Bool) (nonbasic_values : List ℤ) (rows : List (List ℤ)) (costs values : List ℤ) (d : ℤ) (own_rows : List (List ℤ))
      (positions_are : positions ≡ ss) (at_upper_are : at_upper ≡ map is_negative reduced_costs ++ replicate m false) (nonbasic_values_are : nonbasic_values ≡ xs)
      (rows_are : rows ≡ no_rows n) (costs_are : costs ≡ reduced_costs) (values_are : values ≡ replicate n (pos 0)) (d_is : d ≡ pos 1) (own_rows_are : own_rows ≡ program_rows) where
    parts_are : first ≡ of_parts bounds positions at_upper nonbasic_values rows costs values d 0
    parts_are = λ i. of_parts bounds (sym positions_are i) (sym at_upper_are i) (sym nonbasic_values_are i) (sym rows_are i) (sym costs_are i) (sym values_are i) (sym d_is i) 0

    pub start_compact : IsCompact own_rows weight reach (of_parts bounds positions at_upper nonbasic_values rows costs values d 0)
    start_compact = subst (λ ps. IsCompact ps weight reach (of_parts bounds positions at_upper nonbasic_values rows costs values d 0)) (sym own_rows_are) (subst (IsCompact program_rows weight reach) parts_are first_compact)

    pub start_is : (numbers : List ℕ) → started (fraction_program program_rows reduced_costs bounds numbers)
        ≡ Some (tableau_of (length rows) numbers (expanded own_rows (of_parts bounds positions at_upper nonbasic_values rows costs values d 0)))
    start_is numbers = first_is numbers ∙ (λ i. Some (tableau_of (length (sym rows_are i)) numbers (expanded (sym own_rows_are i) (parts_are i))))

-- ---- the columns' variables are the columns themselves
pub start_nonbasic_are : (n m : ℕ) (ss : List Position) (nonbasic : List ℕ) → ss ≡ columns_from 0 n ++ replicate m InBasis → length nonbasic ≡ n → ((k : ℕ) → k < n → get_or nonbasic k 0 ≡ k) → AreNonbasic ss nonbasic
start_nonbasic_are n m ss nonbasic e w each = subst (λ ss. AreNonbasic ss nonbasic) (sym e) (record {
  there = λ k l.
      let b : k < n = omega (arith, l, w) in
      let q : 0 + k ≡ k = omega arith in
      ap (λ v. get_or (columns_from 0 n ++ replicate m InBasis) v InBasis) (each k b) ∙ position_of_column 0 n k (replicate m InBasis) b ∙ ap InColumn q;
  all = λ v k q.
      let h = column_number 0 n m v k q in
      let f : k ≡ v = omega (arith, h.0) in
      let b : k < n = omega (arith, h.1, f) in
      (omega (arith, b, w), each k b ∙ f);
})

-- no column is basic
pub start_basic_are : (n m k : ℕ) (ss : List Position) → ss ≡ columns_from 0 n ++ replicate m InBasis → k ≡ n → [] ≡ basic_from 0 k ss
start_basic_are n m k ss e w = sym (none_basic 0 k ss (λ v l _ q.
    let f : InColumn (0 + v) ≡ InBasis = sym (position_of_column 0 n v (replicate m InBasis) (omega (arith, l, w))) ∙ ap (λ ss. get_or ss v InBasis) (sym e) ∙ q in cc))
