-- Lemmas: within the limits of a problem the start is never cramped.
use Rattle.std.proofs.Common.{◌≡◌, ℕ, zero, suc, ◌+◌, ◌-◌, ◌*◌, ◌^◌, ◌<◌, ◌≤◌, arith, refl, ap, sym, ◌∙◌, subst, Bool, true, false, Option, Some, List, [], ◌∷◌, ◌++◌, length, get_or, map, replicate, inl, inr}
use Rattle.std.specs.Prelude.{◌⊎◌, ℤ, pos, nat_abs, eqb, cond, int_lt, if◌then◌else◌, All}
use Rattle.std.specs.Option.{option_and_then, option_map}
use Rattle.std.proofs.Math.Nat.{one-dvd}
use Rattle.std.proofs.lemmas.Int.{ints}
use Rattle.std.proofs.lemmas.Bool.{eqb-true, cases_lt}
use Rattle.std.proofs.lemmas.List.{length-map, length-append, length-replicate, get_or-map, get_or-append_right}
use Rattle.std.proofs.lemmas.List.Elements.{All-nil, All-cons, All-head, All-tail, All-append, All-replicate, All-weaker, All-get_or}
use Rattle.fraction.specs.Bounds.{Within}
use Rattle.fraction.specs.Checked.{add_checked, dot_checked, dot_from}
use Rattle.fraction.specs.Lemmas.Bounds.{Within-*ℚ, Within-+ℚ, add_fits_within, add_is, dot_value, mul_fits_within, mul_is, whole_parts}
use Rattle.fraction.specs.Lemmas.Rational.{+ℚ_assoc, zero-+ℚ}
use Rattle.fraction.specs.Lemmas.Ring.{+ℚ-zero}
use Rattle.fraction.specs.Rational.{whole, ℚ, ◌*ℚ◌, ◌+ℚ◌}
use Rattle.problem.specs.Limited.{IsLimited, IsLimitedRow, IsModestSpan}
use Rattle.problem.specs.Linear.{Terms, coefficient}
use Rattle.problem.specs.Rows.{Rows}
use Rattle.fraction.specs.Whole.{IsWhole}
use Rattle.problem.specs.Modest.{IsModest}
use Rattle.problem.specs.Problem.{Problem}
use Rattle.problem.specs.Rising.{AreRising, RiseFrom}
use Rattle.problem.specs.declared.row.Row.{Row}
use Rattle.problem.specs.Limits.{most_columns, most_rows, most_cuts, largest_bound, finest, largest_cut_coefficient}
use Rattle.problem_box.specs.declared.span.Span.{Span}
use Rattle.tableau.specs.Elimination.{zero_ℚ}
use Rattle.tableau.specs.Invariants.{IsNonbasic}
use Rattle.tableau.specs.Lemmas.Started.{basics_read, left_read, length-coefficients, no_row, start_nonbasic}
use Rattle.tableau.specs.LinearProgram.{LinearProgram, coefficients_from, program_of, relaxation, row_bounds, row_numbers, span_bounds}
use Rattle.tableau.specs.WellFormed.{IsCutRow}
use Rattle.tableau.specs.Pivot.{computed_value, computed_values}
use Rattle.tableau.specs.Start.{padded, slack_basis, start_status, start_value, start_values, started}
use Rattle.tableau.specs.declared.bounds.Bounds.{Bounds}
use Rattle.tableau.specs.declared.status.BasisStatus.{BasisStatus}
use Rattle.tableau.specs.declared.status.BasisStatus.TheVariants.{AtLower, AtUpper, Basic}
use Rattle.problem.specs.Directions.{aim}

-- ---- sums that fit
-- a whole number of size at most b
pub record IsWholeTo (b : ℕ) (y : ℚ) : Type 0 where
  pub whole_number : ℤ
  pub is : y ≡ whole whole_number
  pub size : nat_abs whole_number ≤ b

pub zero_within : (n a : ℕ) → Within n a zero_ℚ
zero_within n a = record { divides = rw (whole_parts (pos 0)).1 (one-dvd n); size = rw (whole_parts (pos 0)).0 (omega arith) }

pub zero_to : (b : ℕ) → IsWholeTo b zero_ℚ
zero_to b = record { whole_number = pos 0; is = refl; size = omega (arith, ints) }

-- multiples of one over n of size at most a over n, times whole numbers of size at most b
pub dot_is : (n a b c m : ℕ) (s : ℚ) (xs ys : List ℚ) → 0 < n → n < 2 ^ 127 → a * b ≡ c → Within n m s → m + length xs * c < 2 ^ 127 → All (Within n a) xs → All (IsWholeTo b) ys
    → dot_from s xs ys ≡ Some (s +ℚ dot_value xs ys)
dot_is n a b c m s [] ys o p e w l h k = ap Some (sym (+ℚ-zero s))
dot_is n a b c m s (x ∷ xs) [] o p e w l h k = ap Some (sym (+ℚ-zero s))
dot_is n a b c m s (x ∷ xs) (y ∷ ys) o p e w l h k =
    let wx = All-head (Within n a) x xs h in
    let wy = All-head (IsWholeTo b) y ys k in
    let step : dot_from s (x ∷ xs) (whole wy.whole_number ∷ ys) ≡ Some (s +ℚ dot_value (x ∷ xs) (whole wy.whole_number ∷ ys)) =
    at wy.whole_number wy.size wx (λ s w. dot_is n a b c (m + c) s xs ys o p e w (omega arith) (All-tail (Within n a) x xs h) (All-tail (IsWholeTo b) y ys k)) in
    subst (λ y. dot_from s (x ∷ xs) (y ∷ ys) ≡ Some (s +ℚ dot_value (x ∷ xs) (y ∷ ys))) (sym wy.is) step
  where
    at : (z : ℤ) → nat_abs z ≤ b → Within n a x → ((s : ℚ) → Within n (m + c) s → dot_from s xs ys ≡ Some (s +ℚ dot_value xs ys))
        → dot_from s (x ∷ xs) (whole z ∷ ys) ≡ Some (s +ℚ dot_value (x ∷ xs) (whole z ∷ ys))
    at z small wx rest =
        let small_product : a * b < 2 ^ 127 = omega (arith, e, l) in
        let product : Within n c (x *ℚ whole z) = subst (λ c. Within n c (x *ℚ whole z)) e (Within-*ℚ x z n a b o wx small) in
        let fits = mul_is x (whole z) (mul_fits_within x z n a b o p small_product wx small) in
        let adds = add_is s (x *ℚ whole z) (add_fits_within s (x *ℚ whole z) n m c o p (omega arith) w product) in
        ap (option_and_then (λ q. option_and_then (λ t. dot_from t xs ys) (add_checked s q))) fits ∙ ap (option_and_then (λ t. dot_from t xs ys)) adds
        ∙ rest (s +ℚ x *ℚ whole z) (Within-+ℚ s (x *ℚ whole z) n m c o w product) ∙ ap Some (+ℚ_assoc s _ _)

-- ---- values that are there
pub record IsThere {A : Type 0} (o : Option A) : Type 0 where
  pub it : A
  pub is : o ≡ Some it

all_valued : (xs : List ℚ) (ss : List BasisStatus) (qs : List ℚ) (rows : List (List ℚ)) → ((i : ℕ) → i < length ss → IsThere (computed_value xs (get_or ss i Basic) (get_or qs i zero_ℚ) (get_or rows i []))) → IsThere (computed_values xs ss qs rows)
all_valued xs [] qs rows h = record { it = []; is = refl }
all_valued xs (s ∷ ss) [] rows h = record { it = []; is = refl }
all_valued xs (s ∷ ss) (q ∷ qs) [] h = record { it = []; is = refl }
all_valued xs (s ∷ ss) (q ∷ qs) (row ∷ rows) h =
    let a = h 0 (omega arith) in
    let b = all_valued xs ss qs rows (λ i l. h (suc i) (omega arith)) in
    record { it = a.it ∷ b.it; is = ap (option_and_then (λ v. option_map (λ vs. v ∷ vs) (computed_values xs ss qs rows))) a.is ∙ ap (option_map (λ vs. a.it ∷ vs)) b.is }

there_map : {A B : Type 0} (f : A → B) (o : Option A) → IsThere o → IsThere (option_map f o)
there_map f o h = record { it = f h.it; is = ap (option_map f) h.is }

-- ---- rows of small numbers
-- modest coefficients, or whole numbers of at most the size of a cut's
pub record HasSmallNumbers (r : Row) : Type 0 where
  pub rising : AreRising r.terms
  pub small : All (λ t. IsModest t.1) r.terms ⊎ All (λ t. Within 1 largest_cut_coefficient t.1) r.terms

pub before_first : (j k : ℕ) (ts : List (ℕ × ℚ)) → j < k → RiseFrom k ts → coefficient ts j ≡ zero_ℚ
before_first j k [] l h = refl
before_first j k (t ∷ ts) l h = other (before_first j (suc t.0) ts (omega (arith, h.0)) h.1) (eqb t.0 j) refl
  where
    other : coefficient ts j ≡ zero_ℚ → (b : Bool) → eqb t.0 j ≡ b → cond b t.1 zero_ℚ +ℚ coefficient ts j ≡ zero_ℚ
    other z true e = absurd (omega (arith, eqb-true t.0 j e, h.0))
    other z false e = zero-+ℚ _ ∙ z

-- the coefficients of rising terms are 0 or stand in a term
coefficient_holds : (P : ℚ → Type 0) (k : ℕ) (ts : List (ℕ × ℚ)) (j : ℕ) → P zero_ℚ → RiseFrom k ts → All (λ t. P t.1) ts → P (coefficient ts j)
coefficient_holds P k [] j z r h = z
coefficient_holds P k (t ∷ ts) j z r h =
    at (eqb t.0 j) refl (coefficient_holds P (suc t.0) ts j z r.1 (All-tail (λ (t : ℕ × ℚ). P t.1) t ts h))
  where
    at : (b : Bool) → eqb t.0 j ≡ b → P (coefficient ts j) → P (cond b t.1 zero_ℚ +ℚ coefficient ts j)
    at true e q = subst P (sym (ap (λ v. t.1 +ℚ v) (before_first j (suc t.0) ts (omega (arith, eqb-true t.0 j e)) r.1) ∙ +ℚ-zero t.1)) (All-head (λ (t : ℕ × ℚ). P t.1) t ts h)
    at false e q = subst P (sym (zero-+ℚ _)) q

coefficients_hold : (P : ℚ → Type 0) (ts : List (ℕ × ℚ)) (j k : ℕ) → ((j : ℕ) → P (coefficient ts j)) → All P (coefficients_from j k ts)
coefficients_hold P ts j zero h = All-nil P
coefficients_hold P ts j (suc k) h = All-cons P (coefficient ts j) (coefficients_from (j + 1) k ts) (h j) (coefficients_hold P ts (j + 1) k h)

padded_hold : (P : ℚ → Type 0) (r : Row) (n m : ℕ) → P zero_ℚ → AreRising r.terms → All (λ t. P t.1) r.terms → All P (padded m (coefficients_from 0 n r.terms))
padded_hold P r n m z k h =
    All-append P (coefficients_from 0 n r.terms) (replicate m zero_ℚ) (coefficients_hold P r.terms 0 n (λ j. coefficient_holds P 0 r.terms j z k h)) (All-replicate P m zero_ℚ z)

row_sum : (r : Row) (n m : ℕ) (ys : List ℚ) → n ≤ most_columns → m ≤ most_rows + most_cuts → HasSmallNumbers r → All (IsWholeTo largest_bound) ys → IsThere (dot_checked (padded m (coefficients_from 0 n r.terms)) ys)
row_sum r n m ys ln lm h k =
    let l : length (padded m (coefficients_from 0 n r.terms)) ≡ n + m = length-append (coefficients_from 0 n r.terms) (replicate m zero_ℚ) ∙ (λ i. length-coefficients 0 n r.terms i + length-replicate m zero_ℚ i) in
    elim h.small [
      | inl s ↦ record {
        it = _;
        is = dot_is finest (largest_bound * finest) largest_bound (largest_bound * (largest_bound * finest)) 0 zero_ℚ _ ys (omega arith) (omega arith) refl (zero_within finest 0) (omega (arith, l))
            (padded_hold IsModest r n m (zero_within finest (largest_bound * finest)) h.rising s) k;
      }
      | inr s ↦ record {
        it = _;
        is = dot_is 1 largest_cut_coefficient largest_bound (largest_cut_coefficient * largest_bound) 0 zero_ℚ _ ys (omega arith) (omega arith) refl (zero_within 1 0) (omega (arith, l))
            (padded_hold (Within 1 largest_cut_coefficient) r n m (zero_within 1 largest_cut_coefficient) h.rising s) k;
      }
    ]

-- ---- the start
rests_small : (ds : List ℚ) (ss : List Span) (bs : List Bounds) → length ds ≡ length ss → All IsModestSpan ss → All (IsWholeTo largest_bound) (start_values ds (map span_bounds ss ++ bs))
rests_small [] ss bs l h = All-nil (IsWholeTo largest_bound)
rests_small (d ∷ ds) [] bs l h = absurd (omega arith)
rests_small (d ∷ ds) (s ∷ ss) bs l h =
    All-cons (IsWholeTo largest_bound) (start_value d (span_bounds s)) (start_values ds (map span_bounds ss ++ bs)) (at (int_lt d.num (pos 0)) (All-head IsModestSpan s ss h)) (rests_small ds ss bs (omega arith) (All-tail IsModestSpan s ss h))
  where
    at : (x : Bool) → IsModestSpan s → IsWholeTo largest_bound (if x then whole s.hi else whole s.lo)
    at true m = record { whole_number = s.hi; is = refl; size = m.1 }
    at false m = record { whole_number = s.lo; is = refl; size = m.0 }

outside_there : (xs : List ℚ) (s : BasisStatus) (q : ℚ) (row : List ℚ) → IsNonbasic s → IsThere (computed_value xs s q row)
outside_there xs Basic q row h = absurd h
outside_there xs AtLower q row h = record { it = q; is = refl }
outside_there xs AtUpper q row h = record { it = q; is = refl }

-- the start of a linear program
module _ (objective : Terms) (rows : Rows) (numbers : List ℕ) (spans : List Span) where
  abbrev program : LinearProgram
  program = program_of objective rows numbers spans

  abbrev dense : Row → List ℚ
  dense r = coefficients_from 0 (length spans) r.terms

  columns : length program.costs ≡ length spans
  columns = length-coefficients 0 (length spans) objective

  row_count : length program.rows ≡ length rows
  row_count = length-map rows dense

  start_values_whole : All IsModestSpan spans → All (IsWholeTo largest_bound) (slack_basis program).nonbasic_values
  start_values_whole h = All-append (IsWholeTo largest_bound) (start_values program.costs program.bounds) (replicate (length program.rows) zero_ℚ) (rests_small program.costs spans (map row_bounds rows) columns h) (All-replicate (IsWholeTo largest_bound) (length program.rows) zero_ℚ (zero_to largest_bound))

  value_there : length spans ≤ most_columns → length rows ≤ most_rows + most_cuts → All IsModestSpan spans → All HasSmallNumbers rows → (i : ℕ) → i < length (slack_basis program).statuses
      → IsThere (computed_value (slack_basis program).nonbasic_values (get_or (slack_basis program).statuses i Basic) (get_or (slack_basis program).nonbasic_values i zero_ℚ) (get_or (slack_basis program).rows i []))
  value_there ls lr hs hr i l = elim (cases_lt i (length program.costs)) [
    | inl k ↦ outside_there (slack_basis program).nonbasic_values (get_or (slack_basis program).statuses i Basic) (get_or (slack_basis program).nonbasic_values i zero_ℚ) (get_or (slack_basis program).rows i [])
        (subst IsNonbasic (sym (left_read (map start_status program.costs) (replicate (length program.rows) Basic) (length program.costs) i Basic (length-map program.costs start_status) k ∙ get_or-map start_status program.costs i zero_ℚ Basic k)) (start_nonbasic (get_or program.costs i zero_ℚ)))
    | inr k ↦
        let q : i - length program.costs < length rows = omega (arith, l, k, row_count, length-append (map start_status program.costs) (replicate (length program.rows) Basic), length-map program.costs start_status, length-replicate (length program.rows) Basic) in
        let m : i - length program.costs < length program.rows = omega (arith, q, row_count) in
        let b : get_or (slack_basis program).statuses i Basic ≡ Basic = get_or-append_right (map start_status program.costs) (replicate (length program.rows) Basic) (length program.costs) i Basic (length-map program.costs start_status) k ∙ basics_read (length program.rows) (i - length program.costs) in
        let e : get_or (slack_basis program).rows i [] ≡ padded (length program.rows) (dense (get_or rows (i - length program.costs) no_row)) =
        get_or-append_right (replicate (length program.costs) []) (map (padded (length program.rows)) program.rows) (length program.costs) i [] (length-replicate (length program.costs) []) k
        ∙ get_or-map (padded (length program.rows)) program.rows (i - length program.costs) [] [] m ∙ ap (padded (length program.rows)) (get_or-map dense rows (i - length program.costs) no_row [] q) in
        subst (λ s. IsThere (computed_value (slack_basis program).nonbasic_values s (get_or (slack_basis program).nonbasic_values i zero_ℚ) (get_or (slack_basis program).rows i []))) (sym b)
        (subst (λ row. IsThere (dot_checked row (slack_basis program).nonbasic_values)) (sym e)
        (row_sum (get_or rows (i - length program.costs) no_row) (length spans) (length program.rows) (slack_basis program).nonbasic_values ls (omega (arith, row_count)) (All-get_or HasSmallNumbers rows (i - length program.costs) no_row q hr) (start_values_whole hs)))
  ]

  -- few columns with modest bounds, and few rows and cuts of small numbers
  pub start_is_there : length spans ≤ most_columns → length rows ≤ most_rows + most_cuts → All IsModestSpan spans → All HasSmallNumbers rows → IsThere (started program)
  start_is_there ls lr hs hr =
      there_map (λ values. record (slack_basis program) { values = values }) (computed_values (slack_basis program).nonbasic_values (slack_basis program).statuses (slack_basis program).nonbasic_values (slack_basis program).rows)
      (all_valued (slack_basis program).nonbasic_values (slack_basis program).statuses (slack_basis program).nonbasic_values (slack_basis program).rows (value_there ls lr hs hr))

-- ---- a problem and its cuts
limited_small : (n : ℕ) (r : Row) → IsLimitedRow n r → HasSmallNumbers r
limited_small n r h = record { rising = h.terms.rising; small = inl h.terms.modest }

cut_small : (r : Row) → IsCutRow r → HasSmallNumbers r
cut_small r h = record {
  rising = h.rising;
  small = inr (All-weaker (λ (t : ℕ × ℚ). IsWhole t.1 × (nat_abs t.1.num ≤ largest_cut_coefficient)) (λ (t : ℕ × ℚ). Within 1 largest_cut_coefficient t.1) (λ t k. record { divides = rw k.0 (one-dvd 1); size = rw k.0 (omega (arith, k.1)) }) r.terms h.coefficients);
}

-- the start for a problem within the limits, few cuts and a box of the limits
pub relaxation_starts : (p : Problem) (cuts : Rows) (spans : List Span) → IsLimited p → All IsCutRow cuts → length cuts ≤ most_cuts → length spans ≡ length p.spans → All IsModestSpan spans
    → IsThere (started (relaxation p cuts spans))
relaxation_starts p cuts spans h c l e m =
    start_is_there (aim p) (p.rows ++ cuts) (row_numbers p (length cuts)) spans (omega (arith, h.few_columns)) (omega (arith, length-append p.rows cuts, h.few_rows)) m
    (All-append HasSmallNumbers p.rows cuts (All-weaker (IsLimitedRow (length p.spans)) HasSmallNumbers (λ r q. limited_small (length p.spans) r q) p.rows h.rows)
    (All-weaker IsCutRow HasSmallNumbers cut_small cuts c))
