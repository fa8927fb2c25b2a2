-- The values of columns that a step makes by the column of the entering variable are sums over the rows of the dictionary behind it.
use Rattle.std.proofs.Common.{◌≡◌, ◌≢◌, ℕ, ◌-◌, ◌<◌, arith, refl, ap, sym, ◌∙◌, subst, false, List, [], length, get_or, set, map, inl, inr}
use Rattle.std.specs.Prelude.{ℤ, pos, nat_abs, ◌+ℤ◌, ◌-ℤ◌, ◌*ℤ◌}
use Rattle.std.proofs.lemmas.Bool.{cases_eq}
use Rattle.std.proofs.lemmas.List.{get_or-map, length-map, map-set}
use Rattle.fraction.specs.Lemmas.Bounds.{dot_value, value_from_dot}
use Rattle.fraction.specs.Lemmas.Rational.{frac_same, lit_one, zero-+ℚ}
use Rattle.fraction.specs.Rational.{frac, whole, ◌*ℚ◌, ◌+ℚ◌}
use Rattle.std.proofs.lemmas.Int.{ints}
use Rattle.tableau.specs.Elimination.{entry, zero_ℚ}
use Rattle.tableau.specs.Invariants.{IsNonbasic}
use Rattle.tableau.specs.Lemmas.Places.{basic_or}
use Rattle.tableau.specs.Lemmas.Sums.{dot-changed}
use Rattle.tableau.specs.LinearProgram.{LinearProgram}
use Rattle.tableau.specs.Tableau.{Tableau, row_of, status_of}
use Rattle.integer_tableau.proofs.AllRows.{get_or-rows_of}
use Rattle.integer_tableau.proofs.Expanded.{column_widths, row_of_column, rows_many, value_of_column}
use Rattle.integer_tableau.proofs.Sums.{value_is}
use Rattle.integer_tableau.specs.Combined.{IsCompact, expanded, expanded_rows, expanded_values}
use Rattle.integer_tableau.specs.Consistent.{IsConsistent, row_width}
use Rattle.integer_tableau.specs.IntegerTableau.{IntegerTableau, row_of_position, status, tableau_of}
use Rattle.integer_tableau.specs.Numbers.{IsWithin, number_at, total_size}
use Rattle.integer_tableau.specs.Pivot.{AreSubstitutedValues}
use Rattle.integer_tableau.specs.Range.{size_limit}
use Rattle.integer_tableau.specs.Positions.{coefficient, coefficients, sum_over}
use Rattle.integer_tableau.specs.Substitution.{quotient_numerator}
use Rattle.integer_tableau.specs.declared.position.Position.{Position}
use Rattle.integer_tableau.specs.declared.position.Position.TheVariants.{InBasis, InColumn}
use Rattle.integer_tableau.specs.Dictionary.{AreValuesAfter, IsDictionaryOf}
use Rattle.integer_tableau.specs.IntegerDictionary.{AreColumnSums, IntegerDictionary, IsBehind, IsStored, dictionary_of, fraction_dictionary, position_of}
use Rattle.integer_tableau.proofs.ColumnSteps.{cancel_right, leaving_step, one_numerator, value_step}
use Rattle.integer_tableau.proofs.IntegerStep.{exchanged_basis, now_basic}
use Rattle.integer_tableau.proofs.Statuses.{basic_position, basic_status, get_or-statuses}
use Rattle.integer_tableau.proofs.Stored.{from_stored}
use Rattle.integer_tableau.proofs.ValueSteps.{values_after}

dot_is : (d : ℕ) (positions : List Position) (row xs : List ℤ) → 0 < d → d < size_limit → IsWithin (size_limit - 1) row → total_size xs < size_limit
    → dot_value (coefficients d positions row) (map whole xs) ≡ frac (sum_over positions row xs) d
dot_is d positions row xs o l h small =
    sym (value_from_dot zero_ℚ (coefficients d positions row) (map whole xs) _ (value_is d (size_limit - 1) row positions xs o l h (omega (arith, small))) ∙ zero-+ℚ _)

module _ (ps : List (List ℤ)) (weight reach : ℕ) (p : LinearProgram) (t : IntegerTableau) (m : IntegerDictionary) (r c k : ℕ) (b : ℤ) (values : List ℤ)
    (compact : IsCompact ps weight reach t) (s : IsStored ps weight p (dictionary_of t)) (stored : IsStored ps weight p m) (behind : IsBehind r c (dictionary_of t) m)
    (at_r : get_or t.positions r InBasis ≡ InBasis) (at_c : get_or t.positions c InBasis ≡ InColumn k) (total : total_size (set (set t.nonbasic_values r b) c (pos 0)) < size_limit)
    (same : m.denominator ≡ nat_abs (number_at (get_or (expanded_rows t.denominator ps t.positions t.rows) r []) k)) where
  abbrev d : ℕ
  d = t.denominator

  abbrev e : ℕ
  e = m.denominator

  abbrev rows : List (List ℤ)
  rows = expanded_rows d ps t.positions t.rows

  abbrev vs : List ℤ
  vs = expanded_values d ps t.positions t.nonbasic_values t.values

  abbrev xs : List ℤ
  xs = t.nonbasic_values

  abbrev x : ℤ
  x = number_at xs c

  abbrev piv : ℤ
  piv = number_at (get_or rows r []) k

  abbrev en : ℤ
  en = quotient_numerator piv (number_at vs r -ℤ piv *ℤ x -ℤ pos d *ℤ b)

  abbrev view : Tableau
  view = tableau_of (length t.rows) [] (expanded ps t)

  abbrev mm : Tableau
  mm = fraction_dictionary ps m

  cons : IsConsistent (expanded ps t)
  cons = compact.consistent

  lr : r < length t.positions
  lr = behind.positions.leaving_there

  lc : c < length t.positions
  lc = behind.positions.entering_there

  was : (v : ℕ) → v < length t.positions → status_of view v ≡ status (get_or t.positions v InBasis) (get_or t.at_upper v false)
  was v l = get_or-statuses t.positions t.at_upper v cons.at_upper l

  entering_nonbasic : IsNonbasic (status_of view c)
  entering_nonbasic = elim (basic_or (status_of view c)) [
    | inl z ↦ absurd (let f : InBasis ≡ InColumn k = sym (basic_position (get_or t.positions c InBasis) (get_or t.at_upper c false) (sym (was c lc) ∙ z)) ∙ at_c in let y : ⊥ = cc in y)
    | inr z ↦ z
  ]

  -- ---- rows of t
  row_is : (i : ℕ) → i < length t.positions → get_or t.positions i InBasis ≡ InBasis → row_of view i ≡ coefficients d t.positions (get_or rows i [])
  row_is i l q = get_or-rows_of (row_of_position d t.positions) t.positions rows i cons.rows l ∙ ap (λ s. row_of_position d t.positions s (get_or rows i [])) q

  row_dot : (i : ℕ) → i < length t.positions → get_or t.positions i InBasis ≡ InBasis → dot_value (row_of view i) (map whole xs) ≡ frac (number_at vs i) d
  row_dot i l q =
      ap (λ row. dot_value row (map whole xs)) (row_is i l q) ∙ dot_is d t.positions (get_or rows i []) xs cons.positive cons.denominator_small (cons.rows_within i) cons.small
      ∙ ap (λ z. frac z d) (sym (cons.exact i l q))

  row_entry : (i : ℕ) → i < length t.positions → get_or t.positions i InBasis ≡ InBasis → entry (row_of view i) c ≡ frac (number_at (get_or rows i []) k) d
  row_entry i l q =
      ap (λ row. entry row c) (row_is i l q) ∙ get_or-map (coefficient d (get_or rows i [])) t.positions c InBasis zero_ℚ lc ∙ ap (coefficient d (get_or rows i [])) at_c

  row_long : (i : ℕ) → i < length t.positions → get_or t.positions i InBasis ≡ InBasis → length (row_of view i) ≡ length t.positions
  row_long i l q = ap length (row_is i l q) ∙ length-map t.positions (coefficient d (get_or rows i []))

  xs_long : length (map whole xs) ≡ length t.positions
  xs_long = length-map xs whole ∙ cons.nonbasic_values

  x_is : entry (map whole xs) c ≡ whole x
  x_is = get_or-map whole xs c (pos 0) zero_ℚ (omega (arith, lc, cons.nonbasic_values))

  -- the value with the entering variable at its new one
  moved : (i : ℕ) → i < length t.positions → get_or t.positions i InBasis ≡ InBasis
      → dot_value (row_of view i) (set (map whole xs) c (frac en e)) +ℚ frac (number_at (get_or rows i []) k) d *ℚ whole x ≡ frac (number_at vs i) d +ℚ frac (number_at (get_or rows i []) k) d *ℚ frac en e
  moved i l q =
      (λ j. dot_value (row_of view i) (set (map whole xs) c (frac en e)) +ℚ sym (row_entry i l q) j *ℚ sym x_is j)
      ∙ dot-changed (row_of view i) (map whole xs) c (frac en e) (row_long i l q ∙ sym xs_long) (omega (arith, lc, row_long i l q))
      ∙ (λ j. row_dot i l q j +ℚ row_entry i l q j *ℚ frac en e)

  -- by numerators
  moved_to : (i : ℕ) (new : ℤ) → i < length t.positions → get_or t.positions i InBasis ≡ InBasis
      → new *ℤ pos d ≡ (number_at vs i -ℤ number_at (get_or rows i []) k *ℤ x) *ℤ pos e +ℤ en *ℤ number_at (get_or rows i []) k
      → dot_value (row_of view i) (set (map whole xs) c (frac en e)) ≡ frac new e
  moved_to i new l q h = cancel_right _ (frac new e) (frac (number_at (get_or rows i []) k) d *ℚ whole x)
      (moved i l q ∙ sym (value_step new (number_at vs i) (number_at (get_or rows i []) k) x en d e cons.positive stored.compact.positive h))

  leaves : dot_value (row_of view r) (set (map whole xs) c (frac en e)) ≡ whole b
  leaves =
      moved_to r (b *ℤ pos e) lr at_r
      (subst (λ e. (b *ℤ pos e) *ℤ pos d ≡ (number_at vs r -ℤ piv *ℤ x) *ℤ pos e +ℤ en *ℤ piv) (sym same) (leaving_step (number_at vs r) piv x b d))
      ∙ frac_same (b *ℤ pos e) b e 1 stored.compact.positive lit_one (times_one (b *ℤ pos e))
    where
      times_one : (z : ℤ) → z *ℤ pos 1 ≡ z
      times_one z = omega (arith, ints)

  all_after : AreValuesAfter (length t.positions) r c view mm (map whole xs) (frac en e) (whole b)
  all_after = values_after (length t.positions) p p view mm r c (map whole xs) (frac en e) (whole b) (record { rows = refl; costs = refl })
      (from_stored ps weight reach t compact [] p s) (subst (λ n. IsDictionaryOf n p mm) behind.positions.count stored.dictionary)
      lr lc (was r lr ∙ basic_status (get_or t.positions r InBasis) (get_or t.at_upper r false) at_r) entering_nonbasic (exchanged_basis ps t m [] r c cons behind) xs_long leaves

  -- ---- rows of m
  abbrev after : List ℤ
  after = set (set xs r b) c (pos 0)

  after_is : set (set (map whole xs) r (whole b)) c zero_ℚ ≡ map whole after
  after_is = sym (map-set whole (set xs r b) c (pos 0) ∙ ap (λ ys. set ys c (whole (pos 0))) (map-set whole xs r b))

  sum_is : (j : ℕ) → j < length m.rows → position_of m j ≡ InBasis → dot_value (row_of mm j) (set (set (map whole xs) r (whole b)) c zero_ℚ) ≡ frac (sum_over m.positions (get_or m.rows j []) after) e
  sum_is j l q =
      (λ i. dot_value (is_row i) (after_is i))
      ∙ dot_is e m.positions (get_or (expanded_rows e ps m.positions m.rows) j []) after stored.compact.positive stored.compact.denominator_small (stored.compact.rows_within j) total
      ∙ ap (λ row. frac (sum_over m.positions row after) e) (row_of_column e ps m.positions m.rows j l)
    where
      is_row : row_of mm j ≡ coefficients e m.positions (get_or (expanded_rows e ps m.positions m.rows) j [])
      is_row =
          get_or-rows_of (row_of_position e m.positions) m.positions (expanded_rows e ps m.positions m.rows) j (rows_many e ps m.positions m.rows stored.compact.variables ∙ sym stored.compact.variables) (omega (arith, l, stored.compact.variables))
          ∙ ap (λ s. row_of_position e m.positions s (get_or (expanded_rows e ps m.positions m.rows) j [])) q

  -- ---- the columns' values
  pub column_sums : AreSubstitutedValues c k (pos d) (pos e) x en (length t.rows) t.rows t.values values → AreColumnSums m after values
  column_sums w = (w.as_many ∙ compact.values ∙ sym behind.columns, λ j l q. one_numerator (number_at values j) (sum_over m.positions (get_or m.rows j []) after) e stored.compact.positive (each j l q ∙ sum_is j l q))
    where
      each : (j : ℕ) → j < length m.rows → position_of m j ≡ InBasis → frac (number_at values j) e ≡ dot_value (row_of mm j) (set (set (map whole xs) r (whole b)) c zero_ℚ)
      each j l q =
          let lj : j < length t.positions = omega (arith, l, behind.columns, compact.variables) in
          let lt : j < length t.rows = omega (arith, l, behind.columns) in
          elim (cases_eq j c) [
            | inl z ↦ subst (λ j. frac (number_at values j) e ≡ dot_value (row_of mm j) (set (set (map whole xs) r (whole b)) c zero_ℚ)) (sym z)
                (ap (λ v. frac v e) (w.put (omega (arith, lt, z, compact.values))) ∙ sym all_after.entered)
            | inr z ↦
                let y : j ≢ r = λ f. behind.positions.left (subst (λ j. position_of m j ≡ InBasis) f q) in
                let g = behind.positions.back j lj y z q in
                let row : get_or t.rows j [] ≡ get_or rows j [] = sym (row_of_column d ps t.positions t.rows j lt) in
                let v : number_at t.values j ≡ number_at vs j = sym (value_of_column d ps t.positions t.nonbasic_values t.values j (omega (arith, lt, compact.values))) in
                sym (all_after.others j lj z (now_basic ps t m [] r c cons behind j lj q)
                ∙ moved_to j (number_at values j) lj g
                (w.others j (omega (arith, lt, compact.values)) z (column_widths ps weight reach t compact j lt ∙ ap (row_width (length t.rows)) g)
                ∙ (λ i. (v i -ℤ number_at (row i) k *ℤ x) *ℤ pos e +ℤ en *ℤ number_at (row i) k)))
          ]
