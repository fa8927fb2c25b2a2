-- Lemmas: the problem of the tables at ENDATA, or its fault at the end.
use Rattle.std.specs.Prelude.{◌≡◌, ℕ, ◌<◌, ◌≤◌, Bool, true, false, not, nat_lt, cond, List, ◌∷◌, map, Option, Some, None, is_some, Result, Ok, Err, ◌+◌, zero, suc, pos, length, IfSome, All, []}
use Rattle.std.specs.List.{list_all}
use Rattle.std.proofs.lemmas.List.{length-map}
use Rattle.std.proofs.lemmas.List.Elements.{All-cons, All-map, All-nil}
use Rattle.problem.specs.Rising.{AreNonzero, AreRising}
use Rattle.mps_reader.specs.declared.kinds.RowType.{RowType}
use Rattle.mps_reader.specs.RowState.{RowState, kept_terms}
use Rattle.std.specs.Option.{option_or, option_map, unwrap_or}
use Rattle.std.proofs.Common.{refl, sym, ap, ◌∙◌, subst, arith, get_or}
use Rattle.fraction.specs.Rational.{ℚ, whole}
use Rattle.problem.specs.declared.row.Row.{Row}
use Rattle.problem.specs.Limited.{AreLimited, IsLimited}
use Rattle.problem.specs.Problem.{Problem}
use Rattle.problem_box.specs.declared.span.Span.{Span}
use Rattle.mps_lines.specs.Lines.{lines_of, raw_lines}
use Rattle.mps_reader.specs.SideLines.{side_so_far}
use Rattle.mps_reader.proofs.SideNumbers.{value_under_numbers}
use Rattle.mps_reader.proofs.BoundLines.{summary_is}
use Rattle.mps_reader.proofs.BuildingLemmas.{are_limited, modest_within}
use Rattle.mps_reader.specs.BoundTables.{spans_or_fault, summary_in}
use Rattle.mps_reader.specs.Building.{side_of}
use Rattle.mps_reader.proofs.Faultless.{all_keep, none_all, KeepsAll}
use Rattle.mps_reader.specs.Faults.{is_counted, when}
use Rattle.mps_reader.specs.TextTables.{HasData, HasSectionsOf, IsFaultOf}
use Rattle.mps_reader.specs.VisibleNames.{is_visible}
use Rattle.mps_reader.proofs.Made.{ranges_held, whole_limited}
use Rattle.mps_reader.specs.Meaning.{terms_of, at_line, bounds_on, columns_end_fault, end_fault, objective_name, objective_terms, problem_of, spans_of, unless_fault}
use Rattle.mps_reader.specs.Lemmas.Modest.{modest_zero}
use Rattle.mps_reader.specs.Lemmas.Placing.{terms_placed, placed_of}
use Rattle.mps_reader.specs.RangedRows.{IsTextNumber}
use Rattle.mps_reader.proofs.RowsMade.{AreSides, objective_made, rows_made}
use Rattle.mps_reader.specs.RowsMade.{made_objective, made_rows}
use Rattle.mps_reader.specs.RowsSoFar.{keeps_by, row_so_far}
use Rattle.mps_reader.specs.Reading.{finish, reading, text_limit, sections_in}
use Rattle.mps_reader.specs.Sections.{Sections, none_yet, bounds_of, columns_of, entries_of, last_of, number, rows_of, run_of, sides_of}
use Rattle.mps_reader.proofs.TableLimits.{keeps_limited, objective_by, side_modest}
use Rattle.mps_reader.proofs.TableLemmas.{length-table}
use Rattle.mps_reader.specs.Tables.{table}
use Rattle.mps_reader.specs.Words.{value_under}
use Rattle.mps_reader.specs.declared.kinds.Kind.{Kind}
use Rattle.mps_reader.specs.declared.kinds.Kind.TheVariants as kind
use Rattle.mps_reader.specs.declared.reading.ReadFault.{ReadFault}
use Rattle.mps_reader.specs.declared.reading.ReadFault.TheVariants as fault
use Rattle.mps_reader.specs.declared.tables.Tables.{Tables}
use Rattle.mps_reader.specs.Refusals.{IsModestUpper, IsRefusedWith}
use Rattle.mps_reader.specs.Lemmas.Limits.{is_modest, AreKept, are_modest_sides}

ended_ok : (o : Option (ℕ × Kind)) (ss ts : List Span) → unless_fault o ss ≡ Ok ts → (o ≡ None) × (ts ≡ ss)
ended_ok None ss ts h = (refl, same ts ss _ _ refl refl (sym h))
  where
    same : (a b : List Span) (x y : Result (List Span) (ℕ × Kind)) → x ≡ Ok a → y ≡ Ok b → x ≡ y → a ≡ b
    same a b x y p q r = cc
ended_ok (Some f) ss ts h = cc

ended_err : (o : Option (ℕ × Kind)) (ss : List Span) (f : ℕ × Kind) → unless_fault o ss ≡ Err f → o ≡ Some f
ended_err None ss f h = cc
ended_err (Some g) ss f h = ap Some (same g f _ _ refl refl h)
  where
    same : (a b : ℕ × Kind) (x y : Result (List Span) (ℕ × Kind)) → x ≡ Err a → y ≡ Err b → x ≡ y → a ≡ b
    same a b x y p q r = cc

module _ {B H : Type 0} (st : Tables B H) (s : Sections) (h : HasData st s) (upper : Option ℕ) where
  abbrev objective : Option (List ℕ)
  objective = objective_name (rows_of s.rows)

  terms_are : st.columns.rows ≡ map (row_so_far objective (entries_of s.columns)) (rows_of s.rows)
  terms_are = h.entries.terms ∙ (λ i. map (row_so_far (objective_name (h.rows i)) (entries_of s.columns)) (h.rows i))

  sides_are : (sides : List (Option ℚ)) (pairs : List (List ℕ × List ℕ)) → ((i : ℕ) → get_or sides i None ≡ get_or (map (side_so_far pairs) (rows_of s.rows)) i None) → AreSides sides pairs 0 (rows_of s.rows)
  sides_are sides pairs k i = let n : i + 0 ≡ i = omega arith in ap (λ n. get_or sides n None) n ∙ k i

  rows_same : made_rows st.rhs.numbers st.ranges.numbers 0 (table st.rows.entries) st.columns.rows ≡ (problem_of upper s).rows
  rows_same = (λ i. made_rows st.rhs.numbers st.ranges.numbers 0 (h.rows i) (terms_are i))
      ∙ rows_made (entries_of s.columns) objective st.rhs.numbers st.ranges.numbers (sides_of s.rhs) (sides_of s.ranges) 0 (rows_of s.rows)
      (sides_are st.rhs.numbers (sides_of s.rhs) h.rhs.sides.numbers) (sides_are st.ranges.numbers (sides_of s.ranges) h.ranges.sides.numbers)

  objective_same : made_objective (table st.rows.entries) st.columns.rows ≡ option_map (λ name. terms_of name (entries_of s.columns)) (objective_name (rows_of s.rows))
  objective_same = (λ i. made_objective (h.rows i) (terms_are i)) ∙ objective_made (entries_of s.columns) objective (rows_of s.rows) refl

  limits_are : summary_in (table st.bounds.limits.entries) ≡ bounds_on (bounds_of s.bounds)
  limits_are = λ i name. (h.bounds.limits name ∙ summary_is name (bounds_of s.bounds)) i

  ends_same : spans_or_fault upper (table st.bounds.limits.entries) (table st.columns.columns.entries)
      ≡ unless_fault (columns_end_fault upper (bounds_on (bounds_of s.bounds)) (columns_of (entries_of s.columns))) (spans_of upper (bounds_on (bounds_of s.bounds)) (columns_of (entries_of s.columns)))
  ends_same = λ i. unless_fault (columns_end_fault upper (limits_are i) (h.entries.columns i)) (spans_of upper (limits_are i) (h.entries.columns i))

  fault_with : is_some (objective_name (rows_of s.rows)) ≡ true → end_fault upper s ≡ columns_end_fault upper (bounds_on (bounds_of s.bounds)) (columns_of (entries_of s.columns))
  fault_with o = ap (λ b. option_or (at_line s.rows_at (when (not b) kind.NoObjective)) (columns_end_fault upper (bounds_on (bounds_of s.bounds)) (columns_of (entries_of s.columns)))) o

  no_name : {A B : Type 0} (f : A → B) (o : Option A) → None ≡ option_map f o → is_some o ≡ false
  no_name f None h = refl
  no_name f (Some a) h = cc

  -- no row is of type N
  pub nothing_said : None ≡ made_objective (table st.rows.entries) st.columns.rows → finish upper (Ok s) ≡ Err (s.rows_at, kind.NoObjective)
  nothing_said e =
      ap (λ b. unless_fault (option_or (at_line s.rows_at (when (not b) kind.NoObjective)) (columns_end_fault upper (bounds_on (bounds_of s.bounds)) (columns_of (entries_of s.columns)))) (problem_of upper s))
      (no_name (λ name. terms_of name (entries_of s.columns)) (objective_name (rows_of s.rows)) (e ∙ objective_same))

  module _ (objective : List (ℕ × ℚ)) (e : Some objective ≡ made_objective (table st.rows.entries) st.columns.rows) where
    named_by : (is_some (objective_name (rows_of s.rows)) ≡ true) × (objective ≡ objective_terms (objective_name (rows_of s.rows)) (entries_of s.columns))
    named_by = objective_by (entries_of s.columns) (objective_name (rows_of s.rows)) objective (e ∙ objective_same)

    -- a column is at fault
    pub fault_said : (f : ℕ × Kind) → spans_or_fault upper (table st.bounds.limits.entries) (table st.columns.columns.entries) ≡ Err f → finish upper (Ok s) ≡ Err f
    fault_said f k = ap (λ o. unless_fault o (problem_of upper s)) (fault_with named_by.0 ∙ ended_err _ _ f (sym ends_same ∙ k))

    pub refusal_said : (f : ReadFault) → IsFaultOf f (spans_or_fault upper (table st.bounds.limits.entries) (table st.columns.columns.entries)) → IsFaultOf f (finish upper (Ok s))
    refusal_said (fault.Refused line k) e = fault_said (line, k) e
    refusal_said fault.Memory e = tt

    module _ (ss : List Span) (k : spans_or_fault upper (table st.bounds.limits.entries) (table st.columns.columns.entries) ≡ Ok ss) (names : List (List ℕ)) (n : names ≡ map (λ c. c.0) (table st.columns.columns.entries))
        (rows : List Row) (r : rows ≡ made_rows st.rhs.numbers st.ranges.numbers 0 (table st.rows.entries) st.columns.rows) (spans : List Span) (z : spans ≡ ss) where
      abbrev pub Made : Problem
      Made = record { names = names; rows = rows; objective = objective; sense = st.order.sense; spans = spans }

      pub made_is : Made ≡ problem_of upper s
      made_is =
          let q = ended_ok _ _ ss (sym ends_same ∙ k) in
          λ i. record {
            names = (n ∙ ap (λ cs. map (λ c. c.0) cs) h.entries.columns) i;
            rows = (r ∙ rows_same) i;
            objective = named_by.1 i;
            sense = h.sense i;
            spans = (z ∙ q.1) i;
          }

      pub made_said : finish upper (Ok s) ≡ Ok Made
      made_said = ap (λ o. unless_fault o (problem_of upper s)) (fault_with named_by.0 ∙ (ended_ok _ _ ss (sym ends_same ∙ k)).0) ∙ ap Ok (sym made_is)

      pub made_limited : KeepsAll s → IsModestUpper upper → IsLimited Made
      made_limited l u = subst (λ (p : Problem). IsLimited p) (sym made_is) (whole_limited s l upper u)

-- ---- what the limits give
side_kept_modest : (pairs : List (List ℕ × List ℕ)) (name : List ℕ) (type : RowType) → are_modest_sides pairs ≡ true → is_modest (side_of (side_so_far pairs (name, type))) ≡ true
side_kept_modest pairs name type h = by (is_counted type) (value_under pairs name) (ap (λ o. is_modest (side_of o)) (sym (value_under_numbers pairs name)) ∙ side_modest pairs name h)
  where
    by : (b : Bool) (o : Option (List ℕ)) → is_modest (side_of (option_map number o)) ≡ true → is_modest (side_of (option_map (λ v. cond b (number v) (whole (pos 0))) o)) ≡ true
    by true o m = m
    by false None m = m
    by false (Some v) m = modest_zero

range_kept_held : (pairs : List (List ℕ × List ℕ)) (name : List ℕ) (type : RowType) → are_modest_sides pairs ≡ true → IfSome (side_so_far pairs (name, type)) (λ q. IsTextNumber q)
range_kept_held pairs name type h = by (is_counted type) (value_under pairs name) (subst (λ o. IfSome o (λ q. IsTextNumber q)) (value_under_numbers pairs name) (ranges_held pairs name h))
  where
    by : (b : Bool) (o : Option (List ℕ)) → IfSome (option_map number o) (λ q. IsTextNumber q) → IfSome (option_map (λ v. cond b (number v) (whole (pos 0))) o) (λ q. IsTextNumber q)
    by true o m = m
    by false None m = m
    by false (Some v) m = modest_within (whole (pos 0)) modest_zero

All-each : {A : Type 0} (P : A → Type 0) (xs : List A) → ((x : A) → P x) → All P xs
All-each P [] h = All-nil P
All-each P (x ∷ xs) h = All-cons P x xs (h x) (All-each P xs h)

module _ {B H : Type 0} (text : List ℕ) (st : Tables B H) (h : HasSectionsOf text st) where
  pub keeps : KeepsAll h.s
  keeps = all_keep (length (raw_lines text)) none_yet (lines_of text) h.s none_all h.found

  kept_columns : AreKept (entries_of h.s.columns)
  kept_columns = keeps.limits.columns

  pub kept_names : list_all (λ c. is_visible c.0) (table st.columns.columns.entries) ≡ true
  kept_names = ap (list_all (λ c. is_visible c.0)) h.tables.entries.columns ∙ kept_columns.names

  abbrev objective_kept : Option (List ℕ)
  objective_kept = objective_name (table st.rows.entries)

  -- the terms of a row keep to the limits
  row_limited : (r : List ℕ × RowType) → AreLimited (length (columns_of (entries_of h.s.columns))) (kept_terms (row_so_far objective_kept (entries_of h.s.columns) r))
  row_limited r = by (keeps_by objective_kept r)
    where
      n : ℕ
      n = length (columns_of (entries_of h.s.columns))

      by : (b : Bool) → AreLimited n (unwrap_or (cond b (Some (terms_of r.0 (entries_of h.s.columns))) None) [])
      by true = subst (λ ts. AreLimited n ts) (sym (terms_placed r.0 (entries_of h.s.columns)))
          (keeps_limited (columns_of (entries_of h.s.columns)) (run_of (entries_of h.s.columns)) (last_of (entries_of h.s.columns)) (placed_of (entries_of h.s.columns)) kept_columns r.0)
      by false = are_limited n [] refl

  pub parts_count : length st.columns.rows ≡ length st.rows.entries
  parts_count = ap length h.tables.entries.terms ∙ length-map (table st.rows.entries) (row_so_far objective_kept (entries_of h.s.columns)) ∙ length-table st.rows.entries

  pub parts_rising : All (λ t. AreRising (kept_terms t)) st.columns.rows
  parts_rising = subst (λ ts. All (λ (t : RowState). AreRising (kept_terms t)) ts) (sym h.tables.entries.terms)
      (All-map (λ (t : RowState). AreRising (kept_terms t)) (row_so_far objective_kept (entries_of h.s.columns)) (table st.rows.entries)
      (All-each (λ r. AreRising (kept_terms (row_so_far objective_kept (entries_of h.s.columns) r))) (table st.rows.entries) (λ r. (row_limited r).rising)))

  pub parts_nonzero : All (λ t. AreNonzero (kept_terms t)) st.columns.rows
  parts_nonzero = subst (λ ts. All (λ (t : RowState). AreNonzero (kept_terms t)) ts) (sym h.tables.entries.terms)
      (All-map (λ (t : RowState). AreNonzero (kept_terms t)) (row_so_far objective_kept (entries_of h.s.columns)) (table st.rows.entries)
      (All-each (λ r. AreNonzero (kept_terms (row_so_far objective_kept (entries_of h.s.columns) r))) (table st.rows.entries) (λ r. (row_limited r).nonzero)))

  pub parts_sides : (i : ℕ) → IsTextNumber (side_of (get_or st.rhs.numbers i None))
  parts_sides i = subst (λ o. IsTextNumber (side_of o)) (sym (h.tables.rhs.sides.numbers i)) (modest_within (side_of (get_or (map (side_so_far (sides_of h.s.rhs)) (rows_of h.s.rows)) i None)) (by (rows_of h.s.rows) i))
    where
      pairs : List (List ℕ × List ℕ)
      pairs = sides_of h.s.rhs

      by : (rows : List (List ℕ × RowType)) (i : ℕ) → is_modest (side_of (get_or (map (side_so_far pairs) rows) i None)) ≡ true
      by [] i = modest_zero
      by (r ∷ rows) zero = side_kept_modest pairs r.0 r.1 keeps.limits.sides
      by (r ∷ rows) (suc i) = by rows i

  pub parts_ranges : (i : ℕ) → IfSome (get_or st.ranges.numbers i None) (λ q. IsTextNumber q)
  parts_ranges i = subst (λ o. IfSome o (λ q. IsTextNumber q)) (sym (h.tables.ranges.sides.numbers i)) (by (rows_of h.s.rows) i)
    where
      pairs : List (List ℕ × List ℕ)
      pairs = sides_of h.s.ranges

      by : (rows : List (List ℕ × RowType)) (i : ℕ) → IfSome (get_or (map (side_so_far pairs) rows) i None) (λ q. IsTextNumber q)
      by [] i = tt
      by (r ∷ rows) zero = range_kept_held pairs r.0 r.1 keeps.ranges
      by (r ∷ rows) (suc i) = by rows i

module _ {B H : Type 0} (text : List ℕ) (st : Tables B H) (h : HasSectionsOf text st) (upper : Option ℕ) where
  pub read_is : length text ≤ text_limit → reading text upper ≡ finish upper (Ok h.s)
  unfolding reading
  read_is l =
      let within : nat_lt text_limit (length text) ≡ false = grind arith in
      ap (λ (b : Bool). cond b (Err (0, kind.TooMany)) (finish upper (sections_in text))) within ∙ ap (finish upper) h.found

pub refused_is : (text : List ℕ) (upper : Option ℕ) (line : ℕ) (k : Kind) → length text ≤ text_limit → sections_in text ≡ Err (line, k) → reading text upper ≡ Err (line, k)
unfolding reading
refused_is text upper line k l e =
    let within : nat_lt text_limit (length text) ≡ false = grind arith in
    ap (λ (b : Bool). cond b (Err (0, kind.TooMany)) (finish upper (sections_in text))) within ∙ ap (finish upper) e

pub refused_by : (text : List ℕ) (upper : Option ℕ) (f : ReadFault) → length text ≤ text_limit → IsFaultOf f (sections_in text) → IsRefusedWith text upper f
refused_by text upper (fault.Refused line k) l e = refused_is text upper line k l e
refused_by text upper fault.Memory l e = tt

pub refused_at_end : (text : List ℕ) (upper : Option ℕ) (s : Sections) (f : ReadFault) → reading text upper ≡ finish upper (Ok s) → IsFaultOf f (finish upper (Ok s)) → IsRefusedWith text upper f
refused_at_end text upper s (fault.Refused line k) r e = r ∙ e
refused_at_end text upper s fault.Memory r e = tt

pub too_long : (text : List ℕ) (upper : Option ℕ) → text_limit < length text → reading text upper ≡ Err (0, kind.TooMany)
unfolding reading
too_long text upper l =
    let over : nat_lt text_limit (length text) ≡ true = grind arith in
    ap (λ (b : Bool). cond b (Err (0, kind.TooMany)) (finish upper (sections_in text))) over
