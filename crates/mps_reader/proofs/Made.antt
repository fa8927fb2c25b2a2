-- The problem of sections without a fault keeps to the limits.
use Rattle.std.specs.Prelude.{◌≡◌, ℕ, ◌+◌, ◌≤◌, ℤ, pos, nat_abs, Bool, true, false, ◌&&◌, cond, List, ◌∷◌, Option, Some, None, is_some, length, All, IfSome, []}
use Rattle.std.specs.List.{flat_map, sum_by}
use Rattle.std.specs.Option.{option_map, unwrap_or}
use Rattle.std.specs.Str.{bytes_eq}
use Rattle.std.proofs.Common.{refl, sym, ap, ◌∙◌, subst, arith}
use Rattle.std.proofs.lemmas.Bool.{and_parts}
use Rattle.std.proofs.lemmas.Int.{ints}
use Rattle.std.proofs.lemmas.List.{length-map}
use Rattle.std.proofs.lemmas.List.Sums.{sum_by-cons}
use Rattle.std.proofs.lemmas.List.Concat.{length-flat_map}
use Rattle.std.proofs.lemmas.List.Elements.{All-nil, All-cons}
use Rattle.fraction.specs.Rational.{ℚ}
use Rattle.problem.specs.declared.row.Row.{Row}
use Rattle.problem.specs.Limited.{AreLimited, IsLimited, IsLimitedRow, IsModestSpan}
use Rattle.problem.specs.Limits.{largest_bound}
use Rattle.mps_reader.proofs.SideNumbers.{numbers_of}
use Rattle.mps_reader.specs.BoundLines.{summary_of}
use Rattle.mps_reader.proofs.BoundLines.{summary_gives}
use Rattle.mps_reader.proofs.BuildingLemmas.{modest_within, are_limited, side_in}
use Rattle.mps_reader.specs.Faults.{counted, is_counted, is_ranged, count_ranged}
use Rattle.mps_reader.specs.Meaning.{objective_name, objective_terms, or_lower, or_upper, problem_of, rows_at, rows_from, bounds_on, span, spans_of}
use Rattle.mps_reader.specs.Lemmas.Named.{bytes_flip, same_text}
use Rattle.mps_reader.specs.Lemmas.Placing.{terms_placed, placed_of, terms_in}
use Rattle.mps_reader.specs.RangedRows.{IsTextNumber}
use Rattle.mps_reader.proofs.RangedRows.{ranged_limited, ranged_row, rows_are}
use Rattle.mps_reader.specs.Sections.{Bound, Sections, bounds_of, columns_of, entries_of, last_of, number, rows_of, run_of, sides_of}
use Rattle.mps_reader.proofs.TableLimits.{keeps_limited, side_modest}
use Rattle.mps_reader.specs.Words.{value_under}
use Rattle.mps_reader.specs.declared.kinds.Column.{Column}
use Rattle.mps_reader.specs.declared.kinds.RowType.{RowType}
use Rattle.mps_reader.specs.declared.kinds.RowType.TheVariants as row
use Rattle.mps_reader.specs.Lemmas.Limits.{is_modest, are_modest_sides}
use Rattle.mps_reader.proofs.Faultless.{HaveDistinctNames, AreSmall, KeepsAll, used}

-- ---- how many rows there are
abbrev one : Bool → ℕ
one b = cond b 1 0

row_count : (type : RowType) (b : ℚ) (r : Option ℚ) (ts : List (ℕ × ℚ)) → length (rows_from type b r ts) ≡ one (is_counted type) + one (is_counted type && is_some r)
row_count row.N b None ts = refl
row_count row.N b (Some r) ts = refl
row_count row.L b None ts = refl
row_count row.L b (Some r) ts = refl
row_count row.G b None ts = refl
row_count row.G b (Some r) ts = refl
row_count row.E b None ts = refl
row_count row.E b (Some r) ts = refl

-- the rows that count and are among these
abbrev among : List (List ℕ × RowType) → List (List ℕ × ℚ) → ℕ
among rows ranges = sum_by (λ r. one (is_counted r.1 && is_some (value_under ranges r.0))) rows

-- the rows that count and have this name
abbrev with_name : List (List ℕ × RowType) → List ℕ → ℕ
with_name rows name = sum_by (λ r. one (is_counted r.1 && bytes_eq r.0 name)) rows

count_cons : (r : List ℕ × RowType) (rows : List (List ℕ × RowType)) → counted (r ∷ rows) ≡ one (is_counted r.1) + counted rows
count_cons r rows = sum_by-cons (λ (r : List ℕ × RowType). one (is_counted r.1)) r rows

among_cons : (r : List ℕ × RowType) (rows : List (List ℕ × RowType)) (ranges : List (List ℕ × ℚ)) → among (r ∷ rows) ranges ≡ one (is_counted r.1 && is_some (value_under ranges r.0)) + among rows ranges
among_cons r rows ranges = sum_by-cons (λ (r : List ℕ × RowType). one (is_counted r.1 && is_some (value_under ranges r.0))) r rows

with_cons : (r : List ℕ × RowType) (rows : List (List ℕ × RowType)) (name : List ℕ) → with_name (r ∷ rows) name ≡ one (is_counted r.1 && bytes_eq r.0 name) + with_name rows name
with_cons r rows name = sum_by-cons (λ (r : List ℕ × RowType). one (is_counted r.1 && bytes_eq r.0 name)) r rows

ranged_cons : (rows : List (List ℕ × RowType)) (p : List ℕ × List ℕ) (ranges : List (List ℕ × List ℕ)) → count_ranged rows (p ∷ ranges) ≡ one (is_ranged rows p.0) + count_ranged rows ranges
ranged_cons rows p ranges = sum_by-cons (λ (p : List ℕ × List ℕ). one (is_ranged rows p.0)) p ranges

rows_count : (ts : List (List ℕ × (ℕ × ℚ))) (sides ranges : List (List ℕ × ℚ)) (rows : List (List ℕ × RowType)) → sum_by (λ r. length (ranged_row ts sides ranges r)) rows ≡ counted rows + among rows ranges
rows_count ts sides ranges [] = refl
rows_count ts sides ranges (r ∷ rows) =
    omega (
      arith,
      rows_count ts sides ranges rows,
      row_count r.1 (side_in sides r.0) (value_under ranges r.0) (terms_in r.0 ts),
      count_cons r rows,
      among_cons r rows ranges,
      sum_by-cons (λ (r : List ℕ × RowType). length (ranged_row ts sides ranges r)) r rows,
    )

none_named : (rows : List (List ℕ × RowType)) (name : List ℕ) → value_under rows name ≡ None → with_name rows name ≡ 0
none_named [] name h = refl
none_named (r ∷ rows) name h = by (none_named rows name) (bytes_eq name r.0) (bytes_eq r.0 name) refl (bytes_flip r.0 name) h
  where
    by : (value_under rows name ≡ None → with_name rows name ≡ 0) → (b c : Bool) → bytes_eq r.0 name ≡ c → c ≡ b → cond b (Some r.1) (value_under rows name) ≡ None → with_name (r ∷ rows) name ≡ 0
    by rest true c e f k = cc
    by rest false c e f k = omega (arith, rest k, with_cons r rows name, ap one (and_false (is_counted r.1) (bytes_eq r.0 name) (e ∙ f)))
      where
        and_false : (a b : Bool) → b ≡ false → (a && b) ≡ false
        and_false true b h = h
        and_false false b h = refl

abbrev counts : Option RowType → Bool
counts o = unwrap_or (option_map is_counted o) false

-- a name stands once
once : (rows : List (List ℕ × RowType)) (name : List ℕ) → HaveDistinctNames rows → with_name rows name ≤ one (counts (value_under rows name))
once [] name h = omega arith
once (r ∷ rows) name h = by (once rows name h.1) (bytes_eq name r.0) (bytes_eq r.0 name) refl refl (bytes_flip r.0 name)
  where
    and_is : (a b c : Bool) → b ≡ c → (a && b) ≡ (a && c)
    and_is a b c e = ap (λ b. a && b) e

    and_true : (a : Bool) → (a && true) ≡ a
    and_true true = refl
    and_true false = refl

    and_no : (a : Bool) → (a && false) ≡ false
    and_no true = refl
    and_no false = refl

    by : with_name rows name ≤ one (counts (value_under rows name)) → (b c : Bool) → bytes_eq name r.0 ≡ b → bytes_eq r.0 name ≡ c → c ≡ b → with_name (r ∷ rows) name ≤ one (counts (cond b (Some r.1) (value_under rows name)))
    by rest true c g e f =
        let z = none_named rows name (ap (value_under rows) (same_text name r.0 g) ∙ h.0) in
        omega (arith, z, with_cons r rows name, ap one (and_is (is_counted r.1) (bytes_eq r.0 name) true (e ∙ f) ∙ and_true (is_counted r.1)))
    by rest false c g e f = omega (arith, rest, with_cons r rows name, ap one (and_is (is_counted r.1) (bytes_eq r.0 name) false (e ∙ f) ∙ and_no (is_counted r.1)))

-- rows among some and one more
among_more : (rows : List (List ℕ × RowType)) (name : List ℕ) (q : ℚ) (ranges : List (List ℕ × ℚ)) → among rows ((name, q) ∷ ranges) ≤ with_name rows name + among rows ranges
among_more [] name q ranges = omega arith
among_more (r ∷ rows) name q ranges = omega (arith, among_more rows name q ranges, among_cons r rows ((name, q) ∷ ranges), among_cons r rows ranges, with_cons r rows name, step (is_counted r.1) (bytes_eq r.0 name) (value_under ranges r.0))
  where
    step : (a b : Bool) (o : Option ℚ) → one (a && is_some (cond b (Some q) o)) ≤ one (a && b) + one (a && is_some o)
    step true true None = omega arith
    step true true (Some x) = omega arith
    step true false None = omega arith
    step true false (Some x) = omega arith
    step false b o = omega arith

among_ranged : (rows : List (List ℕ × RowType)) (ranges : List (List ℕ × List ℕ)) → HaveDistinctNames rows → among rows (numbers_of ranges) ≤ count_ranged rows ranges
among_ranged rows [] h = none_among rows
  where
    none_among : (rows : List (List ℕ × RowType)) → among rows [] ≤ 0
    none_among [] = omega arith
    none_among (r ∷ rows) = omega (arith, none_among rows, among_cons r rows [], ap one (and_no (is_counted r.1)))
      where
        and_no : (a : Bool) → (a && false) ≡ false
        and_no true = refl
        and_no false = refl
among_ranged rows (p ∷ ranges) h = omega (arith, ranged_cons rows p ranges, among_more rows p.0 (number p.1) (numbers_of ranges), once rows p.0 h, among_ranged rows ranges h)

rows_few : (ts : List (List ℕ × (ℕ × ℚ))) (sides : List (List ℕ × ℚ)) (ranges : List (List ℕ × List ℕ)) (rows : List (List ℕ × RowType)) → HaveDistinctNames rows
    → length (flat_map (ranged_row ts sides (numbers_of ranges)) rows) ≤ used rows ranges
rows_few ts sides ranges rows h = omega (arith, length-flat_map (ranged_row ts sides (numbers_of ranges)) rows, rows_count ts sides (numbers_of ranges) rows, among_ranged rows ranges h)

-- ---- sides and ranges
pub ranges_held : (pairs : List (List ℕ × List ℕ)) (name : List ℕ) → are_modest_sides pairs ≡ true → IfSome (value_under (numbers_of pairs) name) (λ q. IsTextNumber q)
ranges_held [] name h = tt
ranges_held (p ∷ pairs) name h = let a = and_parts (is_modest (number p.1)) (are_modest_sides pairs) h in by (ranges_held pairs name a.1) (bytes_eq name p.0) a.0
  where
    by : IfSome (value_under (numbers_of pairs) name) (λ q. IsTextNumber q) → (b : Bool) → is_modest (number p.1) ≡ true → IfSome (cond b (Some (number p.1)) (value_under (numbers_of pairs) name)) (λ q. IsTextNumber q)
    by rest true m = modest_within (number p.1) m
    by rest false m = rest

-- ---- spans
module _ (upper : Option ℕ) (u : IfSome upper (λ n. n ≤ largest_bound)) where
  upper_small : (o : Option ℤ) → IfSome o (λ z. nat_abs z ≤ largest_bound) → nat_abs (unwrap_or (or_upper upper o) (pos 0)) ≤ largest_bound
  upper_small (Some z) h = h
  upper_small None h = by upper u
    where
      by : (upper : Option ℕ) → IfSome upper (λ n. n ≤ largest_bound) → nat_abs (unwrap_or (or_upper upper None) (pos 0)) ≤ largest_bound
      by None u = omega arith
      by (Some n) u = u

  lower_small : (o : Option ℤ) → IfSome o (λ z. nat_abs z ≤ largest_bound) → nat_abs (unwrap_or (or_lower upper o) (pos 0)) ≤ largest_bound
  lower_small (Some z) h = h
  lower_small None h = by upper u
    where
      by : (upper : Option ℕ) → IfSome upper (λ n. n ≤ largest_bound) → nat_abs (unwrap_or (or_lower upper None) (pos 0)) ≤ largest_bound
      by None u = omega arith
      by (Some n) u = omega (arith, ints, u)

  span_modest : (bounds : List Bound) (name : List ℕ) → AreSmall (summary_of name bounds) → IsModestSpan (span upper (bounds_on bounds name))
  span_modest bounds name h =
      let g = summary_gives name bounds in
      (lower_small _ (subst (λ o. IfSome o (λ z. nat_abs z ≤ largest_bound)) g.lower h.1), upper_small _ (subst (λ o. IfSome o (λ z. nat_abs z ≤ largest_bound)) g.upper h.0))

  spans_modest : (bounds : List Bound) (columns : List (List ℕ × Column)) → ((name : List ℕ) → AreSmall (summary_of name bounds)) → All IsModestSpan (spans_of upper (bounds_on bounds) columns)
  spans_modest bounds [] h = All-nil IsModestSpan
  spans_modest bounds (c ∷ columns) h =
      All-cons IsModestSpan (span upper (bounds_on bounds c.0)) (spans_of upper (bounds_on bounds) columns) (span_modest bounds c.0 (h c.0)) (spans_modest bounds columns h)

-- ---- the whole
module _ (s : Sections) (k : KeepsAll s) where
  terms_limited : (name : List ℕ) → AreLimited (length (columns_of (entries_of s.columns))) (terms_in name (placed_of (entries_of s.columns)))
  terms_limited name = keeps_limited (columns_of (entries_of s.columns)) (run_of (entries_of s.columns)) (last_of (entries_of s.columns)) (placed_of (entries_of s.columns)) k.limits.columns name

  objective_limited : (o : Option (List ℕ)) → AreLimited (length (columns_of (entries_of s.columns))) (objective_terms o (entries_of s.columns))
  objective_limited None = are_limited (length (columns_of (entries_of s.columns))) [] refl
  objective_limited (Some name) = subst (λ ts. AreLimited (length (columns_of (entries_of s.columns))) ts) (sym (terms_placed name (entries_of s.columns))) (terms_limited name)

  pub whole_limited : (upper : Option ℕ) → IfSome upper (λ n. n ≤ largest_bound) → IsLimited (problem_of upper s)
  whole_limited upper u =
      let cs = columns_of (entries_of s.columns) in
      let ts = placed_of (entries_of s.columns) in
      let rows = rows_of s.rows in
      let n : length (spans_of upper (bounds_on (bounds_of s.bounds)) cs) ≡ length cs = length-map cs (λ c. span upper (bounds_on (bounds_of s.bounds) c.0)) in
      let r = rows_are (entries_of s.columns) (sides_of s.rhs) (sides_of s.ranges) rows in
      record {
        names = length-map cs (λ c. c.0) ∙ sym n;
        few_columns = omega (arith, n, k.limits.columns.few);
        few_rows = omega (arith, ap length r, rows_few ts (numbers_of (sides_of s.rhs)) (sides_of s.ranges) rows k.distinct, k.few);
        spans = spans_modest upper u (bounds_of s.bounds) cs k.bounds;
        rows = subst (λ n. All (IsLimitedRow n) (flat_map (rows_at (entries_of s.columns) (sides_of s.rhs) (sides_of s.ranges)) rows)) (sym n)
            (subst (λ (rs : List Row). All (IsLimitedRow (length cs)) rs) (sym r)
            (ranged_limited (length cs) ts (numbers_of (sides_of s.rhs)) (numbers_of (sides_of s.ranges)) terms_limited
            (λ name. modest_within _ (side_modest (sides_of s.rhs) name k.limits.sides)) (λ name. ranges_held (sides_of s.ranges) name k.ranges) rows));
        objective = subst (λ n. AreLimited n (objective_terms (objective_name rows) (entries_of s.columns))) (sym n) (objective_limited (objective_name rows));
      }
