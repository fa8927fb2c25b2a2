-- Lemmas: the rows of the problem, where a ranged row gives two.
use Rattle.std.specs.Prelude.{◌≡◌, ℕ, ◌+◌, ◌*◌, ◌≤◌, pos, neg_ℤ, Bool, true, false, if◌then◌else◌, cond, List, ◌∷◌, ◌++◌, Option, Some, None, All, IfSome, int_lt, []}
use Rattle.std.specs.List.{flat_map}
use Rattle.std.specs.Option.{unwrap_or}
use Rattle.std.proofs.Common.{refl, sym, ap, ◌∙◌, arith, subst}
use Rattle.std.proofs.lemmas.List.Elements.{All-nil, All-cons, All-append}
use Rattle.fraction.specs.Gcd.{gcd}
use Rattle.fraction.specs.Rational.{ℚ, whole, ◌+ℚ◌, neg_ℚ}
use Rattle.fraction.specs.Lemmas.Rational.{neg_ℚ_is, ℚ_is}
use Rattle.fraction.specs.Checked.{abs_ℚ, add_checked}
use Rattle.fraction.specs.Bounds.{Within}
use Rattle.fraction.specs.Lemmas.Bounds.{add_is, add_fits_within, Within-+ℚ}
use Rattle.problem.specs.declared.row.Row.{Row}
use Rattle.problem.specs.declared.row.Sense.{Sense}
use Rattle.problem.specs.declared.row.Sense.TheVariants as sense
use Rattle.problem.specs.Limited.{AreLimited, IsLimitedRow}
use Rattle.problem.specs.Limits.{largest_bound, finest}
use Rattle.mps_reader.proofs.SideNumbers.{numbers_of, value_under_numbers}
use Rattle.mps_reader.proofs.BuildingLemmas.{side_in}
use Rattle.mps_reader.specs.Meaning.{rows_at, rows_from, range_of, ranged_rows, is_below_zero}
use Rattle.mps_reader.specs.Lemmas.Placing.{terms_placed, placed_of, terms_in}
use Rattle.mps_reader.specs.Sections.{Entry}
use Rattle.mps_reader.specs.Words.{value_under}
use Rattle.mps_reader.specs.declared.kinds.RowType.{RowType}
use Rattle.mps_reader.specs.declared.kinds.RowType.TheVariants as row
use Rattle.mps_reader.specs.RangedRows.{IsTextNumber}
use Rattle.fraction.specs.Lemmas.Integers.{abs-neg}

-- the rows that a row of the text gives, by its side, its range and its terms
abbrev pub ranged_row : List (List ℕ × (ℕ × ℚ)) → List (List ℕ × ℚ) → List (List ℕ × ℚ) → List ℕ × RowType → List Row
ranged_row placed sides ranges r = rows_from r.1 (side_in sides r.0) (value_under ranges r.0) (terms_in r.0 placed)

row_is : (entries : List Entry) (rhs ranges : List (List ℕ × List ℕ)) (r : List ℕ × RowType) → rows_at entries rhs ranges r ≡ ranged_row (placed_of entries) (numbers_of rhs) (numbers_of ranges) r
row_is entries rhs ranges r = λ i. rows_from r.1 (unwrap_or (sym (value_under_numbers rhs r.0) i) (whole (pos 0))) (sym (value_under_numbers ranges r.0) i) (terms_placed r.0 entries i)

pub rows_are : (entries : List Entry) (rhs ranges : List (List ℕ × List ℕ)) (rows : List (List ℕ × RowType))
    → flat_map (rows_at entries rhs ranges) rows ≡ flat_map (ranged_row (placed_of entries) (numbers_of rhs) (numbers_of ranges)) rows
rows_are entries rhs ranges [] = refl
rows_are entries rhs ranges (r ∷ rows) = λ i. row_is entries rhs ranges r i ++ rows_are entries rhs ranges rows i

pub neg_held : (q : ℚ) → IsTextNumber q → IsTextNumber (neg_ℚ q)
neg_held q h =
    let n : ℚ = record { num = neg_ℤ q.num; den = q.den; lowest = (q.lowest.0, ap (λ k. gcd k q.den) (abs-neg q.num) ∙ q.lowest.1) } in
    subst (λ (x : ℚ). IsTextNumber x) (sym (neg_ℚ_is q ∙ sym (ℚ_is n)))
    (record { divides = h.divides; size = subst (λ k. k * finest ≤ largest_bound * finest * q.den) (sym (abs-neg q.num)) h.size })

pub abs_held : (q : ℚ) → IsTextNumber q → IsTextNumber (abs_ℚ q)
abs_held q h = by (int_lt q.num (pos 0))
  where
    by : (b : Bool) → IsTextNumber (cond b (neg_ℚ q) q)
    by true = neg_held q h
    by false = h

pub sum_is : (a b : ℚ) → IsTextNumber a → IsTextNumber b → add_checked a b ≡ Some (a +ℚ b)
sum_is a b h k = add_is a b (add_fits_within a b finest (largest_bound * finest) (largest_bound * finest) (omega arith) (omega arith) (omega arith) h k)

sum_wide : (a b : ℚ) → IsTextNumber a → IsTextNumber b → Within finest (2 * (largest_bound * finest)) (a +ℚ b)
sum_wide a b h k = let s : Within finest (largest_bound * finest + largest_bound * finest) (a +ℚ b) = Within-+ℚ a b finest (largest_bound * finest) (largest_bound * finest) (omega arith) h k in record { divides = s.divides; size = omega (arith, s.size) }

wide : (q : ℚ) → IsTextNumber q → Within finest (2 * (largest_bound * finest)) q
wide q h = record { divides = h.divides; size = omega (arith, h.size) }

abbrev AreWide : ℚ × ℚ → Type 0
AreWide ends = Within finest (2 * (largest_bound * finest)) ends.0 × Within finest (2 * (largest_bound * finest)) ends.1

range_wide : (type : RowType) (b r : ℚ) → IsTextNumber b → IsTextNumber r → AreWide (range_of type b r)
range_wide row.N b r h k = (wide b h, wide b h)
range_wide row.G b r h k = (wide b h, sum_wide b (abs_ℚ r) h (abs_held r k))
range_wide row.L b r h k = (sum_wide b (neg_ℚ (abs_ℚ r)) h (neg_held (abs_ℚ r) (abs_held r k)), wide b h)
range_wide row.E b r h k = by (is_below_zero r)
  where
    by : (c : Bool) → AreWide (if c then (b +ℚ r, b) else (b, b +ℚ r))
    by true = (sum_wide b r h k, wide b h)
    by false = (wide b h, sum_wide b r h k)

-- ---- limited rows
module _ (n : ℕ) (ts : List (ℕ × ℚ)) (l : AreLimited n ts) where
  one_limited : (s : Sense) (b : ℚ) → Within finest (2 * (largest_bound * finest)) b → All (IsLimitedRow n) (record { sense = s; rhs = b; terms = ts } ∷ [])
  one_limited s b h = All-cons (IsLimitedRow n) (record { sense = s; rhs = b; terms = ts }) [] (record { terms = l; rhs = h }) (All-nil (IsLimitedRow n))

  single_limited : (type : RowType) (b : ℚ) → IsTextNumber b → All (IsLimitedRow n) (rows_from type b None ts)
  single_limited row.N b h = All-nil (IsLimitedRow n)
  single_limited row.L b h = one_limited sense.L b (wide b h)
  single_limited row.G b h = one_limited sense.G b (wide b h)
  single_limited row.E b h = one_limited sense.E b (wide b h)

  both_limited : (ends : ℚ × ℚ) → AreWide ends → All (IsLimitedRow n) (ranged_rows ends ts)
  both_limited ends h = All-cons (IsLimitedRow n) (record { sense = sense.G; rhs = ends.0; terms = ts }) (record { sense = sense.L; rhs = ends.1; terms = ts } ∷ []) (record { terms = l; rhs = h.0 }) (one_limited sense.L ends.1 h.1)

  range_limited : (type : RowType) (b r : ℚ) → IsTextNumber b → IsTextNumber r → All (IsLimitedRow n) (rows_from type b (Some r) ts)
  range_limited row.N b r h k = All-nil (IsLimitedRow n)
  range_limited row.L b r h k = both_limited (range_of row.L b r) (range_wide row.L b r h k)
  range_limited row.G b r h k = both_limited (range_of row.G b r) (range_wide row.G b r h k)
  range_limited row.E b r h k = both_limited (range_of row.E b r) (range_wide row.E b r h k)

  row_limited : (type : RowType) (b : ℚ) (r : Option ℚ) → IsTextNumber b → IfSome r (λ q. IsTextNumber q) → All (IsLimitedRow n) (rows_from type b r ts)
  row_limited type b None h k = single_limited type b h
  row_limited type b (Some r) h k = range_limited type b r h k

module _ (n : ℕ) (placed : List (List ℕ × (ℕ × ℚ))) (sides ranges : List (List ℕ × ℚ)) (l : (name : List ℕ) → AreLimited n (terms_in name placed))
    (s : (name : List ℕ) → IsTextNumber (side_in sides name)) (g : (name : List ℕ) → IfSome (value_under ranges name) (λ q. IsTextNumber q)) where
  pub ranged_limited : (rows : List (List ℕ × RowType)) → All (IsLimitedRow n) (flat_map (ranged_row placed sides ranges) rows)
  ranged_limited [] = All-nil (IsLimitedRow n)
  ranged_limited (r ∷ rows) = All-append (IsLimitedRow n) (ranged_row placed sides ranges r) _ (row_limited n (terms_in r.0 placed) (l r.0) r.1 (side_in sides r.0) (value_under ranges r.0) (s r.0) (g r.0)) (ranged_limited rows)
