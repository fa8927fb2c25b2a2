-- Lemmas: what the lines of BOUNDS say of each column.
use Rattle.std.specs.Prelude.{◌≡◌, ℕ, ◌*◌, ◌/◌, ◌%◌, ◌<◌, ◌≤◌, ℤ, pos, negsuc, neg_ℤ, nat_abs, Bool, true, false, ◌&&◌, ◌||◌, ◌==◌, nat_le, if◌then◌else◌, cond, List, ◌∷◌, Option, Some, None, []}
use Rattle.std.specs.Str.{bytes_eq}
use Rattle.std.proofs.Common.{refl, arith}
use Rattle.std.proofs.lemmas.Bool.{and_parts}
use Rattle.std.proofs.lemmas.Int.{ints}
use Rattle.std.proofs.Math.Nat.{div-le_of_le-mul, div-lt_iff_lt-mul}
use Rattle.fraction.specs.Rational.{ℚ, floor, ceil, floor_div}
use Rattle.mps_lines.specs.Infinities.{infinite}
use Rattle.mps_reader.specs.Meaning.{sets_upper, sets_lower, upper_by, lower_by, makes_whole, is_negative_up, upper_of, lower_of, is_whole_by, is_upper_negative, has_lower_line, bounds_on}
use Rattle.mps_reader.specs.Lemmas.Modest.{modest_decimal}
use Rattle.mps_reader.specs.Sections.{Bound, number}
use Rattle.mps_lines.specs.Values.{IsValue}
use Rattle.mps_reader.specs.declared.kinds.BoundType.{BoundType}
use Rattle.mps_reader.specs.declared.kinds.BoundType.TheVariants as bound
use Rattle.mps_reader.specs.declared.limits.ColumnBounds.{ColumnBounds}
use Rattle.mps_lines.specs.declared.values.Value.TheVariants as value
use Rattle.mps_reader.specs.BoundLines.{is_negative, with_limits, summary_of}
use Rattle.mps_reader.specs.Lemmas.Limits.{is_modest}
use Rattle.problem.specs.Limits.{largest_bound, finest}
use Rattle.fraction.specs.Lemmas.Integers.{abs-neg}

-- ---- the summary has the values that are defined
pub record Gives (name : List ℕ) (bounds : List Bound) (l : ColumnBounds) : Type 0 where
  pub upper : l.upper ≡ upper_of name bounds
  pub lower : l.lower ≡ lower_of name bounds
  pub whole : l.is_whole ≡ is_whole_by name bounds
  pub negative : l.is_upper_negative ≡ is_upper_negative name bounds
  pub lower_line : l.has_lower_line ≡ has_lower_line name bounds

abbrev AfterLine : Bool → Bound → List Bound → List ℕ → ColumnBounds → Type 0
AfterLine own b earlier name l =
    (l.upper ≡ (if own && sets_upper b.type then upper_by b.type b.value else upper_of name earlier))
    × (l.lower ≡ (if own && sets_lower b.type then lower_by b.type b.value else lower_of name earlier))
    × (l.is_whole ≡ ((own && makes_whole b.type) || is_whole_by name earlier))
    × (l.is_upper_negative ≡ (if own && sets_upper b.type then is_negative_up b.type b.value (infinite b.value) else is_upper_negative name earlier))
    × (l.has_lower_line ≡ ((own && sets_lower b.type) || has_lower_line name earlier))

negative_is : (value : List ℕ) (o : Option Bool) → (is_negative o (number value) ≡ is_negative_up bound.Up value o) × (is_negative o (number value) ≡ is_negative_up bound.Ui value o)
negative_is value None = (refl, refl)
negative_is value (Some b) = (refl, refl)

own_line : (type : BoundType) (group : Option (List ℕ)) (column value : List ℕ) (earlier : List Bound) (name : List ℕ) (l : ColumnBounds) → Gives name earlier l
    → AfterLine true (record { type = type; group = group; column = column; value = value }) earlier name (with_limits type value l)
own_line bound.Up group column value earlier name l g = (refl, g.lower, g.whole, (negative_is value (infinite value)).0, g.lower_line)
own_line bound.Lo group column value earlier name l g = (g.upper, refl, g.whole, g.negative, refl)
own_line bound.Fx group column value earlier name l g = (refl, refl, g.whole, refl, refl)
own_line bound.Li group column value earlier name l g = (g.upper, refl, refl, g.negative, refl)
own_line bound.Ui group column value earlier name l g = (refl, g.lower, refl, (negative_is value (infinite value)).1, g.lower_line)
own_line bound.Fr group column value earlier name l g = (refl, refl, g.whole, refl, refl)
own_line bound.Mi group column value earlier name l g = (g.upper, refl, g.whole, g.negative, refl)
own_line bound.Pl group column value earlier name l g = (refl, g.lower, g.whole, refl, g.lower_line)
own_line bound.Bv group column value earlier name l g = (refl, refl, refl, refl, refl)

line_by : (own : Bool) (b : Bound) (earlier : List Bound) (name : List ℕ) (l : ColumnBounds) → Gives name earlier l → AfterLine own b earlier name (cond own (with_limits b.type b.value l) l)
line_by true b earlier name l g = own_line b.type b.group b.column b.value earlier name l g
line_by false b earlier name l g = (g.upper, g.lower, g.whole, g.negative, g.lower_line)

pub summary_gives : (name : List ℕ) (bounds : List Bound) → Gives name bounds (summary_of name bounds)
summary_gives name [] = record { upper = refl; lower = refl; whole = refl; negative = refl; lower_line = refl }
summary_gives name (b ∷ earlier) =
    let a = line_by (bytes_eq b.column name) b earlier name (summary_of name earlier) (summary_gives name earlier) in
    record { upper = a.0; lower = a.1; whole = a.2; negative = a.3; lower_line = a.4 }

pub summary_is : (name : List ℕ) (bounds : List Bound) → summary_of name bounds ≡ bounds_on bounds name
summary_is name bounds =
    let g = summary_gives name bounds in
    λ i. record { upper = g.upper i; lower = g.lower i; is_whole = g.whole i; is_upper_negative = g.negative i; has_lower_line = g.lower_line i }

-- ---- roundings are small
floor_div_small : (z : ℤ) (d : ℕ) → 0 < d → nat_abs z ≤ largest_bound * d → nat_abs (floor_div z d) ≤ largest_bound
floor_div_small (pos a) d p h = div-le_of_le-mul d (let e : a ≤ d * largest_bound = omega (arith, h) in e)
floor_div_small (negsuc a) d p h = below (a / d) ((div-lt_iff_lt-mul {k = d} {x = a} {y = largest_bound} p).1 (let e : a < largest_bound * d = omega (arith, ints, h) in e))
  where
    below : (n : ℕ) → n < largest_bound → nat_abs (negsuc n) ≤ largest_bound
    below n l = omega (arith, ints)

size_of : (q : ℚ) → is_modest q ≡ true → nat_abs q.num ≤ largest_bound * q.den
size_of q h =
    let a = and_parts (nat_le q.den finest) _ h in
    let b = and_parts (finest % q.den == 0) (nat_le (nat_abs q.num) (largest_bound * q.den)) a.1 in
    let le : nat_le (nat_abs q.num) (largest_bound * q.den) ≡ true = b.1 in
    grind arith

pub floor_small : (q : ℚ) → is_modest q ≡ true → nat_abs (floor q) ≤ largest_bound
unfolding floor
floor_small q h = floor_div_small q.num q.den q.lowest.0 (size_of q h)

pub ceil_small : (q : ℚ) → is_modest q ≡ true → nat_abs (ceil q) ≤ largest_bound
unfolding ceil
ceil_small q h =
    let s = size_of q h in
    let f = floor_div_small (neg_ℤ q.num) q.den q.lowest.0 (omega (arith, abs-neg q.num, s)) in
    omega (arith, f, abs-neg (floor_div (neg_ℤ q.num) q.den))

-- ---- a number of a line
module _ (field : List ℕ) (q : ℚ) (h : IsValue field (value.Finite q)) where
  value_modest : is_modest q ≡ true
  value_modest = modest_decimal field q h.0

  pub finite_floor : nat_abs (floor q) ≤ largest_bound
  finite_floor = floor_small q value_modest

  pub finite_ceil : nat_abs (ceil q) ≤ largest_bound
  finite_ceil = ceil_small q value_modest
