-- Reading the code of an event from left to right, in each of the two encodings. A fault has its place, and the first one is the answer.
use Rattle.std.specs.Prelude.{ℕ, zero, suc, ◌-◌, ◌^◌, ℤ, pos, int_lt, nat_abs, Bool, ◌&&◌, not, ◌==◌, nat_lt, nat_le, if◌then◌else◌, List, [], ◌∷◌, length, take, Option, None, Some, Result, Ok, Err}
use Rattle.std.specs.Ordering.{int_eq}
use Rattle.std.specs.Int.{w8, w32, w64, w128, from_le_bytes, cast_signed}
use Rattle.fraction.specs.Rational.{ℚ, frac}
use Rattle.fraction.specs.Gcd.{gcd}
use Rattle.fraction.specs.Checked.{is_small}
use Rattle.problem.specs.Linear.{Multipliers, Point}
use Rattle.node_events.specs.declared.event.Event.{Event}
use Rattle.node_events.specs.declared.event.Event.TheVariants.{Cut, Offer, Split, Close}
use Rattle.node_events.specs.declared.reason.Reason.{Reason}
use Rattle.node_events.specs.declared.reason.Reason.TheVariants.{Fractional, Cramped, Stalled}
use Rattle.node_events.specs.declared.proof.Proof.{Proof}
use Rattle.node_events.specs.declared.proof.Proof.TheVariants.{Empty, Refute, Bound}
use Rattle.event_codec.specs.declared.fault.CodecFault.{CodecFault}
use Rattle.event_codec.specs.declared.fault.CodecFault.TheVariants.{Short, Long, BadTag, BadValue}
use Rattle.event_codec.specs.declared.enc.Enc.{Enc}
use Rattle.event_codec.specs.declared.enc.Enc.TheVariants.{One, Two}
use Rattle.event_codec.specs.Places.{Place, beginning, further}
use Rattle.event_codec.specs.Varints.{varint_size, varint_value, is_fewest, from_zigzag}
use Rattle.event_codec.specs.ReadResults.{Read, ◌>>=◌, test}

-- ---- numbers

-- the next n bytes
unfoldable pub bytes_at : ℕ → Place → Read (List ℕ)
bytes_at n p = if nat_lt (length p.rest) n then Err (Short p.at) else Ok (take n p.rest, further n p)

-- one byte
unfoldable pub byte_at : Place → Read ℕ
byte_at p = do
  b ← bytes_at 1 p
  Ok (from_le_bytes w8 b.0, b.1)

-- so many bytes, if it is known how many
abbrev pub bytes_if : Option ℕ → Place → Read (List ℕ)
bytes_if None p = Err (Short p.at)
bytes_if (Some n) p = bytes_at n p

-- the bytes of a varint
unfoldable pub varint_bytes_at : Place → Read (List ℕ)
varint_bytes_at p = bytes_if (varint_size p.rest) p

-- a number in as few bytes as it needs, of at most this size
unfoldable pub varint_at : ℕ → Place → Read ℕ
varint_at most p = do
  b ← varint_bytes_at p
  _ ← test (is_fewest b.0 && nat_le (varint_value b.0) most) (BadValue p.at)
  Ok (varint_value b.0, b.1)

-- a number of 32 bits, as 4 bytes, the lowest first; or as few as it needs
unfoldable pub u32_at : Enc → Place → Read ℕ
u32_at One p = do
  b ← bytes_at 4 p
  Ok (from_le_bytes w32 b.0, b.1)
u32_at Two p = varint_at (2 ^ 32 - 1) p

-- a whole number of 64 bits, as 8 bytes in two's complement; or as few as it needs
unfoldable pub i64_at : Enc → Place → Read ℤ
i64_at One p = do
  b ← bytes_at 8 p
  Ok (cast_signed w64 (from_le_bytes w64 b.0), b.1)
i64_at Two p = do
  n ← varint_at (2 ^ 64 - 1) p
  Ok (from_zigzag n.0, n.1)

-- a whole number of 128 bits, as 16 bytes in two's complement; or as few as it needs
unfoldable pub i128_at : Enc → Place → Read ℤ
i128_at One p = do
  b ← bytes_at 16 p
  Ok (cast_signed w128 (from_le_bytes w128 b.0), b.1)
i128_at Two p = do
  n ← varint_at (2 ^ 128 - 1) p
  Ok (from_zigzag n.0, n.1)

-- 0 is false, and 1 is true
unfoldable pub flag_at : Place → Read Bool
flag_at p = do
  flag ← byte_at p
  _ ← test (nat_lt flag.0 2) (BadValue p.at)
  Ok (flag.0 == 1, flag.1)

-- ---- fractions

-- a denominator that leaves the fraction in lowest terms
abbrev pub is_lowest : ℤ → ℤ → Bool
is_lowest num den = int_lt (pos 0) den && (gcd (nat_abs num) (nat_abs den) == 1)

-- a denominator, behind a numerator that stands at this place
unfoldable pub denominator_at : Enc → ℕ → ℤ → Place → Read ℚ
denominator_at enc at num p = do
  den ← i128_at enc p
  _ ← test (is_lowest num den.0) (BadValue at)
  Ok (frac num (nat_abs den.0), den.1)

-- A fraction whose numerator passes the test. Each of its faults but a missing byte stands at the numerator.
unfoldable pub fraction_at : Enc → (ℤ → Bool) → Place → Read ℚ
fraction_at enc passes p = do
  num ← i128_at enc p
  _ ← test (passes num.0) (BadValue p.at)
  denominator_at enc p.at num.0 num.1

-- a numerator of a multiplier
abbrev pub is_factor : ℤ → Bool
is_factor num = is_small num && not (int_eq num (pos 0))

-- ---- lists

-- so many elements
unfoldable pub elements_at : {A : Type 0} → (Place → Read A) → ℕ → Place → Read (List A)
elements_at read zero p = Ok ([], p)
elements_at read (suc n) p = do
  first ← read p
  others ← elements_at read n first.1
  Ok (first.0 ∷ others.0, others.1)

-- a list of whole numbers
unfoldable pub point_at : Enc → Place → Read Point
point_at enc p = do
  count ← u32_at enc p
  elements_at (i64_at enc) count.0 count.1

-- a list of fractions
unfoldable pub rational_point_at : Enc → Place → Read (List ℚ)
rational_point_at enc p = do
  count ← u32_at enc p
  elements_at (fraction_at enc is_small) count.0 count.1

-- a row from the least one on, and its factor
unfoldable pub factor_at : Enc → ℕ → Place → Read (ℕ × ℚ)
factor_at enc least p = do
  row ← u32_at enc p
  _ ← test (nat_le least row.0) (BadValue p.at)
  factor ← fraction_at enc is_factor row.1
  Ok ((row.0, factor.0), factor.1)

-- so many rows with their factors, each row above the one before
unfoldable pub factors_at : Enc → ℕ → ℕ → Place → Read Multipliers
factors_at enc least zero p = Ok ([], p)
factors_at enc least (suc n) p = do
  first ← factor_at enc least p
  others ← factors_at enc (suc first.0.0) n first.1
  Ok (first.0 ∷ others.0, others.1)

-- a list of factors, whose rows' numbers rise
unfoldable pub mult_at : Enc → Place → Read Multipliers
mult_at enc p = do
  count ← u32_at enc p
  factors_at enc 0 count.0 count.1

-- ---- why a node is split

-- the parts of `Fractional`, behind its tag
unfoldable pub fractional_at : Enc → Place → Read Reason
fractional_at enc p = do
  cuts ← u32_at enc p
  point ← rational_point_at enc cuts.1
  Ok (Fractional cuts.0 point.0, point.1)

-- the parts of `Cramped`, behind its tag
unfoldable pub cramped_at : Enc → Place → Read Reason
cramped_at enc p = do
  cuts ← u32_at enc p
  pivots ← u32_at enc cuts.1
  Ok (Cramped cuts.0 pivots.0, pivots.1)

-- the parts of `Stalled`, behind its tag
unfoldable pub stalled_at : Enc → Place → Read Reason
stalled_at enc p = do
  cuts ← u32_at enc p
  Ok (Stalled cuts.0, cuts.1)

-- a reason, by its tag
unfoldable pub reason_at : Enc → Place → Read Reason
reason_at enc p = do
  tag ← byte_at p
  if tag.0 == 0 then fractional_at enc tag.1
      else (if tag.0 == 1 then cramped_at enc tag.1
      else (if tag.0 == 2 then stalled_at enc tag.1
      else Err (BadTag p.at)))

-- ---- why a node is closed

-- the parts of `Refute`, behind its tag
unfoldable pub refute_at : Enc → Place → Read Proof
refute_at enc p = do
  mult ← mult_at enc p
  Ok (Refute mult.0, mult.1)

-- the parts of `Bound`, behind its tag
unfoldable pub bound_at : Enc → Place → Read Proof
bound_at enc p = do
  rounded ← flag_at p
  mult ← mult_at enc rounded.1
  Ok (Bound mult.0 rounded.0, mult.1)

-- the parts of `Empty`, behind its tag
unfoldable pub empty_at : Enc → Place → Read Proof
empty_at enc p = do
  column ← u32_at enc p
  Ok (Empty column.0, column.1)

-- a proof, by its tag
unfoldable pub proof_at : Enc → Place → Read Proof
proof_at enc p = do
  tag ← byte_at p
  if tag.0 == 0 then refute_at enc tag.1
      else (if tag.0 == 1 then bound_at enc tag.1
      else (if tag.0 == 2 then empty_at enc tag.1
      else Err (BadTag p.at)))

-- ---- events

-- the parts of `Cut`, behind its tag
unfoldable pub cut_at : Enc → Place → Read Event
cut_at enc p = do
  mult ← mult_at enc p
  Ok (Cut mult.0, mult.1)

-- the parts of `Offer`, behind its tag
unfoldable pub offer_at : Enc → Place → Read Event
offer_at enc p = do
  point ← point_at enc p
  Ok (Offer point.0, point.1)

-- the parts of `Split`, behind its tag
unfoldable pub split_at : Enc → Place → Read Event
split_at enc p = do
  node ← u32_at enc p
  column ← u32_at enc node.1
  bound ← i64_at enc column.1
  reason ← reason_at enc bound.1
  Ok (Split node.0 column.0 bound.0 reason.0, reason.1)

-- the parts of `Close`, behind its tag
unfoldable pub close_at : Enc → Place → Read Event
close_at enc p = do
  node ← u32_at enc p
  proof ← proof_at enc node.1
  Ok (Close node.0 proof.0, proof.1)

-- an event, by its tag
unfoldable pub event_at : Enc → Place → Read Event
event_at enc p = do
  tag ← byte_at p
  if tag.0 == 2 then cut_at enc tag.1
      else (if tag.0 == 3 then offer_at enc tag.1
      else (if tag.0 == 4 then split_at enc tag.1
      else (if tag.0 == 5 then close_at enc tag.1
      else Err (BadTag p.at))))

-- the event that a payload spells, all of its bytes
unfoldable pub event_of : Enc → List ℕ → Result Event CodecFault
event_of enc bytes = do
  event ← event_at enc (beginning bytes)
  _ ← test (length event.1.rest == 0) (Long event.1.at)
  Ok event.0
