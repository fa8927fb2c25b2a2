-- The first payload of a journal: the text of the model, and the upper bound for columns that lack one, if one was given. It has one encoding.
use Rattle.std.specs.Prelude.{◌≡◌, ℕ, ℤ, pos, ◌≤ℤ◌, int_le, Bool, ◌&&◌, ◌==◌, if◌then◌else◌, List, ◌∷◌, ◌++◌, Option, Some, None, Result, Ok, Err}
use Rattle.std.specs.Ordering.{int_eq}
use Rattle.event_codec.specs.declared.fault.CodecFault.{CodecFault}
use Rattle.event_codec.specs.declared.fault.CodecFault.TheVariants.{BadTag, BadValue}
use Rattle.event_codec.specs.declared.enc.Enc.TheVariants.{One}
use Rattle.event_codec.specs.declared.model.ModelRecord.{ModelRecord}
use Rattle.event_codec.specs.Places.{Place, beginning}
use Rattle.event_codec.specs.Codes.{i64_code}
use Rattle.event_codec.specs.ReadResults.{Read, ◌>>=◌, test}
use Rattle.event_codec.specs.Reading.{byte_at, flag_at, i64_at}
use Rattle.problem.specs.Limits.{largest_bound}

-- an upper bound from 0 to the largest bound
abbrev pub IsUpper : ℤ → Type 0
IsUpper z = (pos 0 ≤ℤ z) × (z ≤ℤ pos largest_bound)

-- a flag whether there is a bound, and the bound or 0
abbrev pub upper_code : Option ℤ → List ℕ
upper_code None = 0 ∷ i64_code One (pos 0)
upper_code (Some z) = 1 ∷ i64_code One z

-- tag, format, upper bound, and the text to the end
abbrev pub model_code : List ℕ → Option ℤ → List ℕ
model_code text upper = (1 ∷ 1 ∷ upper_code upper) ++ text

-- ---- reading it

-- a byte that has to be this one
unfoldable pub known_at : ℕ → Place → Read (Unit {0})
known_at n p = do
  tag ← byte_at p
  _ ← test (tag.0 == n) (BadTag p.at)
  Ok (tt, tag.1)

-- a bound that may stand behind the flag
abbrev pub is_upper : Bool → ℤ → Bool
is_upper flag z = if flag then int_le (pos 0) z && int_le z (pos largest_bound) else int_eq z (pos 0)

-- the bound behind its flag
unfoldable pub upper_at : Place → Read (Option ℤ)
upper_at p = do
  flag ← flag_at p
  upper ← i64_at One flag.1
  _ ← test (is_upper flag.0 upper.0) (BadValue flag.1.at)
  Ok ((if flag.0 then Some upper.0 else None), upper.1)

-- a text and an upper bound, without where they lie in memory
pub record Model : Type 0 where
  pub text : List ℕ
  pub upper : Option ℤ

-- what the code's record says
abbrev pub record_of : ModelRecord → Model
record_of m = record { text = m.text.now; upper = m.upper }

-- What a function returned is what reading gives.
abbrev pub GivesModel : Result ModelRecord CodecFault → Result Model CodecFault → Type 0
GivesModel (Ok m) read = read ≡ Ok (record_of m)
GivesModel (Err f) read = read ≡ Err f

-- the model that a payload spells: its tag, its format, the bound, and the rest as the text
unfoldable pub model_of : List ℕ → Result Model CodecFault
model_of bytes = do
  tag ← known_at 1 (beginning bytes)
  format ← known_at 1 tag.1
  upper ← upper_at format.1
  Ok (record { text = upper.1.rest; upper = upper.0 })
