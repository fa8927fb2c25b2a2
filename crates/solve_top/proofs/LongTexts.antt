-- Texts that are too long are refused.
use Rattle.std.proofs.Common.{◌≡◌, ◌≤◌, ◌<◌, ℕ, List, Option, length, ap, arith, inl, inr}
use Rattle.std.proofs.lemmas.Bool.{cases_lt, lt-ltb}
use Rattle.mps_reader.specs.Reading.{IsRefused, reading, text_limit}
use Rattle.mps_reader.specs.declared.kinds.Kind.TheVariants as kind

pub long_refused : (text : List ℕ) (upper : Option ℕ) → text_limit < length text → IsRefused text upper 0 kind.TooMany
unfolding reading
long_refused text upper l = rw (lt-ltb text_limit (length text) l)

-- what was read of it is longer than the limit, and would be all of it otherwise
pub too_long : (text : List ℕ) (upper : Option ℕ) (prefix : List ℕ) → (length text ≤ text_limit → prefix ≡ text) → text_limit < length prefix → IsRefused text upper 0 kind.TooMany
too_long text upper prefix short l = elim (cases_lt text_limit (length text)) [
  | inl m ↦ long_refused text upper m
  | inr m ↦ absurd (omega (arith, l, m, ap length (short m)))
]
