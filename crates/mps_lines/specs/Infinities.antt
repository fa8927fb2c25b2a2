-- A word or a size that stands for no number: an infinity, and whether it is below 0.
use Rattle.std.specs.Prelude.{ℕ, ◌*◌, ◌^◌, Bool, ◌||◌, nat_le, if◌then◌else◌, List, Option, Some, None, codes}
use Rattle.std.specs.Option.{option_or}
use Rattle.std.specs.Str.{str_eq_ignore_ascii_case}
use Rattle.std.specs.Str.Parse.{digits_value}
use Rattle.mps_lines.specs.Decimals.{Spelt, spelling, sign_at}

-- a word, after its sign
abbrev pub infinity_word : Bool × List ℕ → Option Bool
infinity_word s = if str_eq_ignore_ascii_case s.1 (codes "inf") || str_eq_ignore_ascii_case s.1 (codes "infinity") then Some s.0 else None

-- a size of 10^20 or more
unfoldable pub is_vast : Spelt → Bool
is_vast s = nat_le (10 ^ 20 * 10 ^ s.down) (digits_value 10 s.digits * 10 ^ s.up)

-- whether a number whose size is an infinity of the format is negative; none for other numbers
abbrev pub vast : Option Spelt → Option Bool
vast None = None
vast (Some s) = if is_vast s then Some s.negative else None

-- whether the infinity that a field spells, by a word or by a vast number, is the negative one; none for other fields
abbrev pub infinite : List ℕ → Option Bool
infinite field = option_or (infinity_word (sign_at field)) (vast (spelling field))
