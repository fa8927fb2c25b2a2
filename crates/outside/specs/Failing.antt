-- Which calls of a fake fail.
use Rattle.std.specs.Prelude.{ℕ, ◌+◌, min, List, Option, Some, None, Bool, false, nat_eq, nat_le}
use Rattle.std.specs.List.{list_any}

-- how many calls there were after one more: the count stays at its last value
abbrev pub one_more : ℕ → ℕ
one_more calls = min (calls + 1) 18446744073709551615

-- the test for a call that is listed
abbrev pub is_listed : List ℕ → ℕ → Bool
is_listed failing call = list_any (λ n. nat_eq n call) failing

-- the test for a call at the stop or behind it
abbrev pub is_stopped : Option ℕ → ℕ → Bool
is_stopped None call = false
is_stopped (Some stop) call = nat_le stop call
