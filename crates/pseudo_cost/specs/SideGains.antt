-- The gains that one side of a column has noted, by their count and their sum.
use Rattle.std.specs.Prelude.{ℕ, ◌+◌, ◌*◌, ◌/◌, ◌^◌, ◌≤◌, eqb, nat_lt, if◌then◌else◌}
use Rattle.pseudo_cost.specs.declared.column_gains.SideGains.{SideGains}
use Rattle.pseudo_cost.specs.Gains.{largest_gain}

-- a side that has noted nothing
abbrev pub no_gains : SideGains
no_gains = record { count = 0; sum = 0 }

-- a side that has 2^32 gains takes no more
abbrev pub with_gain : ℕ → SideGains → SideGains
with_gain g s = if nat_lt s.count (2 ^ 32) then record { count = s.count + 1; sum = s.sum + g } else s

-- the average gain, rounded down; 0 where nothing is noted
abbrev pub average : SideGains → ℕ
average s = if eqb s.count 0 then 0 else s.sum / s.count

-- there are at most 2^32 gains, each at most the largest
pub record IsWithinLimits (s : SideGains) : Type 0 where
  pub count : s.count ≤ 2 ^ 32
  pub sum : s.sum ≤ s.count * largest_gain
