-- The gains that columns have noted, and the column that they choose.
use Rattle.std.specs.Prelude.{◌≡◌, ◌⊎◌, ℕ, ◌+◌, ◌*◌, ◌≤◌, List, All, Contains, slice_set, slice_index_or}
use Rattle.pseudo_cost.specs.declared.side.Side.{Side}
use Rattle.pseudo_cost.specs.declared.side.Side.TheVariants.{Down, Up}
use Rattle.pseudo_cost.specs.declared.column_gains.ColumnGains.{ColumnGains}
use Rattle.pseudo_cost.specs.declared.column_gains.SideGains.{SideGains}
use Rattle.pseudo_cost.specs.SideGains.{no_gains, with_gain, average, IsWithinLimits}

-- a column that has noted nothing
abbrev pub no_column_gains : ColumnGains
no_column_gains = record { down = no_gains; up = no_gains }

-- what a side of a column has noted
abbrev pub gains_on : Side → ColumnGains → SideGains
gains_on Down c = c.down
gains_on Up c = c.up

-- one more gain on a side of a column
abbrev pub noted_on : Side → ℕ → ColumnGains → ColumnGains
noted_on Down g c = record c { down = with_gain g c.down }
noted_on Up g c = record c { up = with_gain g c.up }

-- what column j has noted
abbrev pub gains_at : List ColumnGains → ℕ → ColumnGains
gains_at cs j = slice_index_or cs j no_column_gains

-- one more gain on a side of column j
abbrev pub noted : ℕ → Side → ℕ → List ColumnGains → List ColumnGains
noted j side g cs = slice_set cs j (noted_on side g (gains_at cs j))

-- both averages, each raised by 1, multiplied
abbrev pub score : ColumnGains → ℕ
score c = (average c.down + 1) * (average c.up + 1)

-- column j's score
abbrev pub score_at : List ColumnGains → ℕ → ℕ
score_at cs j = score (gains_at cs j)

-- the column of greatest score in a list, the least on a tie
pub record IsBestColumn (cs : List ColumnGains) (js : List ℕ) (j : ℕ) : Type 0 where
  pub listed : Contains js j
  pub greatest : All (λ k. score_at cs k ≤ score_at cs j) js
  pub least : All (λ k. score_at cs k ≡ score_at cs j → j ≤ k) js

-- of two columns the one of greater score, or the lesser one where scores are equal
pub record IsBetterOf (cs : List ColumnGains) (i j best : ℕ) : Type 0 where
  pub one : (best ≡ i) ⊎ (best ≡ j)
  pub first : score_at cs i ≤ score_at cs best
  pub second : score_at cs j ≤ score_at cs best
  pub first_tie : score_at cs i ≡ score_at cs best → best ≤ i
  pub second_tie : score_at cs j ≡ score_at cs best → best ≤ j

-- both sides keep to the limits on gains
abbrev pub AreWithinLimits : ColumnGains → Type 0
AreWithinLimits c = IsWithinLimits c.down × IsWithinLimits c.up
