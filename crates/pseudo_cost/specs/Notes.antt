-- Runs of notes, and the gains that each side of a column has in them.
use Rattle.std.specs.Prelude.{ℕ, ◌^◌, eqb, ◌&&◌, Bool, true, false, if◌then◌else◌, List, [], ◌∷◌, length, take, sum}
use Rattle.pseudo_cost.specs.declared.side.Side.{Side}
use Rattle.pseudo_cost.specs.declared.side.Side.TheVariants.{Down, Up}
use Rattle.pseudo_cost.specs.declared.column_gains.ColumnGains.{ColumnGains}
use Rattle.pseudo_cost.specs.declared.column_gains.SideGains.{SideGains}
use Rattle.pseudo_cost.specs.ColumnGains.{noted}

-- a gain that is noted for a side of a column
pub record Note : Type 0 where
  pub column : ℕ
  pub side : Side
  pub gain : ℕ

-- the notes of a run, the oldest first
abbrev pub all_noted : List ColumnGains → List Note → List ColumnGains
all_noted cs [] = cs
all_noted cs (n ∷ ns) = all_noted (noted n.column n.side n.gain cs) ns

-- both sides are the same one
abbrev pub is_same_side : Side → Side → Bool
is_same_side Down Down = true
is_same_side Down Up = false
is_same_side Up Down = false
is_same_side Up Up = true

-- the gains of a run on one side of column j, the oldest first
abbrev pub gains_of : List Note → ℕ → Side → List ℕ
gains_of [] j side = []
gains_of (n ∷ ns) j side = if eqb n.column j && is_same_side n.side side then n.gain ∷ gains_of ns j side else gains_of ns j side

-- the most gains that a side takes. Proofs go by this name, since `take` would count as far as a number
unfoldable pub most_notes : ℕ
most_notes = 2 ^ 32

-- what a side keeps of a list of gains: the count and the sum of the first ones, as many as it takes
abbrev pub side_gains_of : List ℕ → SideGains
side_gains_of gs = record { count = length (take most_notes gs); sum = sum (take most_notes gs) }
