-- What pseudo-costs promise.
use Rattle.std.specs.Prelude.{◌≡◌, ℕ, ◌<◌, List, replicate}
use Rattle.pseudo_cost.specs.declared.side.Side.{Side}
use Rattle.pseudo_cost.specs.declared.column_gains.ColumnGains.{ColumnGains}
use Rattle.pseudo_cost.specs.ColumnGains.{no_column_gains, gains_on, gains_at, IsBestColumn}
use Rattle.pseudo_cost.specs.Notes.{Note, all_noted, gains_of, side_gains_of}

-- two best columns of a list are equal
abbrev pub BestColumnsAreEqual : Type 0
BestColumnsAreEqual = (cs : List ColumnGains) (js : List ℕ) (i j : ℕ) → IsBestColumn cs js i → IsBestColumn cs js j → i ≡ j

-- what a run of notes on the costs of m columns leaves: each side of a column has the count and the sum of its own gains, of which it takes
-- the first 2^32
abbrev pub CostsAreOfNotes : Type 0
CostsAreOfNotes =
    (m : ℕ) (ns : List Note) (j : ℕ) (side : Side) → j < m
    → gains_on side (gains_at (all_noted (replicate m no_column_gains) ns) j) ≡ side_gains_of (gains_of ns j side)
