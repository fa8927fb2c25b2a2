-- What a section's table says of each row, where numbers that are 0 are not kept.
use Rattle.std.specs.Prelude.{◌≡◌, ℕ, ◌==◌, if◌then◌else◌, List, ◌∷◌, Option, Some, None, suc, slice_get, pos, []}
use Rattle.std.proofs.Common.{get_or}
use Rattle.fraction.specs.Rational.{ℚ, whole}
use Rattle.mps_reader.specs.declared.side_table.RowNumber.{RowNumber}
use Rattle.mps_reader.specs.declared.side_table.SideEntry.{SideEntry}
use Rattle.mps_reader.specs.declared.side_table.SideEntry.TheVariants as side

-- the number of the row at an index, where one leads to it: this may be another's
abbrev pub own_number : ℕ → Option RowNumber → ℚ
own_number i None = whole (pos 0)
own_number i (Some n) = if n.row == i then n.number else whole (pos 0)

-- the number of the row at an index, by what the section says of it
abbrev pub number_of : List RowNumber → ℕ → SideEntry → Option ℚ
number_of numbers i side.Missing = None
number_of numbers i side.Zero = Some (whole (pos 0))
number_of numbers i (side.At p) = Some (own_number i (slice_get numbers p))

-- the rows from an index on
abbrev pub numbers_from : List RowNumber → ℕ → List SideEntry → List (Option ℚ)
numbers_from numbers i [] = []
numbers_from numbers i (s ∷ sides) = number_of numbers i s ∷ numbers_from numbers (suc i) sides

-- the number of one row is given
abbrev pub Gives : List (Option ℚ) → List (Option ℚ) → ℕ → ℚ → Type 0
Gives old new i q = (j : ℕ) → get_or new j None ≡ (if j == i then Some q else get_or old j None)
