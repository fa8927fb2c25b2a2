-- Rows of a linear program by their coefficients that aren't 0. Only contracts of the code's own parts cite what stands here.
use Rattle.std.specs.Prelude.{◌≡◌, ℕ, zero, suc, ◌+◌, ◌<◌, ◌≤◌, ℤ, pos, nat_abs, nat_eq, List, [], ◌∷◌, length, slice_index_or, if◌then◌else◌}
use Rattle.fraction.specs.Rational.{ℚ}
use Rattle.integer_tableau.specs.declared.program_row.ProgramEntry.{ProgramEntry}

-- n numbers from place j on: those of the entries, and 0 at the other places
abbrev pub spread : ℕ → ℕ → List ProgramEntry → List ℤ
spread j zero es = []
spread j (suc n) [] = pos 0 ∷ spread (suc j) n []
spread j (suc n) (e ∷ es) = if nat_eq e.place j then e.number ∷ spread (suc j) n es else pos 0 ∷ spread (suc j) n (e ∷ es)

-- the places rise, the first is at least j, and each is below n
abbrev pub RiseWithin : ℕ → ℕ → List ProgramEntry → Type 0
RiseWithin j n [] = Unit {0}
RiseWithin j n (e ∷ es) = (j ≤ e.place) × (e.place < n) × RiseWithin (suc e.place) n es

-- the entries are those of the row
pub record AreEntries (row : List ℤ) (es : List ProgramEntry) : Type 0 where
  pub rising : RiseWithin 0 (length row) es
  pub numbers : row ≡ spread 0 (length row) es
  pub within : (i : ℕ) → i < length es → (slice_index_or es i (record { place = 0; number = pos 0 })).place < length row

-- the sum of the sizes
abbrev pub entry_size : List ProgramEntry → ℕ
entry_size [] = 0
entry_size (e ∷ es) = nat_abs e.number + entry_size es

-- an entry as one of fractions, which stand for the numbers
abbrev pub entry_by : (ℤ → ℚ) → ProgramEntry → ℕ × ℚ
entry_by f e = (e.place, f e.number)
