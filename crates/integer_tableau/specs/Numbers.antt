-- Lists of whole numbers, and their sizes.
use Rattle.std.specs.Prelude.{ℕ, ◌+◌, ◌≤◌, ℤ, pos, nat_abs, List, [], ◌∷◌, slice_index_or}

-- the number at a place, 0 past the end
abbrev pub number_at : List ℤ → ℕ → ℤ
number_at xs k = slice_index_or xs k (pos 0)

-- each number has at most this size
abbrev pub IsWithin : ℕ → List ℤ → Type 0
IsWithin size xs = (k : ℕ) → nat_abs (number_at xs k) ≤ size

-- the sum of the sizes
abbrev pub total_size : List ℤ → ℕ
total_size [] = 0
total_size (x ∷ xs) = nat_abs x + total_size xs
