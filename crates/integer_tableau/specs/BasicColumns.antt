-- The list of the basic columns.
use Rattle.std.specs.Prelude.{◌≡◌, ℕ, zero, suc, ◌<◌, nat_lt, ℤ, List, [], ◌∷◌, length, slice_index_or, if◌then◌else◌}
use Rattle.std.specs.List.{insert, remove}
use Rattle.integer_tableau.specs.declared.position.Position.{Position}
use Rattle.integer_tableau.specs.declared.position.Position.TheVariants.{InBasis, InColumn}

-- of n variables from i on, those that are basic
abbrev pub basic_from : ℕ → ℕ → List Position → List ℕ
basic_from i zero ss = []
basic_from i (suc n) [] = []
basic_from i (suc n) (InBasis ∷ ss) = i ∷ basic_from (suc i) n ss
basic_from i (suc n) (InColumn k ∷ ss) = basic_from (suc i) n ss

-- how many numbers come before the first that isn't below x
abbrev pub count_below : ℕ → List ℕ → ℕ
count_below x [] = 0
count_below x (y ∷ ys) = if nat_lt y x then suc (count_below x ys) else 0

-- the list after variable r has left the basis; the variables below n are columns
abbrev pub without_column : ℕ → ℕ → List ℕ → List ℕ
without_column n r js = if nat_lt r n then remove js (count_below r js) else js

-- the list after variable c has entered the basis
abbrev pub with_column : ℕ → ℕ → List ℕ → List ℕ
with_column n c js = if nat_lt c n then insert js (count_below c js) c else js

-- the list after r has left the basis and c has entered it
abbrev pub basic_exchanged : ℕ → ℕ → ℕ → List ℕ → List ℕ
basic_exchanged n r c js = with_column n c (without_column n r js)

-- columns by rising number, in whose list each row is that has numbers
pub record HaveRows (columns : List ℕ) (rows : List (List ℤ)) : Type 0 where
  pub there : (p : ℕ) → p < length columns → slice_index_or columns p 0 < length rows
  pub rise : (p q : ℕ) → p < q → q < length columns → slice_index_or columns p 0 < slice_index_or columns q 0
  pub all : (v : ℕ) → v < length rows → 0 < length (slice_index_or rows v []) → (p : ℕ) × (p < length columns) × (slice_index_or columns p 0 ≡ v)
