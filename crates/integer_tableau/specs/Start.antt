-- The tableau at the start, on whole numbers.
use Rattle.std.specs.Prelude.{ℕ, zero, suc, ℤ, pos, int_lt, List, [], ◌∷◌, Bool, if◌then◌else◌}
use Rattle.std.specs.Option.{unwrap_or}
use Rattle.integer_tableau.specs.declared.integer_bounds.IntegerBounds.{IntegerBounds}
use Rattle.integer_tableau.specs.declared.position.Position.{Position}
use Rattle.integer_tableau.specs.declared.position.Position.TheVariants.{InColumn}

-- n columns from k on
abbrev pub columns_from : ℕ → ℕ → List Position
columns_from k zero = []
columns_from k (suc n) = InColumn k ∷ columns_from (suc k) n

-- the number is below 0
abbrev pub is_negative : ℤ → Bool
is_negative z = int_lt z (pos 0)

-- as `start_value` has it
abbrev pub start_number : ℤ → IntegerBounds → ℤ
start_number cost b = if int_lt cost (pos 0) then unwrap_or b.upper (pos 0) else unwrap_or b.lower (pos 0)

-- the bound at which each column starts
abbrev pub start_numbers : List ℤ → List IntegerBounds → List ℤ
start_numbers [] bs = []
start_numbers (c ∷ cs) [] = []
start_numbers (c ∷ cs) (b ∷ bs) = start_number c b ∷ start_numbers cs bs
