-- Positions and nonbasic values after a pivot.
use Rattle.std.specs.Prelude.{ℕ, ℤ, pos, List, slice_set}
use Rattle.integer_tableau.specs.declared.position.Position.{Position}
use Rattle.integer_tableau.specs.declared.position.Position.TheVariants.{InBasis, InColumn}

-- variable r takes the column of variable c, which comes into the basis
abbrev pub positions_exchanged : ℕ → ℕ → ℕ → List Position → List Position
positions_exchanged r c k positions = slice_set (slice_set positions r (InColumn k)) c InBasis

-- r goes to the bound b, and c, which is basic then, has 0
abbrev pub nonbasic_values_exchanged : ℕ → ℕ → ℤ → List ℤ → List ℤ
nonbasic_values_exchanged r c b xs = slice_set (slice_set xs r b) c (pos 0)
