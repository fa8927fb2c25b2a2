-- The leaving variable, on whole numbers.
use Rattle.std.specs.Prelude.{ℕ, ◌+◌, ℤ, List, [], ◌∷◌, Option, None}
use Rattle.fraction.specs.Rational.{frac}
use Rattle.tableau.specs.declared.bounds.Direction.{Direction}
use Rattle.tableau.specs.Leaving.{violation, found_or}
use Rattle.integer_tableau.specs.IntegerTableau.{fraction_bounds}
use Rattle.integer_tableau.specs.declared.integer_bounds.IntegerBounds.{IntegerBounds}
use Rattle.integer_tableau.specs.declared.position.Position.{Position}
use Rattle.integer_tableau.specs.declared.position.Position.TheVariants.{InBasis, InColumn}

-- of a basic variable of value v / d
abbrev pub violation_at : ℕ → Position → IntegerBounds → ℤ → Option Direction
violation_at d InBasis b v = violation (fraction_bounds b) (frac v d)
violation_at d (InColumn k) b v = None

-- from variable i on, as `leaving_from` has it
abbrev pub leaving_by_numerators : ℕ → ℕ → List Position → List IntegerBounds → List ℤ → Option (ℕ × Direction)
leaving_by_numerators d i [] bs vs = None
leaving_by_numerators d i (s ∷ ss) [] vs = None
leaving_by_numerators d i (s ∷ ss) (b ∷ bs) [] = None
leaving_by_numerators d i (s ∷ ss) (b ∷ bs) (v ∷ vs) = found_or i (violation_at d s b v) (leaving_by_numerators d (i + 1) ss bs vs)
