-- The cuts of a problem.
use Rattle.std.specs.Prelude.{◌≡◌, List, [], ◌∷◌, ◌++◌, Some}
use Rattle.problem.specs.Problem.{Problem}
use Rattle.derivation_book.specs.declared.cut.Cut.{Cut}
use Rattle.derivation_book.specs.Rounded.{rounded_row}

-- each cut's row is the rounded row of its multipliers over the cuts before it
abbrev pub AreCutsAfter : Problem → List Cut → List Cut → Type 0
AreCutsAfter p before [] = Unit {0}
AreCutsAfter p before (c ∷ cs) = (rounded_row p before c.mult ≡ Some c.row) × AreCutsAfter p (before ++ c ∷ []) cs

-- each cut is the rounded row of its multipliers over the rows and the cuts before it
abbrev pub AreCutsOf : Problem → List Cut → Type 0
AreCutsOf p cs = AreCutsAfter p [] cs
