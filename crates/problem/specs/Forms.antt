-- What a term says, however its coefficient is kept.
use Rattle.std.specs.Prelude.{◌≡◌, ℕ, None, ⊤}
use Rattle.fraction.specs.Rational.{ℚ}
use Rattle.fraction.specs.Narrow.{narrow}
use Rattle.problem.specs.declared.term.Form.{Form}
use Rattle.problem.specs.declared.term.Form.TheVariants.{Narrow, Wide}

-- the column and the coefficient, however they are kept
abbrev pub pair_of : Form → ℕ × ℚ
pair_of (Narrow column coefficient) = (column, coefficient)
pair_of (Wide column coefficient) = (column, coefficient.value)

-- a coefficient that fits into 64 bits isn't kept in the wide form
abbrev pub IsNarrowWhereItFits : Form → Type 0
IsNarrowWhereItFits (Narrow column coefficient) = ⊤
IsNarrowWhereItFits (Wide column coefficient) = narrow coefficient.value ≡ None
