-- Multipliers over one denominator, and the whole numbers that they are times it.
use Rattle.std.specs.Prelude.{◌≡◌, ℕ, ℤ, List, [], ◌∷◌, map, All}
use Rattle.fraction.specs.Rational.{ℚ, whole, frac}
use Rattle.fraction.specs.Whole.{IsWhole}
use Rattle.problem.specs.declared.row.Row.{Row}
use Rattle.problem.specs.Linear.{Multipliers}
use Rattle.cert_rows.specs.Lines.{CertLine, row_at}
use Rattle.derivation_book.specs.Sums.{Sums, sums_of}

-- w is whole, and m is that number over d
abbrev pub IsTimes : ℕ → ℚ → ℚ → Type 0
IsTimes d m w = (z : ℤ) × (w ≡ whole z) × (m ≡ frac z d)

-- of the same row
abbrev pub IsScaled : ℕ → ℕ × ℚ → ℕ × ℚ → Type 0
IsScaled d m w = (w.0 ≡ m.0) × IsTimes d m.1 w.1

-- one by one
abbrev pub AreScaled : ℕ → Multipliers → Multipliers → Type 0
AreScaled d [] [] = Unit {0}
AreScaled d [] (w ∷ ws) = ⊥
AreScaled d (m ∷ ms) [] = ⊥
AreScaled d (m ∷ ms) (w ∷ ws) = IsScaled d m w × AreScaled d ms ws

-- all numbers of a row are whole
abbrev pub IsWholeRow : Row → Type 0
IsWholeRow r = All (λ t. IsWhole t.1) r.terms × IsWhole r.rhs

-- the row that the multiplier names has whole numbers alone
abbrev pub NamesWholeRow : List CertLine → ℕ × ℚ → Type 0
NamesWholeRow ls m = IsWholeRow (row_at ls m.0)

-- the numerator over d
abbrev pub over : ℕ → ℚ → ℚ
over d c = frac c.num d

-- the sums, each divided by d
abbrev pub sums_over : ℕ → Sums → Sums
sums_over d s = sums_of (map (over d) s.coefficients) (over d s.side)
