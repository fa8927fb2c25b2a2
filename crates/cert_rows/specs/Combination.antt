-- Sums of lines times multipliers.
use Rattle.std.specs.Prelude.{pos, List, [], ◌∷◌, ◌++◌, All}
use Rattle.fraction.specs.Rational.{ℚ, whole, ◌+ℚ◌, ◌*ℚ◌, ◌≤ℚ◌}
use Rattle.problem.specs.declared.row.Sense.{Sense}
use Rattle.problem.specs.declared.row.Sense.TheVariants.{G, L, E}
use Rattle.problem.specs.declared.row.Row.{Row}
use Rattle.problem.specs.Linear.{Terms, Multipliers, scaled}
use Rattle.cert_rows.specs.Lines.{CertLine, row_at}

-- in a combination for a G row: at least 0 on a G row, at most 0 on an L row, any on an E row; for an L row the other way round
abbrev pub HasRightSign : Sense → Sense → ℚ → Type 0
HasRightSign G G m = whole (pos 0) ≤ℚ m
HasRightSign G L m = m ≤ℚ whole (pos 0)
HasRightSign L L m = whole (pos 0) ≤ℚ m
HasRightSign L G m = m ≤ℚ whole (pos 0)
HasRightSign s E m = Unit {0}
HasRightSign E s m = ⊥

-- each multiplier has the right sign in a combination of this sense (VIPR 1.0)
abbrev pub AllSigned : Sense → List CertLine → Multipliers → Type 0
AllSigned s ls mult = All (λ m. HasRightSign s (row_at ls m.0).sense m.1) mult

-- the sum of the lines, each times its multiplier, term by term
abbrev pub combined_terms : List CertLine → Multipliers → Terms
combined_terms ls [] = []
combined_terms ls (m ∷ ms) = scaled m.1 (row_at ls m.0).terms ++ combined_terms ls ms

-- the sum of the right sides, each times its multiplier
abbrev pub combined_rhs : List CertLine → Multipliers → ℚ
combined_rhs ls [] = whole (pos 0)
combined_rhs ls (m ∷ ms) = m.1 *ℚ (row_at ls m.0).rhs +ℚ combined_rhs ls ms

-- the sum of lines times multipliers, as a row of a sense
abbrev pub combination : Sense → List CertLine → Multipliers → Row
combination s ls mult = record { sense = s; rhs = combined_rhs ls mult; terms = combined_terms ls mult }
