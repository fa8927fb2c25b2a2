-- The row of a cut: a combination of rows, bound rows and earlier cuts, its right side rounded up.
use Rattle.std.specs.Prelude.{ℕ, ◌+◌, pos, nat_abs, int_le, Bool, true, ◌&&◌, nat_lt, nat_le, nat_eq, if◌then◌else◌, List, [], ◌∷◌, length, Option, Some, None}
use Rattle.std.specs.Option.{option_and_then}
use Rattle.std.specs.Ordering.{int_eq}
use Rattle.std.specs.List.{list_all}
use Rattle.fraction.specs.Rational.{ℚ, whole, ceil}
use Rattle.problem.specs.declared.row.Sense.{Sense}
use Rattle.problem.specs.declared.row.Sense.TheVariants.{G, L, E}
use Rattle.problem.specs.declared.row.Row.{Row}
use Rattle.problem.specs.Problem.{Problem}
use Rattle.cert_rows.specs.Lines.{CertLine, row_at}
use Rattle.derivation_book.specs.declared.cut.Cut.{Cut}
use Rattle.derivation_book.specs.Known.{known_lines}
use Rattle.derivation_book.specs.Sums.{Sums, combined}
use Rattle.problem.specs.Linear.{Terms, Multipliers}
use Rattle.problem.specs.Limits.{largest_cut_coefficient}

-- in a combination for a G row: at least 0 on a G row, at most 0 on an L row, any on an E row
abbrev pub has_right_sign : Sense → ℚ → Bool
has_right_sign G m = int_le (pos 0) m.num
has_right_sign L m = int_le m.num (pos 0)
has_right_sign E m = true

-- a number that is known, and the right sign
abbrev pub is_usable : List CertLine → ℕ × ℚ → Bool
is_usable ls m = nat_lt m.0 (length ls) && has_right_sign (row_at ls m.0).sense m.1

-- a whole number of at most the largest size
abbrev pub is_cut_coefficient : ℚ → Bool
is_cut_coefficient a = nat_eq a.den 1 && nat_le (nat_abs a.num) largest_cut_coefficient

-- the number is 0
abbrev pub is_zero : ℚ → Bool
is_zero a = int_eq a.num (pos 0)

-- the coefficients that aren't 0, of the columns from j on
abbrev pub nonzero_terms : ℕ → List ℚ → Terms
nonzero_terms j [] = []
nonzero_terms j (a ∷ cs) = if is_zero a then nonzero_terms (j + 1) cs else (j, a) ∷ nonzero_terms (j + 1) cs

-- the G row of sums: their nonzero coefficients, and the right side rounded up
abbrev pub cut_row : Sums → Row
cut_row s = record { sense = G; rhs = whole (ceil s.side); terms = nonzero_terms 0 s.coefficients }

-- the row of a combination, if it is one for a cut
abbrev pub rounded_sums : Sums → Option Row
rounded_sums s = if list_all is_cut_coefficient s.coefficients then Some (cut_row s) else None

-- the row of a cut with these multipliers: the Chvatal-Gomory rounding of their combination; none where that is no cut
abbrev pub rounded_row : Problem → List Cut → Multipliers → Option Row
rounded_row p cs mult =
    if list_all (is_usable (known_lines p cs)) mult then option_and_then rounded_sums (combined (known_lines p cs) mult (length p.spans)) else None
