-- Places in a payload.
use Rattle.std.specs.Prelude.{ℕ, ◌+◌, List, drop, refl}
use Rattle.std.specs.Coded.{Coded, code_by, coded×, coded_ℕ, coded_list}

-- how many bytes stand before, and the bytes from there on
pub record Place : Type 0 where
  pub at : ℕ
  pub rest : List ℕ

-- the place at which these bytes begin
abbrev pub beginning : List ℕ → Place
beginning bytes = record { at = 0; rest = bytes }

-- n bytes further on
abbrev pub further : ℕ → Place → Place
further n p = record { at = p.at + n; rest = drop n p.rest }

-- a place is stored as a pair
abbrev pub parts : Place → ℕ × List ℕ
parts p = (p.at, p.rest)

-- the place of an offset and what is left
abbrev pub of_parts : ℕ × List ℕ → Place
of_parts x = record { at = x.0; rest = x.1 }

-- places as the pairs of their parts
abbrev pub code_Place : Coded Place
code_Place = code_by (ℕ × List ℕ) (coded× coded_ℕ (coded_list coded_ℕ)) parts of_parts (λ p. refl)
