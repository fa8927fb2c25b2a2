-- What the columns so far say of one row.
use Rattle.std.specs.Prelude.{ℕ, Bool, false, ◌==◌, if◌then◌else◌, ◌∷◌, ◌++◌, Option, Some, None, []}
use Rattle.std.specs.Coded.{Coded, code_by, coded×, coded_list, coded_option, coded_ℕ}
use Rattle.std.specs.Option.{option_map, unwrap_or}
use Rattle.std.proofs.Common.{refl}
use Rattle.fraction.specs.Code.{code_ℚ}
use Rattle.fraction.specs.Rational.{ℚ}
use Rattle.mps_reader.specs.Meaning.{is_zero}
use Rattle.problem.specs.Linear.{Terms}

-- the terms of a row that keeps them, and the place of the column that named it last
pub record RowState : Type 0 where
  pub terms : Option Terms
  pub named_by : Option ℕ

-- states of rows as the pairs of their parts
abbrev pub code_RowState : Coded RowState
code_RowState = code_by (Option Terms × Option ℕ) (coded× (coded_option (coded_list (coded× coded_ℕ code_ℚ))) (coded_option coded_ℕ))
    (λ r. (r.terms, r.named_by)) (λ p. record { terms = p.0; named_by = p.1 }) (λ _. refl)

-- a row that no column names
abbrev pub new_row : Bool → RowState
new_row keeps = record { terms = if keeps then Some [] else None; named_by = None }

-- a row whose terms are not kept, and that no column names
abbrev pub bare_row : RowState
bare_row = new_row false

-- the terms that are kept of a row
abbrev pub kept_terms : RowState → Terms
kept_terms r = unwrap_or r.terms []

-- whether a row's last column is the one at this place
abbrev pub is_place : Option ℕ → ℕ → Bool
is_place None p = false
is_place (Some last) p = last == p

-- terms with the number of the column at this place: a zero is no term
abbrev pub with_term : ℕ → ℚ → Terms → Terms
with_term p q ts = if is_zero q then ts else ts ++ (p, q) ∷ []

-- a row with the number of the column at this place
abbrev pub with_number : ℕ → ℚ → RowState → RowState
with_number p q r = record { terms = option_map (with_term p q) r.terms; named_by = Some p }
