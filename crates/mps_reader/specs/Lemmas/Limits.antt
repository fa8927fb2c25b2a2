-- What lines without a fault keep to: the limits of a problem.
use Rattle.std.specs.Prelude.{◌≡◌, ℕ, ◌+◌, ◌-◌, ◌*◌, ◌%◌, ◌≤◌, Bool, true, ◌&&◌, ◌==◌, not, nat_abs, nat_le, nat_lt, List, ◌∷◌, Option, Some, None, length, suc, []}
use Rattle.std.specs.List.{list_all}
use Rattle.fraction.specs.Rational.{ℚ}
use Rattle.mps_reader.specs.Faults.{counted}
use Rattle.mps_reader.specs.VisibleNames.{is_visible}
use Rattle.mps_reader.specs.Meaning.{is_zero, place}
use Rattle.mps_reader.specs.Lemmas.Placing.{placed_of, terms_in}
use Rattle.mps_reader.specs.Sections.{Sections, rows_of, Entry, entries_of, columns_of, run_of, last_of, number, sides_of}
use Rattle.mps_reader.specs.Words.{value_under}
use Rattle.mps_reader.specs.declared.kinds.Column.{Column}
use Rattle.problem.specs.Linear.{Terms}
use Rattle.problem.specs.Limits.{most_columns, most_rows, largest_bound, finest}

-- ---- numbers and terms
abbrev pub is_modest : ℚ → Bool
is_modest q = nat_le q.den finest && ((finest % q.den == 0) && nat_le (nat_abs q.num) (largest_bound * q.den))

-- columns below n that rise from k on, with modest numbers that are not 0
abbrev pub limited_from : ℕ → ℕ → Terms → Bool
limited_from n k [] = true
limited_from n k (t ∷ ts) = nat_lt t.0 n && (nat_le k t.0 && (is_modest t.1 && (not (is_zero t.1) && limited_from n (suc t.0) ts)))

-- below which place a row's terms stand: all columns where the row has come in the last column, else all before it
abbrev pub reach : Option ℚ → ℕ → ℕ
reach None n = n - 1
reach (Some q) n = n

-- ---- the entries of COLUMNS

-- columns, the run of the last one, its name, and all entries in order: no more columns than a problem may have, with visible names, the last one of which is the last of
-- the entries; each row's terms have rising columns and modest numbers
pub record KeepsEntries (cs : List (List ℕ × Column)) (run : List (List ℕ × ℚ)) (last : Option (List ℕ)) (ts : List (List ℕ × (ℕ × ℚ))) : Type 0 where
  pub few : length cs ≤ most_columns
  pub last_is : (c : List ℕ) → last ≡ Some c → place cs c + 1 ≡ length cs
  pub terms : (name : List ℕ) → limited_from (reach (value_under run name) (length cs)) 0 (terms_in name ts) ≡ true
  pub places : list_all (λ t. nat_lt t.1.0 (length cs)) ts ≡ true
  pub names : list_all (λ c. is_visible c.0) cs ≡ true

abbrev pub AreKept : List Entry → Type 0
AreKept entries = KeepsEntries (columns_of entries) (run_of entries) (last_of entries) (placed_of entries)

abbrev pub are_modest_sides : List (List ℕ × List ℕ) → Bool
are_modest_sides pairs = list_all (λ p. is_modest (number p.1)) pairs

-- ---- all lines
pub record KeepsLimits (s : Sections) : Type 0 where
  pub rows : counted (rows_of s.rows) ≤ most_rows
  pub columns : AreKept (entries_of s.columns)
  pub sides : are_modest_sides (sides_of s.rhs) ≡ true
