-- The lines of a certificate, each with the numbers of the lines that it assumes.
use Rattle.std.specs.Prelude.{ℕ, pos, List, [], slice_index_or}
use Rattle.fraction.specs.Rational.{whole}
use Rattle.problem.specs.declared.row.Sense.TheVariants.{G}
use Rattle.problem.specs.declared.row.Row.{Row}
use Rattle.cert_rows.specs.declared.line.CertRow.{CertRow}

-- a row without its label
abbrev pub row_of : CertRow → Row
row_of r = record { sense = r.sense; rhs = r.rhs; terms = r.terms }

-- a row, and the rising list of the lines that it assumes
pub record CertLine : Type 0 where
  pub row : Row
  pub assumes : List ℕ

-- `0 >= 0`, which assumes nothing
abbrev pub no_cert_line : CertLine
no_cert_line = record { row = record { sense = G; rhs = whole (pos 0); terms = [] }; assumes = [] }

-- the row of a line
abbrev pub row_at : List CertLine → ℕ → Row
row_at ls i = (slice_index_or ls i no_cert_line).row

-- the assumptions of a line
abbrev pub assumed_by : List CertLine → ℕ → List ℕ
assumed_by ls i = (slice_index_or ls i no_cert_line).assumes
