-- The rows that multipliers may name, by their numbers.
use Rattle.std.specs.Prelude.{ℕ, ◌+◌, ◌*◌, List, [], ◌++◌, map, length}
use Rattle.problem.specs.Problem.{Problem}
use Rattle.cert_rows.specs.Lines.{CertLine}
use Rattle.cert_rows.specs.Validity.{bound_rows}
use Rattle.derivation_book.specs.declared.cut.Cut.{Cut}
use Rattle.problem.specs.Rows.{Rows}

-- numbered from 0: the problem's rows, per column its lower and its upper bound row, and the rows of the cuts
abbrev pub known_rows : Problem → List Cut → Rows
known_rows p cs = p.rows ++ bound_rows 0 p.spans ++ map (λ (c : Cut). c.row) cs

-- the same as lines of a certificate, which assume nothing
abbrev pub known_lines : Problem → List Cut → List CertLine
known_lines p cs = map (λ r. record { row = r; assumes = [] }) (known_rows p cs)

-- the number of the first cut
abbrev pub first_cut : Problem → ℕ
first_cut p = length p.rows + 2 * length p.spans
