-- The known lines: rows, bounds and cuts, which assume nothing.
use Rattle.std.specs.Prelude.{◌≡◌, ◌<◌, ◌+◌, ◌*◌, ℕ, zero, suc, ℤ, List, [], ◌∷◌, ◌++◌, map, length, slice_index_or, refl}
use Rattle.std.proofs.Common.{sym, ap, ◌∙◌, arith}
use Rattle.std.proofs.lemmas.List.{append-nil, append_assoc, map-append}
use Rattle.fraction.specs.Rational.{ℚ}
use Rattle.problem_box.specs.declared.span.Span.{Span}
use Rattle.problem.specs.declared.row.Row.{Row}
use Rattle.problem.specs.Problem.{Problem}
use Rattle.problem.specs.Limited.{IsLimited}
use Rattle.cert_rows.specs.declared.line.CertRow.{CertRow}
use Rattle.cert_rows.specs.Lines.{CertLine, row_of, row_at, assumed_by}
use Rattle.cert_rows.specs.Combination.{combined_terms}
use Rattle.cert_rows.specs.Assumptions.{union, assumed_by_all}
use Rattle.cert_rows.specs.Validity.{lower_row, upper_row, bound_rows, given_lines}
use Rattle.node_tree.specs.declared.branch.Side.{Side}
use Rattle.node_tree.specs.declared.branch.Side.TheVariants.{Low, High}
use Rattle.node_tree.specs.Paths.{bound_on}
use Rattle.derivation_book.specs.declared.cut.Cut.{Cut}
use Rattle.derivation_book.specs.Known.{known_rows, known_lines}
use Rattle.derivation_book.specs.Places.{no_span}
use Rattle.derivation_book.specs.Cuts.{AreCutsOf}
use Rattle.derivation_book.specs.Lemmas.Numbering.{known_length, lower_place, upper_place}
use Rattle.derivation_book.specs.Lemmas.Exact.{combined_below}
use Rattle.derivation_book.specs.Lemmas.Cutting.{cuts_below, known_below}
use Rattle.cert_merge.specs.Closing.{AreBelow}
use Rattle.cert_merge.specs.Numbers.{bound_line}
use Rattle.cert_merge.specs.Merged.{row_lines, bound_lines, part_of}

-- a row that assumes nothing
abbrev pub bare : Row → CertLine
bare r = record { row = r; assumes = [] }

-- ---- the rows of the problem part
row_lines_are : (i : ℕ) (rs : List Row) → map row_of (row_lines i rs) ≡ rs
row_lines_are i [] = refl
row_lines_are i (r ∷ rs) = ap (λ ts. r ∷ ts) (row_lines_are (i + 1) rs)

bound_lines_are : (j : ℕ) (ss : List Span) → map row_of (bound_lines j ss) ≡ bound_rows j ss
bound_lines_are j [] = refl
bound_lines_are j (s ∷ ss) = ap (λ ts. lower_row j s ∷ upper_row j s ∷ ts) (bound_lines_are (j + 1) ss)

pub rows_are : (p : Problem) → map row_of (part_of p).rows ≡ p.rows ++ bound_rows 0 p.spans
rows_are p = map-append row_of (row_lines 0 p.rows) (bound_lines 0 p.spans) ∙ (λ i. row_lines_are 0 p.rows i ++ bound_lines_are 0 p.spans i)

given_are : (rs : List CertRow) → given_lines rs ≡ map bare (map row_of rs)
given_are [] = refl
given_are (r ∷ rs) = ap (λ ls. bare (row_of r) ∷ ls) (given_are rs)

-- ---- the lines before the assumptions
pub base_start : (p : Problem) → given_lines (part_of p).rows ≡ known_lines p []
base_start p = given_are (part_of p).rows ∙ ap (map bare) (rows_are p ∙ sym (append-nil (p.rows ++ bound_rows 0 p.spans)))

pub base_more : (p : Problem) (cs : List Cut) (c : Cut) → known_lines p cs ++ bare c.row ∷ [] ≡ known_lines p (cs ++ c ∷ [])
base_more p cs c =
    sym (map-append bare (known_rows p cs) (c.row ∷ []))
    ∙ ap (map bare) (append_assoc (p.rows ++ bound_rows 0 p.spans) (map (λ (c : Cut). c.row) cs) (c.row ∷ []) ∙ ap (λ rs. p.rows ++ bound_rows 0 p.spans ++ rs) (sym (map-append (λ (c : Cut). c.row) cs (c ∷ []))))

bare_assumed : (rs : List Row) (i : ℕ) → assumed_by (map bare rs) i ≡ []
bare_assumed [] i = refl
bare_assumed (r ∷ rs) zero = refl
bare_assumed (r ∷ rs) (suc i) = bare_assumed rs i

pub known_assumed : (p : Problem) (cs : List Cut) (i : ℕ) → assumed_by (known_lines p cs) i ≡ []
known_assumed p cs i = bare_assumed (known_rows p cs) i

pub none_assumed : (p : Problem) (cs : List Cut) (mult : List (ℕ × ℚ)) → assumed_by_all (known_lines p cs) mult ≡ []
none_assumed p cs [] = refl
none_assumed p cs (m ∷ ms) = λ i. union (known_assumed p cs m.0 i) (none_assumed p cs ms i)

-- ---- bounds
-- `x_j >= z` or `x_j <= z`
abbrev pub side_row : Side → ℕ → ℤ → Row
side_row Low j z = lower_row j (record { lo = z; hi = z })
side_row High j z = upper_row j (record { lo = z; hi = z })

module _ (p : Problem) (cs : List Cut) where
  pub bound_line_there : (j : ℕ) (side : Side) → j < length p.spans → bound_line p j side < length (known_lines p cs)
  bound_line_there j Low h = omega (arith, h, known_length p cs)
  bound_line_there j High h = omega (arith, h, known_length p cs)

  pub bound_line_row : (j : ℕ) (side : Side) → j < length p.spans → row_at (known_lines p cs) (bound_line p j side) ≡ side_row side j (bound_on side (slice_index_or p.spans j no_span))
  bound_line_row j Low h = sym (lower_place p cs (bound_line p j Low) j refl h)
  bound_line_row j High h = sym (upper_place p cs (bound_line p j High) j (let z : length p.rows + 2 * j + 1 ≡ length p.rows + (2 * j + 1) = omega arith in z) h)

-- ---- columns
-- combinations of known lines name columns of the problem
pub combined_over : (p : Problem) (cs : List Cut) (mult : List (ℕ × ℚ)) → IsLimited p → AreCutsOf p cs → AreBelow (length p.spans) (combined_terms (known_lines p cs) mult)
combined_over p cs mult l a = combined_below (length p.spans) (known_lines p cs) mult (known_below p cs l (cuts_below p [] cs a))
