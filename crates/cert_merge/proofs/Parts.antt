-- The lines of the problem part, one more at a time.
use Rattle.std.specs.Prelude.{◌≡◌, ◌+◌, ℕ, List, [], ◌∷◌, ◌++◌, drop, slice_get, Option, Some, None, option_map, codes, refl}
use Rattle.std.proofs.Common.{ap, sym, ◌∙◌, append_assoc}
use Rattle.std.proofs.lemmas.Option.{same_Some}
use Rattle.fraction.specs.Rational.{ℚ}
use Rattle.problem_box.specs.declared.span.Span.{Span}
use Rattle.problem.specs.declared.row.Row.{Row}
use Rattle.cert_rows.specs.declared.line.CertRow.{CertRow}
use Rattle.cert_rows.specs.declared.line.Why.{Why}
use Rattle.cert_rows.specs.declared.line.Why.TheVariants.{Rnd}
use Rattle.cert_rows.specs.Validity.{lower_row, upper_row}
use Rattle.derivation_book.specs.declared.cut.Cut.{Cut}
use Rattle.derivation_book.specs.Lemmas.OptionChains.{next_there}
use Rattle.cert_merge.specs.Merged.{label_of, labelled, row_lines, bound_lines, cut_line, cut_lines}

pub next_row : (rs : List Row) (i : ℕ) (r : Row) (prefix : List CertRow) → slice_get rs i ≡ Some r
    → (prefix ++ (labelled (label_of (codes "R") i) r ∷ [])) ++ row_lines (i + 1) (drop (i + 1) rs) ≡ prefix ++ row_lines i (drop i rs)
next_row rs i r prefix h =
    append_assoc prefix (labelled (label_of (codes "R") i) r ∷ []) (row_lines (i + 1) (drop (i + 1) rs)) ∙ ap (λ t. prefix ++ row_lines i t) (sym (next_there rs i r h))

pub next_bounds : (ss : List Span) (j : ℕ) (s : Span) (prefix : List CertRow) → slice_get ss j ≡ Some s
    → ((prefix ++ (labelled (label_of (codes "L") j) (lower_row j s) ∷ [])) ++ (labelled (label_of (codes "U") j) (upper_row j s) ∷ [])) ++ bound_lines (j + 1) (drop (j + 1) ss)
    ≡ prefix ++ bound_lines j (drop j ss)
next_bounds ss j s prefix h =
    append_assoc (prefix ++ (labelled (label_of (codes "L") j) (lower_row j s) ∷ [])) (labelled (label_of (codes "U") j) (upper_row j s) ∷ []) (bound_lines (j + 1) (drop (j + 1) ss))
    ∙ append_assoc prefix (labelled (label_of (codes "L") j) (lower_row j s) ∷ []) (labelled (label_of (codes "U") j) (upper_row j s) ∷ bound_lines (j + 1) (drop (j + 1) ss))
    ∙ ap (λ t. prefix ++ bound_lines j t) (sym (next_there ss j s h))

-- ---- cuts
-- a cut with its row and its multipliers
pub cut_there : (o : Option Cut) (i : ℕ) (r : Row) (mult : List (ℕ × ℚ)) → option_map (λ (c : Cut). c.row) o ≡ Some r → option_map (λ (c : Cut). c.mult) o ≡ Some mult
    → option_map (cut_line i) o ≡ Some (labelled (label_of (codes "K") i) r, Rnd mult)
cut_there None i r mult e f = cc
cut_there (Some c) i r mult e f =
    let p : c.row ≡ r = cc in
    let q : c.mult ≡ mult = cc in
    λ k. Some (labelled (label_of (codes "K") i) (p k), Rnd (q k))

pub next_cut : (cs : List Cut) (i : ℕ) (l : CertRow × Why) (prefix : List (CertRow × Why)) → option_map (cut_line i) (slice_get cs i) ≡ Some l
    → (prefix ++ (l ∷ [])) ++ cut_lines (i + 1) (drop (i + 1) cs) ≡ prefix ++ cut_lines i (drop i cs)
next_cut cs i l prefix h = step (slice_get cs i) refl h
  where
    step : (o : Option Cut) → slice_get cs i ≡ o → option_map (cut_line i) o ≡ Some l → (prefix ++ (l ∷ [])) ++ cut_lines (i + 1) (drop (i + 1) cs) ≡ prefix ++ cut_lines i (drop i cs)
    step None e q = cc
    step (Some c) e q =
        let z : cut_line i c ≡ l = same_Some (cut_line i c) l q in
        append_assoc prefix (l ∷ []) (cut_lines (i + 1) (drop (i + 1) cs)) ∙ (λ k. prefix ++ (sym z k ∷ cut_lines (i + 1) (drop (i + 1) cs))) ∙ ap (λ t. prefix ++ cut_lines i t) (sym (next_there cs i c e))
