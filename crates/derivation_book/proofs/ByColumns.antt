-- The coefficients of a combination, line by line over all columns at once.
use Rattle.std.specs.Prelude.{◌≡◌, ℕ, zero, suc, All, ◌+◌, ◌<◌, ◌≤◌, pos, List, length, drop, slice_index_or, replicate, Some, None}
use Rattle.std.specs.Option.{option_and_then}
use Rattle.std.proofs.Common.{sym, ap, ◌∙◌}
use Rattle.std.proofs.lemmas.List.{drop_all}
use Rattle.std.proofs.lemmas.List.Elements.{All-nil, All-cons}
use Rattle.fraction.specs.Rational.{ℚ, whole}
use Rattle.fraction.specs.Fits.{FitsFraction}
use Rattle.fraction.specs.Lemmas.Checked.{zero_has_fraction}
use Rattle.cert_rows.specs.Lines.{CertLine, row_at}
use Rattle.derivation_book.specs.Sums.{combined_columns}
use Rattle.derivation_book.specs.Adding.{columns_added}
use Rattle.derivation_book.specs.Lemmas.Combining.{columns_from, columns_step, columns_done, columns_begun}
use Rattle.derivation_book.specs.Lemmas.OptionChains.{next_item}

pub first_columns : (ls : List CertLine) (mult : List (ℕ × ℚ)) (n k : ℕ) → k ≡ n → (ss : List ℚ) → ss ≡ replicate k (whole (pos 0)) → columns_from ls (drop 0 mult) 0 ss ≡ combined_columns ls mult 0 n
first_columns ls mult n k e ss f = ap (columns_from ls mult 0) (f ∙ ap (λ i. replicate i (whole (pos 0))) e) ∙ columns_begun ls mult 0 n

module _ (ls : List CertLine) (mult : List (ℕ × ℚ)) (i : ℕ) (m : ℕ × ℚ) (there : i < length mult) (is : m ≡ slice_index_or mult i m) (p : ℕ × ℚ) (same : p ≡ m) (ss : List ℚ) where
  split : columns_from ls (drop i mult) 0 ss ≡ option_and_then (columns_from ls (drop (i + 1) mult) 0) (columns_added ss 0 p.1 (row_at ls p.0).terms)
  split =
      ap (λ ms. columns_from ls ms 0 ss) (next_item mult i m there is) ∙ columns_step ls m (drop (i + 1) mult) 0 ss
      ∙ ap (λ (r : ℕ × ℚ). option_and_then (columns_from ls (drop (i + 1) mult) 0) (columns_added ss 0 r.1 (row_at ls r.0).terms)) (sym same)

  pub next_columns : (us : List ℚ) → columns_added ss 0 p.1 (row_at ls p.0).terms ≡ Some us → columns_from ls (drop (i + 1) mult) 0 us ≡ columns_from ls (drop i mult) 0 ss
  next_columns us e = sym (split ∙ ap (option_and_then (columns_from ls (drop (i + 1) mult) 0)) e)

  pub next_columns_cramped : columns_added ss 0 p.1 (row_at ls p.0).terms ≡ None → columns_from ls (drop i mult) 0 ss ≡ None
  next_columns_cramped e = split ∙ ap (option_and_then (columns_from ls (drop (i + 1) mult) 0)) e

pub all_columns : (ls : List CertLine) (mult : List (ℕ × ℚ)) (i : ℕ) (ss : List ℚ) → length mult ≤ i → columns_from ls (drop i mult) 0 ss ≡ Some ss
all_columns ls mult i ss l = ap (λ ms. columns_from ls ms 0 ss) (drop_all i mult l) ∙ columns_done ls 0 ss

pub held_zeros : (n : ℕ) → All FitsFraction (replicate n (whole (pos 0)))
held_zeros zero = All-nil FitsFraction
held_zeros (suc n) = All-cons FitsFraction (whole (pos 0)) (replicate n (whole (pos 0))) zero_has_fraction (held_zeros n)
