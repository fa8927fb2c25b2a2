-- Lemmas: combinations over longer lists of lines.
use Rattle.std.specs.Prelude.{◌≡◌, ◌<◌, ◌≤◌, ℕ, List, [], ◌∷◌, ◌++◌, length, All, slice_index_or, refl}
use Rattle.std.proofs.Common.{sym, ap, subst, arith}
use Rattle.std.proofs.lemmas.List.Elements.{All-nil, All-cons, All-head, All-tail, All-weaker}
use Rattle.fraction.specs.Rational.{ℚ, ◌+ℚ◌, ◌*ℚ◌}
use Rattle.problem.specs.declared.row.Sense.{Sense}
use Rattle.problem.specs.declared.row.Row.{Row}
use Rattle.problem.specs.Linear.{scaled}
use Rattle.cert_rows.specs.Lines.{CertLine, row_at, assumed_by, no_cert_line}
use Rattle.cert_rows.specs.Combination.{HasRightSign, AllSigned, combination, combined_terms, combined_rhs}
use Rattle.cert_rows.specs.Domination.{Dominates}
use Rattle.cert_rows.specs.Assumptions.{assumed_by_all, union}
use Rattle.cert_rows.specs.Validity.{IsCombination, HasWholeCoefficients, IsLinear, IsRounded, rounded}

-- the lines begin with those of B
pub record BeginsWith (B ls : List CertLine) : Type 0 where
  pub longer : length B ≤ length ls
  pub same : (i : ℕ) → i < length B → slice_index_or ls i no_cert_line ≡ slice_index_or B i no_cert_line

module _ (B ls : List CertLine) (w : BeginsWith B ls) where
  pub same_row : (i : ℕ) → i < length B → row_at ls i ≡ row_at B i
  same_row i h = ap (λ (l : CertLine). l.row) (w.same i h)

  pub same_assumed : (i : ℕ) → i < length B → assumed_by ls i ≡ assumed_by B i
  same_assumed i h = ap (λ (l : CertLine). l.assumes) (w.same i h)

  pub same_terms : (ms : List (ℕ × ℚ)) → All (λ m. m.0 < length B) ms → combined_terms ls ms ≡ combined_terms B ms
  same_terms [] h = refl
  same_terms (m ∷ ms) h =
      λ i. scaled m.1 (same_row m.0 (All-head (λ (m : ℕ × ℚ). m.0 < length B) m ms h) i).terms ++ same_terms ms (All-tail (λ (m : ℕ × ℚ). m.0 < length B) m ms h) i

  pub same_rhs : (ms : List (ℕ × ℚ)) → All (λ m. m.0 < length B) ms → combined_rhs ls ms ≡ combined_rhs B ms
  same_rhs [] h = refl
  same_rhs (m ∷ ms) h =
      λ i. m.1 *ℚ (same_row m.0 (All-head (λ (m : ℕ × ℚ). m.0 < length B) m ms h) i).rhs +ℚ same_rhs ms (All-tail (λ (m : ℕ × ℚ). m.0 < length B) m ms h) i

  pub same_all_assumed : (ms : List (ℕ × ℚ)) → All (λ m. m.0 < length B) ms → assumed_by_all ls ms ≡ assumed_by_all B ms
  same_all_assumed [] h = refl
  same_all_assumed (m ∷ ms) h =
      λ i. union (same_assumed m.0 (All-head (λ (m : ℕ × ℚ). m.0 < length B) m ms h) i) (same_all_assumed ms (All-tail (λ (m : ℕ × ℚ). m.0 < length B) m ms h) i)

  same_combination : (s : Sense) (ms : List (ℕ × ℚ)) → All (λ m. m.0 < length B) ms → combination s ls ms ≡ combination s B ms
  same_combination s ms h = λ i. record { sense = s; rhs = same_rhs ms h i; terms = same_terms ms h i }

  same_signs : (s : Sense) (ms : List (ℕ × ℚ)) → All (λ m. m.0 < length B) ms → AllSigned s B ms → AllSigned s ls ms
  same_signs s [] h k = All-nil (λ (m : ℕ × ℚ). HasRightSign s (row_at ls m.0).sense m.1)
  same_signs s (m ∷ ms) h k = All-cons (λ (m : ℕ × ℚ). HasRightSign s (row_at ls m.0).sense m.1) m ms
      (subst (λ (r : Row). HasRightSign s r.sense m.1) (sym (same_row m.0 (All-head (λ (m : ℕ × ℚ). m.0 < length B) m ms h))) (All-head (λ (m : ℕ × ℚ). HasRightSign s (row_at B m.0).sense m.1) m ms k))
      (same_signs s ms (All-tail (λ (m : ℕ × ℚ). m.0 < length B) m ms h) (All-tail (λ (m : ℕ × ℚ). HasRightSign s (row_at B m.0).sense m.1) m ms k))

  pub still_combined : (s : Sense) (ms : List (ℕ × ℚ)) → IsCombination B s ms → IsCombination ls s ms
  still_combined s ms c = record {
    earlier = All-weaker (λ (m : ℕ × ℚ). m.0 < length B) (λ (m : ℕ × ℚ). m.0 < length ls) (λ m h. omega (arith, w.longer)) ms c.earlier;
    signs = same_signs s ms c.earlier c.signs;
  }

  pub still_linear : (r : Row) (ms : List (ℕ × ℚ)) → IsLinear B r ms → IsLinear ls r ms
  still_linear r ms f = record {
    combined = still_combined r.sense ms f.combined;
    dominates = subst (λ (c : Row). Dominates c r) (sym (same_combination r.sense ms f.combined.earlier)) f.dominates;
  }

  pub still_rounded : (r : Row) (ms : List (ℕ × ℚ)) → IsRounded B r ms → IsRounded ls r ms
  still_rounded r ms f = record {
    combined = still_combined r.sense ms f.combined;
    whole_terms = subst HasWholeCoefficients (sym (same_combination r.sense ms f.combined.earlier)) f.whole_terms;
    dominates = subst (λ (c : Row). Dominates (rounded c) r) (sym (same_combination r.sense ms f.combined.earlier)) f.dominates;
  }
