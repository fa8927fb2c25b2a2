-- Lemmas: prices, column by column.
use Rattle.std.specs.Prelude.{◌≡◌, ◌<◌, ◌≤◌, ◌+◌, ℕ, List, [], ◌∷◌, length, drop, slice_get, slice_index_or, Option, Some, None, option_map, refl}
use Rattle.std.specs.Option.{option_and_then}
use Rattle.std.proofs.Common.{sym, ap, ◌∙◌, arith}
use Rattle.std.proofs.lemmas.List.{drop_all}
use Rattle.std.proofs.lemmas.Option.{get_or_from_slice_get}
use Rattle.fraction.specs.Rational.{ℚ}
use Rattle.problem_box.specs.declared.span.Span.{Span}
use Rattle.problem.specs.Linear.{coefficient}
use Rattle.cert_rows.specs.Lines.{CertLine}
use Rattle.derivation_book.specs.Sums.{combined_side, combined_columns, Sums, sums_of, combined}
use Rattle.derivation_book.specs.Price.{with_reduced_cost, with_columns}
use Rattle.fraction.specs.Lemmas.Bounds.{was_some, was_mapped}
use Rattle.derivation_book.specs.Lemmas.OptionChains.{next_item}

-- the parts of a combination
pub record HasSums (ls : List CertLine) (mult : List (ℕ × ℚ)) (n : ℕ) (q : Sums) : Type 0 where
  pub coefficients : combined_columns ls mult 0 n ≡ Some q.coefficients
  pub side : combined_side ls mult ≡ Some q.side

pub has_sums : (ls : List CertLine) (mult : List (ℕ × ℚ)) (n : ℕ) (q : Sums) → combined ls mult n ≡ Some q → HasSums ls mult n q
has_sums ls mult n q e =
    let w = was_some (λ cs. option_map (sums_of cs) (combined_side ls mult)) (combined_columns ls mult 0 n) q e in
    let r = was_mapped (sums_of w.0) (combined_side ls mult) q w.2 in
    record { coefficients = w.1 ∙ ap (λ (p : Sums). Some p.coefficients) r.2; side = r.1 ∙ ap (λ (p : Sums). Some p.side) r.2 }

-- ---- the target's terms one by one
pub same_columns : (total : ℚ) (ts us : List (ℕ × ℚ)) (j : ℕ) (cs : List ℚ) (ss : List Span) → ((i : ℕ) → j ≤ i → coefficient ts i ≡ coefficient us i)
    → with_columns total ts j cs ss ≡ with_columns total us j cs ss
same_columns total ts us j [] ss h = refl
same_columns total ts us j (c ∷ cs) [] h = refl
same_columns total ts us j (c ∷ cs) (s ∷ ss) h =
    ap (λ a. option_and_then (λ t. with_columns t ts (j + 1) cs ss) (with_reduced_cost total a c s)) (h j (omega arith))
    ∙ later (with_reduced_cost total (coefficient us j) c s) (λ t. same_columns t ts us (j + 1) cs ss (λ i l. h i (omega (arith, l))))
  where
    later : (o : Option ℚ) → ((t : ℚ) → with_columns t ts (j + 1) cs ss ≡ with_columns t us (j + 1) cs ss)
        → option_and_then (λ t. with_columns t ts (j + 1) cs ss) o ≡ option_and_then (λ t. with_columns t us (j + 1) cs ss) o
    later None k = refl
    later (Some t) k = k t

module _ (cs : List ℚ) (ss : List Span) (j : ℕ) (c : ℚ) (there : j < length cs) (is : c ≡ slice_index_or cs j c) (long : length ss ≡ length cs)
    (s : Span) (span : slice_get ss j ≡ Some s) (total a : ℚ) (ts : List (ℕ × ℚ)) (wanted : a ≡ coefficient ts j) where
  spans : drop j ss ≡ s ∷ drop (j + 1) ss
  spans = next_item ss j s (omega (arith, there, long)) (sym (get_or_from_slice_get ss j s s span))

  split : with_columns total ts j (drop j cs) (drop j ss) ≡ option_and_then (λ t. with_columns t ts (j + 1) (drop (j + 1) cs) (drop (j + 1) ss)) (with_reduced_cost total a c s)
  split =
      (λ i. with_columns total ts j (next_item cs j c there is i) (spans i))
      ∙ ap (λ x. option_and_then (λ t. with_columns t ts (j + 1) (drop (j + 1) cs) (drop (j + 1) ss)) (with_reduced_cost total x c s)) (sym wanted)

  pub next_column : (t : ℚ) (us : List (ℕ × ℚ)) → with_reduced_cost total a c s ≡ Some t → ((i : ℕ) → j < i → coefficient us i ≡ coefficient ts i)
      → with_columns t us (j + 1) (drop (j + 1) cs) (drop (j + 1) ss) ≡ with_columns total ts j (drop j cs) (drop j ss)
  next_column t us e h =
      same_columns t us ts (j + 1) (drop (j + 1) cs) (drop (j + 1) ss) (λ i l. h i (omega (arith, l)))
      ∙ sym (split ∙ ap (option_and_then (λ t. with_columns t ts (j + 1) (drop (j + 1) cs) (drop (j + 1) ss))) e)

  pub no_column : with_reduced_cost total a c s ≡ None → with_columns total ts j (drop j cs) (drop j ss) ≡ None
  no_column e = split ∙ ap (option_and_then (λ t. with_columns t ts (j + 1) (drop (j + 1) cs) (drop (j + 1) ss))) e

pub all_columns : (total : ℚ) (ts : List (ℕ × ℚ)) (j : ℕ) (cs : List ℚ) (ss : List Span) → length cs ≤ j → with_columns total ts j (drop j cs) (drop j ss) ≡ Some total
all_columns total ts j cs ss l = ap (λ ds. with_columns total ts j ds (drop j ss)) (drop_all j cs l)
