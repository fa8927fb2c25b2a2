-- One column more of a candidate's row.
use Rattle.std.proofs.Common.{◌≡◌, ℕ, ◌+◌, ◌<◌, ◌≤◌, arith, refl, ap, sym, ◌∙◌, Bool, true, false, List, [], ◌∷◌, ◌++◌, length, map, get_or, drop}
use Rattle.std.specs.Prelude.{ℤ, pos, ◌+ℤ◌, ◌*ℤ◌, neg_ℤ, if◌then◌else◌, Option, Some, None, IfSome}
use Rattle.std.specs.Ordering.{int_eq}
use Rattle.std.proofs.lemmas.Int.{ints}
use Rattle.std.proofs.lemmas.Bool.Decides.{Decides-int_eq}
use Rattle.std.proofs.lemmas.List.{append_assoc, append-nil, drop_all, drop_more, length-map}
use Rattle.std.proofs.Math.Nat.{mul-one}
use Rattle.fraction.specs.Rational.{ℚ, whole, frac, floor, ceil, ◌+ℚ◌, ◌*ℚ◌, neg_ℚ}
use Rattle.fraction.specs.Lemmas.Rational.{lit_one, frac_same, frac-+ℚ_over_one, frac-*ℚ, neg_ℚ-frac, zero-*ℚ}
use Rattle.fraction.specs.Lemmas.Ring.{+ℚ-zero, *ℚ-zero}
use Rattle.fraction.specs.Lemmas.Bounds.{whole_parts}
use Rattle.problem_box.specs.declared.span.Span.{Span}
use Rattle.problem.specs.declared.row.Sense.TheVariants.{G}
use Rattle.problem.specs.declared.row.Row.{Row}
use Rattle.problem.specs.Problem.{Problem}
use Rattle.derivation_book.specs.declared.cut.Cut.{Cut}
use Rattle.derivation_book.specs.Known.{known_lines}
use Rattle.derivation_book.specs.Sums.{sums_of, combined}
use Rattle.derivation_book.specs.OverOne.{over, sums_over}
use Rattle.derivation_book.specs.Rounded.{is_zero, nonzero_terms, cut_row}
use Rattle.derivation_book.specs.Lemmas.Combining.{combined_length}
use Rattle.derivation_book.specs.Lemmas.OneDenominator.{zero_over}
use Rattle.tableau.specs.declared.status.BasisStatus.{BasisStatus}
use Rattle.tableau.specs.Tableau.{Tableau, status_of}
use Rattle.dual_simplex.specs.Relaxation.{rational_at}
use Rattle.gomory_cuts.specs.Multipliers.{is_at_upper}
use Rattle.gomory_cuts.specs.Candidate.{whole_to, bound_at, fractions, counted, counted_columns, side_with, filled_side, counted_candidate}
use Rattle.gomory_cuts.proofs.Candidates.{taken_away}
use Rattle.gomory_cuts.proofs.Rounding.{floor_of, ceil_of}

-- ---- the terms
-- `more` with the coefficients behind column j is `all` with those from column j on, the first of them a
abbrev pub HasColumn : List (ℕ × ℚ) → List (ℕ × ℚ) → ℕ → ℚ → Type 0
HasColumn all more j a = (others : List ℚ) → more ++ nonzero_terms (j + 1) others ≡ all ++ nonzero_terms j (a ∷ others)

zero_is : (z : ℤ) → is_zero (whole z) ≡ int_eq z (pos 0)
zero_is z = ap (λ y. int_eq y (pos 0)) (whole_parts z).0

pub without_zero : (all : List (ℕ × ℚ)) (j : ℕ) (z : ℤ) → z ≡ pos 0 → HasColumn all all j (whole z)
without_zero all j z e = λ others.
    ap (λ b. all ++ (if b then nonzero_terms (j + 1) others else (j, whole z) ∷ nonzero_terms (j + 1) others)) (sym (zero_is z ∙ (Decides-int_eq z (pos 0)).1 e))

pub with_whole : (all more : List (ℕ × ℚ)) (j : ℕ) (z : ℤ) → (z ≡ pos 0 → ⊥) → more ≡ all ++ (j, whole z) ∷ [] → HasColumn all more j (whole z)
with_whole all more j z h e = λ others.
    ap (λ ts. ts ++ nonzero_terms (j + 1) others) e
    ∙ append_assoc all ((j, whole z) ∷ []) (nonzero_terms (j + 1) others)
    ∙ ap (λ b. all ++ (if b then nonzero_terms (j + 1) others else (j, whole z) ∷ nonzero_terms (j + 1) others)) (sym (zero_is z ∙ not_zero (int_eq z (pos 0)) refl))
  where
    not_zero : (b : Bool) → int_eq z (pos 0) ≡ b → int_eq z (pos 0) ≡ false
    not_zero true f = absurd (h ((Decides-int_eq z (pos 0)).0 f))
    not_zero false f = f

-- ---- the right side
whole_over : (w : ℤ) (d : ℕ) → 0 < d → whole w ≡ frac (w *ℤ pos d) d
whole_over w d o = frac_same w (w *ℤ pos d) 1 d lit_one o (omega (arith, ints))

filler_over : (w z f : ℤ) (d : ℕ) → 0 < d → w *ℤ pos d ≡ z +ℤ f → whole w +ℚ neg_ℚ (frac z d) ≡ frac f d
filler_over w z f d o e =
    (λ i. whole_over w d o i +ℚ neg_ℚ-frac z d o i) ∙ frac-+ℚ_over_one (w *ℤ pos d) (neg_ℤ z) d o ∙ ap (λ n. frac n d) (omega (arith, ints, e))

pub side_over : (s f b w z : ℤ) (d : ℕ) → 0 < d → w *ℤ pos d ≡ z +ℤ f → frac (s +ℤ f *ℤ b) d ≡ frac s d +ℚ (whole w +ℚ neg_ℚ (frac z d)) *ℚ whole b
side_over s f b w z d o e =
    sym (ap (λ x. frac s d +ℚ x *ℚ whole b) (filler_over w z f d o e)
    ∙ ap (λ x. frac s d +ℚ x) (frac-*ℚ f b d 1 o lit_one ∙ ap (frac (f *ℤ b)) (mul-one d))
    ∙ frac-+ℚ_over_one s (f *ℤ b) d o)

-- ---- a column that the combination doesn't have
zero_to : (b : BasisStatus) (d : ℕ) → 0 < d → whole_to b (frac (pos 0) d) ≡ pos 0
zero_to b d o = at (is_at_upper b)
  where
    at : (u : Bool) → (if u then floor (frac (pos 0) d) else ceil (frac (pos 0) d)) ≡ pos 0
    at true = floor_of (pos 0) (pos 0) d o (omega (arith, ints)) (omega (arith, ints))
    at false = ceil_of (pos 0) (pos 0) d o (omega (arith, ints)) (omega (arith, ints))

pub zero_column : (all : List (ℕ × ℚ)) (j : ℕ) (k : Bool) (b : BasisStatus) (z : ℤ) (d : ℕ) → 0 < d → z ≡ pos 0 → HasColumn all all j (counted k b (frac z d))
zero_column all j true b z d o e = without_zero all j (pos 0) refl
zero_column all j false b z d o e = without_zero all j (whole_to b (frac z d)) (ap (λ y. whole_to b (frac y d)) e ∙ zero_to b d o)

-- ---- a column whose bound is 0
pub no_bound : (b : BasisStatus) (c : ℚ) (s : Span) (v : ℚ) → bound_at b s ≡ pos 0 → v ≡ side_with b c s v
no_bound b c s v e = sym (ap (λ y. v +ℚ (whole (whole_to b c) +ℚ neg_ℚ c) *ℚ whole y) e ∙ ap (λ y. v +ℚ y) (*ℚ-zero _) ∙ +ℚ-zero v)

pub zero_side : (b : BasisStatus) (z : ℤ) (d : ℕ) (s : Span) (v : ℚ) → 0 < d → z ≡ pos 0 → v ≡ side_with b (frac z d) s v
zero_side b z d s v o e =
    sym (ap (λ y. side_with b (frac y d) s v) e
    ∙ (λ i. v +ℚ (whole (zero_to b d o i) +ℚ neg_ℚ (sym (zero_over d o) i)) *ℚ whole (bound_at b s))
    ∙ ap (λ x. v +ℚ x *ℚ whole (bound_at b s)) (taken_away (whole (pos 0)))
    ∙ ap (λ x. v +ℚ x) (zero-*ℚ _)
    ∙ +ℚ-zero v)

-- ---- the next column
module _ (t : Tableau) (d : ℕ) (j : ℕ) (zs : List ℤ) (z : ℤ) (there : j < length zs) (is : z ≡ get_or zs j (pos 0)) where
  next : fractions d (drop j zs) ≡ frac z d ∷ fractions d (drop (j + 1) zs)
  next = ap (fractions d) (drop_more zs j (pos 0) there ∙ ap (λ y. y ∷ drop (j + 1) zs) (sym is))

  pub next_terms : (x : List ℚ) (all more : List (ℕ × ℚ)) → HasColumn all more j (counted (is_zero (rational_at x j)) (status_of t j) (frac z d))
      → more ++ nonzero_terms (j + 1) (counted_columns x t (j + 1) (fractions d (drop (j + 1) zs))) ≡ all ++ nonzero_terms j (counted_columns x t j (fractions d (drop j zs)))
  next_terms x all more h = h (counted_columns x t (j + 1) (fractions d (drop (j + 1) zs))) ∙ ap (λ cs. all ++ nonzero_terms j (counted_columns x t j cs)) (sym next)

  pub next_side : (ss : List Span) (s : Span) (v w : ℚ) → drop j ss ≡ s ∷ drop (j + 1) ss → w ≡ side_with (status_of t j) (frac z d) s v
      → filled_side t (j + 1) (fractions d (drop (j + 1) zs)) (drop (j + 1) ss) w ≡ filled_side t j (fractions d (drop j zs)) (drop j ss) v
  next_side ss s v w e h =
      ap (filled_side t (j + 1) (fractions d (drop (j + 1) zs)) (drop (j + 1) ss)) h ∙ sym (λ i. filled_side t j (next i) (e i) v)

-- ---- behind the last one
pub last_terms : (x : List ℚ) (t : Tableau) (d j : ℕ) (zs : List ℤ) (all : List (ℕ × ℚ)) → length zs ≤ j → all ++ nonzero_terms j (counted_columns x t j (fractions d (drop j zs))) ≡ all
last_terms x t d j zs all l = ap (λ ys. all ++ nonzero_terms j (counted_columns x t j (fractions d ys))) (drop_all j zs l) ∙ append-nil all

pub last_side : (t : Tableau) (d j : ℕ) (zs : List ℤ) (ss : List Span) (v : ℚ) → length zs ≤ j → filled_side t j (fractions d (drop j zs)) ss v ≡ v
last_side t d j zs ss v l = ap (λ ys. filled_side t j (fractions d ys) ss v) (drop_all j zs l)

-- ---- the row
over_is : (d : ℕ) (zs : List ℤ) → map (over d) (map whole zs) ≡ fractions d zs
over_is d [] = refl
over_is d (z ∷ zs) = λ i. frac ((whole_parts z).0 i) d ∷ over_is d zs i

pub row_over : (x : List ℚ) (t : Tableau) (ss : List Span) (d : ℕ) (zs : List ℤ) (s r : ℤ) (ts : List (ℕ × ℚ)) → ts ≡ nonzero_terms 0 (counted_columns x t 0 (fractions d zs))
    → frac r d ≡ filled_side t 0 (fractions d zs) ss (frac s d)
    → record { sense = G; rhs = whole (ceil (frac r d)); terms = ts } ≡ counted_candidate x t ss (sums_over d (sums_of (map whole zs) (whole s)))
row_over x t ss d zs s r ts e f =
    (λ i. cut_row_of (e i) (f i))
    ∙ (λ i. cut_row (sums_of (counted_columns x t 0 (sym (over_is d zs) i)) (filled_side t 0 (sym (over_is d zs) i) ss (frac (sym (whole_parts s).0 i) d))))
  where
    cut_row_of : List (ℕ × ℚ) → ℚ → Row
    cut_row_of ts v = record { sense = G; rhs = whole (ceil v); terms = ts }

pub as_long : (p : Problem) (cuts : List Cut) (mult : List (ℕ × ℚ)) (d : ℕ) (zs : List ℤ) (s : ℤ) → combined (known_lines p cuts) mult (length p.spans) ≡ Some (sums_over d (sums_of (map whole zs) (whole s)))
    → length zs ≡ length p.spans
as_long p cuts mult d zs s e =
    omega (arith, combined_length (known_lines p cuts) mult (length p.spans) (sums_over d (sums_of (map whole zs) (whole s))) e, length-map zs whole, length-map (map whole zs) (over d))

pub if_some : {A : Type 0} (o : Option A) (P : A → Type 0) → ((a : A) → o ≡ Some a → P a) → IfSome o P
if_some None P h = tt
if_some (Some a) P h = h a refl
