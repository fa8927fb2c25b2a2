-- Lemmas: rounded rows follow by rounding, cuts hold at feasible points, and legal proofs close boxes.
use Rattle.std.specs.Prelude.{◌≡◌, ◌⊎◌, ◌<◌, ◌≤◌, ◌+◌, ℕ, zero, suc, ℤ, pos, nat_abs, Bool, true, false, IsTrue, nat_le, nat_eq, List, [], ◌∷◌, ◌++◌, map, length, All, slice_index_or, Option, Some, refl}
use Rattle.std.specs.List.{list_all}
use Rattle.std.proofs.Common.{sym, ap, ◌∙◌, subst, inl, inr, arith}
use Rattle.std.proofs.lemmas.Bool.{eqb-true, and_parts}
use Rattle.std.proofs.lemmas.List.Elements.{All-nil, All-cons, All-head, All-tail, All-append, All-push, All-map, All-weaker}
use Rattle.fraction.specs.Rational.{ℚ, whole, ceil, ◌≤ℚ◌}
use Rattle.fraction.specs.Lemmas.Rational.{≤ℚ_refl, ≤ℚ_trans, zero-+ℚ, ceil_least}
use Rattle.fraction.specs.Lemmas.Order.{whole-≤ℚ, not_both, same_le}
use Rattle.fraction.specs.Lemmas.Bounds.{whole_parts}
use Rattle.fraction.specs.Whole.{IsWhole}
use Rattle.fraction.specs.Lemmas.Whole.{IsAnInteger, integer_from_whole, integer-+, integer-*}
use Rattle.problem_box.specs.declared.span.Span.{Span}
use Rattle.problem_box.specs.Boxes.{IsInBox}
use Rattle.problem_box.specs.Lemmas.Boxes.{crossed-no_point}
use Rattle.problem.specs.declared.row.Row.{Row}
use Rattle.problem.specs.Linear.{value, coefficient, number_at}
use Rattle.problem.specs.Lemmas.Linear.{beyond}
use Rattle.problem.specs.Rows.{Satisfies}
use Rattle.problem.specs.Problem.{Problem}
use Rattle.problem.specs.Feasible.{IsFeasible}
use Rattle.problem.specs.Limited.{IsLimited, IsLimitedRow}
use Rattle.problem.specs.Limits.{largest_cut_coefficient}
use Rattle.cert_rows.specs.Lines.{CertLine, row_at, no_cert_line}
use Rattle.cert_rows.specs.Combination.{combination, combined_terms, combined_rhs}
use Rattle.cert_rows.specs.Validity.{IsRounded, rounded, lower_row, upper_row, bound_rows}
use Rattle.cert_rows.specs.Lemmas.Soundness.{satisfies_bounds}
use Rattle.cert_rows.specs.Lemmas.Signs.{Satisfies-combination, Satisfies-dominated, Satisfies-rounded}
use Rattle.node_events.specs.declared.proof.Proof.{Proof}
use Rattle.node_events.specs.declared.proof.Proof.TheVariants.{Empty, Refute, Bound}
use Rattle.derivation_book.specs.declared.cut.Cut.{Cut}
use Rattle.derivation_book.specs.Known.{known_rows, known_lines}
use Rattle.derivation_book.specs.Rounded.{is_cut_coefficient, nonzero_terms, rounded_row}
use Rattle.derivation_book.specs.Cuts.{AreCutsAfter, AreCutsOf}
use Rattle.derivation_book.specs.Legal.{IsLegalProof, rounded_if}
use Rattle.derivation_book.specs.Lemmas.Combining.{combined_length}
use Rattle.derivation_book.specs.Lemmas.Price.{has_sums}
use Rattle.derivation_book.specs.Lemmas.Rounded.{IsBelow, terms_below, made_from}
use Rattle.derivation_book.specs.Lemmas.Deciding.{decides-usable}
use Rattle.derivation_book.specs.Lemmas.Exact.{AreCoefficients, columns_exact, side_exact, nonzero_coefficient, combined_below}
use Rattle.derivation_book.specs.Lemmas.Bounding.{price_below}
use Rattle.problem.specs.Directions.{aim_at, aim}

-- ---- a fact of all known rows
abbrev line_with : Row → CertLine
line_with r = record { row = r; assumes = [] }

at_each : (P : Row → Type 0) → P no_cert_line.row → (rs : List Row) → All P rs → (i : ℕ) → P (row_at (map line_with rs) i)
at_each P n [] h i = n
at_each P n (r ∷ rs) h zero = All-head P r rs h
at_each P n (r ∷ rs) h (suc i) = at_each P n rs (All-tail P r rs h) i

abbrev row_of_cut : Cut → Row
row_of_cut c = c.row

known : (P : Row → Type 0) → P no_cert_line.row → (p : Problem) (cs : List Cut) → All P p.rows → All P (bound_rows 0 p.spans) → All (λ (c : Cut). P c.row) cs
    → (i : ℕ) → P (row_at (known_lines p cs) i)
known P n p cs h k l =
    at_each P n (known_rows p cs)
    (All-append P (p.rows ++ bound_rows 0 p.spans) (map row_of_cut cs) (All-append P p.rows (bound_rows 0 p.spans) h k) (All-map P row_of_cut cs l))

-- ---- columns of known rows
abbrev pub HasBelow : ℕ → Row → Type 0
HasBelow n r = All (IsBelow n) r.terms

bounds_below : (n j : ℕ) (ss : List Span) → j + length ss ≤ n → All (HasBelow n) (bound_rows j ss)
bounds_below n j [] l = All-nil (HasBelow n)
bounds_below n j (s ∷ ss) l =
    let one : All (IsBelow n) ((j, whole (pos 1)) ∷ []) = All-cons (IsBelow n) (j, whole (pos 1)) [] (omega (arith, l)) (All-nil (IsBelow n)) in
    All-cons (HasBelow n) (lower_row j s) (upper_row j s ∷ bound_rows (j + 1) ss) one
    (All-cons (HasBelow n) (upper_row j s) (bound_rows (j + 1) ss) one (bounds_below n (j + 1) ss (omega (arith, l))))

rounded_below : (p : Problem) (cs : List Cut) (mult : List (ℕ × ℚ)) (r : Row) → rounded_row p cs mult ≡ Some r → HasBelow (length p.spans) r
rounded_below p cs mult r e =
    let m = made_from p cs mult r e in
    subst (HasBelow (length p.spans)) m.row
    (terms_below 0 m.sums.coefficients (length p.spans) (omega (arith, combined_length (known_lines p cs) mult (length p.spans) m.sums m.combined)))

abbrev pub CutBelow : Problem → Cut → Type 0
CutBelow p c = HasBelow (length p.spans) c.row

pub cuts_below : (p : Problem) (before cs : List Cut) → AreCutsAfter p before cs → All (CutBelow p) cs
cuts_below p before [] h = All-nil (CutBelow p)
cuts_below p before (c ∷ cs) h = All-cons (CutBelow p) c cs (rounded_below p before c.mult c.row h.0) (cuts_below p (before ++ c ∷ []) cs h.1)

pub known_below : (p : Problem) (cs : List Cut) → IsLimited p → All (CutBelow p) cs → (i : ℕ) → HasBelow (length p.spans) (row_at (known_lines p cs) i)
known_below p cs h k =
    known (HasBelow (length p.spans)) (All-nil (IsBelow (length p.spans))) p cs
    (All-weaker (IsLimitedRow (length p.spans)) (HasBelow (length p.spans)) (λ r l. l.terms.below) p.rows h.rows)
    (bounds_below (length p.spans) 0 p.spans (omega arith)) k

-- ---- a rounded row
module _ (p : Problem) (cs : List Cut) (mult : List (ℕ × ℚ)) (limited : IsLimited p) (below : All (CutBelow p) cs) where
  abbrev n : ℕ
  n = length p.spans

  abbrev ls : List CertLine
  ls = known_lines p cs

  all_whole : (qs : List ℚ) → list_all is_cut_coefficient qs ≡ true → (i : ℕ) → IsWhole (slice_index_or qs i (whole (pos 0)))
  all_whole [] h i = (whole_parts (pos 0)).1
  all_whole (a ∷ qs) h zero = eqb-true a.den 1 (and_parts (nat_eq a.den 1) (nat_le (nat_abs a.num) largest_cut_coefficient) (and_parts (is_cut_coefficient a) (list_all is_cut_coefficient qs) h).0).0
  all_whole (a ∷ qs) h (suc i) = all_whole qs (and_parts (is_cut_coefficient a) (list_all is_cut_coefficient qs) h).1 i

  past_end : (qs : List ℚ) (i : ℕ) → length qs ≤ i → slice_index_or qs i (whole (pos 0)) ≡ whole (pos 0)
  past_end [] i l = refl
  past_end (a ∷ qs) zero l = absurd (omega (arith, l))
  past_end (a ∷ qs) (suc i) l = past_end qs i (omega (arith, l))

  -- each coefficient of the combination, also of columns that aren't there
  each_coefficient : (qs : List ℚ) → length qs ≡ n → AreCoefficients qs 0 (combined_terms ls mult) → (j : ℕ) → slice_index_or qs j (whole (pos 0)) ≡ coefficient (combined_terms ls mult) j
  each_coefficient qs e h j = elim (within j (length qs)) [
    | inl l ↦ h j l ∙ ap (coefficient (combined_terms ls mult)) (let z : 0 + j ≡ j = omega arith in z)
    | inr l ↦ past_end qs j l ∙ sym (beyond n (combined_terms ls mult) j (combined_below n ls mult (known_below p cs limited below)) (omega (arith, l, e)))
  ]
    where
      within : (j k : ℕ) → (j < k) ⊎ (k ≤ j)
      within j k = grind arith

  pub follows : (r : Row) → rounded_row p cs mult ≡ Some r → IsRounded ls r mult
  follows r e =
      let m = made_from p cs mult r e in
      let h = has_sums ls mult n m.sums m.combined in
      let each = each_coefficient m.sums.coefficients (combined_length ls mult n m.sums m.combined) (columns_exact ls mult 0 n m.sums.coefficients h.coefficients) in
      let side : m.sums.side ≡ combined_rhs ls mult = side_exact ls (whole (pos 0)) mult m.sums.side h.side ∙ zero-+ℚ _ in
      subst (λ (s : Row). IsRounded ls s mult) m.row (record {
        combined = (decides-usable ls mult).0 m.usable;
        whole_terms = λ j. subst IsWhole (each j) (all_whole m.sums.coefficients m.coefficients j);
        dominates = inr (record {
          sense = refl;
          terms = λ j. sym (each j) ∙ sym (nonzero_coefficient 0 m.sums.coefficients j) ∙ ap (coefficient (nonzero_terms 0 m.sums.coefficients)) (let z : 0 + j ≡ j = omega arith in z);
          rhs = same_le _ _ (ap (λ v. whole (ceil v)) side);
        });
      })

-- ---- cuts hold
abbrev Holds : List ℤ → Cut → Type 0
Holds x c = Satisfies x c.row

known_holds : (p : Problem) (cs : List Cut) (x : List ℤ) → IsFeasible p x → All (Holds x) cs → (i : ℕ) → Satisfies x (row_at (known_lines p cs) i)
known_holds p cs x f h = known (Satisfies x) (≤ℚ_refl _) p cs f.rows (satisfies_bounds x 0 p.spans x (λ k. ap (number_at x) (omega arith)) f.in_box) h

rounded_holds : (ls : List CertLine) (r : Row) (mult : List (ℕ × ℚ)) (x : List ℤ) → IsRounded ls r mult → ((i : ℕ) → Satisfies x (row_at ls i)) → Satisfies x r
rounded_holds ls r mult x f h =
    Satisfies-dominated x (rounded (combination r.sense ls mult)) r f.dominates
    (Satisfies-rounded x (combination r.sense ls mult) f.whole_terms (Satisfies-combination x r.sense ls mult f.combined.signs (λ k d l. h (slice_index_or mult k d).0)))

after_hold : (p : Problem) (before cs : List Cut) (x : List ℤ) → IsLimited p → IsFeasible p x → All (CutBelow p) before → All (Holds x) before → AreCutsAfter p before cs → All (Holds x) cs
after_hold p before [] x l f b h a = All-nil (Holds x)
after_hold p before (c ∷ cs) x l f b h a =
    let here : Satisfies x c.row = rounded_holds (known_lines p before) c.row c.mult x (follows p before c.mult l b c.row a.0) (known_holds p before x f h) in
    All-cons (Holds x) c cs here
    (after_hold p (before ++ c ∷ []) cs x l f (All-push (CutBelow p) before c b (rounded_below p before c.mult c.row a.0)) (All-push (Holds x) before c h here) a.1)

pub cuts_hold : (p : Problem) (cs : List Cut) → IsLimited p → AreCutsOf p cs → (x : List ℤ) → IsFeasible p x → All (λ (c : Cut). Satisfies x c.row) cs
cuts_hold p cs l a x f = after_hold p [] cs x l f (All-nil (CutBelow p)) (All-nil (Holds x)) a

pub rows_follow : (p : Problem) (cs : List Cut) → IsLimited p → AreCutsOf p cs → (mult : List (ℕ × ℚ)) (r : Row) → rounded_row p cs mult ≡ Some r → IsRounded (known_lines p cs) r mult
rows_follow p cs l a mult r e = follows p cs mult l (cuts_below p [] cs a) r e

-- ---- legal proofs
whole_value : (ts : List (ℕ × ℚ)) (x : List ℤ) → All (λ t. IsWhole t.1) ts → IsAnInteger (value ts x)
whole_value [] x h = (pos 0, refl)
whole_value (t ∷ ts) x h =
    integer-+ _ _ (integer-* t.1 (number_at x t.0) (integer_from_whole t.1 (All-head (λ (t : ℕ × ℚ). IsWhole t.1) t ts h))) (whole_value ts x (All-tail (λ (t : ℕ × ℚ). IsWhole t.1) t ts h))

rounded_below_value : (rounded : Bool) (ts : List (ℕ × ℚ)) (x : List ℤ) (v : ℚ) → (IsTrue rounded → All (λ t. IsWhole t.1) ts) → v ≤ℚ value ts x → rounded_if rounded v ≤ℚ value ts x
rounded_below_value false ts x v h l = l
rounded_below_value true ts x v h l =
    let i = whole_value ts x (h refl) in
    subst (λ w. whole (ceil v) ≤ℚ w) (sym i.1) (whole-≤ℚ (ceil v) i.0 (ceil_least v i.0 (subst (λ w. v ≤ℚ w) i.1 l)))

pub legal_closes : (p : Problem) (cs : List Cut) → IsLimited p → AreCutsOf p cs → (box : List Span) (cutoff : Option ℚ) (proof : Proof) → length box ≡ length p.spans
    → IsLegalProof p cs box cutoff proof → (x : List ℤ) → IsFeasible p x → IsInBox box x → (z : ℚ) × (cutoff ≡ Some z) × (z ≤ℚ aim_at p x)
legal_closes p cs l a box cutoff (Empty column) e h x f b = absurd (crossed-no_point box column h.span x h.there h.crossed b)
legal_closes p cs l a box cutoff (Refute mult) e h x f b =
    absurd (not_both h.value (whole (pos 0))
    (price_below p cs box [] mult h.value x e h.multipliers.combined.signs h.priced b (λ k d i. known_holds p cs x f (cuts_hold p cs l a x f) (slice_index_or mult k d).0)) h.above)
legal_closes p cs l a box cutoff (Bound mult rounded) e h x f b = (
  h.limit,
  h.limited,
  ≤ℚ_trans _ _ _ h.reached (rounded_below_value rounded (aim p) x h.value h.whole_objective
      (price_below p cs box (aim p) mult h.value x e h.multipliers.combined.signs h.priced b (λ k d i. known_holds p cs x f (cuts_hold p cs l a x f) (slice_index_or mult k d).0))),
)
