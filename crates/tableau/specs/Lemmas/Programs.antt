-- Lemmas: lists with one element more, linear programs with one row more, and the numbers of their rows.
use Rattle.std.proofs.Common.{◌≡◌, ℕ, zero, suc, ◌+◌, ◌*◌, ◌≤◌, arith, refl, ap, sym, ◌∙◌, Bool, true, false, List, [], ◌∷◌, ◌++◌, length, map, take, drop, Some, append_assoc}
use Rattle.std.specs.Prelude.{ℤ, pos, slice_get, if◌then◌else◌}
use Rattle.std.specs.Ordering.{int_eq}
use Rattle.std.proofs.lemmas.Bool.Decides.{Decides-int_eq}
use Rattle.std.proofs.lemmas.List.{take_more, map-append, length-append, length-map}
use Rattle.std.proofs.lemmas.Option.{slice_get_within, get_or_from_slice_get}
use Rattle.std.proofs.Math.Seq.{drop-append_seam}
use Rattle.std.proofs.lemmas.List.Elements.{All-nil, All-cons}
use Rattle.fraction.specs.Rational.{ℚ, whole}
use Rattle.fraction.specs.Lemmas.Bounds.{whole_parts}
use Rattle.problem_box.specs.declared.span.Span.{Span}
use Rattle.problem.specs.declared.row.Row.{Row}
use Rattle.problem.specs.Linear.{Terms}
use Rattle.problem.specs.Rows.{Rows}
use Rattle.problem.specs.Rising.{RiseFrom, AreNonzero}
use Rattle.problem.specs.Problem.{Problem}
use Rattle.tableau.specs.Lemmas.Started.{length-coefficients}
use Rattle.tableau.specs.LinearProgram.{coefficients_from, span_bounds, row_bounds, program_of, numbers_from, row_numbers, relaxation, over, with_row, with_cut}
use Rattle.tableau.specs.Multipliers.{numbered}
use Rattle.problem.specs.Directions.{aim}

-- ---- one element more
pub next_taken : {A : Type 0} (xs : List A) (i : ℕ) (x : A) → slice_get xs i ≡ Some x → take (i + 1) xs ≡ take i xs ++ (x ∷ [])
next_taken xs i x e =
    take_more xs i x (slice_get_within xs i x e) ∙ ap (λ y. take i xs ++ (y ∷ [])) (get_or_from_slice_get xs i x x e)

pub next_mapped : {A B : Type 0} (f : A → B) (xs : List A) (i : ℕ) (x : A) → slice_get xs i ≡ Some x → map f (take (i + 1) xs) ≡ map f (take i xs) ++ (f x ∷ [])
next_mapped f xs i x e = ap (map f) (next_taken xs i x e) ∙ map-append f (take i xs) (x ∷ [])

-- ---- over another box
pub program-over : (objective : Terms) (rows : Rows) (numbers : List ℕ) (spans area : List Span) → length area ≡ length spans
    → over (program_of objective rows numbers spans) area ≡ program_of objective rows numbers area
program-over objective rows numbers spans area e = λ i. record {
  rows = map (λ (r : Row). coefficients_from 0 (sym e i) r.terms) rows;
  costs = coefficients_from 0 (sym e i) objective;
  bounds = map span_bounds area ++ row_bounds_left i;
  numbers = numbers;
}
  where
    row_bounds_left : drop (length (coefficients_from 0 (length spans) objective)) (map span_bounds spans ++ map row_bounds rows) ≡ map row_bounds rows
    row_bounds_left =
        ap (λ n. drop n (map span_bounds spans ++ map row_bounds rows)) (length-coefficients 0 (length spans) objective ∙ sym (length-map spans span_bounds))
        ∙ drop-append_seam (map span_bounds spans) (map row_bounds rows)

pub relaxation-over : (p : Problem) (cuts : Rows) (spans area : List Span) → length area ≡ length spans → over (relaxation p cuts spans) area ≡ relaxation p cuts area
relaxation-over p cuts spans area e = program-over (aim p) (p.rows ++ cuts) (row_numbers p (length cuts)) spans area e

-- ---- one row more
pub program-with_row : (objective : Terms) (rows : Rows) (numbers : List ℕ) (spans : List Span) (r : Row) (k : ℕ)
    → with_row (program_of objective rows numbers spans) r k ≡ program_of objective (rows ++ (r ∷ [])) (numbers ++ (k ∷ [])) spans
program-with_row objective rows numbers spans r k =
    let same : length (coefficients_from 0 (length spans) objective) ≡ length spans = length-coefficients 0 (length spans) objective in
    λ i. record {
      rows = (ap (λ n. map (λ (r : Row). coefficients_from 0 (length spans) r.terms) rows ++ (coefficients_from 0 n r.terms ∷ [])) same ∙ sym (map-append (λ (r : Row). coefficients_from 0 (length spans) r.terms) rows (r ∷ []))) i;
      costs = coefficients_from 0 (length spans) objective;
      bounds = (append_assoc (map span_bounds spans) (map row_bounds rows) (row_bounds r ∷ []) ∙ ap (λ bs. map span_bounds spans ++ bs) (sym (map-append row_bounds rows (r ∷ [])))) i;
      numbers = numbers ++ (k ∷ []);
    }

pub numbers_more : (i k : ℕ) → numbers_from i (k + 1) ≡ numbers_from i k ++ ((i + k) ∷ [])
numbers_more i zero = ap (λ n. n ∷ []) (omega arith)
numbers_more i (suc k) =
    ap (numbers_from i) (let e : suc k + 1 ≡ suc (k + 1) = omega arith in e)
    ∙ ap (λ ns. i ∷ ns) (numbers_more (i + 1) k ∙ ap (λ n. numbers_from (i + 1) k ++ (n ∷ [])) (let e : i + 1 + k ≡ i + suc k = omega arith in e))

-- ---- one cut more
pub relaxation-with_cut : (p : Problem) (cuts : Rows) (spans : List Span) (r : Row) → length spans ≡ length p.spans
    → with_cut (relaxation p cuts spans) r ≡ relaxation p (cuts ++ (r ∷ [])) spans
relaxation-with_cut p cuts spans r e =
    let size : length (relaxation p cuts spans).rows + 2 * length (relaxation p cuts spans).costs ≡ length p.rows + 2 * length p.spans + length cuts =
    omega (arith, length-map (p.rows ++ cuts) (λ (r : Row). coefficients_from 0 (length spans) r.terms), length-append p.rows cuts, length-coefficients 0 (length spans) (aim p), e) in
    ap (with_row (relaxation p cuts spans) r) size
    ∙ program-with_row (aim p) (p.rows ++ cuts) (row_numbers p (length cuts)) spans r (length p.rows + 2 * length p.spans + length cuts)
    ∙ (λ i. program_of (aim p) (append_assoc p.rows cuts (r ∷ []) i) ((append_assoc (numbers_from 0 (length p.rows)) (numbers_from (length p.rows + 2 * length p.spans) (length cuts)) ((length p.rows + 2 * length p.spans + length cuts) ∷ [])
    ∙ ap (λ ns. numbers_from 0 (length p.rows) ++ ns) (sym (numbers_more (length p.rows + 2 * length p.spans) (length cuts)) ∙ ap (numbers_from (length p.rows + 2 * length p.spans)) (sym (length-append cuts (r ∷ []))))) i) spans)

-- ---- the numbers of rows rise
-- and the first is at least k
abbrev pub NumbersRise : ℕ → List ℕ → Type 0
NumbersRise k [] = Unit {0}
NumbersRise k (i ∷ is) = (k ≤ i) × NumbersRise (suc i) is

later_numbers : (j k : ℕ) (is : List ℕ) → j ≤ k → NumbersRise k is → NumbersRise j is
later_numbers j k [] l h = tt
later_numbers j k (i ∷ is) l h = (omega (arith, h.0), h.1)

numbers_rise : (j i k : ℕ) → j ≤ i → NumbersRise j (numbers_from i k)
numbers_rise j i zero l = tt
numbers_rise j i (suc k) l = (l, numbers_rise (suc i) (i + 1) k (omega arith))

then_rise : (j i k m : ℕ) (is : List ℕ) → j ≤ i → i + k ≤ m → NumbersRise m is → NumbersRise j (numbers_from i k ++ is)
then_rise j i zero m is l b h = later_numbers j m is (omega arith) h
then_rise j i (suc k) m is l b h = (l, then_rise (suc i) (i + 1) k m is (omega arith) (omega arith) h)

pub row_numbers_rise : (p : Problem) (k : ℕ) → NumbersRise 0 (row_numbers p k)
row_numbers_rise p k = then_rise 0 0 (length p.rows) (length p.rows + 2 * length p.spans) _ (omega arith) (omega arith) (numbers_rise _ _ k (omega arith))

-- ---- so do those that multipliers name, and no multiplier is 0
pub numbered_rise : (k : ℕ) (is : List ℕ) (ms : List ℚ) → NumbersRise k is → RiseFrom k (numbered is ms)
numbered_rise k [] ms h = tt
numbered_rise k (i ∷ is) [] h = tt
numbered_rise k (i ∷ is) (m ∷ ms) h = at (int_eq m.num (pos 0)) (numbered_rise (suc i) is ms h.1)
  where
    lower : (ts : Terms) → RiseFrom (suc i) ts → RiseFrom k ts
    lower [] r = tt
    lower (t ∷ ts) r = (omega (arith, h.0, r.0), r.1)

    at : (b : Bool) → RiseFrom (suc i) (numbered is ms) → RiseFrom k (if b then numbered is ms else (i, m) ∷ numbered is ms)
    at true r = lower (numbered is ms) r
    at false r = (h.0, r)

pub numbered_nonzero : (is : List ℕ) (ms : List ℚ) → AreNonzero (numbered is ms)
numbered_nonzero [] ms = All-nil (λ (t : ℕ × ℚ). t.1 ≡ whole (pos 0) → ⊥)
numbered_nonzero (i ∷ is) [] = All-nil (λ (t : ℕ × ℚ). t.1 ≡ whole (pos 0) → ⊥)
numbered_nonzero (i ∷ is) (m ∷ ms) = at (int_eq m.num (pos 0)) refl (numbered_nonzero is ms)
  where
    not_zero : (z : ℤ) → int_eq z (pos 0) ≡ false → z ≡ pos 0 → ⊥
    not_zero z e f = let g : int_eq z (pos 0) ≡ true = (Decides-int_eq z (pos 0)).1 f in let h : ⊥ = cc in h

    at : (b : Bool) → int_eq m.num (pos 0) ≡ b → AreNonzero (numbered is ms) → AreNonzero (if b then numbered is ms else (i, m) ∷ numbered is ms)
    at true e r = r
    at false e r = All-cons (λ (t : ℕ × ℚ). t.1 ≡ whole (pos 0) → ⊥) (i, m) (numbered is ms) (λ z. not_zero m.num e (ap (λ (q : ℚ). q.num) z ∙ (whole_parts (pos 0)).0)) r
