-- Linear programs, row by row.
use Rattle.std.proofs.Common.{◌≡◌, ℕ, ◌+◌, ◌*◌, ◌^◌, ◌<◌, ◌≤◌, arith, ap, sym, ◌∙◌, subst, Some, List, [], ◌∷◌, ◌++◌, length, get_or, map, take}
use Rattle.std.specs.Prelude.{slice_get, All}
use Rattle.std.proofs.lemmas.List.Elements.{All-nil, All-push, All-get_or}
use Rattle.problem.specs.Limited.{IsLimitedRow}
use Rattle.problem.specs.Rising.{AreRising}
use Rattle.tableau.specs.declared.bounds.Bounds.{Bounds}
use Rattle.std.proofs.lemmas.List.{take_all}
use Rattle.std.proofs.lemmas.List.{append-nil}
use Rattle.std.proofs.lemmas.Option.{slice_get_within, slice_get-get_or}
use Rattle.std.proofs.lemmas.List.{length-append, length-map}
use Rattle.problem_box.specs.declared.span.Span.{Span}
use Rattle.problem.specs.declared.row.Row.{Row}
use Rattle.problem.specs.Linear.{Terms}
use Rattle.problem.specs.Rows.{Rows}
use Rattle.problem.specs.Problem.{Problem}
use Rattle.problem.specs.Limits.{most_columns}
use Rattle.tableau.specs.Elimination.{Coefficients}
use Rattle.tableau.specs.Lemmas.Started.{length-coefficients}
use Rattle.tableau.specs.Lemmas.Programs.{program-with_row, numbers_more, next_taken}
use Rattle.tableau.specs.LinearProgram.{coefficients_from, span_bounds, program_of, numbers_from, relaxation, with_row}
use Rattle.problem.specs.Directions.{aim}

-- ---- one row more
pub next_program : (objective : Terms) (rows : Rows) (spans : List Span) (i : ℕ) (r : Row) → slice_get rows i ≡ Some r
    → with_row (program_of objective (take i rows) (numbers_from 0 i) spans) r i ≡ program_of objective (take (i + 1) rows) (numbers_from 0 (i + 1)) spans
next_program objective rows spans i r e =
    program-with_row objective (take i rows) (numbers_from 0 i) spans r i
    ∙ (λ j. program_of objective (sym (next_taken rows i r e) j) (sym (numbers_more 0 i ∙ ap (λ n. numbers_from 0 i ++ (n ∷ [])) (let f : 0 + i ≡ i = omega arith in f)) j) spans)

-- ---- the sizes of a linear program with one row more
pub longer : {A : Type 0} (old mid new : List A) (x : A) → mid ≡ old → new ≡ mid ++ (x ∷ []) → length new ≡ length old + 1
longer old mid new x e f = ap length (f ∙ ap (λ xs. xs ++ (x ∷ [])) e) ∙ length-append old (x ∷ [])

pub still_wide : (n : ℕ) (old mid new : List Coefficients) (r : Coefficients) → All (λ (r : Coefficients). length r ≡ n) old → length r ≡ n → mid ≡ old → new ≡ mid ++ (r ∷ []) → All (λ (r : Coefficients). length r ≡ n) new
still_wide n old mid new r h l e f = subst (All (λ (r : Coefficients). length r ≡ n)) (sym (f ∙ ap (λ xs. xs ++ (r ∷ [])) e)) (All-push (λ (r : Coefficients). length r ≡ n) old r h l)

pub bounds_kept : (n m m' b b' : ℕ) → b ≡ n + m → m' ≡ m + 1 → b' ≡ b + 1 → b' ≡ n + m'
bounds_kept n m m' b b' e f g = omega arith

pub numbers_kept : (m m' k k' : ℕ) → k ≡ m → m' ≡ m + 1 → k' ≡ k + 1 → k' ≡ m'
numbers_kept m m' k k' e f g = omega arith

pub room_kept : (n m m' : ℕ) → m' ≡ m + 1 → m + 1 + 2 * n < 2 ^ 32 → m' + 2 * n < 2 ^ 32
room_kept n m m' e h = omega (arith, e, h)

-- ---- a problem's rows
pub row_rises : (n : ℕ) (rows : Rows) (i : ℕ) (r : Row) → All (IsLimitedRow n) rows → slice_get rows i ≡ Some r → AreRising r.terms
row_rises n rows i r h e =
    let l = slice_get_within rows i r e in
    let f : get_or rows i r ≡ r = let g : Some (get_or rows i r) ≡ Some r = sym (slice_get-get_or rows i r l) ∙ e in cc in
    subst (λ (r : Row). AreRising r.terms) f (All-get_or (IsLimitedRow n) rows i r l h).terms.rising

pub no_rows : (objective : Terms) (spans : List Span) (bs : List Bounds) → bs ≡ map span_bounds spans → bs ≡ map span_bounds spans ++ []
no_rows objective spans bs e = e ∙ sym (append-nil (map span_bounds spans))

pub all_rows : (p : Problem) (spans : List Span) (i : ℕ) → length p.rows ≡ i → program_of (aim p) (take i p.rows) (numbers_from 0 i) spans ≡ relaxation p [] spans
all_rows p spans i e = λ j. program_of (aim p) ((ap (λ n. take n p.rows) (sym e) ∙ take_all (length p.rows) p.rows (omega arith) ∙ sym (append-nil p.rows)) j) ((ap (numbers_from 0) (sym e) ∙ sym (append-nil (numbers_from 0 (length p.rows)))) j) spans

-- ---- the sizes of a linear program without rows
pub first_sizes : (objective : Terms) (spans : List Span) (rows : List Coefficients) (costs : Coefficients) (bs : List Bounds) (ns : List ℕ) (k : ℕ) → length spans ≤ most_columns → k ≡ length spans
    → rows ≡ [] → ns ≡ [] → costs ≡ coefficients_from 0 k objective → bs ≡ map span_bounds spans
    → (length bs ≡ length costs + length rows) × (length ns ≡ length rows) × All (λ (r : Coefficients). length r ≡ length costs) rows × (length rows + 2 * length costs < 2 ^ 32)
first_sizes objective spans rows costs bs ns k l e f g h m =
    let n : length costs ≡ length spans = ap length h ∙ length-coefficients 0 k objective ∙ e in
    let b : length bs ≡ length spans = ap length m ∙ length-map spans span_bounds in
    let r : length rows ≡ 0 = ap length f in
    let s : length ns ≡ 0 = ap length g in
    (omega arith, omega arith, subst (All (λ (r : Coefficients). length r ≡ length costs)) (sym f) (All-nil (λ (r : Coefficients). length r ≡ length costs)), omega arith)
