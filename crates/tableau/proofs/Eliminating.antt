-- All rows of a pivot, by what is known of each.
use Rattle.std.proofs.Common.{◌≡◌, ℕ, suc, ◌+◌, ◌-◌, ◌<◌, arith, refl, ap, sym, ◌∙◌, true, Option, Some, None, List, [], ◌∷◌, ◌++◌, length, get_or, set, take, drop, drop-cons, length-drop}
use Rattle.std.specs.Prelude.{pos, if◌then◌else◌}
use Rattle.std.specs.Ordering.{int_eq}
use Rattle.std.specs.Option.{option_and_then, option_map}
use Rattle.std.proofs.lemmas.List.{length-set, get_or-set_same, get_or-set_other, get_or-take, get_or-drop, length-take-le, take-append-drop}
use Rattle.tableau.specs.Elimination.{Coefficients, zero_ℚ, substituted, all_substituted, others_substituted, solved_for}
use Rattle.tableau.specs.Pivot.{rows_eliminated}
use Rattle.tableau.specs.Lemmas.Pivoted.{others_are}
use Rattle.tableau.specs.SparseSteps.{next_row, costs_eliminated, IsPivotPrepared}

-- ---- one row
pub row_stays : (c : ℕ) (row ready new : Coefficients) → int_eq (get_or row c zero_ℚ).num (pos 0) ≡ true → substituted c new row ≡ Some row → substituted c new row ≡ Some (next_row c row ready)
row_stays c row ready new e h = h ∙ ap (λ b. Some (if b then row else ready)) (sym e)

-- ---- all rows but one
all_from : (c : ℕ) (new : Coefficients) (xs ys : List Coefficients) → length ys ≡ length xs → ((k : ℕ) → k < length xs → substituted c new (get_or xs k []) ≡ Some (get_or ys k []))
    → all_substituted c new xs ≡ Some ys
all_from c new [] [] l h = refl
all_from c new [] (y ∷ ys) l h = absurd (omega arith)
all_from c new (x ∷ xs) [] l h = absurd (omega arith)
all_from c new (x ∷ xs) (y ∷ ys) l h =
    ap (option_and_then (λ r. option_map (λ rs. r ∷ rs) (all_substituted c new xs))) (h 0 (omega arith))
    ∙ ap (option_map (λ rs. y ∷ rs)) (all_from c new xs ys (omega arith) (λ k m. h (suc k) (omega arith)))

around_one : (rs : List Coefficients) (r : ℕ) (new : Coefficients) → r < length rs → get_or rs r [] ≡ new → take r rs ++ (new ∷ drop (r + 1) rs) ≡ rs
around_one rs r new l e =
    (λ i. take r rs ++ (sym e i ∷ drop ((let f : r + 1 ≡ suc r = omega arith in f) i) rs)) ∙ ap (λ xs. take r rs ++ xs) (sym (drop-cons rs r [] l)) ∙ take-append-drop r rs

pub others_from : (r c : ℕ) (rows rs : List Coefficients) (new : Coefficients) → r < length rows → length rs ≡ length rows → get_or rs r [] ≡ new
    → ((k : ℕ) → k < length rows → (k ≡ r → ⊥) → substituted c new (get_or rows k []) ≡ Some (get_or rs k []))
    → others_substituted r c (set rows r new) ≡ Some rs
others_from r c rows rs new l m e h =
    ap (λ n. option_and_then (λ front. option_map (λ back. front ++ (n ∷ back)) (all_substituted c n (drop (r + 1) (set rows r new)))) (all_substituted c n (take r (set rows r new)))) is_new
    ∙ ap (option_and_then (λ front. option_map (λ back. front ++ (new ∷ back)) (all_substituted c new (drop (r + 1) (set rows r new))))) front
    ∙ ap (option_map (λ back. take r rs ++ (new ∷ back))) back
    ∙ ap Some (around_one rs r new (omega arith) e)
  where
    is_new : get_or (set rows r new) r [] ≡ new
    is_new = get_or-set_same rows r new [] l

    size : length (set rows r new) ≡ length rows
    size = length-set rows r new

    other : (k : ℕ) → k < length rows → (k ≡ r → ⊥) → substituted c new (get_or (set rows r new) k []) ≡ Some (get_or rs k [])
    other k b n = ap (substituted c new) (get_or-set_other rows r k new [] n) ∙ h k b n

    front : all_substituted c new (take r (set rows r new)) ≡ Some (take r rs)
    front = all_from c new (take r (set rows r new)) (take r rs)
        (length-take-le r rs (omega arith) ∙ sym (length-take-le r (set rows r new) (omega (arith, size))))
        (λ k b.
        let s : k < r = omega (arith, b, length-take-le r (set rows r new) (omega (arith, size))) in
        ap (substituted c new) (get_or-take r (set rows r new) k [] s) ∙ other k (omega arith) (λ f. omega (arith, f, s)) ∙ ap Some (sym (get_or-take r rs k [] s)))

    back : all_substituted c new (drop (r + 1) (set rows r new)) ≡ Some (drop (r + 1) rs)
    back = all_from c new (drop (r + 1) (set rows r new)) (drop (r + 1) rs)
        (length-drop (r + 1) rs ∙ ap (λ n. n - (r + 1)) (m ∙ sym size) ∙ sym (length-drop (r + 1) (set rows r new)))
        (λ k b.
        let s : r + 1 + k < length rows = omega (arith, b, length-drop (r + 1) (set rows r new), size) in
        ap (substituted c new) (get_or-drop (r + 1) (set rows r new) k []) ∙ other (r + 1 + k) s (λ f. omega (arith, f)) ∙ ap Some (sym (get_or-drop (r + 1) rs k [])))

pub others_cramped : (r c : ℕ) (rows : List Coefficients) (new : Coefficients) (i : ℕ) → r < length rows → i < length rows → (i ≡ r → ⊥) → substituted c new (get_or rows i []) ≡ None
    → others_substituted r c (set rows r new) ≡ None
others_cramped r c rows new i l b n e = at (others_substituted r c (set rows r new)) refl
  where
    at : (o : Option (List Coefficients)) → others_substituted r c (set rows r new) ≡ o → o ≡ None
    at None f = refl
    at (Some rs) f =
        let k = others_are r c (set rows r new) rs (omega (arith, length-set rows r new, l)) f in
        let g : substituted c new (get_or rows i []) ≡ Some (get_or rs i []) =
        ap (substituted c new) (sym (get_or-set_other rows r i new [] n))
        ∙ ap (λ z. substituted c z (get_or (set rows r new) i [])) (sym (get_or-set_same rows r new [] l)) ∙ k.others i (omega (arith, length-set rows r new, b)) n in
        absurd (let h : None ≡ Some (get_or rs i []) = sym e ∙ g in let z : ⊥ = cc in z)

-- ---- the pivot's rows and reduced costs
pub eliminated_rows : (r c : ℕ) (rows rs : List Coefficients) (costs solved : Coefficients) (ready : List Coefficients) (ready_costs : Coefficients) → r < length rows
    → IsPivotPrepared r c rows costs solved ready ready_costs → length rs ≡ length rows → get_or rs r [] ≡ solved
    → ((k : ℕ) → k < length rows → (k ≡ r → ⊥) → get_or rs k [] ≡ next_row c (get_or rows k []) (get_or ready k [])) → rows_eliminated r c rows ≡ Some rs
eliminated_rows r c rows rs costs solved ready ready_costs l h m e k =
    ap (option_and_then (λ new. others_substituted r c (set rows r new))) h.is_solved
    ∙ others_from r c rows rs solved l m e (λ i b n. h.others i b n ∙ ap Some (sym (k i b n)))

-- ---- where the solved row, another row or the reduced costs are cramped
pub no_solved_row : (r c : ℕ) (rows : List Coefficients) (costs : Coefficients) → solved_for r c (get_or rows r []) ≡ None → costs_eliminated r c rows costs ≡ None
no_solved_row r c rows costs e = ap (λ o. option_and_then (λ rs. substituted c (get_or rs r []) costs) (option_and_then (λ new. others_substituted r c (set rows r new)) o)) e

pub no_other_row : (r c : ℕ) (rows : List Coefficients) (costs solved : Coefficients) → solved_for r c (get_or rows r []) ≡ Some solved → others_substituted r c (set rows r solved) ≡ None
    → costs_eliminated r c rows costs ≡ None
no_other_row r c rows costs solved e f =
    ap (λ o. option_and_then (λ rs. substituted c (get_or rs r []) costs) (option_and_then (λ new. others_substituted r c (set rows r new)) o)) e
    ∙ ap (option_and_then (λ rs. substituted c (get_or rs r []) costs)) f

pub no_costs : (r c : ℕ) (rows : List Coefficients) (costs solved : Coefficients) → r < length rows → solved_for r c (get_or rows r []) ≡ Some solved → substituted c solved costs ≡ None
    → costs_eliminated r c rows costs ≡ None
no_costs r c rows costs solved l e f = at (rows_eliminated r c rows) refl
  where
    at : (o : Option (List Coefficients)) → rows_eliminated r c rows ≡ o → option_and_then (λ rs. substituted c (get_or rs r []) costs) o ≡ None
    at None g = refl
    at (Some rs) g =
        let h : others_substituted r c (set rows r solved) ≡ Some rs = sym (ap (option_and_then (λ new. others_substituted r c (set rows r new))) e) ∙ g in
        let k = others_are r c (set rows r solved) rs (omega (arith, length-set rows r solved, l)) h in
        ap (λ new. substituted c new costs) (k.kept ∙ get_or-set_same rows r solved [] l) ∙ f
