-- Lemmas: the numbers of rows and cuts, and the multipliers under these numbers.
use Rattle.std.specs.Prelude.{pos, All, if◌then◌else◌}
use Rattle.std.proofs.Common.{◌≡◌, ℕ, zero, suc, ◌+◌, ◌*◌, ◌<◌, ◌≤◌, arith, refl, ap, sym, ◌∙◌, Bool, true, false, List, [], ◌∷◌, ◌++◌, length, get_or, map, inl, inr}
use Rattle.std.specs.Ordering.{int_eq}
use Rattle.std.proofs.lemmas.Int.{ints}
use Rattle.std.proofs.lemmas.List.{length-map, length-append, get_or-map, get_or_append_left, get_or-append-add}
use Rattle.std.proofs.lemmas.List.Elements.{All-nil, All-cons}
use Rattle.fraction.specs.Rational.{ℚ, ◌+ℚ◌, ◌*ℚ◌}
use Rattle.fraction.specs.Lemmas.Rational.{zero-+ℚ, zero-*ℚ}
use Rattle.fraction.specs.Lemmas.Order.{zero_from_num}
use Rattle.fraction.specs.Lemmas.Bounds.{dot_value}
use Rattle.problem.specs.declared.row.Row.{Row}
use Rattle.problem.specs.Linear.{Multipliers, coefficient, scaled}
use Rattle.problem.specs.Lemmas.Linear.{coefficient-append, coefficient-scaled}
use Rattle.problem.specs.Rows.{Rows}
use Rattle.problem.specs.Problem.{Problem}
use Rattle.cert_rows.specs.Lines.{CertLine, row_at, no_cert_line}
use Rattle.cert_rows.specs.Combination.{combined_terms, combined_rhs}
use Rattle.cert_rows.specs.Validity.{bound_rows}
use Rattle.cert_rows.specs.Lemmas.Soundness.{length-bounds}
use Rattle.derivation_book.specs.declared.cut.Cut.{Cut}
use Rattle.derivation_book.specs.Known.{known_rows, known_lines, first_cut}
use Rattle.derivation_book.specs.Legal.{NamesRowOrCut}
use Rattle.tableau.specs.Elimination.{zero_ℚ, entry}
use Rattle.tableau.specs.LinearProgram.{numbers_from, row_numbers}
use Rattle.tableau.specs.Multipliers.{numbered}
use Rattle.tableau.specs.Lemmas.Started.{no_row}

-- ---- rows under their numbers
-- the lines with these numbers have these rows
abbrev pub AreRows : List CertLine → List ℕ → Rows → Type 0
AreRows ls [] [] = Unit {0}
AreRows ls [] (r ∷ rs) = ⊥
AreRows ls (i ∷ is) [] = ⊥
AreRows ls (i ∷ is) (r ∷ rs) = (i < length ls) × (row_at ls i ≡ r) × AreRows ls is rs

pub length-numbers : (ls : List CertLine) (is : List ℕ) (rs : Rows) → AreRows ls is rs → length is ≡ length rs
length-numbers ls [] [] h = refl
length-numbers ls [] (r ∷ rs) h = absurd h
length-numbers ls (i ∷ is) [] h = absurd h
length-numbers ls (i ∷ is) (r ∷ rs) h = ap suc (length-numbers ls is rs h.2)

pub row_there : (ls : List CertLine) (is : List ℕ) (rs : Rows) (k : ℕ) → AreRows ls is rs → k < length is → (get_or is k 0 < length ls) × (row_at ls (get_or is k 0) ≡ get_or rs k no_row)
row_there ls [] rs k h l = absurd (omega arith)
row_there ls (i ∷ is) [] k h l = absurd h
row_there ls (i ∷ is) (r ∷ rs) zero h l = (h.0, h.1)
row_there ls (i ∷ is) (r ∷ rs) (suc k) h l = row_there ls is rs k h.2 (omega arith)

-- ---- multipliers under numbers
pub all_numbered : (P : ℕ × ℚ → Type 0) (is : List ℕ) (ms : List ℚ) → ((k : ℕ) → k < length is → P (get_or is k 0, entry ms k)) → All P (numbered is ms)
all_numbered P [] ms h = All-nil P
all_numbered P (i ∷ is) [] h = All-nil P
all_numbered P (i ∷ is) (m ∷ ms) h = at (int_eq m.num (pos 0)) (all_numbered P is ms (λ k l. h (suc k) (omega arith)))
  where
    at : (x : Bool) → All P (numbered is ms) → All P (if x then numbered is ms else (i, m) ∷ numbered is ms)
    at true k = k
    at false k = All-cons P (i, m) (numbered is ms) (h 0 (omega arith)) k

-- ---- combinations
-- the sum of each multiplier times a number of its line
abbrev multiplied : (ℕ → ℚ) → Multipliers → ℚ
multiplied f [] = zero_ℚ
multiplied f (m ∷ ms) = m.1 *ℚ f m.0 +ℚ multiplied f ms

multiplied-numbered : (ls : List CertLine) (f : Row → ℚ) (is : List ℕ) (rs : Rows) (ms : List ℚ) → AreRows ls is rs → multiplied (λ i. f (row_at ls i)) (numbered is ms) ≡ dot_value ms (map f rs)
multiplied-numbered ls f [] [] [] h = refl
multiplied-numbered ls f [] [] (m ∷ ms) h = refl
multiplied-numbered ls f [] (r ∷ rs) ms h = absurd h
multiplied-numbered ls f (i ∷ is) [] ms h = absurd h
multiplied-numbered ls f (i ∷ is) (r ∷ rs) [] h = refl
multiplied-numbered ls f (i ∷ is) (r ∷ rs) (m ∷ ms) h = at (int_eq m.num (pos 0)) refl (multiplied-numbered ls f is rs ms h.2)
  where
    at : (x : Bool) → int_eq m.num (pos 0) ≡ x → multiplied (λ i. f (row_at ls i)) (numbered is ms) ≡ dot_value ms (map f rs)
        → multiplied (λ i. f (row_at ls i)) (if x then numbered is ms else (i, m) ∷ numbered is ms) ≡ m *ℚ f r +ℚ dot_value ms (map f rs)
    at true e k = k ∙ sym ((λ j. (ap (λ z. z *ℚ f r) (zero_from_num m (grind (arith, ints))) ∙ zero-*ℚ (f r)) j +ℚ dot_value ms (map f rs)) ∙ zero-+ℚ _)
    at false e k = λ j. m *ℚ f (h.1 j) +ℚ k j

combined_coefficient : (ls : List CertLine) (ms : Multipliers) (j : ℕ) → coefficient (combined_terms ls ms) j ≡ multiplied (λ i. coefficient (row_at ls i).terms j) ms
combined_coefficient ls [] j = refl
combined_coefficient ls (m ∷ ms) j =
    coefficient-append (scaled m.1 (row_at ls m.0).terms) (combined_terms ls ms) j ∙ (λ i. coefficient-scaled m.1 (row_at ls m.0).terms j i +ℚ combined_coefficient ls ms j i)

combined_side : (ls : List CertLine) (ms : Multipliers) → combined_rhs ls ms ≡ multiplied (λ i. (row_at ls i).rhs) ms
combined_side ls [] = refl
combined_side ls (m ∷ ms) = ap (λ z. m.1 *ℚ (row_at ls m.0).rhs +ℚ z) (combined_side ls ms)

module _ (ls : List CertLine) (is : List ℕ) (rs : Rows) (ms : List ℚ) (rows : AreRows ls is rs) where
  pub numbered_coefficient : (j : ℕ) → coefficient (combined_terms ls (numbered is ms)) j ≡ dot_value ms (map (λ (r : Row). coefficient r.terms j) rs)
  numbered_coefficient j = combined_coefficient ls (numbered is ms) j ∙ multiplied-numbered ls (λ (r : Row). coefficient r.terms j) is rs ms rows

  pub numbered_side : combined_rhs ls (numbered is ms) ≡ dot_value ms (map (λ (r : Row). r.rhs) rs)
  numbered_side = combined_side ls (numbered is ms) ∙ multiplied-numbered ls (λ (r : Row). r.rhs) is rs ms rows

-- ---- the numbers of a problem's rows and of cuts
abbrev plain_line : Row → CertLine
plain_line r = record { row = r; assumes = [] }

row_read : (rs : Rows) (i : ℕ) (d : Row) → i < length rs → row_at (map plain_line rs) i ≡ get_or rs i d
row_read rs i d l = ap (λ (l : CertLine). l.row) (get_or-map plain_line rs i d no_cert_line l)

rows_from : (all : Rows) (i : ℕ) (rs : Rows) → i + length rs ≤ length all → ((k : ℕ) → k < length rs → (d : Row) → get_or all (i + k) d ≡ get_or rs k d)
    → AreRows (map plain_line all) (numbers_from i (length rs)) rs
rows_from all i [] l h = tt
rows_from all i (r ∷ rs) l h =
    let there : i < length all = omega arith in (
      rw length-map there,
      row_read all i r there ∙ ap (λ k. get_or all k r) (let e : i ≡ i + 0 = omega arith in e) ∙ h 0 (omega arith) r,
      rows_from all (i + 1) rs (omega arith) (λ k b d. ap (λ k. get_or all k d) (let e : i + 1 + k ≡ i + suc k = omega arith in e) ∙ h (suc k) (omega arith) d),
    )

both_rows : (ls : List CertLine) (is js : List ℕ) (rs qs : Rows) → AreRows ls is rs → AreRows ls js qs → AreRows ls (is ++ js) (rs ++ qs)
both_rows ls [] js [] qs h k = k
both_rows ls [] js (r ∷ rs) qs h k = absurd h
both_rows ls (i ∷ is) js [] qs h k = absurd h
both_rows ls (i ∷ is) js (r ∷ rs) qs h k = (h.0, h.1, both_rows ls is js rs qs h.2 k)

abbrev row_of_cut : Cut → Row
row_of_cut c = c.row

module _ (p : Problem) (cs : List Cut) where
  abbrev rows_before : Rows
  rows_before = p.rows ++ bound_rows 0 p.spans

  length-before : length (p.rows ++ bound_rows 0 p.spans) ≡ first_cut p
  length-before = length-append p.rows (bound_rows 0 p.spans) ∙ ap (λ n. length p.rows + n) (length-bounds 0 p.spans)

  length-known : length (known_rows p cs) ≡ first_cut p + length cs
  length-known = length-append (p.rows ++ bound_rows 0 p.spans) (map row_of_cut cs) ∙ (λ i. length-before i + length-map cs row_of_cut i)

  first_rows : AreRows (known_lines p cs) (numbers_from 0 (length p.rows)) p.rows
  first_rows = rows_from (known_rows p cs) 0 p.rows (omega (arith, length-known)) (λ i b d.
      ap (λ j. get_or (known_rows p cs) j d) (let e : 0 + i ≡ i = omega arith in e)
      ∙ get_or_append_left (p.rows ++ bound_rows 0 p.spans) (map row_of_cut cs) d i (omega (arith, b, length-before))
      ∙ get_or_append_left p.rows (bound_rows 0 p.spans) d i b)

  cut_rows : AreRows (known_lines p cs) (numbers_from (first_cut p) (length (map row_of_cut cs))) (map row_of_cut cs)
  cut_rows = rows_from (known_rows p cs) (first_cut p) (map row_of_cut cs) (omega (arith, length-known, length-map cs row_of_cut)) (λ i b d.
      ap (λ n. get_or (known_rows p cs) (n + i) d) (sym length-before)
      ∙ get_or-append-add (p.rows ++ bound_rows 0 p.spans) (map row_of_cut cs) i d)

  -- a problem's rows and cuts stand under the numbers by which multipliers name them
  pub relaxation_rows : AreRows (known_lines p cs) (row_numbers p (length (map row_of_cut cs))) (p.rows ++ map row_of_cut cs)
  relaxation_rows = both_rows (known_lines p cs) (numbers_from 0 (length p.rows)) (numbers_from (first_cut p) (length (map row_of_cut cs))) p.rows (map row_of_cut cs) first_rows cut_rows

-- they are no bound rows
names_from : (p : Problem) (i k j l : ℕ) → i + k ≤ length p.rows → first_cut p ≤ j → All (NamesRowOrCut p) (numbers_from i k ++ numbers_from j l)
names_from p i zero j zero a b = All-nil (NamesRowOrCut p)
names_from p i zero j (suc l) a b = All-cons (NamesRowOrCut p) j (numbers_from (j + 1) l) (inr b) (names_from p i zero (j + 1) l a (omega arith))
names_from p i (suc k) j l a b = All-cons (NamesRowOrCut p) i (numbers_from (i + 1) k ++ numbers_from j l) (inl (omega arith)) (names_from p (i + 1) k j l (omega arith) b)

pub row_numbers_name : (p : Problem) (k : ℕ) → All (NamesRowOrCut p) (row_numbers p k)
row_numbers_name p k = names_from p 0 (length p.rows) (length p.rows + 2 * length p.spans) k (omega arith) (omega arith)
