-- The coefficients of a linear program's rows, column by column: a place among them is that of one row and one column.
use Rattle.std.proofs.Common.{◌≡◌, ◌≢◌, ℕ, zero, suc, ◌+◌, ◌*◌, ◌<◌, arith, refl, ap, sym, ◌∙◌, List, [], length, set, take, inl, inr, get_or-set_same, get_or-set_other}
use Rattle.std.specs.Prelude.{ℤ, pos}
use Rattle.std.proofs.lemmas.Bool.{cases_eq, cases_lt}
use Rattle.std.proofs.lemmas.Nat.{row_fits}
use Rattle.integer_tableau.proofs.EntrySums.{entry_at, length-spread}
use Rattle.integer_tableau.proofs.KeptSums.{spread_more}
use Rattle.integer_tableau.specs.Entries.{AreEntries, spread}
use Rattle.integer_tableau.specs.Numbers.{number_at}
use Rattle.integer_tableau.specs.declared.program_row.ProgramEntry.{ProgramEntry}

-- ---- places
pub place_within : (j n i rows : ℕ) → j < n → i < rows → j * rows + i < n * rows
place_within j n i rows l m = omega (arith, row_fits j rows n rows l (omega arith), m)

same_column : (j h i k rows : ℕ) → i < rows → k < rows → j * rows + i ≡ h * rows + k → j ≡ h
same_column j h i k rows l m e = elim (cases_lt j h) [
  | inl o ↦ absurd (omega (arith, e, m, l, row_fits j rows h rows o (omega arith)))
  | inr o ↦ elim (cases_lt h j) [
    | inl q ↦ absurd (omega (arith, e, m, l, row_fits h rows j rows q (omega arith)))
    | inr q ↦ omega (arith, o, q)
  ]
]

pub columns_apart : (j h i k rows : ℕ) → i < rows → k < rows → j ≢ h → j * rows + i ≢ h * rows + k
columns_apart j h i k rows l m ne e = ne (same_column j h i k rows l m e)

pub rows_apart : (j h i k rows : ℕ) → i < rows → k < rows → i ≢ k → j * rows + i ≢ h * rows + k
rows_apart j h i k rows l m ne e =
    let q : j * rows ≡ h * rows = ap (λ j. j * rows) (same_column j h i k rows l m e) in
    ne (omega (arith, e, q))

-- ---- the loops
-- one entry more is put
pub entry_put : (rows row : ℕ) (cs numbers : List ℤ) (es : List ProgramEntry) (i : ℕ) → AreEntries cs es → i < length es → row < rows → length numbers ≡ length cs * rows
    → ((j : ℕ) → j < length cs → number_at numbers (j * rows + row) ≡ number_at (spread 0 (length cs) (take i es)) j)
    → (j : ℕ) → j < length cs → number_at (set numbers ((entry_at es i).place * rows + row) (entry_at es i).number) (j * rows + row) ≡ number_at (spread 0 (length cs) (take (i + 1) es)) j
entry_put rows row cs numbers es i are l there many put j m = elim (cases_eq j e.place) [
  | inl q ↦ ap (λ j. number_at (set numbers (e.place * rows + row) e.number) (j * rows + row)) q
      ∙ get_or-set_same numbers (e.place * rows + row) e.number (pos 0) (omega (arith, many, place_within e.place (length cs) row rows (are.within i l) there))
      ∙ sym (ap (number_at (spread 0 (length cs) (take (i + 1) es))) q ∙ ap (λ xs. number_at xs e.place) (sym more)
      ∙ get_or-set_same before e.place e.number (pos 0) (omega (arith, are.within i l, length-spread 0 (length cs) (take i es))))
  | inr ne ↦ get_or-set_other numbers (e.place * rows + row) (j * rows + row) e.number (pos 0) (columns_apart j e.place row row rows there there ne)
      ∙ put j m
      ∙ sym (ap (λ xs. number_at xs j) (sym more) ∙ get_or-set_other before e.place j e.number (pos 0) ne)
]
  where
    e : ProgramEntry
    e = entry_at es i

    before : List ℤ
    before = spread 0 (length cs) (take i es)

    more : set before e.place e.number ≡ spread 0 (length cs) (take (i + 1) es)
    more = spread_more cs es i are l

-- and changes no other row
pub others_left : (rows row : ℕ) (first numbers : List ℤ) (h : ℕ) (z : ℤ) → row < rows
    → ((j i : ℕ) → i < rows → i ≢ row → number_at numbers (j * rows + i) ≡ number_at first (j * rows + i))
    → (j i : ℕ) → i < rows → i ≢ row → number_at (set numbers (h * rows + row) z) (j * rows + i) ≡ number_at first (j * rows + i)
others_left rows row first numbers h z there same j i l ne =
    get_or-set_other numbers (h * rows + row) (j * rows + i) z (pos 0) (rows_apart j h i row rows l there ne) ∙ same j i l ne

-- at first none is
pub none_put : (j n k : ℕ) → number_at (spread j n []) k ≡ pos 0
none_put j zero k = refl
none_put j (suc n) zero = refl
none_put j (suc n) (suc k) = none_put (suc j) n k
