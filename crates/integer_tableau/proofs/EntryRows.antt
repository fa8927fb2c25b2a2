-- Rows of whole numbers from the entries of rows of fractions.
use Rattle.std.proofs.Common.{◌≡◌, ℕ, zero, suc, ◌+◌, arith, refl, ap, sym, ◌∙◌, subst, Bool, true, false, List, [], ◌∷◌, length, get_or, drop, map}
use Rattle.std.specs.Prelude.{ℤ, pos, if◌then◌else◌}
use Rattle.std.specs.Ordering.{int_eq}
use Rattle.fraction.specs.Rational.{ℚ}
use Rattle.fraction.specs.Lemmas.Checked.{zero_from_test}
use Rattle.tableau.specs.Elimination.{zero_ℚ}
use Rattle.tableau.specs.Sparse.{nonzeros}
use Rattle.integer_tableau.proofs.EntrySums.{entry_first, entry_later}
use Rattle.integer_tableau.specs.Entries.{spread, RiseWithin, entry_by}
use Rattle.integer_tableau.specs.declared.program_row.ProgramEntry.{ProgramEntry}

rise_lower : (j w : ℕ) (es : List ProgramEntry) → RiseWithin (suc j) w es → RiseWithin j w es
rise_lower j w [] r = tt
rise_lower j w (e ∷ es) r = (omega (arith, r.0), r.1, r.2)

next_place : (j : ℕ) (row : List ℚ) → nonzeros (j + 1) row ≡ nonzeros (suc j) row
next_place j row = ap (λ k. nonzeros k row) (let e : j + 1 ≡ suc j = omega arith in e)

module _ (f : ℤ → ℚ) where
  head_is : (e : ProgramEntry) (es : List ProgramEntry) (x : ℕ × ℚ) (xs : List (ℕ × ℚ)) → map (entry_by f) (e ∷ es) ≡ x ∷ xs → entry_by f e ≡ x
  head_is e es x xs h = ap (λ ys. get_or ys 0 x) h

  tail_is : (e : ProgramEntry) (es : List ProgramEntry) (x : ℕ × ℚ) (xs : List (ℕ × ℚ)) → map (entry_by f) (e ∷ es) ≡ x ∷ xs → map (entry_by f) es ≡ xs
  tail_is e es x xs h = ap (drop (suc zero)) h

  rises_from : (j w : ℕ) (row : List ℚ) (es : List ProgramEntry) → j + length row ≡ w → map (entry_by f) es ≡ nonzeros j row → RiseWithin j w es
  rises_from j w [] [] q h = tt
  rises_from j w [] (e ∷ es) q h = absurd (omega (arith, ap length h))
  rises_from j w (t ∷ row) es q h = at (λ es h. rises_from (suc j) w row es (omega (arith, q)) h) (int_eq t.num (pos 0)) es h
    where
      at : ((es : List ProgramEntry) → map (entry_by f) es ≡ nonzeros (suc j) row → RiseWithin (suc j) w es)
          → (b : Bool) (es : List ProgramEntry) → map (entry_by f) es ≡ (if b then nonzeros (j + 1) row else (j, t) ∷ nonzeros (j + 1) row) → RiseWithin j w es
      at rest true es h = rise_lower j w es (rest es (h ∙ next_place j row))
      at rest false [] h = tt
      at rest false (e ∷ es) h =
          let p : e.place ≡ j = ap (λ (x : ℕ × ℚ). x.0) (head_is e es (j, t) (nonzeros (j + 1) row) h) in
          (omega (arith, p), omega (arith, p, q), subst (λ k. RiseWithin (suc k) w es) (sym p) (rest es (tail_is e es (j, t) (nonzeros (j + 1) row) h ∙ next_place j row)))

  module _ (zero_is : f (pos 0) ≡ zero_ℚ) where
    row_from : (j : ℕ) (row : List ℚ) (es : List ProgramEntry) → map (entry_by f) es ≡ nonzeros j row → map f (spread j (length row) es) ≡ row
    row_from j [] es h = refl
    row_from j (t ∷ row) es h = at (λ es h. row_from (suc j) row es h) (int_eq t.num (pos 0)) refl es h
      where
        passed : (es : List ProgramEntry) → RiseWithin (suc j) (suc j + length row) es → spread j (suc (length row)) es ≡ pos 0 ∷ spread (suc j) (length row) es
        passed [] r = refl
        passed (e ∷ es) r = entry_later j (length row) e es (λ p. omega (arith, p, r.0))

        at : ((es : List ProgramEntry) → map (entry_by f) es ≡ nonzeros (suc j) row → map f (spread (suc j) (length row) es) ≡ row)
            → (b : Bool) → int_eq t.num (pos 0) ≡ b → (es : List ProgramEntry) → map (entry_by f) es ≡ (if b then nonzeros (j + 1) row else (j, t) ∷ nonzeros (j + 1) row)
            → map f (spread j (suc (length row)) es) ≡ t ∷ row
        at rest true q es h =
            let g = h ∙ next_place j row in
            ap (map f) (passed es (rises_from (suc j) (suc j + length row) row es refl g)) ∙ (λ i. (zero_is ∙ sym (zero_from_test t q)) i ∷ rest es g i)
        at rest false q [] h = absurd (omega (arith, ap length h))
        at rest false q (e ∷ es) h =
            let here = head_is e es (j, t) (nonzeros (j + 1) row) h in
            ap (map f) (entry_first j (length row) e es (ap (λ (x : ℕ × ℚ). x.0) here))
            ∙ (λ i. (ap (λ (x : ℕ × ℚ). x.1) here) i ∷ rest es (tail_is e es (j, t) (nonzeros (j + 1) row) h ∙ next_place j row) i)

  -- the entries of a row, whose coefficients stand for its own
  pub entries_rise : (width : ℕ) (row : List ℚ) (es : List ProgramEntry) → length row ≡ width → map (entry_by f) es ≡ nonzeros 0 row → RiseWithin 0 width es
  entries_rise width row es e h = rises_from 0 width row es (omega (arith, e)) h

  pub row_of_entries : (width : ℕ) (row : List ℚ) (es : List ProgramEntry) → f (pos 0) ≡ zero_ℚ → length row ≡ width → map (entry_by f) es ≡ nonzeros 0 row → map f (spread 0 width es) ≡ row
  row_of_entries width row es zero_is e h = ap (λ n. map f (spread 0 n es)) (sym e) ∙ row_from zero_is 0 row es h
