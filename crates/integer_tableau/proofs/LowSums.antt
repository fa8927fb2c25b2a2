-- Combinations of columns modulo 2^64.
use Rattle.std.proofs.Common.{◌≡◌, ℕ, ◌+◌, ◌-◌, ◌<◌, ℤ, pos, List, length, set, drop, arith, ap, sym, refl, ◌∙◌, inl, inr, get_or-set_same, get_or-set_other}
use Rattle.std.specs.Prelude.{nat_abs, nat_eq, ◌+ℤ◌, ◌*ℤ◌, ◌<ℤ◌, if◌then◌else◌}
use Rattle.std.specs.Int.{w64, int_wrap}
use Rattle.std.proofs.lemmas.Bool.{cases_eq}
use Rattle.std.proofs.lemmas.Int.{int_wrap_fits, int_wrap-add_same, SFits-int_wrap, fits_signed_from_abs}
use Rattle.std.proofs.lemmas.List.{get_or_default, same_lists}
use Rattle.integer_tableau.proofs.CombinedLoops.{column_more, product_more}
use Rattle.integer_tableau.proofs.Combining.{combined_row_in, length-numbers_from}
use Rattle.integer_tableau.proofs.EntrySums.{entry_at, entry_sum}
use Rattle.integer_tableau.specs.Combined.{combined, combined_row}
use Rattle.integer_tableau.specs.Numbers.{IsWithin, number_at}
use Rattle.integer_tableau.specs.Range.{size_limit}
use Rattle.integer_tableau.specs.declared.position.Position.{Position}
use Rattle.integer_tableau.specs.declared.program_row.ProgramEntry.{ProgramEntry}

pub wrapped_twice : (z : ℤ) → int_wrap w64 (int_wrap w64 z) ≡ int_wrap w64 z
wrapped_twice z = int_wrap_fits w64 (int_wrap w64 z) (SFits-int_wrap w64 z)

-- a product is added to one number of the sum
pub low_product_more : (sum : List ℤ) (column k : ℕ) (next factor d : ℤ) → column < length sum → pos 0 <ℤ d → next ≡ int_wrap w64 (number_at sum column +ℤ factor *ℤ d)
    → int_wrap w64 (number_at (set sum column next) k) ≡ int_wrap w64 (number_at sum k +ℤ factor *ℤ (if nat_eq k column then pos (nat_abs d) else pos 0))
low_product_more sum column k next factor d l o is = same_before_wrapping ∙ ap (int_wrap w64) (product_more sum column k whole factor d l o refl)
  where
    whole : ℤ
    whole = number_at sum column +ℤ factor *ℤ d

    same_before_wrapping : int_wrap w64 (number_at (set sum column next) k) ≡ int_wrap w64 (number_at (set sum column whole) k)
    same_before_wrapping = elim (cases_eq k column) [
      | inl p ↦ ap (int_wrap w64) (ap (number_at (set sum column next)) p ∙ get_or-set_same sum column next (pos 0) l ∙ is) ∙ wrapped_twice whole
          ∙ sym (ap (int_wrap w64) (ap (number_at (set sum column whole)) p ∙ get_or-set_same sum column whole (pos 0) l))
      | inr n ↦ ap (int_wrap w64) (get_or-set_other sum column k next (pos 0) n ∙ sym (get_or-set_other sum column k whole (pos 0) n))
    ]

-- a column is added to the sum
pub low_column_more : (f : ℕ → ℤ) (es : List ProgramEntry) (i : ℕ) (old new all : ℤ) → i < length es → int_wrap w64 (old +ℤ entry_sum f (drop i es)) ≡ int_wrap w64 all
    → int_wrap w64 new ≡ int_wrap w64 (old +ℤ (entry_at es i).number *ℤ f (entry_at es i).place) → int_wrap w64 (new +ℤ entry_sum f (drop (i + 1) es)) ≡ int_wrap w64 all
low_column_more f es i old new all l sum is =
    let next = old +ℤ (entry_at es i).number *ℤ f (entry_at es i).place in
    int_wrap-add_same w64 new next (entry_sum f (drop (i + 1) es)) is
    ∙ ap (int_wrap w64) (column_more f es i old next (old +ℤ entry_sum f (drop i es)) l refl refl)
    ∙ sum

-- the row of numbers that are those of the combination modulo 2^64, where the combination is small
pub row_from_low_numbers : (d : ℕ) (cs : List ℤ) (ss : List Position) (ls : List (List ℤ)) (xs : List ℤ) → length xs ≡ length ls → IsWithin (size_limit - 1) xs
    → IsWithin (size_limit - 1) (combined_row d ss ls cs) → ((k : ℕ) → k < length xs → int_wrap w64 (number_at xs k) ≡ int_wrap w64 (combined d cs ss ls k)) → xs ≡ combined_row d ss ls cs
row_from_low_numbers d cs ss ls xs e within small h = same_lists _ _ (e ∙ sym (length-numbers_from 0 (length ls) (combined d cs ss ls))) (λ j z m.
    get_or_default xs j z (pos 0) m ∙ number j m ∙ sym (get_or_default (combined_row d ss ls cs) j z (pos 0) (omega (arith, m, e, length-numbers_from 0 (length ls) (combined d cs ss ls)))))
  where
    number : (j : ℕ) → j < length xs → number_at xs j ≡ number_at (combined_row d ss ls cs) j
    number j m =
        sym (int_wrap_fits w64 (number_at xs j) (fits_signed_from_abs w64 (number_at xs j) (omega (arith, within j)))) ∙ h j m ∙ ap (int_wrap w64) (sym (combined_row_in d cs ss ls j (omega (arith, m, e))))
        ∙ int_wrap_fits w64 (number_at (combined_row d ss ls cs) j) (fits_signed_from_abs w64 (number_at (combined_row d ss ls cs) j) (omega (arith, small j)))
