-- Sums of products that have 63 bits on the way: each number is at most `size`, and the coefficients' sizes times `size` are below 2^63.
use Rattle.std.proofs.Common.{◌≡◌, ℕ, ◌+◌, ◌*◌, ◌^◌, ◌<◌, ◌≤◌, arith, ap, sym, subst, ◌∙◌, List, length, drop, w64, to_z, of_z, FitsSigned}
use Rattle.std.specs.Prelude.{ℤ, nat_abs, ◌+ℤ◌, ◌*ℤ◌}
use Rattle.std.proofs.Math.Nat.{mul-le-mul_left, mul-le-mul_right}
use Rattle.std.proofs.lemmas.Int.{to_z-of_z, fits_signed_from_abs, unsigned_abs-mul}
use Rattle.integer_tableau.proofs.CombinedLoops.{IsSoFar, next_entry, size_unfolds}
use Rattle.integer_tableau.proofs.EntrySums.{entry_at, entry_sum, whole_size}
use Rattle.integer_tableau.specs.Entries.{AreEntries, entry_size}
use Rattle.integer_tableau.specs.Numbers.{IsWithin, number_at, total_size}
use Rattle.integer_tableau.specs.declared.program_row.ProgramEntry.{ProgramEntry}

-- the sum so far, of the first i entries
abbrev pub IsSummed : List ProgramEntry → List ℤ → ℕ → ℤ → Type 0
IsSummed es ns i total = (most : ℕ) → IsWithin most ns → IsSoFar total (entry_sum (number_at ns) (drop i es)) (entry_sum (number_at ns) es) (entry_size (drop i es)) (entry_size es) most

sum_narrow : (total rest all : ℤ) (left whole most : ℕ) → IsSoFar total rest all left whole most → whole * most < 2 ^ 63 → nat_abs total < 2 ^ 63
sum_narrow total rest all left whole most h light = omega (arith, h.size, light)

product_narrow : (total rest all p z x : ℤ) (left whole most : ℕ) → IsSoFar total rest all left whole most → whole * most < 2 ^ 63 → nat_abs z ≤ left → nat_abs x ≤ most → p ≡ z *ℤ x → nat_abs p < 2 ^ 63
product_narrow total rest all p z x left whole most h light part small is =
    omega (arith, h.size, light, mul-le-mul_left most part, ap nat_abs is ∙ unsigned_abs-mul z x, mul-le-mul_right (nat_abs z) small)

-- ---- an entry more
module _ (cs ns : List ℤ) (es : List ProgramEntry) (are : AreEntries cs es) (size : ℕ) (within : IsWithin size ns) (light : total_size cs * size < 2 ^ 63) where
  few : entry_size es * size < 2 ^ 63
  few = subst (λ n. n * size < 2 ^ 63) (sym (whole_size cs es are)) light

  module _ (i : ℕ) (l : i < length es) (total p : ℤ) (h : IsSummed es ns i total) (is : p ≡ (entry_at es i).number *ℤ number_at ns (entry_at es i).place) where
    pub next_product_fits : FitsSigned w64 p
    next_product_fits =
        let e = entry_at es i in
        fits_signed_from_abs w64 p (product_narrow total _ _ p e.number (number_at ns e.place) (entry_size (drop i es)) (entry_size es) size
        (h size within) few (omega (arith, size_unfolds es i l)) (within e.place) is)

    next : IsSummed es ns (i + 1) (total +ℤ to_z w64 (of_z w64 p))
    next = λ most in_most. next_entry most (number_at ns) es i total (to_z w64 (of_z w64 p)) l (in_most (entry_at es i).place) (h most in_most) (to_z-of_z w64 p next_product_fits ∙ is)

    pub next_sum_fits : FitsSigned w64 (total +ℤ to_z w64 (of_z w64 p))
    next_sum_fits = fits_signed_from_abs w64 _ (sum_narrow _ _ _ _ _ size (next size within) few)

    pub next_sum : IsSummed es ns (i + 1) (to_z w64 (of_z w64 (total +ℤ to_z w64 (of_z w64 p))))
    next_sum = subst (IsSummed es ns (i + 1)) (sym (to_z-of_z w64 _ next_sum_fits)) next
