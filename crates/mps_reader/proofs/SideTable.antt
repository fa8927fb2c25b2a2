-- Lemmas: what a section's table says of each row, where numbers that are 0 are not kept.
use Rattle.std.specs.Prelude.{◌≡◌, ℕ, ◌+◌, ◌<◌, Bool, true, false, ◌==◌, if◌then◌else◌, List, ◌∷◌, ◌++◌, Some, None, length, zero, suc, slice_get, pos, []}
use Rattle.std.proofs.Common.{refl, sym, ap, ◌∙◌, arith, set, get_or, ◌≢◌}
use Rattle.std.proofs.lemmas.List.{get_or-set_same, get_or-set_other}
use Rattle.fraction.specs.Rational.{ℚ, whole}
use Rattle.mps_reader.proofs.RowTable.{other_index, same_index}
use Rattle.mps_reader.specs.declared.side_table.RowNumber.{RowNumber}
use Rattle.mps_reader.specs.declared.side_table.SideEntry.{SideEntry}
use Rattle.mps_reader.specs.declared.side_table.SideEntry.TheVariants as side
use Rattle.mps_reader.specs.SideTable.{own_number, number_of, numbers_from, Gives}

from_get : (numbers : List RowNumber) (i k : ℕ) (sides : List SideEntry) → get_or (numbers_from numbers i sides) k None ≡ number_of numbers (k + i) (get_or sides k side.Missing)
from_get numbers i k [] = refl
from_get numbers i zero (s ∷ sides) = let n : i ≡ 0 + i = omega arith in ap (λ n. number_of numbers n s) n
from_get numbers i (suc k) (s ∷ sides) =
    let n : k + suc i ≡ suc k + i = omega arith in
    from_get numbers (suc i) k sides ∙ ap (λ n. number_of numbers n (get_or sides k side.Missing)) n

-- the row at an index
pub numbers_get : (numbers : List RowNumber) (sides : List SideEntry) (i : ℕ) → get_or (numbers_from numbers 0 sides) i None ≡ number_of numbers i (get_or sides i side.Missing)
numbers_get numbers sides i =
    let n : i + 0 ≡ i = omega arith in
    from_get numbers 0 i sides ∙ ap (λ n. number_of numbers n (get_or sides i side.Missing)) n

pub get_padded : (sides : List SideEntry) (i : ℕ) → get_or (sides ++ side.Missing ∷ []) i side.Missing ≡ get_or sides i side.Missing
get_padded [] zero = refl
get_padded [] (suc i) = refl
get_padded (s ∷ sides) zero = refl
get_padded (s ∷ sides) (suc i) = get_padded sides i

different : (j i : ℕ) → j ≡ i → (j == i) ≡ false → ⊥
different j i e h = let t : (j == i) ≡ true = grind (arith, e) in cc

module _ (numbers new : List RowNumber) (old sides : List SideEntry) (i : ℕ) (s : SideEntry) (q : ℚ) (padded : (j : ℕ) → get_or sides j side.Missing ≡ get_or old j side.Missing)
    (within : i < length sides) (own : number_of new i s ≡ Some q) (others : (j : ℕ) (t : SideEntry) → i ≢ j → number_of new j t ≡ number_of numbers j t) where
  gives : Gives (numbers_from numbers 0 old) (numbers_from new 0 (set sides i s)) i q
  gives j = numbers_get new (set sides i s) j ∙ by (j == i) refl
    where
      by : (b : Bool) → (j == i) ≡ b → number_of new j (get_or (set sides i s) j side.Missing) ≡ (if b then Some q else get_or (numbers_from numbers 0 old) j None)
      by true h = let e : j ≡ i = grind (arith, h) in (λ k. number_of new (e k) (get_or (set sides i s) (e k) side.Missing)) ∙ ap (number_of new i) (get_or-set_same sides i s side.Missing within) ∙ own
      by false h =
          let n : j ≢ i = λ e. different j i e h in
          ap (number_of new j) (get_or-set_other sides i j s side.Missing n ∙ padded j) ∙ others j (get_or old j side.Missing) (λ e. n (sym e)) ∙ sym (numbers_get numbers old j)

module _ (numbers : List RowNumber) (old sides : List SideEntry) (i : ℕ) (padded : (j : ℕ) → get_or sides j side.Missing ≡ get_or old j side.Missing) (within : i < length sides) where
  pub gives_zero : (q : ℚ) → q ≡ whole (pos 0) → Gives (numbers_from numbers 0 old) (numbers_from numbers 0 (set sides i side.Zero)) i q
  gives_zero q z = gives numbers numbers old sides i side.Zero q padded within (ap Some (sym z)) (λ j t n. refl)

  pub gives_number : (r : RowNumber) → r.row ≡ i → Gives (numbers_from numbers 0 old) (numbers_from (numbers ++ r ∷ []) 0 (set sides i (side.At (length numbers)))) i r.number
  gives_number r e = gives numbers (numbers ++ r ∷ []) old sides i (side.At (length numbers)) r.number padded within (ap Some (last numbers)) kept
    where
      zero_q : ℚ
      zero_q = whole (pos 0)

      last : (ns : List RowNumber) → own_number i (slice_get (ns ++ r ∷ []) (length ns)) ≡ r.number
      last [] = ap (λ (b : Bool). if b then r.number else zero_q) (same_index r.row i e)
      last (n ∷ ns) = last ns

      behind : (ns : List RowNumber) (j p : ℕ) → i ≢ j → own_number j (slice_get (ns ++ r ∷ []) p) ≡ own_number j (slice_get ns p)
      behind [] j zero n = ap (λ (b : Bool). if b then r.number else zero_q) (other_index r.row i j e n)
      behind [] j (suc p) n = refl
      behind (a ∷ ns) j zero n = refl
      behind (a ∷ ns) j (suc p) n = behind ns j p n

      kept : (j : ℕ) (t : SideEntry) → i ≢ j → number_of (numbers ++ r ∷ []) j t ≡ number_of numbers j t
      kept j side.Missing n = refl
      kept j side.Zero n = refl
      kept j (side.At p) n = ap Some (behind numbers j p n)
