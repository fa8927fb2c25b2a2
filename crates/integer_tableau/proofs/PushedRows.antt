-- Rows that are put behind others, in a list that all share.
use Rattle.std.proofs.Common.{◌≡◌, ◌≢◌, ◌∙◌, ℕ, zero, suc, ◌+◌, ◌-◌, ◌*◌, ◌<◌, ◌≤◌, inl, inr, arith, ap, sym, subst, Option, Some, None, true, false, List, [], ◌∷◌, ◌++◌, length, get_or, set, take}
use Rattle.std.specs.Prelude.{ℤ, nat_eq, nat_lt, slice_range, if◌then◌else◌}
use Rattle.std.specs.List.{position}
use Rattle.std.specs.Option.{IfSome}
use Rattle.std.proofs.lemmas.Bool.{cases_lt}
use Rattle.std.proofs.lemmas.Bool.Decides.{nat_tests}
use Rattle.std.proofs.lemmas.List.{append_assoc, get_or_append_left, get_or_push, length-append, length_push, set-append_right, take_more}
use Rattle.std.proofs.lemmas.Nat.{row_fits}
use Rattle.integer_tableau.proofs.Arenas.{flat_behind, flat_front, flat_of_piece, piece_many, piece_of_front, place_found, rising_once, within_append, within_piece, within_weaker}
use Rattle.integer_tableau.specs.Arena.{AreMadeRows, IsMadeRow, flat_row, flat_row_if_there, row_by}
use Rattle.integer_tableau.specs.BasicColumns.{count_below}
use Rattle.integer_tableau.specs.Numbers.{IsWithin}
use Rattle.integer_tableau.specs.Substitution.{IsSubstitutedRow}

-- ---- numbers that rise
below_first : (v : ℕ) (vs : List ℕ) → count_below v (v ∷ vs) ≡ 0
below_first v vs = ap (λ b. if b then suc (count_below v vs) else 0) (let e : nat_lt v v ≡ false = grind (arith, nat_tests) in e)

above_first : (v w : ℕ) (vs : List ℕ) → v < w → count_below w (v ∷ vs) ≡ suc (count_below w vs)
above_first v w vs l = ap (λ b. if b then suc (count_below w vs) else 0) (let e : nat_lt v w ≡ true = grind (arith, nat_tests) in e)

abbrev pub IsRising : List ℕ → Type 0
IsRising vs = (p q : ℕ) → p < q → q < length vs → get_or vs p 0 < get_or vs q 0

pub place_below : (vs : List ℕ) → IsRising vs → (q : ℕ) → q < length vs → count_below (get_or vs q 0) vs ≡ q
place_below [] rise q l = absurd (omega (arith, l))
place_below (v ∷ vs) rise zero l = below_first v vs
place_below (v ∷ vs) rise (suc q) l = above_first v (get_or vs q 0) vs (rise 0 (suc q) (omega arith) l)
    ∙ ap suc (place_below vs (λ p r m n. rise (suc p) (suc r) (omega (arith, m)) (omega (arith, n))) q (omega (arith, l)))

-- the row of a column stands at the place among them that its number gives
pub row_found : (width : ℕ) (vs : List ℕ) (numerators : List ℤ) (v : ℕ) → IsRising vs → (q : ℕ) × (q < length vs) × (get_or vs q 0 ≡ v)
    → (count_below v vs < length vs) × (row_by width vs numerators v ≡ flat_row width numerators (count_below v vs))
row_found width vs numerators v rise h =
    let at : count_below v vs ≡ h.0 = ap (λ w. count_below w vs) (sym h.2) ∙ place_below vs rise h.0 h.1 in (
      omega (arith, at, h.1),
      ap (flat_row_if_there width numerators) (ap (λ w. position (nat_eq w) vs) (sym h.2) ∙ place_found vs (rising_once vs rise) h.0 h.1 ∙ ap Some (sym at)),
    )

-- which is a piece of what the list has: `n` rows of this width, from a place on, of columns that rise
module _ (width w from n p v : ℕ) (ns : List ℤ) (vs : List ℕ) (many : length vs ≡ n) (at : p ≡ count_below v vs) (w_is : w ≡ width) (rise : IsRising vs) (known : (q : ℕ) × (q < length vs) × (get_or vs q 0 ≡ v)) where
  abbrev piece : List ℤ
  piece = slice_range ns from (from + n * width)

  found : (count_below v vs < length vs) × (row_by width vs piece v ≡ flat_row width piece (count_below v vs))
  found = row_found width vs piece v rise known

  below : p < n
  below = omega (arith, found.0, many, at)

  same : p * w ≡ p * width
  same = ap (λ u. p * u) w_is

  here : slice_range ns (from + p * w) (from + p * w + width) ≡ flat_row width piece p
  here = (λ i. slice_range ns (from + same i) (from + same i + width)) ∙ sym (flat_of_piece width from n p ns below)

  pub row_there : from + n * width ≤ length ns → from + p * w + width ≤ length ns
  row_there l = omega (arith, l, same, row_fits p width n width below (omega arith))

  pub row_within : (size : ℕ) → IsWithin size (slice_range ns from (from + n * width)) → IsWithin size (slice_range ns (from + p * w) (from + p * w + width))
  row_within size h = subst (IsWithin size) (sym here) (within_piece size (p * width) (p * width + width) piece h)

  -- and what is put behind all is the row that a pivot makes of it
  pub row_pushed : (o : Option ℕ) (d e : ℤ) (k c : ℕ) (solved new : List ℤ) → length solved ≡ width → v ≢ c → from + n * width ≤ length ns
      → IfSome o (λ b. (x : List ℤ) × (new ≡ ns ++ x) × IsSubstitutedRow d e k solved (slice_range ns (from + p * w) (from + p * w + width)) x × IsWithin b x)
      → IfSome o (λ b. (x : List ℤ) × (new ≡ ns ++ x) × IsMadeRow d e k c solved (row_by width vs (slice_range ns from (from + n * width))) v x × IsWithin b x)
  row_pushed None d e k c solved new long ne l h = h
  row_pushed (Some b) d e k c solved new long ne l h = (
    h.0,
    h.1,
    record {
      width = h.2.width ∙ piece_many ns (from + p * w) width (row_there l) ∙ sym long;
      put = λ q. absurd (ne q);
      other = λ _. subst (λ xs. IsSubstitutedRow d e k solved xs h.0) (here ∙ (λ i. flat_row width piece (at i)) ∙ sym found.1) h.2;
    },
    h.3,
  )

-- ---- a row more
module _ (d e : ℤ) (k c width : ℕ) (solved : List ℤ) (rows : ℕ → List ℤ) (wide : length solved ≡ width) where
  one_more : (columns : List ℕ) (made row : List ℤ) (v : ℕ) → AreMadeRows d e k c width solved rows columns made → IsMadeRow d e k c solved rows v row → AreMadeRows d e k c width solved rows (columns ++ v ∷ []) (made ++ row)
  one_more columns made row v h r = record {
    count = length-append made row ∙ (let sum : length made + length row ≡ (length columns + 1) * width = omega (arith, h.count, r.width, wide) in sum) ∙ ap (λ n. n * width) (sym (length_push columns v));
    put = λ p l q. elim (cases_lt p (length columns)) [
      | inl o ↦ earlier p o ∙ h.put p o (sym (get_or_append_left columns (v ∷ []) 0 p o) ∙ q)
      | inr o ↦ last p l o ∙ r.put (sym (number_last p l o) ∙ q)
    ];
    others = λ p l n. elim (cases_lt p (length columns)) [
      | inl o ↦
          let same = get_or_append_left columns (v ∷ []) 0 p o in
          subst (IsSubstitutedRow d e k solved (rows (get_or (columns ++ v ∷ []) p 0))) (sym (earlier p o))
          (subst (λ w. IsSubstitutedRow d e k solved (rows w) (flat_row width made p)) (sym same) (h.others p o (λ q. n (same ∙ q))))
      | inr o ↦
          subst (IsSubstitutedRow d e k solved (rows (get_or (columns ++ v ∷ []) p 0))) (sym (last p l o))
          (subst (λ w. IsSubstitutedRow d e k solved (rows w) row) (sym (number_last p l o)) (r.other (λ q. n (number_last p l o ∙ q))))
    ];
  }
    where
      earlier : (p : ℕ) → p < length columns → flat_row width (made ++ row) p ≡ flat_row width made p
      earlier p l = flat_front width (length columns) p made row h.count l

      at_end : (p : ℕ) → p < length (columns ++ v ∷ []) → length columns ≤ p → p ≡ length columns
      at_end p l o = omega (arith, l, o, length_push columns v)

      last : (p : ℕ) → p < length (columns ++ v ∷ []) → length columns ≤ p → flat_row width (made ++ row) p ≡ row
      last p l o = ap (flat_row width (made ++ row)) (at_end p l o) ∙ flat_behind width (length columns) made row h.count (r.width ∙ wide)

      number_last : (p : ℕ) → p < length (columns ++ v ∷ []) → length columns ≤ p → get_or (columns ++ v ∷ []) p 0 ≡ v
      number_last p l o = get_or_push columns v 0 p (sym (at_end p l o))

  -- of columns up to a place
  pub rows_more : (columns : List ℕ) (i : ℕ) (made row : List ℤ) → i < length columns → AreMadeRows d e k c width solved rows (take i columns) made → IsMadeRow d e k c solved rows (get_or columns i 0) row
      → AreMadeRows d e k c width solved rows (take (i + 1) columns) (made ++ row)
  rows_more columns i made row l h r = subst (λ vs. AreMadeRows d e k c width solved rows vs (made ++ row)) (sym (take_more columns i 0 l)) (one_more (take i columns) made row (get_or columns i 0) h r)

  pub no_rows : (columns : List ℕ) → AreMadeRows d e k c width solved rows (take 0 columns) []
  no_rows columns = record { count = omega arith; put = λ p l q. absurd (omega (arith, l)); others = λ p l n. absurd (omega (arith, l)) }

-- ---- a loop that pushes the rows of columns, by `n` rows that stand in the list from a place on
pub rows_stay : (width from n : ℕ) (ns : List ℤ) → from + n * width ≤ length ns → (now made : List ℤ) → now ≡ ns ++ made → slice_range now from (from + n * width) ≡ slice_range ns from (from + n * width)
rows_stay width from n ns there now made is = (λ i. slice_range (is i) from (from + n * width)) ∙ piece_of_front ns made from (from + n * width) there

module _ (d e : ℤ) (k c : ℕ) (solved : List ℤ) (width : ℕ) (wide : length solved ≡ width) (from n : ℕ) (ns : List ℤ) (vs columns : List ℕ) (there : from + n * width ≤ length ns) where
  pub rows_step : (i size more b : ℕ) (now made row new : List ℤ) → i < length columns → now ≡ ns ++ made
      → AreMadeRows d e k c width solved (row_by width vs (slice_range ns from (from + n * width))) (take i columns) made → IsWithin size made → new ≡ now ++ row
      → IsMadeRow d e k c solved (row_by width vs (slice_range now from (from + n * width))) (get_or columns i 0) row → IsWithin b row → size ≤ more → b ≤ more
      → (x : List ℤ) × (new ≡ ns ++ x) × AreMadeRows d e k c width solved (row_by width vs (slice_range ns from (from + n * width))) (take (i + 1) columns) x × IsWithin more x
  rows_step i size more b now made row new l is h small grown r row_small o p = (
    made ++ row,
    grown ∙ ap (λ xs. xs ++ row) is ∙ append_assoc ns made row,
    rows_more d e k c width solved (row_by width vs (slice_range ns from (from + n * width))) wide columns i made row l h
        (subst (λ xs. IsMadeRow d e k c solved (row_by width vs xs) (get_or columns i 0) row) (rows_stay width from n ns there now made is) r),
    within_append more made row (within_weaker size more made o small) (within_weaker b more row p row_small),
  )
