-- What a turn changes of a solution: the values of columns, by the rows of a dictionary that is kept.
use Rattle.std.proofs.Common.{◌≡◌, ℕ, ◌+◌, ◌-◌, ◌*◌, ◌<◌, arith, refl, ap, sym, ◌∙◌, subst, true, Option, Some, None, List, [], length, get_or, set, drop, below_more, get_or-set_other, get_or-set_same}
use Rattle.std.specs.Prelude.{ℤ, pos, nat_eq, ◌+ℤ◌, ◌-ℤ◌, ◌*ℤ◌}
use Rattle.std.specs.List.{position}
use Rattle.std.proofs.lemmas.Bool.Decides.{nat_tests}
use Rattle.std.proofs.lemmas.List.{get_or-drop, get_or-take}
use Rattle.std.proofs.lemmas.List.Quantifiers.{position-Some}
use Rattle.integer_tableau.proofs.Arenas.{row_at}
use Rattle.integer_tableau.proofs.FromCode.{values_put}
use Rattle.integer_tableau.specs.Arena.{flat_row, flat_row_if_there, row_by, rows_by}
use Rattle.integer_tableau.specs.Numbers.{number_at}
use Rattle.integer_tableau.specs.Pivot.{AreSubstitutedValues, IsSubstitutedValue}

-- ---- a loop over columns by their places
-- one more
pub placed_more : {X : Type 0} (R : ℕ → X → X → Type 0) (none : X) (js : List ℕ) (first now : List X) (i : ℕ) (x : X)
    → ((p q : ℕ) → p < q → q < length js → get_or js p 0 < get_or js q 0) → i < length js → get_or js i 0 < length now
    → ((p : ℕ) → p < i → R p (get_or first (get_or js p 0) none) (get_or now (get_or js p 0) none)) → R i (get_or first (get_or js i 0) none) x
    → (p : ℕ) → p < i + 1 → R p (get_or first (get_or js p 0) none) (get_or (set now (get_or js i 0) x) (get_or js p 0) none)
placed_more R none js first now i x rise l m h r =
    below_more (λ p. R p (get_or first (get_or js p 0) none) (get_or (set now (get_or js i 0) x) (get_or js p 0) none)) i
    (λ p b. subst (R p (get_or first (get_or js p 0) none)) (sym (get_or-set_other now (get_or js i 0) (get_or js p 0) x none (λ e. omega (arith, rise p i b l, e)))) (h p b))
    (subst (R i (get_or first (get_or js i 0) none)) (sym (get_or-set_same now (get_or js i 0) x none m)) r)

-- ---- rows one behind another
-- the number of a row
pub flat_number : (width : ℕ) (numerators : List ℤ) (i k : ℕ) → k < width → number_at (flat_row width numerators i) k ≡ number_at numerators (i * width + k)
flat_number width numerators i k l =
    let q : k < i * width + width - i * width = omega (arith, l) in
    get_or-take (i * width + width - i * width) (drop (i * width) numerators) k (pos 0) q ∙ get_or-drop (i * width) numerators k (pos 0)

-- ---- the values after the loop, and after that of the entering variable is put
same_number : (v n : ℕ) → nat_eq v n ≡ true → v ≡ n
same_number v n e = grind (arith, nat_tests)

module _ (c k width : ℕ) (d size x entering : ℤ) (columns : List ℕ) (numerators : List ℤ) (rows : List (List ℤ)) (values new : List ℤ) (rows_are : rows ≡ rows_by width columns numerators) (within : k < width)
    (many : length values ≡ width)
    (steps : (p : ℕ) → p < length columns → number_at new (get_or columns p 0) *ℤ d
    ≡ (number_at values (get_or columns p 0) -ℤ number_at (flat_row width numerators p) k *ℤ x) *ℤ size +ℤ entering *ℤ number_at (flat_row width numerators p) k) where
  by_place : (v : ℕ) (o : Option ℕ) → position (nat_eq v) columns ≡ o → IsSubstitutedValue width k x size entering d (flat_row_if_there width numerators o) (number_at values v) (number_at new v)
  by_place v None e = λ full. absurd (omega (arith, full, within))
  by_place v (Some p) e = λ _.
      let h = position-Some (nat_eq v) columns p 0 e in
      subst (λ v. number_at new v *ℤ d ≡ (number_at values v -ℤ number_at (flat_row width numerators p) k *ℤ x) *ℤ size +ℤ entering *ℤ number_at (flat_row width numerators p) k)
      (sym (same_number v (get_or columns p 0) h.1)) (steps p h.0)

  step : (v : ℕ) → v < length values → IsSubstitutedValue width k x size entering d (get_or rows v []) (number_at values v) (number_at new v)
  step v l =
      let row_is : row_by width columns numerators v ≡ get_or rows v [] = sym (row_at width columns numerators v (omega (arith, l, many))) ∙ sym (ap (λ rows. get_or rows v []) rows_are) in
      subst (λ row. IsSubstitutedValue width k x size entering d row (number_at values v) (number_at new v)) row_is (by_place v (position (nat_eq v) columns) refl)

  pub turned_values : (n : ℕ) → n ≡ width → length new ≡ length values → AreSubstitutedValues c k d size x entering n rows values (set new c entering)
  turned_values n n_is same =
      subst (λ n. AreSubstitutedValues c k d size x entering n rows values (set new c entering)) (sym n_is) (values_put c k width d size x entering rows values new step same)
