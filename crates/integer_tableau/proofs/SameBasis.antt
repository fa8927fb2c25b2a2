-- What depends on which variables are basic, and not on the columns of the others.
use Rattle.std.proofs.Common.{◌≡◌, ℕ, zero, suc, ◌+◌, arith, refl, ap, ◌∙◌, None, List, [], ◌∷◌, ◌++◌, get_or}
use Rattle.std.specs.Prelude.{ℤ, pos, map, ◌+ℤ◌, ◌*ℤ◌}
use Rattle.integer_tableau.specs.BasicColumns.{basic_from}
use Rattle.integer_tableau.specs.Combined.{combined_value, expanded_values}
use Rattle.integer_tableau.specs.Kept.{HaveSameBasis}
use Rattle.integer_tableau.specs.RowSums.{AreRowSums, nonbasic_sum}
use Rattle.std.specs.Int.{w64, int_wrap}
use Rattle.integer_tableau.specs.Leaving.{leaving_by_numerators, violation_at}
use Rattle.integer_tableau.specs.declared.integer_bounds.IntegerBounds.{IntegerBounds}
use Rattle.tableau.specs.Leaving.{found_or}
use Rattle.integer_tableau.specs.declared.position.Position.{Position}
use Rattle.integer_tableau.specs.declared.position.Position.TheVariants.{InBasis, InColumn}

-- ---- lists and what is behind their first ones
further : (s t : Position) (ss ts : List Position) → HaveSameBasis (s ∷ ss) (t ∷ ts) → HaveSameBasis ss ts
further s t ss ts h = record { count = omega (arith, h.count); to = λ v. h.to (suc v); back = λ v. h.back (suc v) }

-- the basic columns
pub same_basic : (i n : ℕ) (ss ts : List Position) → HaveSameBasis ss ts → basic_from i n ss ≡ basic_from i n ts
same_basic i zero ss ts h = refl
same_basic i (suc n) [] [] h = refl
same_basic i (suc n) [] (t ∷ ts) h = absurd (omega (arith, h.count))
same_basic i (suc n) (s ∷ ss) [] h = absurd (omega (arith, h.count))
same_basic i (suc n) (InBasis ∷ ss) (InBasis ∷ ts) h = ap (λ vs. i ∷ vs) (same_basic (suc i) n ss ts (further InBasis InBasis ss ts h))
same_basic i (suc n) (InColumn j ∷ ss) (InColumn k ∷ ts) h = same_basic (suc i) n ss ts (further (InColumn j) (InColumn k) ss ts h)
same_basic i (suc n) (InBasis ∷ ss) (InColumn k ∷ ts) h = absurd (let wrong : InColumn k ≡ InBasis = h.to 0 refl in cc)
same_basic i (suc n) (InColumn j ∷ ss) (InBasis ∷ ts) h = absurd (let wrong : InColumn j ≡ InBasis = h.back 0 refl in cc)

-- the values of rows
pub same_value : (d : ℤ) (zs : List ℤ) (ss ts : List Position) (xs vs : List ℤ) → HaveSameBasis ss ts → combined_value d zs ss xs vs ≡ combined_value d zs ts xs vs
same_value d [] ss ts xs vs h = refl
same_value d (z ∷ zs) [] [] xs vs h = refl
same_value d (z ∷ zs) [] (t ∷ ts) xs vs h = absurd (omega (arith, h.count))
same_value d (z ∷ zs) (s ∷ ss) [] xs vs h = absurd (omega (arith, h.count))
same_value d (z ∷ zs) (s ∷ ss) (t ∷ ts) [] vs h = refl
same_value d (z ∷ zs) (s ∷ ss) (t ∷ ts) (x ∷ xs) [] h = refl
same_value d (z ∷ zs) (InBasis ∷ ss) (InBasis ∷ ts) (x ∷ xs) (v ∷ vs) h = ap (λ y. z *ℤ v +ℤ y) (same_value d zs ss ts xs vs (further InBasis InBasis ss ts h))
same_value d (z ∷ zs) (InColumn j ∷ ss) (InColumn k ∷ ts) (x ∷ xs) (v ∷ vs) h = ap (λ y. z *ℤ (x *ℤ d) +ℤ y) (same_value d zs ss ts xs vs (further (InColumn j) (InColumn k) ss ts h))
same_value d (z ∷ zs) (InBasis ∷ ss) (InColumn k ∷ ts) (x ∷ xs) (v ∷ vs) h = absurd (let wrong : InColumn k ≡ InBasis = h.to 0 refl in cc)
same_value d (z ∷ zs) (InColumn j ∷ ss) (InBasis ∷ ts) (x ∷ xs) (v ∷ vs) h = absurd (let wrong : InColumn j ≡ InBasis = h.back 0 refl in cc)

-- the variable that leaves
pub same_leaving : (d i : ℕ) (ss ts : List Position) (bs : List IntegerBounds) (vs : List ℤ) → HaveSameBasis ss ts → leaving_by_numerators d i ss bs vs ≡ leaving_by_numerators d i ts bs vs
same_leaving d i [] [] bs vs h = refl
same_leaving d i [] (t ∷ ts) bs vs h = absurd (omega (arith, h.count))
same_leaving d i (s ∷ ss) [] bs vs h = absurd (omega (arith, h.count))
same_leaving d i (s ∷ ss) (t ∷ ts) [] vs h = refl
same_leaving d i (s ∷ ss) (t ∷ ts) (b ∷ bs) [] h = refl
same_leaving d i (InBasis ∷ ss) (InBasis ∷ ts) (b ∷ bs) (v ∷ vs) h = ap (found_or i (violation_at d InBasis b v)) (same_leaving d (i + 1) ss ts bs vs (further InBasis InBasis ss ts h))
same_leaving d i (InColumn j ∷ ss) (InColumn k ∷ ts) (b ∷ bs) (v ∷ vs) h = ap (found_or i None) (same_leaving d (i + 1) ss ts bs vs (further (InColumn j) (InColumn k) ss ts h))
same_leaving d i (InBasis ∷ ss) (InColumn k ∷ ts) (b ∷ bs) (v ∷ vs) h = absurd (let wrong : InColumn k ≡ InBasis = h.to 0 refl in cc)
same_leaving d i (InColumn j ∷ ss) (InBasis ∷ ts) (b ∷ bs) (v ∷ vs) h = absurd (let wrong : InColumn j ≡ InBasis = h.back 0 refl in cc)

-- the values of all variables
pub same_values : (d : ℕ) (ps : List (List ℤ)) (ss ts : List Position) (xs vs : List ℤ) → HaveSameBasis ss ts → expanded_values d ps ss xs vs ≡ expanded_values d ps ts xs vs
same_values d ps ss ts xs vs h = λ i. vs ++ map (λ a. same_value (pos d) a ss ts xs vs h i) ps

-- the variable that leaves, by these values
pub same_found : (d : ℕ) (ps : List (List ℤ)) (ss ts : List Position) (bs : List IntegerBounds) (xs vs : List ℤ) → HaveSameBasis ss ts
    → leaving_by_numerators d 0 ss bs (expanded_values d ps ss xs vs) ≡ leaving_by_numerators d 0 ts bs (expanded_values d ps ts xs vs)
same_found d ps ss ts bs xs vs h = ap (leaving_by_numerators d 0 ss bs) (same_values d ps ss ts xs vs h) ∙ same_leaving d 0 ss ts bs (expanded_values d ps ts xs vs) h

-- the sums of rows over the nonbasic columns
same_sum : (cs : List ℤ) (ss ts : List Position) (xs : List ℤ) → HaveSameBasis ss ts → nonbasic_sum cs ss xs ≡ nonbasic_sum cs ts xs
same_sum [] ss ts xs h = refl
same_sum (c ∷ cs) [] [] xs h = refl
same_sum (c ∷ cs) [] (t ∷ ts) xs h = absurd (omega (arith, h.count))
same_sum (c ∷ cs) (s ∷ ss) [] xs h = absurd (omega (arith, h.count))
same_sum (c ∷ cs) (s ∷ ss) (t ∷ ts) [] h = refl
same_sum (c ∷ cs) (InBasis ∷ ss) (InBasis ∷ ts) (x ∷ xs) h = ap (λ y. c *ℤ pos 0 +ℤ y) (same_sum cs ss ts xs (further InBasis InBasis ss ts h))
same_sum (c ∷ cs) (InColumn j ∷ ss) (InColumn k ∷ ts) (x ∷ xs) h = ap (λ y. c *ℤ x +ℤ y) (same_sum cs ss ts xs (further (InColumn j) (InColumn k) ss ts h))
same_sum (c ∷ cs) (InBasis ∷ ss) (InColumn k ∷ ts) (x ∷ xs) h = absurd (let wrong : InColumn k ≡ InBasis = h.to 0 refl in cc)
same_sum (c ∷ cs) (InColumn j ∷ ss) (InBasis ∷ ts) (x ∷ xs) h = absurd (let wrong : InColumn j ≡ InBasis = h.back 0 refl in cc)

pub same_sums : (ps : List (List ℤ)) (ss ts : List Position) (xs sums : List ℤ) → HaveSameBasis ss ts → AreRowSums ps ss xs sums → AreRowSums ps ts xs sums
same_sums ps ss ts xs sums h are = λ i l. are i l ∙ ap (int_wrap w64) (same_sum (get_or ps i []) ss ts xs h)
