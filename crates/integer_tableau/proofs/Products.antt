-- Sums of products: the value of a row's variable by the numerators of the columns' values.
use Rattle.std.proofs.Common.{◌≡◌, ℕ, suc, ◌+◌, ◌<◌, ◌≤◌, arith, refl, ap, sym, ◌∙◌, List, [], ◌∷◌, ◌++◌, length, get_or, drop, drop-cons, append_assoc}
use Rattle.std.specs.Prelude.{ℤ, pos, map, ◌+ℤ◌, ◌*ℤ◌}
use Rattle.std.proofs.lemmas.List.{length-drop}
use Rattle.integer_tableau.specs.Combined.{combined_value, expanded_values, value_numerator, value_numerators}
use Rattle.integer_tableau.specs.Numbers.{number_at}
use Rattle.integer_tableau.specs.Positions.{products}
use Rattle.integer_tableau.specs.declared.position.Position.{Position}
use Rattle.integer_tableau.specs.declared.position.Position.TheVariants.{InBasis}

-- ---- the columns' numerators
pub numerators_more : (d : ℤ) (all : List ℤ) (ss : List Position) (xs vs : List ℤ) (j : ℕ) (total : List ℤ) → j < length ss → j < length xs → j < length vs
    → all ++ value_numerators d (drop j ss) (drop j xs) (drop j vs) ≡ total
    → (all ++ (value_numerator d (get_or ss j InBasis) (number_at xs j) (number_at vs j) ∷ [])) ++ value_numerators d (drop (j + 1) ss) (drop (j + 1) xs) (drop (j + 1) vs) ≡ total
numerators_more d all ss xs vs j total l m n h =
    append_assoc all (value_numerator d (get_or ss j InBasis) (number_at xs j) (number_at vs j) ∷ []) (value_numerators d (drop (j + 1) ss) (drop (j + 1) xs) (drop (j + 1) vs))
    ∙ ap (λ k. all ++ (value_numerator d (get_or ss j InBasis) (number_at xs j) (number_at vs j) ∷ value_numerators d (drop k ss) (drop k xs) (drop k vs))) (let e : j + 1 ≡ suc j = omega arith in e)
    ∙ sym (λ i. all ++ value_numerators d (drop-cons ss j InBasis l i) (drop-cons xs j (pos 0) m i) (drop-cons vs j (pos 0) n i))
    ∙ h

pub numerators_done : (d : ℤ) (all : List ℤ) (ss : List Position) (xs vs : List ℤ) (j : ℕ) (total : List ℤ) → length vs ≤ j → all ++ value_numerators d (drop j ss) (drop j xs) (drop j vs) ≡ total → all ≡ total
numerators_done d all ss xs vs j total l h = sym (none_left (drop j ss) (drop j xs) (drop j vs) (omega (arith, l, length-drop j vs))) ∙ h
  where
    nil : (xs : List ℤ) → xs ++ [] ≡ xs
    nil [] = refl
    nil (x ∷ xs) = ap (λ ys. x ∷ ys) (nil xs)

    none_left : (ss : List Position) (xs vs : List ℤ) → length vs ≡ 0 → all ++ value_numerators d ss xs vs ≡ all
    none_left [] xs vs e = nil all
    none_left (s ∷ ss) [] vs e = nil all
    none_left (s ∷ ss) (x ∷ xs) [] e = nil all
    none_left (s ∷ ss) (x ∷ xs) (v ∷ vs) e = absurd (omega arith)

-- ---- the value of a row's variable
pub products_value : (d : ℤ) (cs : List ℤ) (ss : List Position) (xs vs : List ℤ) → products cs (value_numerators d ss xs vs) ≡ combined_value d cs ss xs vs
products_value d [] ss xs vs = refl
products_value d (c ∷ cs) [] xs vs = refl
products_value d (c ∷ cs) (s ∷ ss) [] vs = refl
products_value d (c ∷ cs) (s ∷ ss) (x ∷ xs) [] = refl
products_value d (c ∷ cs) (s ∷ ss) (x ∷ xs) (v ∷ vs) = ap (λ z. c *ℤ value_numerator d s x v +ℤ z) (products_value d cs ss xs vs)

-- of each variable
pub values_by_products : (d : ℕ) (ps : List (List ℤ)) (ss : List Position) (xs vs ns : List ℤ) → ns ≡ value_numerators (pos d) ss xs vs → vs ++ map (λ a. products a ns) ps ≡ expanded_values d ps ss xs vs
values_by_products d ps ss xs vs ns e = ap (λ ns. vs ++ map (λ a. products a ns) ps) e ∙ (λ i. vs ++ map (λ a. products_value (pos d) a ss xs vs i) ps)
