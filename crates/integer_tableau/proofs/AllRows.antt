-- All rows of whole numbers as the rows of fractions that they stand for, and a pivot on them.
use Rattle.std.proofs.Common.{◌≡◌, ◌≢◌, ℕ, zero, suc, ◌+◌, ◌-◌, ◌<◌, arith, refl, ap, sym, ◌∙◌, Some, List, [], ◌∷◌, ◌++◌, length, get_or, set, take, drop, drop-cons, get_or-set_same}
use Rattle.std.specs.Prelude.{ℤ, pos, nat_abs}
use Rattle.std.specs.Option.{option_and_then, option_map}
use Rattle.std.specs.List.{swap}
use Rattle.std.proofs.lemmas.List.{get_or-take, get_or-drop, length-take-le, length-drop, take-append-drop, take-set, drop-set-lt}
use Rattle.std.proofs.lemmas.List.Edits.{swap_is}
use Rattle.fraction.specs.Rational.{ℚ}
use Rattle.integer_tableau.proofs.RowsByVariable.{row_solved, row_substituted}
use Rattle.integer_tableau.specs.IntegerTableau.{row_of_position, rows_of}
use Rattle.integer_tableau.specs.Numbers.{IsWithin, number_at}
use Rattle.integer_tableau.specs.Range.{size_limit}
use Rattle.integer_tableau.specs.Positions.{IsColumnOf, coefficients}
use Rattle.integer_tableau.proofs.Exchanges.{positions_exchanged}
use Rattle.integer_tableau.specs.Substitution.{IsSolvedFor, IsSubstituted}
use Rattle.integer_tableau.specs.declared.position.Position.{Position}
use Rattle.integer_tableau.specs.declared.position.Position.TheVariants.{InBasis, InColumn}
use Rattle.tableau.specs.Elimination.{all_substituted, others_substituted, solved_for, substituted}
use Rattle.tableau.specs.Pivot.{rows_eliminated}

pub length-rows_of : (f : Position → List ℤ → List ℚ) (ss : List Position) (ls : List (List ℤ)) → length ls ≡ length ss → length (rows_of f ss ls) ≡ length ss
length-rows_of f [] ls e = refl
length-rows_of f (s ∷ ss) [] e = absurd (omega arith)
length-rows_of f (s ∷ ss) (l ∷ ls) e = ap suc (length-rows_of f ss ls (omega arith))

pub get_or-rows_of : (f : Position → List ℤ → List ℚ) (ss : List Position) (ls : List (List ℤ)) (v : ℕ) → length ls ≡ length ss → v < length ss → get_or (rows_of f ss ls) v [] ≡ f (get_or ss v InBasis) (get_or ls v [])
get_or-rows_of f [] ls v e h = absurd (omega arith)
get_or-rows_of f (s ∷ ss) [] v e h = absurd (omega arith)
get_or-rows_of f (s ∷ ss) (l ∷ ls) zero e h = refl
get_or-rows_of f (s ∷ ss) (l ∷ ls) (suc v) e h = get_or-rows_of f ss ls v (omega arith) (omega arith)

rows_of-set : (f : Position → List ℤ → List ℚ) (ss : List Position) (ls : List (List ℤ)) (v : ℕ) (s : Position) (l : List ℤ) → rows_of f (set ss v s) (set ls v l) ≡ set (rows_of f ss ls) v (f s l)
rows_of-set f [] ls v s l = refl
rows_of-set f (t ∷ ss) [] zero s l = refl
rows_of-set f (t ∷ ss) [] (suc v) s l = refl
rows_of-set f (t ∷ ss) (m ∷ ls) zero s l = refl
rows_of-set f (t ∷ ss) (m ∷ ls) (suc v) s l = ap (λ xs. f t m ∷ xs) (rows_of-set f ss ls v s l)

-- ---- from each row to all
all_substituted_each : (c : ℕ) (new : List ℚ) (xs ys : List (List ℚ)) → length xs ≡ length ys → ((v : ℕ) → v < length xs → substituted c new (get_or xs v []) ≡ Some (get_or ys v []))
    → all_substituted c new xs ≡ Some ys
all_substituted_each c new [] [] e h = refl
all_substituted_each c new [] (y ∷ ys) e h = absurd (omega arith)
all_substituted_each c new (x ∷ xs) [] e h = absurd (omega arith)
all_substituted_each c new (x ∷ xs) (y ∷ ys) e h =
    ap (option_and_then (λ r. option_map (λ rs. r ∷ rs) (all_substituted c new xs))) (h zero (omega arith))
    ∙ ap (option_map (λ rs. y ∷ rs)) (all_substituted_each c new xs ys (omega arith) (λ v l. h (suc v) (omega arith)))

split_at : (ys : List (List ℚ)) (r : ℕ) → r < length ys → take r ys ++ (get_or ys r [] ∷ drop (r + 1) ys) ≡ ys
split_at ys r h = ap (λ zs. take r ys ++ zs) (sym (let e : r + 1 ≡ suc r = omega arith in rw e (drop-cons ys r [] h))) ∙ take-append-drop r ys

-- c is substituted in each row but that of r
others_each : (r c : ℕ) (new : List ℚ) (xs ys : List (List ℚ)) → length xs ≡ length ys → r < length xs → get_or ys r [] ≡ new
    → ((v : ℕ) → v < length xs → v ≢ r → substituted c new (get_or xs v []) ≡ Some (get_or ys v [])) → others_substituted r c (set xs r new) ≡ Some ys
others_each r c new xs ys e l n h =
    (λ i. option_and_then (λ front. option_map (λ back. front ++ (read i ∷ back)) (all_substituted c (read i) (drop (r + 1) (set xs r new)))) (all_substituted c (read i) (take r (set xs r new))))
    ∙ (λ i. option_and_then (λ front. option_map (λ back. front ++ (new ∷ back)) (all_substituted c new (drop-set-lt (r + 1) xs r new (omega arith) i))) (all_substituted c new (take-set xs r new i)))
    ∙ (λ i. option_and_then (λ front. option_map (λ back. front ++ (new ∷ back)) (backs i)) (fronts i))
    ∙ ap Some (ap (λ z. take r ys ++ (z ∷ drop (r + 1) ys)) (sym n) ∙ split_at ys r (omega arith))
  where
    read : get_or (set xs r new) r [] ≡ new
    read = get_or-set_same xs r new [] l

    fronts : all_substituted c new (take r xs) ≡ Some (take r ys)
    fronts = all_substituted_each c new (take r xs) (take r ys) (length-take-le r xs (omega arith) ∙ sym (length-take-le r ys (omega arith)))
        (λ v m. let b : v < r = omega (arith, m, length-take-le r xs (omega arith)) in let ne : v ≢ r = omega arith in
        ap (substituted c new) (get_or-take r xs v [] b) ∙ h v (omega arith) ne ∙ ap Some (sym (get_or-take r ys v [] b)))

    backs : all_substituted c new (drop (r + 1) xs) ≡ Some (drop (r + 1) ys)
    backs = all_substituted_each c new (drop (r + 1) xs) (drop (r + 1) ys) (length-drop (r + 1) xs ∙ ap (λ n. n - (r + 1)) e ∙ sym (length-drop (r + 1) ys))
        (λ v m. let b : r + 1 + v < length xs = omega (arith, m, length-drop (r + 1) xs) in let ne : r + 1 + v ≢ r = omega arith in
        ap (substituted c new) (get_or-drop (r + 1) xs v []) ∙ h (r + 1 + v) b ne ∙ ap Some (sym (get_or-drop (r + 1) ys v [])))

-- ---- a pivot on all rows
module _ (positions : List Position) (r c k d : ℕ) (alone : IsColumnOf positions c k) (at_c : get_or positions c InBasis ≡ InColumn k) (at_r : get_or positions r InBasis ≡ InBasis)
    (c_there : c < length positions) (r_there : r < length positions) (od : 0 < d) (hd : d < size_limit)
    (rows news : List (List ℤ)) (same : length rows ≡ length positions) (same' : length news ≡ length positions)
    (long : (v : ℕ) → v < length positions → get_or positions v InBasis ≡ InBasis → k < length (get_or rows v []))
    (small : (v : ℕ) → IsWithin (size_limit - 1) (get_or rows v [])) (small' : IsWithin (size_limit - 1) (get_or news r []))
    (pivot : 0 < nat_abs (number_at (get_or rows r []) k))
    (turn : IsSolvedFor (number_at (get_or rows r []) k) k d (get_or rows r []) (get_or news r []))
    (steps : (v : ℕ) → v < length positions → v ≢ r → get_or positions v InBasis ≡ InBasis
    → IsSubstituted (pos d) (pos (nat_abs (number_at (get_or rows r []) k))) (number_at (get_or rows v []) k) (set (get_or rows v []) k (pos 0)) (get_or news r []) (get_or news v [])) where
  -- the new denominator
  abbrev pub e : ℕ
  e = nat_abs (number_at (get_or rows r []) k)

  he : e < size_limit
  he = omega (arith, small r k)

  abbrev before : List (List ℚ)
  before = rows_of (row_of_position d positions) positions rows

  -- the new rows, where the old ones stood
  abbrev between : List (List ℚ)
  between = rows_of (row_of_position e (positions_exchanged r c k positions)) positions news

  pub new_is : get_or between r [] ≡ coefficients e (positions_exchanged r c k positions) (get_or news r [])
  new_is = get_or-rows_of (row_of_position e (positions_exchanged r c k positions)) positions news r same' r_there ∙ ap (λ s. row_of_position e (positions_exchanged r c k positions) s (get_or news r [])) at_r

  step_each : (v : ℕ) → v < length positions → v ≢ r → (s : Position) → get_or positions v InBasis ≡ s
      → substituted c (coefficients e (positions_exchanged r c k positions) (get_or news r [])) (row_of_position d positions s (get_or rows v [])) ≡ Some (row_of_position e (positions_exchanged r c k positions) s (get_or news v []))
  step_each v l n InBasis q = row_substituted positions r c k d e alone at_c at_r c_there r_there od hd (get_or rows v []) (get_or news r []) (get_or news v []) pivot he (long v l q) (small v) small' (steps v l n q)
  step_each v l n (InColumn j) q = refl

  step_at : (v : ℕ) → v < length before → v ≢ r → substituted c (coefficients e (positions_exchanged r c k positions) (get_or news r [])) (get_or before v []) ≡ Some (get_or between v [])
  step_at v l n =
      let m : v < length positions = omega (arith, l, length-rows_of (row_of_position d positions) positions rows same) in
      ap (substituted c (coefficients e (positions_exchanged r c k positions) (get_or news r []))) (get_or-rows_of (row_of_position d positions) positions rows v same m)
      ∙ step_each v m n (get_or positions v InBasis) refl
      ∙ ap Some (sym (get_or-rows_of (row_of_position e (positions_exchanged r c k positions)) positions news v same' m))

  solved_is : solved_for r c (get_or before r []) ≡ Some (coefficients e (positions_exchanged r c k positions) (get_or news r []))
  solved_is =
      ap (solved_for r c) (get_or-rows_of (row_of_position d positions) positions rows r same r_there ∙ ap (λ s. row_of_position d positions s (get_or rows r [])) at_r)
      ∙ row_solved positions r c k d e alone at_c at_r c_there r_there od hd (get_or rows r []) (get_or news r []) (long r r_there at_r) (small r) pivot turn

  pub rows_are : rows_eliminated r c before ≡ Some between
  rows_are =
      ap (option_and_then (λ new. others_substituted r c (set before r new))) solved_is
      ∙ others_each r c _ before between (length-rows_of (row_of_position d positions) positions rows same ∙ sym (length-rows_of (row_of_position e (positions_exchanged r c k positions)) positions news same'))
      (omega (arith, length-rows_of (row_of_position d positions) positions rows same)) new_is step_at

  -- and after rows r and c changed places
  pub swapped_are : swap between r c ≡ rows_of (row_of_position e (positions_exchanged r c k positions)) (positions_exchanged r c k positions) (swap news r c)
  swapped_are =
      sym (swap_is between r c [] (omega (arith, n)) (omega (arith, n)))
      ∙ (λ i. set (set between r (emptied i)) c (new_is i))
      ∙ ap (λ xs. set xs c (coefficients e (positions_exchanged r c k positions) (get_or news r []))) (sym (rows_of-set f positions news r (InColumn k) (get_or news c [])))
      ∙ sym (rows_of-set f (set positions r (InColumn k)) (set news r (get_or news c [])) c InBasis (get_or news r []))
      ∙ ap (rows_of f (positions_exchanged r c k positions)) (swap_is news r c [] (omega arith) (omega arith))
    where
      f : Position → List ℤ → List ℚ
      f = row_of_position e (positions_exchanged r c k positions)

      n : length between ≡ length positions
      n = length-rows_of (row_of_position e (positions_exchanged r c k positions)) positions news same'

      emptied : get_or between c [] ≡ []
      emptied = get_or-rows_of (row_of_position e (positions_exchanged r c k positions)) positions news c same' c_there ∙ ap (λ s. row_of_position e (positions_exchanged r c k positions) s (get_or news c [])) at_c
