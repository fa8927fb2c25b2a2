-- The leaving variable among the basic columns alone.
use Rattle.std.proofs.Common.{◌≡◌, ℕ, suc, ◌+◌, ◌<◌, ◌≤◌, arith, refl, ap, sym, ◌∙◌, Option, None, List, [], ◌∷◌, length, get_or, drop, drop-cons}
use Rattle.std.specs.Prelude.{ℤ}
use Rattle.std.proofs.lemmas.List.{drop_all}
use Rattle.tableau.specs.Leaving.{found_or}
use Rattle.tableau.specs.declared.bounds.Direction.{Direction}
use Rattle.integer_tableau.specs.BasicColumns.{basic_from}
use Rattle.integer_tableau.specs.Leaving.{leaving_by_numerators, violation_at}
use Rattle.integer_tableau.specs.Numbers.{number_at}
use Rattle.integer_tableau.specs.declared.integer_bounds.IntegerBounds.{IntegerBounds}
use Rattle.integer_tableau.specs.declared.position.Position.{Position}
use Rattle.integer_tableau.specs.declared.position.Position.TheVariants.{InBasis, InColumn}

abbrev pub no_bounds : IntegerBounds
no_bounds = record { lower = None; upper = None }

-- the first of these columns that has to go
abbrev pub first_among : ℕ → List IntegerBounds → List ℤ → List ℕ → Option (ℕ × Direction)
first_among d bs vs [] = None
first_among d bs vs (j ∷ js) = found_or j (violation_at d InBasis (get_or bs j no_bounds) (number_at vs j)) (first_among d bs vs js)

among_from : (d : ℕ) (all_bs : List IntegerBounds) (all_vs : List ℤ) (i : ℕ) (ss : List Position) (bs : List IntegerBounds) (vs : List ℤ) → length vs ≤ length ss → length vs ≤ length bs
    → ((k : ℕ) → k < length vs → get_or all_bs (i + k) no_bounds ≡ get_or bs k no_bounds) → ((k : ℕ) → k < length vs → number_at all_vs (i + k) ≡ number_at vs k)
    → first_among d all_bs all_vs (basic_from i (length vs) ss) ≡ leaving_by_numerators d i ss bs vs
among_from d all_bs all_vs i [] bs [] l m h g = refl
among_from d all_bs all_vs i (s ∷ ss) [] [] l m h g = refl
among_from d all_bs all_vs i (s ∷ ss) (b ∷ bs) [] l m h g = refl
among_from d all_bs all_vs i [] bs (v ∷ vs) l m h g = absurd (omega (arith, l))
among_from d all_bs all_vs i (s ∷ ss) [] (v ∷ vs) l m h g = absurd (omega (arith, m))
among_from d all_bs all_vs i (InBasis ∷ ss) (b ∷ bs) (v ∷ vs) l m h g =
    (λ t. found_or i (violation_at d InBasis ((ap (λ j. get_or all_bs j no_bounds) (let e : i ≡ i + 0 = omega arith in e) ∙ h 0 (omega arith)) t)
    ((ap (number_at all_vs) (let e : i ≡ i + 0 = omega arith in e) ∙ g 0 (omega arith)) t))
    ((among_from d all_bs all_vs (suc i) ss bs vs (omega (arith, l)) (omega (arith, m))
    (λ k b. ap (λ j. get_or all_bs j no_bounds) (let e : suc i + k ≡ i + suc k = omega arith in e) ∙ h (suc k) (omega (arith, b)))
    (λ k b. ap (number_at all_vs) (let e : suc i + k ≡ i + suc k = omega arith in e) ∙ g (suc k) (omega (arith, b)))
    ∙ ap (λ j. leaving_by_numerators d j ss bs vs) (let e : suc i ≡ i + 1 = omega arith in e)) t))
among_from d all_bs all_vs i (InColumn c ∷ ss) (b ∷ bs) (v ∷ vs) l m h g =
    among_from d all_bs all_vs (suc i) ss bs vs (omega (arith, l)) (omega (arith, m))
    (λ k b. ap (λ j. get_or all_bs j no_bounds) (let e : suc i + k ≡ i + suc k = omega arith in e) ∙ h (suc k) (omega (arith, b)))
    (λ k b. ap (number_at all_vs) (let e : suc i + k ≡ i + suc k = omega arith in e) ∙ g (suc k) (omega (arith, b)))
    ∙ ap (λ j. leaving_by_numerators d j ss bs vs) (let e : suc i ≡ i + 1 = omega arith in e)

pub among_columns : (d : ℕ) (ss : List Position) (bs : List IntegerBounds) (vs : List ℤ) (js : List ℕ) → js ≡ basic_from 0 (length vs) ss → length vs ≤ length ss → length vs ≤ length bs
    → first_among d bs vs js ≡ leaving_by_numerators d 0 ss bs vs
among_columns d ss bs vs js is l m = ap (first_among d bs vs) is
    ∙ among_from d bs vs 0 ss bs vs l m (λ k b. ap (λ j. get_or bs j no_bounds) (let e : 0 + k ≡ k = omega arith in e)) (λ k b. ap (number_at vs) (let e : 0 + k ≡ k = omega arith in e))

pub first_unfolds : (d : ℕ) (bs : List IntegerBounds) (vs : List ℤ) (js : List ℕ) (p : ℕ) (o : Option Direction) → p < length js
    → violation_at d InBasis (get_or bs (get_or js p 0) no_bounds) (number_at vs (get_or js p 0)) ≡ o
    → found_or (get_or js p 0) o (first_among d bs vs (drop (p + 1) js)) ≡ first_among d bs vs (drop p js)
first_unfolds d bs vs js p o l e =
    (λ i. found_or (get_or js p 0) (sym e i) (first_among d bs vs (drop (p + 1) js)))
    ∙ ap (λ k. found_or (get_or js p 0) (violation_at d InBasis (get_or bs (get_or js p 0) no_bounds) (number_at vs (get_or js p 0))) (first_among d bs vs (drop k js))) (let q : p + 1 ≡ suc p = omega arith in q)
    ∙ sym (ap (first_among d bs vs) (drop-cons js p 0 l))

pub none_left : (d : ℕ) (bs : List IntegerBounds) (vs : List ℤ) (js : List ℕ) (p : ℕ) → length js ≤ p → None ≡ first_among d bs vs (drop p js)
none_left d bs vs js p l = sym (ap (first_among d bs vs) (drop_all p js l))
