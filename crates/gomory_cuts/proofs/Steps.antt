-- One item more in the loops of separation.
use Rattle.std.proofs.Common.{◌≡◌, ℕ, suc, ◌+◌, ◌-◌, ◌<◌, ◌≤◌, arith, refl, ap, sym, ◌∙◌, Bool, true, false, Option, Some, None, List, [], ◌∷◌, ◌++◌, length, get_or, drop, take}
use Rattle.std.specs.Prelude.{slice_get, if◌then◌else◌, eqb}
use Rattle.std.specs.declared.cmp.Ordering.{Ordering}
use Rattle.std.specs.Ordering.{is_lt}
use Rattle.std.specs.Option.{option_and_then, option_map}
use Rattle.std.proofs.lemmas.List.{drop_more, append_assoc, append-nil, drop_all, length-drop}
use Rattle.std.proofs.lemmas.Bool.{eq-eqb, ne_eqb, eqb-true}
use Rattle.std.proofs.Math.Seq.{take-append_seam}
use Rattle.fraction.specs.Rational.{ℚ}
use Rattle.fraction.specs.Checked.{compare}
use Rattle.problem.specs.declared.row.Row.{Row}
use Rattle.problem.specs.Problem.{Problem}
use Rattle.derivation_book.specs.declared.cut.Cut.{Cut}
use Rattle.derivation_book.specs.Lemmas.OptionChains.{next_there}
use Rattle.tableau.specs.Elimination.{entry}
use Rattle.tableau.specs.Multipliers.{with_multiplier}
use Rattle.tableau.specs.Tableau.{Tableau, status_of}
use Rattle.dual_simplex.specs.Relaxation.{rational_value}
use Rattle.dual_simplex.specs.PointSums.{checked_sum}
use Rattle.dual_simplex.specs.Lemmas.RationalValues.{sum_exact}
use Rattle.gomory_cuts.specs.declared.sign.Sign.{Sign}
use Rattle.gomory_cuts.specs.Multipliers.{multiplier, row_multipliers, filling, bound_number, fillings}
use Rattle.gomory_cuts.specs.Separation.{is_below, cuts_at, cuts_from, is_same, is_found, with_cut, with_cuts, most_separated}

-- ---- one multiplier more, or none
-- `all` with the multiplier u of row k behind it is `more`
abbrev pub IsPushed : List (ℕ × ℚ) → List (ℕ × ℚ) → ℕ → ℚ → Type 0
IsPushed all more k u = (others : List (ℕ × ℚ)) → more ++ others ≡ all ++ with_multiplier k u others

one_more : (all more : List (ℕ × ℚ)) (k : ℕ) (u : ℚ) (o : Option ℚ) (rest : Option (List (ℕ × ℚ))) → o ≡ Some u → IsPushed all more k u
    → option_map (λ us. all ++ us) (option_and_then (λ u. option_map (with_multiplier k u) rest) o) ≡ option_map (λ us. more ++ us) rest
one_more all more k u o rest e h = ap (λ o. option_map (λ us. all ++ us) (option_and_then (λ u. option_map (with_multiplier k u) rest) o)) e ∙ at rest
  where
    at : (r : Option (List (ℕ × ℚ))) → option_map (λ us. all ++ us) (option_map (with_multiplier k u) r) ≡ option_map (λ us. more ++ us) r
    at None = refl
    at (Some us) = ap Some (sym (h us))

none_more : (all : List (ℕ × ℚ)) (k : ℕ) (o : Option ℚ) (rest : Option (List (ℕ × ℚ))) → o ≡ None → option_map (λ us. all ++ us) (option_and_then (λ u. option_map (with_multiplier k u) rest) o) ≡ None
none_more all k o rest e = ap (λ o. option_map (λ us. all ++ us) (option_and_then (λ u. option_map (with_multiplier k u) rest) o)) e

-- nothing in front
with_nothing : (o : Option (List (ℕ × ℚ))) → o ≡ option_map (λ us. [] ++ us) o
with_nothing None = refl
with_nothing (Some us) = refl

-- ---- rows
rows_step : (s : Sign) (row : List ℚ) (v k i : ℕ) (rs : List Row) (r : Row) → slice_get rs i ≡ Some r
    → row_multipliers s row (v + i) (k + i) (drop i rs) ≡ option_and_then (λ u. option_map (with_multiplier (k + i) u) (row_multipliers s row (v + (i + 1)) (k + (i + 1)) (drop (i + 1) rs))) (multiplier s r.sense (entry row (v + i)))
rows_step s row v k i rs r e =
    ap (row_multipliers s row (v + i) (k + i)) (next_there rs i r e)
    ∙ (λ h. option_and_then (λ u. option_map (with_multiplier (k + i) u) (row_multipliers s row ((let z : v + i + 1 ≡ v + (i + 1) = omega arith in z) h) ((let z : k + i + 1 ≡ k + (i + 1) = omega arith in z) h) (drop (i + 1) rs))) (multiplier s r.sense (entry row (v + i))))

pub one_row : (s : Sign) (row : List ℚ) (v k i : ℕ) (rs : List Row) (all more : List (ℕ × ℚ)) (r : Row) (u : ℚ) → slice_get rs i ≡ Some r → multiplier s r.sense (entry row (v + i)) ≡ Some u
    → IsPushed all more (k + i) u
    → option_map (λ us. all ++ us) (row_multipliers s row (v + i) (k + i) (drop i rs)) ≡ option_map (λ us. more ++ us) (row_multipliers s row (v + (i + 1)) (k + (i + 1)) (drop (i + 1) rs))
one_row s row v k i rs all more r u e f h =
    ap (option_map (λ us. all ++ us)) (rows_step s row v k i rs r e)
    ∙ one_more all more (k + i) u (multiplier s r.sense (entry row (v + i))) (row_multipliers s row (v + (i + 1)) (k + (i + 1)) (drop (i + 1) rs)) f h

pub no_row : (s : Sign) (row : List ℚ) (v k i : ℕ) (rs : List Row) (all : List (ℕ × ℚ)) (r : Row) → slice_get rs i ≡ Some r → multiplier s r.sense (entry row (v + i)) ≡ None
    → option_map (λ us. all ++ us) (row_multipliers s row (v + i) (k + i) (drop i rs)) ≡ None
no_row s row v k i rs all r e f =
    ap (option_map (λ us. all ++ us)) (rows_step s row v k i rs r e)
    ∙ none_more all (k + i) (multiplier s r.sense (entry row (v + i))) (row_multipliers s row (v + (i + 1)) (k + (i + 1)) (drop (i + 1) rs)) f

-- none are left
pub rows_done : (s : Sign) (row : List ℚ) (v k i : ℕ) (rs : List Row) (all : List (ℕ × ℚ)) → length rs ≤ i → option_map (λ us. all ++ us) (row_multipliers s row v k (drop i rs)) ≡ Some all
rows_done s row v k i rs all l = ap (λ d. option_map (λ us. all ++ us) (row_multipliers s row v k d)) (drop_all i rs l) ∙ ap Some (append-nil all)

-- the first
pub rows_begun : (s : Sign) (row : List ℚ) (v k : ℕ) (rs : List Row) (all : List (ℕ × ℚ)) → all ≡ [] → row_multipliers s row v k rs ≡ option_map (λ us. all ++ us) (row_multipliers s row (v + 0) (k + 0) (drop 0 rs))
rows_begun s row v k rs all e =
    with_nothing (row_multipliers s row v k rs)
    ∙ (λ h. option_map (λ us. sym e h ++ us) (row_multipliers s row ((let z : v ≡ v + 0 = omega arith in z) h) ((let z : k ≡ k + 0 = omega arith in z) h) rs))

-- ---- fillings
fillings_step : (k : ℕ) (t : Tableau) (j : ℕ) (cs : List ℚ) (c : ℚ) → j < length cs → c ≡ get_or cs j c
    → fillings k t j (drop j cs) ≡ option_and_then (λ f. option_map (with_multiplier (bound_number k j (status_of t j)) f) (fillings k t (j + 1) (drop (j + 1) cs))) (filling (status_of t j) c)
fillings_step k t j cs c l e = ap (fillings k t j) (drop_more cs j c l ∙ ap (λ d. d ∷ drop (j + 1) cs) (sym e))

pub no_filling : (k : ℕ) (t : Tableau) (j : ℕ) (cs : List ℚ) (all : List (ℕ × ℚ)) (c : ℚ) → j < length cs → c ≡ get_or cs j c → filling (status_of t j) c ≡ None
    → option_map (λ fs. all ++ fs) (fillings k t j (drop j cs)) ≡ None
no_filling k t j cs all c l e h =
    ap (option_map (λ fs. all ++ fs)) (fillings_step k t j cs c l e)
    ∙ none_more all (bound_number k j (status_of t j)) (filling (status_of t j) c) (fillings k t (j + 1) (drop (j + 1) cs)) h

-- ---- the first ones
-- what is found stays in front
kept : (found : List (List (ℕ × ℚ))) (cs : List (Option (List (ℕ × ℚ)))) → (rest : List (List (ℕ × ℚ))) × (with_cuts found cs ≡ found ++ rest)
kept found [] = ([], sym (append-nil found))
kept found (c ∷ cs) =
    let a = one found c in
    let b = kept (with_cut found c) cs in
    (a.0 ++ b.0, b.1 ∙ ap (λ ys. ys ++ b.0) a.1 ∙ append_assoc found a.0 b.0)
  where
    one : (found : List (List (ℕ × ℚ))) (c : Option (List (ℕ × ℚ))) → (rest : List (List (ℕ × ℚ))) × (with_cut found c ≡ found ++ rest)
    one found None = ([], sym (append-nil found))
    one found (Some m) = at (is_found m found)
      where
        at : (b : Bool) → (rest : List (List (ℕ × ℚ))) × ((if b then found else found ++ m ∷ []) ≡ found ++ rest)
        at true = ([], sym (append-nil found))
        at false = (m ∷ [], refl)

first_full : (found : List (List (ℕ × ℚ))) (cs : List (Option (List (ℕ × ℚ)))) → most_separated ≡ length found → take most_separated (with_cuts found cs) ≡ found
first_full found cs l =
    let k = kept found cs in
    ap (take most_separated) k.1 ∙ ap (λ n. take n (found ++ k.0)) l ∙ take-append_seam found k.0

-- where so many are found, none of these is kept
pub full_stays : (found : List (List (ℕ × ℚ))) (cs rest : List (Option (List (ℕ × ℚ)))) → most_separated ≡ length found → take most_separated (with_cuts found rest) ≡ take most_separated (with_cuts found (cs ++ rest))
full_stays found cs rest l = first_full found rest l ∙ sym (first_full found (cs ++ rest) l)

-- ---- the same list
same_none : (b : List (ℕ × ℚ)) → is_same [] b ≡ eqb 0 (length b)
same_none [] = refl
same_none (y ∷ b) = sym (ne_eqb 0 (suc (length b)) (λ e. omega (arith, e)))

same_length : (n i m : ℕ) → n ≡ i → i ≤ m → eqb 0 (m - i) ≡ eqb n m
same_length n i m e h = at (eqb n m) refl
  where
    at : (b : Bool) → eqb n m ≡ b → eqb 0 (m - i) ≡ b
    at true f = eq-eqb 0 (m - i) (let g = eqb-true n m f in omega (arith, e, g))
    at false f = ne_eqb 0 (m - i) (λ g. let k : n ≡ m = omega (arith, e, h, g) in let z = eq-eqb n m k in let w : true ≡ false = sym z ∙ f in absurd (let q : ⊥ = cc in q))

pub same_end : (a b : List (ℕ × ℚ)) (i : ℕ) → length a ≤ i → i ≤ length a → i ≤ length b → is_same (drop i a) (drop i b) ≡ eqb (length a) (length b)
same_end a b i h g k =
    ap (λ d. is_same d (drop i b)) (drop_all i a h) ∙ same_none (drop i b) ∙ ap (eqb 0) (length-drop i b) ∙ same_length (length a) i (length b) (omega (arith, h, g)) k

-- ---- one column more
pub one_column : (p : Problem) (cuts : List Cut) (t : Tableau) (x : List ℚ) (j n : ℕ) → j < n → cuts_from p cuts t x j (n - j) ≡ cuts_at p cuts t x j ++ cuts_from p cuts t x (j + 1) (n - (j + 1))
one_column p cuts t x j n l = ap (cuts_from p cuts t x j) (let z : n - j ≡ suc (n - (j + 1)) = omega arith in z)

-- ---- a comparison with a sum that may not be there
pub below_is : (o : Option ℚ) (b : ℚ) (w : Ordering) → Some w ≡ option_map (λ v. compare v b) o → is_lt w ≡ is_below o b
below_is None b w e = absurd (let z : ⊥ = cc in z)
below_is (Some v) b w e = ap is_lt (let z : w ≡ compare v b = cc in z)

pub not_below : (o : Option ℚ) (b : ℚ) → ◌≡◌ {A = Option Ordering} None (option_map (λ v. compare v b) o) → false ≡ is_below o b
not_below None b e = refl
not_below (Some v) b e = absurd (let z : ⊥ = cc in z)

-- a comparison with a sum that is there tells how the exact sum compares
pub told : (x : List ℚ) (ts : List (ℕ × ℚ)) (b : ℚ) (w : Ordering) → Some w ≡ option_map (λ v. compare v b) (checked_sum ts x) → is_lt w ≡ false → is_lt (compare (rational_value ts x) b) ≡ false
told x ts b w e h = at (checked_sum ts x) refl e
  where
    at : (o : Option ℚ) → checked_sum ts x ≡ o → Some w ≡ option_map (λ v. compare v b) o → is_lt (compare (rational_value ts x) b) ≡ false
    at None f g = absurd (let z : ⊥ = cc in z)
    at (Some v) f g = ap (λ u. is_lt (compare u b)) (sym (sum_exact ts x v f)) ∙ sym (ap is_lt (let z : w ≡ compare v b = cc in z)) ∙ h
