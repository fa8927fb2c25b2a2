-- Which variable leaves the basis, on whole numbers.
use Rattle.std.proofs.Common.{◌≡◌, ℕ, suc, ◌+◌, ◌<◌, ◌≤◌, arith, refl, ap, sym, ◌∙◌, Bool, true, false, Option, Some, None, List, [], ◌∷◌, ◌++◌, length, get_or, drop, drop-cons}
use Rattle.std.proofs.lemmas.List.{length-drop, length-map}
use Rattle.fraction.specs.Rational.{frac}
use Rattle.tableau.specs.Leaving.{violation}
use Rattle.tableau.specs.declared.bounds.Direction.{Direction}
use Rattle.std.specs.Prelude.{ℤ, pos, map}
use Rattle.integer_tableau.specs.IntegerTableau.{fraction_bounds, status, statuses_of, value, values_of}
use Rattle.integer_tableau.specs.Leaving.{leaving_by_numerators, violation_at}
use Rattle.integer_tableau.specs.declared.integer_bounds.IntegerBounds.{IntegerBounds}
use Rattle.integer_tableau.specs.declared.position.Position.{Position}
use Rattle.integer_tableau.specs.declared.position.Position.TheVariants.{InBasis, InColumn}
use Rattle.tableau.specs.Leaving.{found_or, leaving_at, leaving_from}

at_is : (d : ℕ) (s : Position) (u : Bool) (l : IntegerBounds) (x v : ℤ) → leaving_at (status s u) (fraction_bounds l) (value d s x v) ≡ violation_at d s l v
at_is d InBasis u l x v = refl
at_is d (InColumn k) true l x v = refl
at_is d (InColumn k) false l x v = refl

pub leaving_is : (d i : ℕ) (ss : List Position) (us : List Bool) (ls : List IntegerBounds) (xs vs : List ℤ) → length us ≡ length ss → length ls ≡ length ss → length xs ≡ length ss → length vs ≡ length ss
    → leaving_from i (statuses_of ss us) (map fraction_bounds ls) (values_of d ss xs vs) ≡ leaving_by_numerators d i ss ls vs
leaving_is d i [] us ls xs vs e f g h = refl
leaving_is d i (s ∷ ss) [] ls xs vs e f g h = absurd (omega arith)
leaving_is d i (s ∷ ss) (u ∷ us) [] xs vs e f g h = absurd (omega arith)
leaving_is d i (s ∷ ss) (u ∷ us) (l ∷ ls) [] vs e f g h = absurd (omega arith)
leaving_is d i (s ∷ ss) (u ∷ us) (l ∷ ls) (x ∷ xs) [] e f g h = absurd (omega arith)
leaving_is d i (s ∷ ss) (u ∷ us) (l ∷ ls) (x ∷ xs) (v ∷ vs) e f g h =
    λ t. found_or i (at_is d s u l x v t) (leaving_is d (i + 1) ss us ls xs vs (omega arith) (omega arith) (omega arith) (omega arith) t)

-- a leaving variable is basic
pub leaving_there : (d i : ℕ) (ss : List Position) (bs : List IntegerBounds) (vs : List ℤ) (l : ℕ × Direction) → leaving_by_numerators d i ss bs vs ≡ Some l
    → (k : ℕ) × (l.0 ≡ i + k) × (k < length ss) × (get_or ss k InBasis ≡ InBasis)
leaving_there d i [] bs vs l e = cc
leaving_there d i (s ∷ ss) [] vs l e = cc
leaving_there d i (s ∷ ss) (b ∷ bs) [] l e = cc
leaving_there d i (InColumn k ∷ ss) (b ∷ bs) (v ∷ vs) l e =
    let h = leaving_there d (i + 1) ss bs vs l e in (suc h.0, omega (arith, h.1), omega (arith, h.2), h.3)
leaving_there d i (InBasis ∷ ss) (b ∷ bs) (v ∷ vs) l e = by_test (violation (fraction_bounds b) (frac v d)) (λ e. leaving_there d (i + 1) ss bs vs l e) e
  where
    by_test : (o : Option Direction)
        → (leaving_by_numerators d (i + 1) ss bs vs ≡ Some l → (k : ℕ) × (l.0 ≡ i + 1 + k) × (k < length ss) × (get_or ss k InBasis ≡ InBasis))
        → found_or i o (leaving_by_numerators d (i + 1) ss bs vs) ≡ Some l → (k : ℕ) × (l.0 ≡ i + k) × (k < suc (length ss)) × (get_or (InBasis ∷ ss) k InBasis ≡ InBasis)
    by_test None later e = let h = later e in (suc h.0, omega (arith, h.1), omega (arith, h.2), h.3)
    by_test (Some w) later e = (0, (let g : (i, w) ≡ l = cc in omega (arith, ap (λ (l : ℕ × Direction). l.0) g)), omega arith, refl)

-- ---- in two parts
pub none_after : (d i : ℕ) (ss : List Position) (bs : List IntegerBounds) (vs : List ℤ) → length vs ≡ 0 → None ≡ leaving_by_numerators d i ss bs vs
none_after d i [] bs vs e = refl
none_after d i (s ∷ ss) [] vs e = refl
none_after d i (s ∷ ss) (b ∷ bs) [] e = refl
none_after d i (s ∷ ss) (b ∷ bs) (v ∷ vs) e = absurd (omega arith)

abbrev pub first_or : Option (ℕ × Direction) → Option (ℕ × Direction) → Option (ℕ × Direction)
first_or None o = o
first_or (Some l) o = Some l

pub leaving_parts : (d i : ℕ) (ss : List Position) (bs : List IntegerBounds) (vs ws : List ℤ) → length vs ≤ length ss → length vs ≤ length bs
    → leaving_by_numerators d i ss bs (vs ++ ws) ≡ first_or (leaving_by_numerators d i ss bs vs) (leaving_by_numerators d (i + length vs) (drop (length vs) ss) (drop (length vs) bs) ws)
leaving_parts d i ss bs [] ws l m =
    ap (λ j. leaving_by_numerators d j ss bs ws) (let q : i ≡ i + 0 = omega arith in q) ∙ ap (λ o. first_or o (leaving_by_numerators d (i + 0) ss bs ws)) (none_after d i ss bs [] refl)
leaving_parts d i [] bs (v ∷ vs) ws l m = absurd (omega arith)
leaving_parts d i (s ∷ ss) [] (v ∷ vs) ws l m = absurd (omega arith)
leaving_parts d i (s ∷ ss) (b ∷ bs) (v ∷ vs) ws l m =
    ap (found_or i (violation_at d s b v)) (leaving_parts d (i + 1) ss bs vs ws (omega arith) (omega arith)
    ∙ ap (λ j. first_or (leaving_by_numerators d (i + 1) ss bs vs) (leaving_by_numerators d j (drop (length vs) ss) (drop (length vs) bs) ws)) (let q : i + 1 + length vs ≡ i + suc (length vs) = omega arith in q))
    ∙ by_test (violation_at d s b v)
  where
    by_test : (o : Option Direction) → found_or i o (first_or (leaving_by_numerators d (i + 1) ss bs vs) (leaving_by_numerators d (i + suc (length vs)) (drop (length vs) ss) (drop (length vs) bs) ws))
        ≡ first_or (found_or i o (leaving_by_numerators d (i + 1) ss bs vs)) (leaving_by_numerators d (i + suc (length vs)) (drop (length vs) ss) (drop (length vs) bs) ws)
    by_test None = refl
    by_test (Some w) = refl

-- the first variable from j on that has to go
leaving_found : (d i j : ℕ) (ss : List Position) (bs : List IntegerBounds) (vs : List ℤ) (w : Direction) → j < length ss → j < length bs → 0 < length vs
    → Some w ≡ violation_at d (get_or ss j InBasis) (get_or bs j (record { lower = None; upper = None })) (get_or vs 0 (pos 0)) → Some (i, w) ≡ leaving_by_numerators d i (drop j ss) (drop j bs) vs
leaving_found d i j ss bs [] w l m n v = absurd (omega arith)
leaving_found d i j ss bs (x ∷ xs) w l m n v =
    ap (λ o. found_or i o (leaving_by_numerators d (i + 1) (drop (suc j) ss) (drop (suc j) bs) xs)) v
    ∙ sym (λ t. leaving_by_numerators d i (drop-cons ss j InBasis l t) (drop-cons bs j (record { lower = None; upper = None }) m t) (x ∷ xs))

pub found_in_rows : (f : List ℤ → ℤ) (d i j k : ℕ) (ss : List Position) (bs : List IntegerBounds) (ps : List (List ℤ)) (w : Direction) (all : Option (ℕ × Direction))
    → j < length ss → j < length bs → k < length ps → Some w ≡ violation_at d (get_or ss j InBasis) (get_or bs j (record { lower = None; upper = None })) (f (get_or ps k []))
    → leaving_by_numerators d i (drop j ss) (drop j bs) (map f (drop k ps)) ≡ all → Some (i, w) ≡ all
found_in_rows f d i j k ss bs ps w all l m n v h =
    leaving_found d i j ss bs (map f (drop k ps)) w l m (omega (arith, n, length-map (drop k ps) f, length-drop k ps))
    (v ∙ sym (ap (λ ps. violation_at d (get_or ss j InBasis) (get_or bs j (record { lower = None; upper = None })) (get_or (map f ps) 0 (pos 0))) (drop-cons ps k [] n)))
    ∙ h
