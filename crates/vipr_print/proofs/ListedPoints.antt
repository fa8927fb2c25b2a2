-- The points of a certificate can be split off a text, by the columns that it names.
use Rattle.std.specs.Prelude.{◌≡◌, ◌≤◌, ◌<◌, ◌+◌, ◌^◌, ℕ, ℤ, pos, nat_abs, Bool, true, false, cond, List, [], ◌∷◌, ◌++◌, All, codes, drop, get_or, length, refl}
use Rattle.std.proofs.Common.{sym, ap, ap₂, ◌∙◌, subst, append_assoc, arith}
use Rattle.std.proofs.lemmas.Bool.Decides.{Decides-int_eq}
use Rattle.std.proofs.lemmas.List.{append_cancel_left}
use Rattle.std.proofs.lemmas.List.Elements.{All-head, All-tail, All-weaker}
use Rattle.std.specs.Fmt.{decimal, signed_decimal}
use Rattle.std.specs.Ordering.{int_eq}
use Rattle.problem_box.specs.Lemmas.Boxes.{IsInBox-length}
use Rattle.problem.specs.Problem.{Problem}
use Rattle.problem.specs.Feasible.{IsFeasible}
use Rattle.problem.specs.Limited.{IsLimited}
use Rattle.vipr_print.specs.Spelling.{nonzero, count_nonzero, spelled_nonzero, spelled_nonzeros, point_line, point_lines}
use Rattle.vipr_print.specs.Unique.{IsShort, IsShortPoint, ValidPointsAreWhole}
use Rattle.vipr_print.proofs.Words.{Stops, decimal_splits, signed_splits}
use Rattle.vipr_print.proofs.Splitting.{pieces3, pieces5}

-- ---- one number
abbrev part : Bool → ℕ → ℤ → List ℕ
part b j x = cond b [] (codes " " ++ decimal j ++ codes " " ++ signed_decimal x)

part_stops : (b : Bool) (j : ℕ) (x : ℤ) (r : List ℕ) → Stops r → Stops (part b j x ++ r)
part_stops true j x r h = h
part_stops false j x r h = omega arith

numbers_stop : (j : ℕ) (xs : List ℤ) (r : List ℕ) → Stops r → Stops (spelled_nonzeros j xs ++ r)
numbers_stop j [] r h = h
numbers_stop j (x ∷ xs) r h =
    subst Stops (sym (append_assoc (spelled_nonzero j x) (spelled_nonzeros (j + 1) xs) r))
    (part_stops (int_eq x (pos 0)) j x _ (numbers_stop (j + 1) xs r h))

-- behind a column come only later ones
later_by : (b : Bool) (j k : ℕ) (x : ℤ) (u t : List ℕ) → j < k → IsShort k → (u ≡ 32 ∷ (decimal j ++ 32 ∷ t) → ⊥) → part b k x ++ u ≡ 32 ∷ (decimal j ++ 32 ∷ t) → ⊥
later_by true j k x u t l h f e = f e
later_by false j k x u t l h f e =
    let a = sym (pieces3 (decimal k) (codes " ") (signed_decimal x) u) ∙ ap (drop 1) e in
    let m = decimal_splits k j _ _ h (omega (arith, l, h)) (omega arith) (omega arith) a in
    omega (arith, l, m.0)

later : (j k : ℕ) (xs : List ℤ) (r t : List ℕ) → j < k → k + length xs < 10 ^ 64 → spelled_nonzeros k xs ++ 10 ∷ r ≡ 32 ∷ (decimal j ++ 32 ∷ t) → ⊥
later j k [] r t l h e = omega (arith, ap (λ t. get_or t 0 0) e)
later j k (x ∷ xs) r t l h e =
    later_by (int_eq x (pos 0)) j k x (spelled_nonzeros (k + 1) xs ++ 10 ∷ r) t l (omega (arith, h)) (later j (k + 1) xs r t (omega (arith, l)) (omega (arith, h)))
    (sym (append_assoc (spelled_nonzero k x) (spelled_nonzeros (k + 1) xs) (10 ∷ r)) ∙ e)

-- ---- the numbers of a point
numbers_by : (b c : Bool) (j : ℕ) (x y : ℤ) (xs ys : List ℤ) (r s : List ℕ) → int_eq x (pos 0) ≡ b → int_eq y (pos 0) ≡ c → j + 1 + length xs < 10 ^ 64 → j + 1 + length ys < 10 ^ 64
    → IsShort (nat_abs x) → IsShort (nat_abs y)
    → (spelled_nonzeros (j + 1) xs ++ 10 ∷ r ≡ spelled_nonzeros (j + 1) ys ++ 10 ∷ s → (xs ≡ ys) × (r ≡ s))
    → part b j x ++ (spelled_nonzeros (j + 1) xs ++ 10 ∷ r) ≡ part c j y ++ (spelled_nonzeros (j + 1) ys ++ 10 ∷ s)
    → (x ∷ xs ≡ y ∷ ys) × (r ≡ s)
numbers_by true true j x y xs ys r s p q h i k l f e =
    let a = f e in
    (ap₂ (λ z zs. z ∷ zs) ((Decides-int_eq x (pos 0)).0 p ∙ sym ((Decides-int_eq y (pos 0)).0 q)) a.0, a.1)
numbers_by true false j x y xs ys r s p q h i k l f e =
    absurd (later j (j + 1) xs r _ (omega arith) h (e ∙ ap (λ t. 32 ∷ t) (pieces3 (decimal j) (codes " ") (signed_decimal y) _)))
numbers_by false true j x y xs ys r s p q h i k l f e =
    absurd (later j (j + 1) ys s _ (omega arith) i (sym e ∙ ap (λ t. 32 ∷ t) (pieces3 (decimal j) (codes " ") (signed_decimal x) _)))
numbers_by false false j x y xs ys r s p q h i k l f e =
    let u = spelled_nonzeros (j + 1) xs ++ 10 ∷ r in
    let v = spelled_nonzeros (j + 1) ys ++ 10 ∷ s in
    let a = sym (pieces3 (decimal j) (codes " ") (signed_decimal x) u) ∙ ap (drop 1) e ∙ pieces3 (decimal j) (codes " ") (signed_decimal y) v in
    let m = signed_splits x y u v k l (numbers_stop (j + 1) xs (10 ∷ r) (omega arith)) (numbers_stop (j + 1) ys (10 ∷ s) (omega arith))
    (ap (drop 1) (append_cancel_left (decimal j) _ _ a)) in
    let n = f m.1 in
    (ap₂ (λ z zs. z ∷ zs) m.0 n.0, n.1)

numbers_split : (j : ℕ) (xs ys : List ℤ) (r s : List ℕ) → length xs ≡ length ys → j + length xs < 10 ^ 64 → IsShortPoint xs → IsShortPoint ys
    → spelled_nonzeros j xs ++ 10 ∷ r ≡ spelled_nonzeros j ys ++ 10 ∷ s → (xs ≡ ys) × (r ≡ s)
numbers_split j [] [] r s l h p q e = (refl, ap (drop 1) e)
numbers_split j [] (y ∷ ys) r s l h p q e = absurd (omega (arith, l))
numbers_split j (x ∷ xs) [] r s l h p q e = absurd (omega (arith, l))
numbers_split j (x ∷ xs) (y ∷ ys) r s l h p q e =
    let a = sym (append_assoc (spelled_nonzero j x) (spelled_nonzeros (j + 1) xs) (10 ∷ r)) ∙ e ∙ append_assoc (spelled_nonzero j y) (spelled_nonzeros (j + 1) ys) (10 ∷ s) in
    numbers_by (int_eq x (pos 0)) (int_eq y (pos 0)) j x y xs ys r s refl refl (omega (arith, h)) (omega (arith, h, l))
    (All-head (λ z. IsShort (nat_abs z)) x xs p) (All-head (λ z. IsShort (nat_abs z)) y ys q)
    (numbers_split (j + 1) xs ys r s (omega (arith, l)) (omega (arith, h)) (All-tail (λ z. IsShort (nat_abs z)) x xs p) (All-tail (λ z. IsShort (nat_abs z)) y ys q)) a

-- ---- points
at_most_one : (b : Bool) → cond b 0 1 ≤ 1
at_most_one true = omega arith
at_most_one false = omega arith

count_within : (x : List ℤ) → count_nonzero x ≤ length x
count_within [] = omega arith
count_within (x ∷ xs) = let a : nonzero x ≤ 1 = at_most_one (int_eq x (pos 0)) in omega (arith, a, count_within xs)

-- a number for each of n columns, and each of them short
abbrev pub IsSpellablePoint : ℕ → List ℤ → Type 0
IsSpellablePoint n x = (length x ≡ n) × IsShortPoint x

point_splits : (n i : ℕ) (x y : List ℤ) (r s : List ℕ) → IsShort n → IsSpellablePoint n x → IsSpellablePoint n y → point_line i x ++ r ≡ point_line i y ++ s → (x ≡ y) × (r ≡ s)
point_splits n i x y r s h p q e =
    let a = sym (pieces5 (decimal i) (codes " ") (decimal (count_nonzero x)) (spelled_nonzeros 0 x) (codes "\n") r) ∙ ap (drop 1) e
    ∙ pieces5 (decimal i) (codes " ") (decimal (count_nonzero y)) (spelled_nonzeros 0 y) (codes "\n") s in
    let k = decimal_splits (count_nonzero x) (count_nonzero y) _ _ (omega (arith, h, p.0, count_within x)) (omega (arith, h, q.0, count_within y))
    (numbers_stop 0 x (10 ∷ r) (omega arith)) (numbers_stop 0 y (10 ∷ s) (omega arith)) (ap (drop 1) (append_cancel_left (decimal i) _ _ a)) in
    numbers_split 0 x y r s (p.0 ∙ sym q.0) (omega (arith, h, p.0)) p.1 q.1 k.1

pub points_split : (n i : ℕ) (xs ys : List (List ℤ)) (r s : List ℕ) → length xs ≡ length ys → IsShort n → All (IsSpellablePoint n) xs → All (IsSpellablePoint n) ys
    → point_lines i xs ++ r ≡ point_lines i ys ++ s → (xs ≡ ys) × (r ≡ s)
points_split n i [] [] r s l h p q e = (refl, e)
points_split n i [] (y ∷ ys) r s l h p q e = absurd (omega (arith, l))
points_split n i (x ∷ xs) [] r s l h p q e = absurd (omega (arith, l))
points_split n i (x ∷ xs) (y ∷ ys) r s l h p q e =
    let a = sym (append_assoc (point_line i x) (point_lines (i + 1) xs) r) ∙ e ∙ append_assoc (point_line i y) (point_lines (i + 1) ys) s in
    let k = point_splits n i x y _ _ h (All-head (IsSpellablePoint n) x xs p) (All-head (IsSpellablePoint n) y ys q) a in
    let m = points_split n (i + 1) xs ys r s (omega (arith, l)) h (All-tail (IsSpellablePoint n) x xs p) (All-tail (IsSpellablePoint n) y ys q) k.1 in
    (ap₂ (λ z zs. z ∷ zs) k.0 m.0, m.1)

-- ---- the points of a valid certificate
pub valid_points : (p : Problem) → IsLimited p → ValidPointsAreWhole p
valid_points p l c v =
    All-weaker (IsFeasible p) (λ (x : List ℤ). length x ≡ length c.part.names)
    (λ x f. IsInBox-length p.spans x f.in_box ∙ sym l.names ∙ sym (ap length v.names)) c.points v.solutions
