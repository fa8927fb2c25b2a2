-- Lemmas: multipliers that are put into rising order, and that this order is the only one.
use Rattle.std.specs.Prelude.{◌≡◌, ◌<◌, ◌≤◌, ℕ, zero, suc, nat_lt, eqb, Bool, true, false, cond, List, [], ◌∷◌, ◌++◌, length, All, slice_index_or, refl}
use Rattle.std.specs.List.{Contains, sum_by}
use Rattle.std.specs.List.Sorted.{IsPermutation, IsNonDecreasingBy}
use Rattle.std.proofs.Common.{sym, ap, ◌∙◌, inl, inr, arith}
use Rattle.std.proofs.lemmas.Bool.{eq-eqb, ne_eqb, cases_lt, ltb-true, ltb-false}
use Rattle.std.proofs.lemmas.List.Elements.{All-nil, All-cons, All-head, All-tail, All-weaker, All-contains_itself}
use Rattle.std.proofs.lemmas.List.Sorted.{IsPermutation-refl, IsPermutation-cons, IsPermutation-trans, IsPermutation-sym, IsPermutation-middle, All-permutation, sum_by-IsPermutation}
use Rattle.std.proofs.lemmas.List.Sums.{sum_by-cons}
use Rattle.fraction.specs.Rational.{ℚ}
use Rattle.problem.specs.Rising.{RiseFrom, AreRising}
use Rattle.cert_merge.specs.Closing.{placed, all_placed}
use Rattle.cert_merge.specs.Lemmas.Filling.{All-all_placed}

-- ---- only moved
placed_moves : (m : ℕ × ℚ) (ks : List (ℕ × ℚ)) → IsPermutation (m ∷ ks) (placed m ks)
placed_moves m [] = IsPermutation-refl (m ∷ [])
placed_moves m (k ∷ ks) = step (nat_lt m.0 k.0) (placed_moves m ks)
  where
    step : (b : Bool) → IsPermutation (m ∷ ks) (placed m ks) → IsPermutation (m ∷ k ∷ ks) (cond b (m ∷ k ∷ ks) (k ∷ placed m ks))
    step true h = IsPermutation-refl (m ∷ k ∷ ks)
    step false h =
        IsPermutation-trans (m ∷ k ∷ ks) (k ∷ m ∷ ks) (k ∷ placed m ks)
        (IsPermutation-sym (k ∷ m ∷ ks) (m ∷ k ∷ ks) (IsPermutation-middle (k ∷ []) m ks)) (IsPermutation-cons k (m ∷ ks) (placed m ks) h)

pub all_placed_moves : (ms ks : List (ℕ × ℚ)) → IsPermutation (ms ++ ks) (all_placed ms ks)
all_placed_moves [] ks = IsPermutation-refl ks
all_placed_moves (m ∷ ms) ks =
    IsPermutation-trans (m ∷ (ms ++ ks)) (m ∷ all_placed ms ks) (placed m (all_placed ms ks))
    (IsPermutation-cons m (ms ++ ks) (all_placed ms ks) (all_placed_moves ms ks)) (placed_moves m (all_placed ms ks))

-- ---- in rising order
-- no multiplier of the list has the number
abbrev pub IsFresh : ℕ → List (ℕ × ℚ) → Type 0
IsFresh i ks = All (λ (k : ℕ × ℚ). i ≡ k.0 → ⊥) ks

other_below : (x y : ℕ) → y ≤ x → (x ≡ y → ⊥) → y < x
other_below x y g n = elim (cases_lt y x) [
  | inl q ↦ q
  | inr q ↦ absurd (n (omega (arith, g, q)))
]

placed_rises : (a : ℕ) (m : ℕ × ℚ) (ks : List (ℕ × ℚ)) → a ≤ m.0 → IsFresh m.0 ks → RiseFrom a ks → RiseFrom a (placed m ks)
placed_rises a m [] l f h = (l, tt)
placed_rises a m (k ∷ ks) l f h =
    step (nat_lt m.0 k.0) refl (All-head (λ (k : ℕ × ℚ). m.0 ≡ k.0 → ⊥) k ks f) (λ c g r. placed_rises c m ks g (All-tail (λ (k : ℕ × ℚ). m.0 ≡ k.0 → ⊥) k ks f) r)
  where
    step : (b : Bool) → nat_lt m.0 k.0 ≡ b → (m.0 ≡ k.0 → ⊥) → ((c : ℕ) → c ≤ m.0 → RiseFrom c ks → RiseFrom c (placed m ks)) → RiseFrom a (cond b (m ∷ k ∷ ks) (k ∷ placed m ks))
    step true e n ih = (l, ((let g = ltb-true m.0 k.0 e in omega (arith, g)), h.1))
    step false e n ih = (h.0, ih (suc k.0) (let g = other_below m.0 k.0 (ltb-false m.0 k.0 e) n in omega (arith, g)) h.1)

-- no two multipliers of the first list have one number, and none of it has a number of the second
abbrev pub AreFresh : List (ℕ × ℚ) → List (ℕ × ℚ) → Type 0
AreFresh [] ks = Unit {0}
AreFresh (m ∷ ms) ks = IsFresh m.0 ms × IsFresh m.0 ks × AreFresh ms ks

pub all_placed_rises : (ms ks : List (ℕ × ℚ)) → AreFresh ms ks → AreRising ks → AreRising (all_placed ms ks)
all_placed_rises [] ks f h = h
all_placed_rises (m ∷ ms) ks f h =
    placed_rises 0 m (all_placed ms ks) (omega arith) (All-all_placed (λ (k : ℕ × ℚ). m.0 ≡ k.0 → ⊥) ms ks f.0 f.1) (all_placed_rises ms ks f.2 h)

-- ---- the only order
-- how many multipliers have the number
abbrev one_at : ℕ → ℕ × ℚ → ℕ
one_at i k = cond (eqb k.0 i) 1 0

abbrev count_at : ℕ → List (ℕ × ℚ) → ℕ
count_at i ks = sum_by (one_at i) ks

absent : (i : ℕ) (ks : List (ℕ × ℚ)) → All (λ (k : ℕ × ℚ). k.0 ≡ i → ⊥) ks → count_at i ks ≡ 0
absent i [] h = refl
absent i (k ∷ ks) h =
    let other : one_at i k ≡ 0 = ap (λ b. cond b 1 0) (ne_eqb k.0 i (All-head (λ (k : ℕ × ℚ). k.0 ≡ i → ⊥) k ks h)) in
    omega (arith, sum_by-cons (one_at i) k ks, other, absent i ks (All-tail (λ (k : ℕ × ℚ). k.0 ≡ i → ⊥) k ks h))

present : (i : ℕ) (ks : List (ℕ × ℚ)) (n : ℕ) (d : ℕ × ℚ) → n < length ks → (slice_index_or ks n d).0 ≡ i → 0 < count_at i ks
present i [] n d l e = absurd (omega (arith, l))
present i (k ∷ ks) zero d l e =
    let here : one_at i k ≡ 1 = ap (λ b. cond b 1 0) (eq-eqb k.0 i e) in
    omega (arith, sum_by-cons (one_at i) k ks, here)
present i (k ∷ ks) (suc n) d l e = omega (arith, sum_by-cons (one_at i) k ks, present i ks n d (omega (arith, l)) e)

pub from_first : (a : ℕ) (ks : List (ℕ × ℚ)) → RiseFrom a ks → All (λ (k : ℕ × ℚ). a ≤ k.0) ks
from_first a [] h = All-nil (λ (k : ℕ × ℚ). a ≤ k.0)
from_first a (k ∷ ks) h =
    All-cons (λ (k : ℕ × ℚ). a ≤ k.0) k ks h.0
    (All-weaker (λ (m : ℕ × ℚ). suc k.0 ≤ m.0) (λ (m : ℕ × ℚ). a ≤ m.0) (λ m g. omega (arith, g, h.0)) ks (from_first (suc k.0) ks h.1))

by_number : ℕ × ℚ → ℕ
by_number k = k.0

-- the first one is the same
module _ (a : ℕ) (x : ℕ × ℚ) (xs : List (ℕ × ℚ)) (y : ℕ × ℚ) (ys : List (ℕ × ℚ)) (rise : RiseFrom a (x ∷ xs)) (order : IsNonDecreasingBy (λ (k : ℕ × ℚ). k.0) (y ∷ ys))
    (count : (i : ℕ) → count_at i (y ∷ ys) ≡ count_at i (x ∷ xs)) (within : All (Contains (x ∷ xs)) (y ∷ ys)) where
  above : All (λ (k : ℕ × ℚ). suc x.0 ≤ k.0) xs
  above = from_first (suc x.0) xs rise.1

  not_later : x.0 < y.0 → ⊥
  not_later l =
      let none : count_at x.0 (y ∷ ys) ≡ 0 = absent x.0 (y ∷ ys) (λ k d m e. omega (arith, l, e, order 0 k d (omega arith) m)) in
      omega (arith, none, count x.0, present x.0 (x ∷ xs) 0 x (omega arith) refl)

  same_first : (n : ℕ) → n < length (x ∷ xs) → slice_index_or (x ∷ xs) n y ≡ y → x ≡ y
  same_first zero l e = e
  same_first (suc n) l e = absurd (not_later (omega (arith, above n y (omega (arith, l)), ap (λ (k : ℕ × ℚ). k.0) e)))

  first_is : x ≡ y
  first_is = let c = All-head (Contains (x ∷ xs)) y ys within in same_first c.0 c.1 c.2

  rest_count : (i : ℕ) → count_at i ys ≡ count_at i xs
  rest_count i = omega (arith, count i, sum_by-cons (one_at i) y ys, sum_by-cons (one_at i) x xs, ap (one_at i) first_is)

  not_again : (z : ℕ × ℚ) (k : ℕ) (d : ℕ × ℚ) → k < length ys → slice_index_or ys k d ≡ z → (n : ℕ) → n < length (x ∷ xs) → slice_index_or (x ∷ xs) n z ≡ z → Contains xs z
  not_again z k d m q zero l e =
      let none : count_at x.0 xs ≡ 0 = absent x.0 xs (All-weaker (λ (k : ℕ × ℚ). suc x.0 ≤ k.0) (λ (k : ℕ × ℚ). k.0 ≡ x.0 → ⊥) (λ k g f. omega (arith, g, f)) xs above) in
      let some = present x.0 ys k d m (ap (λ (k : ℕ × ℚ). k.0) (q ∙ sym e)) in
      absurd (omega (arith, none, some, rest_count x.0))
  not_again z k d m q (suc n) l e = (n, omega (arith, l), e)

  rest_within : All (Contains xs) ys
  rest_within k d m =
      let c = within (suc k) d (omega (arith, m)) in
      not_again (slice_index_or ys k d) k d m refl c.0 c.1 c.2

-- a rising list is the only one in order of those with its multipliers
only_order : (a : ℕ) (xs ys : List (ℕ × ℚ)) → RiseFrom a xs → IsNonDecreasingBy (λ (k : ℕ × ℚ). k.0) ys → ((i : ℕ) → count_at i ys ≡ count_at i xs) → All (Contains xs) ys → ys ≡ xs
only_order a [] [] r o c w = refl
only_order a [] (y ∷ ys) r o c w = let e = All-head (Contains []) y ys w in absurd (omega (arith, e.1))
only_order a (x ∷ xs) [] r o c w = absurd (omega (arith, c x.0, present x.0 (x ∷ xs) 0 x (omega arith) refl))
only_order a (x ∷ xs) (y ∷ ys) r o c w =
    let rest : ys ≡ xs = only_order (suc x.0) xs ys r.1 (λ i j d l m. o (suc i) (suc j) d (omega (arith, l)) (omega (arith, m))) (rest_count a x xs y ys r o c w) (rest_within a x xs y ys r o c w) in
    λ i. sym (first_is a x xs y ys r o c w) i ∷ rest i

pub one_order : (xs ys : List (ℕ × ℚ)) → AreRising xs → IsNonDecreasingBy (λ (k : ℕ × ℚ). k.0) ys → IsPermutation xs ys → ys ≡ xs
one_order xs ys r o p =
    only_order 0 xs ys r o (λ i. sum_by-IsPermutation (one_at i) xs ys p) (All-permutation (Contains xs) xs ys p (All-contains_itself xs))

-- multipliers that were sorted are those that are placed
pub sorted_is : (ms ks ys : List (ℕ × ℚ)) → IsPermutation (ms ++ ks) ys → IsNonDecreasingBy (λ (k : ℕ × ℚ). k.0) ys → AreFresh ms ks → AreRising ks → ys ≡ all_placed ms ks
sorted_is ms ks ys p o f r =
    one_order (all_placed ms ks) ys (all_placed_rises ms ks f r) o
    (IsPermutation-trans (all_placed ms ks) (ms ++ ks) ys (IsPermutation-sym (ms ++ ks) (all_placed ms ks) (all_placed_moves ms ks)) p)
