-- Combinations of columns: a pivot's step is linear, so each combination takes it.
use Rattle.std.proofs.Common.{◌≡◌, ◌≢◌, ℕ, zero, suc, ◌+◌, ◌-◌, ◌*◌, ◌≤◌, ◌<◌, arith, refl, ap, sym, subst, ◌∙◌, Bool, true, false, List, [], ◌∷◌, length, get_or, set, inl, inr, get_or-set_other, get_or-set_same}
use Rattle.std.specs.Prelude.{ℤ, pos, negsuc, neg_ℤ, ◌+ℤ◌, ◌*ℤ◌, nat_abs, nat_eq, if◌then◌else◌}
use lib.IntN.{*ℤ_comm}
use Rattle.std.proofs.Math.Nat.{mul-le-mul_left, mul-le-mul_right}
use Rattle.std.proofs.lemmas.Int.{ints, unsigned_abs-mul}
use Rattle.std.proofs.lemmas.Bool.{cases_eq, cases_lt, eq-eqb, ne_eqb}
use Rattle.std.proofs.lemmas.Bool.Decides.{nat_tests}
use Rattle.std.proofs.lemmas.List.{get_or_past}
use Rattle.fraction.specs.Lemmas.Integers.{diff-add, diff-mul, diff-neg, diff-pos, diff-same, is_diff, neg-mul_ℤ}
use Rattle.integer_tableau.specs.Combined.{combined, combined_row, numbers_from, numerator_of}
use Rattle.integer_tableau.specs.Numbers.{IsWithin, number_at, total_size}
use Rattle.integer_tableau.specs.Range.{size_limit}
use Rattle.integer_tableau.specs.Substitution.{IsSolvedFor, IsSubstituted, quotient_numerator}
use Rattle.integer_tableau.specs.declared.position.Position.{Position}
use Rattle.integer_tableau.specs.declared.position.Position.TheVariants.{InBasis, InColumn}

-- with 0 in column c
abbrev pub but : ℕ → (ℕ → ℤ) → ℕ → ℤ
but c f k = if nat_eq k c then pos 0 else f k

-- g over e is what the step makes of f over d, by the solved row
abbrev pub IsStepOf : ℕ → ℕ → ℕ → List ℤ → (ℕ → ℤ) → (ℕ → ℤ) → Type 0
IsStepOf d e c solved f g = (k : ℕ) → g k *ℤ pos d ≡ but c f k *ℤ pos e +ℤ number_at solved k *ℤ f c

-- ---- a step is linear
gather : (g g' f f' n a d e h h' : ℤ) → g *ℤ d ≡ f *ℤ e +ℤ n *ℤ h → g' *ℤ d ≡ f' *ℤ e +ℤ n *ℤ h' → (a *ℤ g +ℤ g') *ℤ d ≡ (a *ℤ f +ℤ f') *ℤ e +ℤ n *ℤ (a *ℤ h +ℤ h')
gather g g' f f' n a d e h h' p q = left a g g' d ∙ (λ i. a *ℤ p i +ℤ q i) ∙ right a f f' n e h h'
  where
    left : (a g g' d : ℤ) → (a *ℤ g +ℤ g') *ℤ d ≡ a *ℤ (g *ℤ d) +ℤ g' *ℤ d
    left a g g' d = rw (is_diff a, is_diff g, is_diff g', is_diff d) (simp (diff-mul, diff-add) (diff-same _ _ _ _ (omega arith)))

    right : (a f f' n e h h' : ℤ) → a *ℤ (f *ℤ e +ℤ n *ℤ h) +ℤ (f' *ℤ e +ℤ n *ℤ h') ≡ (a *ℤ f +ℤ f') *ℤ e +ℤ n *ℤ (a *ℤ h +ℤ h')
    right a f f' n e h h' = rw (is_diff a, is_diff f, is_diff f', is_diff n, is_diff e, is_diff h, is_diff h') (simp (diff-mul, diff-add) (diff-same _ _ _ _ (omega arith)))

but_sum : (a x y : ℤ) (b : Bool) → (if b then pos 0 else a *ℤ x +ℤ y) ≡ a *ℤ (if b then pos 0 else x) +ℤ (if b then pos 0 else y)
but_sum a x y true = zeros a
  where
    zeros : (a : ℤ) → pos 0 ≡ a *ℤ pos 0 +ℤ pos 0
    zeros a = omega (arith, ints)
but_sum a x y false = refl

nothing : (d e c : ℕ) (solved : List ℤ) → IsStepOf d e c solved (λ k. pos 0) (λ k. pos 0)
nothing d e c solved k = at (nat_eq k c) (number_at solved k)
  where
    at : (b : Bool) (n : ℤ) → pos 0 *ℤ pos d ≡ (if b then pos 0 else pos 0) *ℤ pos e +ℤ n *ℤ pos 0
    at true n = omega (arith, ints)
    at false n = omega (arith, ints)

pub combined_step : (d e c : ℕ) (solved cs : List ℤ) (ss ss' : List Position) (ls ls' : List (List ℤ))
    → length cs ≤ length ss → length ss' ≡ length ss → length ls ≡ length cs → length ls' ≡ length cs
    → ((j : ℕ) → j < length cs → IsStepOf d e c solved (numerator_of d (get_or ls j []) (get_or ss j InBasis)) (numerator_of e (get_or ls' j []) (get_or ss' j InBasis)))
    → IsStepOf d e c solved (combined d cs ss ls) (combined e cs ss' ls')
combined_step d e c solved [] ss ss' ls ls' p q r t h k = nothing d e c solved k
combined_step d e c solved (a ∷ cs) [] ss' ls ls' p q r t h k = absurd (omega arith)
combined_step d e c solved (a ∷ cs) (s ∷ ss) [] ls ls' p q r t h k = absurd (omega arith)
combined_step d e c solved (a ∷ cs) (s ∷ ss) (s' ∷ ss') [] ls' p q r t h k = absurd (omega arith)
combined_step d e c solved (a ∷ cs) (s ∷ ss) (s' ∷ ss') (l ∷ ls) [] p q r t h k = absurd (omega arith)
combined_step d e c solved (a ∷ cs) (s ∷ ss) (s' ∷ ss') (l ∷ ls) (l' ∷ ls') p q r t h k =
    gather (numerator_of e l' s' k) (combined e cs ss' ls' k) (but c (numerator_of d l s) k) (but c (combined d cs ss ls) k) (number_at solved k) a (pos d) (pos e)
    (numerator_of d l s c) (combined d cs ss ls c) (h zero (omega arith) k)
    (combined_step d e c solved cs ss ss' ls ls' (omega arith) (omega arith) (omega arith) (omega arith) (λ j m. h (suc j) (omega arith)) k)
    ∙ ap (λ z. z *ℤ pos e +ℤ number_at solved k *ℤ (a *ℤ numerator_of d l s c +ℤ combined d cs ss ls c)) (sym (but_sum a (numerator_of d l s k) (combined d cs ss ls k) (nat_eq k c)))

-- ---- what each column says takes the step
-- what stands at another place than c
pub but_other : (c k : ℕ) (f : ℕ → ℤ) → k ≢ c → but c f k ≡ f k
but_other c k f n = ap (λ b. if b then pos 0 else f k) (ne_eqb k c n)

pub but_same : (c : ℕ) (f : ℕ → ℤ) → but c f c ≡ pos 0
but_same c f = ap (λ b. if b then pos 0 else f c) (eq-eqb c c refl)

-- a row with 0 in column c
pub set_is_but : (c : ℕ) (row : List ℤ) (k : ℕ) → c < length row → number_at (set row c (pos 0)) k ≡ but c (number_at row) k
set_is_but c row k l = elim (cases_eq k c) [
  | inl p ↦ ap (λ k. number_at (set row c (pos 0)) k) p ∙ get_or-set_same row c (pos 0) (pos 0) l ∙ sym (ap (λ k. but c (number_at row) k) p ∙ but_same c (number_at row))
  | inr n ↦ get_or-set_other row c k (pos 0) (pos 0) n ∙ sym (but_other c k (number_at row) n)
]

-- a row that is kept
pub kept_step : (d e c : ℕ) (solved row row' : List ℤ) → c < length row → IsSubstituted (pos d) (pos e) (number_at row c) (set row c (pos 0)) solved row'
    → IsStepOf d e c solved (numerator_of d row InBasis) (numerator_of e row' InBasis)
kept_step d e c solved row row' l h k = h k ∙ ap (λ z. z *ℤ pos e +ℤ number_at solved k *ℤ number_at row c) (set_is_but c row k l)

-- a column that stays out of the basis
pub unit_step : (d e c j : ℕ) (solved row row' : List ℤ) → j ≢ c → IsStepOf d e c solved (numerator_of d row (InColumn j)) (numerator_of e row' (InColumn j))
unit_step d e c j solved row row' n k =
    by_test (number_at solved k) (nat_eq k c) (nat_eq k j) refl refl
    ∙ ap (λ z. but c (numerator_of d row (InColumn j)) k *ℤ pos e +ℤ number_at solved k *ℤ z) (sym (ap (λ b. if b then pos d else pos 0) (ne_eqb c j (λ e. n (sym e)))))
  where
    by_test : (z : ℤ) (s t : Bool) → nat_eq k c ≡ s → nat_eq k j ≡ t → (if t then pos e else pos 0) *ℤ pos d ≡ (if s then pos 0 else if t then pos d else pos 0) *ℤ pos e +ℤ z *ℤ pos 0
    by_test z true true p q = absurd (n (grind (arith, nat_tests)))
    by_test z true false p q = omega (arith, ints)
    by_test z false true p q = omega (arith, ints)
    by_test z false false p q = omega (arith, ints)

-- the variable that comes into the basis: its row is the solved one
pub entering_step : (d e c : ℕ) (solved row : List ℤ) → IsStepOf d e c solved (numerator_of d row (InColumn c)) (numerator_of e solved InBasis)
entering_step d e c solved row k =
    by_test (number_at solved k) (nat_eq k c)
    ∙ ap (λ z. but c (numerator_of d row (InColumn c)) k *ℤ pos e +ℤ number_at solved k *ℤ z) (sym (ap (λ b. if b then pos d else pos 0) (eq-eqb c c refl)))
  where
    by_test : (z : ℤ) (t : Bool) → z *ℤ pos d ≡ (if t then pos 0 else if t then pos d else pos 0) *ℤ pos e +ℤ z *ℤ pos d
    by_test z true = omega (arith, ints)
    by_test z false = omega (arith, ints)

neg_twice : (z : ℤ) → neg_ℤ (neg_ℤ z) ≡ z
neg_twice z = omega (arith, ints)

neg_both : (a b : ℤ) → neg_ℤ a *ℤ neg_ℤ b ≡ a *ℤ b
neg_both a b = neg-mul_ℤ a (neg_ℤ b) ∙ ap neg_ℤ (*ℤ_comm a (neg_ℤ b) ∙ neg-mul_ℤ b a) ∙ neg_twice (b *ℤ a) ∙ *ℤ_comm b a

up : (p d : ℕ) → pos p *ℤ pos d ≡ pos 0 *ℤ pos p +ℤ pos d *ℤ pos p
up p d = ap pos (omega arith)

-- the variable that goes out of it, in whose row p is the pivot
pub leaving_step : (d c : ℕ) (solved row row' : List ℤ) → c < length row → IsSolvedFor (number_at row c) c d row solved
    → IsStepOf d (nat_abs (number_at row c)) c solved (numerator_of d row InBasis) (numerator_of (nat_abs (number_at row c)) row' (InColumn c))
leaving_step d c solved row row' l turn k = elim (cases_eq k c) [
  | inl p ↦ ap (λ b. (if b then pos (nat_abs (number_at row c)) else pos 0) *ℤ pos d) (ap (λ k. nat_eq k c) p ∙ eq-eqb c c refl) ∙ here (number_at row c) d
      ∙ sym (λ i. (ap (λ k. but c (number_at row) k) p ∙ but_same c (number_at row)) i *ℤ pos (nat_abs (number_at row c))
      +ℤ (ap (number_at solved) p ∙ turn c ∙ ap (quotient_numerator (number_at row c)) (get_or-set_same row c (neg_ℤ (pos d)) (pos 0) l)) i *ℤ number_at row c)
  | inr n ↦ ap (λ b. (if b then pos (nat_abs (number_at row c)) else pos 0) *ℤ pos d) (ne_eqb k c n) ∙ away (number_at row c) (number_at row k) d
      ∙ sym (λ i. but_other c k (number_at row) n i *ℤ pos (nat_abs (number_at row c))
      +ℤ (turn k ∙ ap (quotient_numerator (number_at row c)) (get_or-set_other row c k (neg_ℤ (pos d)) (pos 0) n)) i *ℤ number_at row c)
]
  where
    here : (p : ℤ) (d : ℕ) → pos (nat_abs p) *ℤ pos d ≡ pos 0 *ℤ pos (nat_abs p) +ℤ quotient_numerator p (neg_ℤ (pos d)) *ℤ p
    here (pos p) d = up p d ∙ ap (λ z. pos 0 *ℤ pos p +ℤ z *ℤ pos p) (sym (neg_twice (pos d)))
    here (negsuc p) d = up (suc p) d ∙ ap (λ z. pos 0 *ℤ pos (suc p) +ℤ z) (sym (neg_both (pos d) (pos (suc p))))

    away : (p a : ℤ) (d : ℕ) → pos 0 *ℤ pos d ≡ a *ℤ pos (nat_abs p) +ℤ quotient_numerator p a *ℤ p
    away (pos p) a d = rw (is_diff a) (simp (diff-mul, diff-add, diff-neg, diff-pos) (diff-same _ _ _ _ (omega arith)))
    away (negsuc p) a d = apart a (pos (suc p)) d ∙ ap (λ z. a *ℤ pos (suc p) +ℤ z) (sym (*ℤ_comm a (neg_ℤ (pos (suc p))) ∙ neg-mul_ℤ (pos (suc p)) a ∙ ap neg_ℤ (*ℤ_comm (pos (suc p)) a)))
      where
        apart : (a p : ℤ) (d : ℕ) → pos 0 *ℤ pos d ≡ a *ℤ p +ℤ neg_ℤ (a *ℤ p)
        apart a p d = omega (arith, ints)

-- ---- sizes
pub numerator_within : (d most k : ℕ) (row : List ℤ) (s : Position) → d ≤ most → IsWithin most row → nat_abs (numerator_of d row s k) ≤ most
numerator_within d most k row InBasis h w = w k
numerator_within d most k row (InColumn j) h w = by_test (nat_eq k j)
  where
    by_test : (t : Bool) → nat_abs (if t then pos d else pos 0) ≤ most
    by_test true = h
    by_test false = omega arith

-- a combination is at most as large as its coefficients together times the greatest number
pub combined_within : (d most k : ℕ) (cs : List ℤ) (ss : List Position) (ls : List (List ℤ)) → d ≤ most → ((j : ℕ) → IsWithin most (get_or ls j []))
    → nat_abs (combined d cs ss ls k) ≤ total_size cs * most
combined_within d most k [] ss ls h w = omega arith
combined_within d most k (c ∷ cs) [] ls h w = omega arith
combined_within d most k (c ∷ cs) (s ∷ ss) [] h w = omega arith
combined_within d most k (c ∷ cs) (s ∷ ss) (l ∷ ls) h w =
    omega (arith, size (c *ℤ numerator_of d l s k) (combined d cs ss ls k), unsigned_abs-mul c (numerator_of d l s k), mul-le-mul_left (nat_abs c) (numerator_within d most k l s h (w zero)), combined_within d most k cs ss ls h (λ j. w (suc j)))
  where
    size : (a b : ℤ) → nat_abs (a +ℤ b) ≤ nat_abs a + nat_abs b
    size a b = omega (arith, ints)

-- ---- as a row
pub length-numbers_from : (k n : ℕ) (f : ℕ → ℤ) → length (numbers_from k n f) ≡ n
length-numbers_from k zero f = refl
length-numbers_from k (suc n) f = ap suc (length-numbers_from (suc k) n f)

pub number_at-numbers_from : (k n : ℕ) (f : ℕ → ℤ) (j : ℕ) → j < n → number_at (numbers_from k n f) j ≡ f (k + j)
number_at-numbers_from k zero f j l = absurd (omega arith)
number_at-numbers_from k (suc n) f zero l = ap f (omega arith)
number_at-numbers_from k (suc n) f (suc j) l = number_at-numbers_from (suc k) n f j (omega arith) ∙ ap f (omega arith)

-- past the last column nothing is said
pub combined_past : (d k : ℕ) (cs : List ℤ) (ss : List Position) (ls : List (List ℤ)) → ((j : ℕ) → numerator_of d (get_or ls j []) (get_or ss j InBasis) k ≡ pos 0) → combined d cs ss ls k ≡ pos 0
combined_past d k [] ss ls h = refl
combined_past d k (c ∷ cs) [] ls h = refl
combined_past d k (c ∷ cs) (s ∷ ss) [] h = refl
combined_past d k (c ∷ cs) (s ∷ ss) (l ∷ ls) h = (λ i. c *ℤ h zero i +ℤ combined_past d k cs ss ls (λ j. h (suc j)) i) ∙ none c
  where
    none : (c : ℤ) → c *ℤ pos 0 +ℤ pos 0 ≡ pos 0
    none c = omega (arith, ints)

numerator_past : (d n k : ℕ) (row : List ℤ) (s : Position) → n ≤ k → length row ≤ n → ((j : ℕ) → s ≡ InColumn j → j < n) → numerator_of d row s k ≡ pos 0
numerator_past d n k row InBasis h l w = get_or_past row k (pos 0) (omega arith)
numerator_past d n k row (InColumn j) h l w = ap (λ b. if b then pos d else pos 0) (ne_eqb k j (let m = w j refl in omega arith))

-- what the row of a combination has in a column
pub combined_row_in : (d : ℕ) (cs : List ℤ) (ss : List Position) (ls : List (List ℤ)) (k : ℕ) → k < length ls → number_at (combined_row d ss ls cs) k ≡ combined d cs ss ls k
combined_row_in d cs ss ls k l = number_at-numbers_from 0 (length ls) (combined d cs ss ls) k l ∙ ap (combined d cs ss ls) (let q : 0 + k ≡ k = omega arith in q)

pub combined_row_at : (d : ℕ) (cs : List ℤ) (ss : List Position) (ls : List (List ℤ)) → ((j : ℕ) → length (get_or ls j []) ≤ length ls)
    → ((j k : ℕ) → get_or ss j InBasis ≡ InColumn k → k < length ls) → (k : ℕ) → number_at (combined_row d ss ls cs) k ≡ combined d cs ss ls k
combined_row_at d cs ss ls h w k = elim (cases_lt k (length ls)) [
  | inl l ↦ combined_row_in d cs ss ls k l
  | inr l ↦ get_or_past (combined_row d ss ls cs) k (pos 0) (omega (arith, l, length-numbers_from 0 (length ls) (combined d cs ss ls)))
      ∙ sym (combined_past d k cs ss ls (λ j. numerator_past d (length ls) k (get_or ls j []) (get_or ss j InBasis) l (h j) (w j)))
]

-- the numbers of a combination have at most the size of what is said of each column
pub combined_row_within : (d most : ℕ) (cs : List ℤ) (ss : List Position) (ls : List (List ℤ)) → ((k : ℕ) → nat_abs (combined d cs ss ls k) ≤ most) → IsWithin most (combined_row d ss ls cs)
combined_row_within d most cs ss ls h k = elim (cases_lt k (length ls)) [
  | inl l ↦ subst (λ z. nat_abs z ≤ most) (sym (combined_row_in d cs ss ls k l)) (h k)
  | inr l ↦ subst (λ z. nat_abs z ≤ most) (sym (get_or_past (combined_row d ss ls cs) k (pos 0) (omega (arith, l, length-numbers_from 0 (length ls) (combined d cs ss ls))))) (omega arith)
]

-- its numbers are small where the weight and the numbers of the columns are
pub combination_small : (d weight : ℕ) (cs : List ℤ) (ss : List Position) (ls : List (List ℤ)) → total_size cs ≤ weight
    → (most : ℕ) × (d ≤ most) × ((v : ℕ) → v < length ls → IsWithin most (get_or ls v [])) × (weight * most < size_limit) → IsWithin (size_limit - 1) (combined_row d ss ls cs)
combination_small d weight cs ss ls light (most, d_small, small, fits) =
    combined_row_within d (size_limit - 1) cs ss ls (λ k. below (total_size cs) weight most (nat_abs (combined d cs ss ls k)) light fits (combined_within d most k cs ss ls d_small each))
  where
    each : (j : ℕ) → IsWithin most (get_or ls j [])
    each j = elim (cases_lt j (length ls)) [
      | inl l ↦ small j l
      | inr l ↦ subst (IsWithin most) (sym (get_or_past ls j [] l)) (λ k. omega arith)
    ]

    below : (t w m x : ℕ) → t ≤ w → w * m < size_limit → x ≤ t * m → x ≤ size_limit - 1
    below t w m x l f h = omega (arith, f, h, mul-le-mul_right m l)
