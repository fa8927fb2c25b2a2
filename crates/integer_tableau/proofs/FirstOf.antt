-- The candidate that comes first, of those at so many places: it is one alone, in whatever order the places are gone through.
use Rattle.std.proofs.Common.{◌≡◌, ℕ, ◌+◌, ◌*◌, ◌<◌, ◌≤◌, arith, refl, ap, sym, subst, ◌∙◌, ◌⊎◌, inl, inr, Bool, true, false, Some, None, Option, below_more}
use Rattle.std.specs.Prelude.{pos, nat_eq, nat_lt, int_lt, ◌&&◌, ◌||◌, if◌then◌else◌}
use Rattle.std.specs.Option.{IfSome}
use Rattle.std.proofs.lemmas.Bool.Decides.{nat_tests}
use Rattle.std.proofs.lemmas.Int.{ints}
use Rattle.std.proofs.Math.Nat.{eq-or-lt_of_le, le_antisymm, le_of_mul-le-mul_right, mul-le-mul_right}
use Rattle.integer_tableau.specs.Entering.{comes_first, first_of}
use Rattle.integer_tableau.specs.declared.entering.Candidate.{Candidate}

-- ---- the order
-- b is no later than c
abbrev pub Precedes : Candidate → Candidate → Type 0
Precedes b c = (b.reduced_cost * c.coefficient < c.reduced_cost * b.coefficient)
    ⊎ ((b.reduced_cost * c.coefficient ≡ c.reduced_cost * b.coefficient) × (b.variable ≤ c.variable))

pub itself : (b : Candidate) → Precedes b b
itself b = inr (refl, omega arith)

pub by_test_true : (p q m n : ℕ) → (int_lt (pos p) (pos q) || (nat_eq p q && nat_lt m n)) ≡ true → (p < q) ⊎ ((p ≡ q) × (m ≤ n))
by_test_true p q m n e = grind (arith, ints, nat_tests)

pub by_test_false : (p q m n : ℕ) → (int_lt (pos p) (pos q) || (nat_eq p q && nat_lt m n)) ≡ false → (q < p) ⊎ ((q ≡ p) × (n ≤ m))
by_test_false p q m n e = grind (arith, ints, nat_tests)

-- of ratios x/u ≤ y/v ≤ z/w
module _ (x u y v z w : ℕ) (v_there : 0 < v) (first : x * v ≤ y * u) (second : y * w ≤ z * v) where
  ratios : x * w ≤ z * u
  ratios = le_of_mul-le-mul_right (let q : x * w * v ≤ z * u * v = omega (arith, mul-le-mul_right w first, mul-le-mul_right u second) in q) v_there

  same_first : x * w ≡ z * u → 0 < w → x * v ≡ y * u
  same_first e o = le_antisymm first (le_of_mul-le-mul_right (let q : y * u * w ≤ x * v * w = omega (arith, mul-le-mul_right u second, ap (λ n. n * v) e) in q) o)

  same_second : x * w ≡ z * u → 0 < u → y * w ≡ z * v
  same_second e o = le_antisymm second (le_of_mul-le-mul_right (let q : z * v * u ≤ y * w * u = omega (arith, mul-le-mul_right w first, ap (λ n. n * v) e) in q) o)

no_later : (b c : Candidate) → Precedes b c → b.reduced_cost * c.coefficient ≤ c.reduced_cost * b.coefficient
no_later b c h = elim h [
  | inl l ↦ omega (arith, l)
  | inr e ↦ omega (arith, e.0)
]

and_number : (b c : Candidate) → Precedes b c → b.reduced_cost * c.coefficient ≡ c.reduced_cost * b.coefficient → b.variable ≤ c.variable
and_number b c h e = elim h [
  | inl l ↦ absurd (omega (arith, l, e))
  | inr e ↦ e.1
]

pub onward : (a b c : Candidate) → 0 < a.coefficient → 0 < b.coefficient → 0 < c.coefficient → Precedes a b → Precedes b c → Precedes a c
onward a b c oa ob oc h k =
    let first = no_later a b h in
    let second = no_later b c k in
    elim (eq-or-lt_of_le (ratios a.reduced_cost a.coefficient b.reduced_cost b.coefficient c.reduced_cost c.coefficient ob first second)) [
      | inl e ↦ inr (
        e,
        omega (
          arith,
          and_number a b h (same_first a.reduced_cost a.coefficient b.reduced_cost b.coefficient c.reduced_cost c.coefficient ob first second e oc),
          and_number b c k (same_second a.reduced_cost a.coefficient b.reduced_cost b.coefficient c.reduced_cost c.coefficient ob first second e oa),
        ),
      )
      | inr l ↦ inl l
    ]

antisymmetric : (b c : Candidate) → Precedes b c → Precedes c b → b.variable ≡ c.variable
antisymmetric b c h k = elim h [
  | inl l ↦ absurd (omega (arith, l, no_later c b k))
  | inr e ↦ omega (arith, e.1, and_number c b k (sym e.0))
]

-- ---- the first of those at n places
abbrev pub IsFirst : (ℕ → Option Candidate) → ℕ → Option Candidate → Type 0
IsFirst f n None = (i : ℕ) → i < n → f i ≡ None
IsFirst f n (Some b) = ((i : ℕ) × (i < n) × (f i ≡ Some b)) × ((i : ℕ) → i < n → IfSome (f i) (Precedes b))

module _ (f : ℕ → Option Candidate) (have : (i : ℕ) → IfSome (f i) (λ b. 0 < b.coefficient)) (n : ℕ) where
  coefficient_there : (i : ℕ) (b : Candidate) → f i ≡ Some b → 0 < b.coefficient
  coefficient_there i b e = subst (λ o. IfSome o (λ b. 0 < b.coefficient)) e (have i)

  stays : (best o : Option Candidate) → o ≡ f n → IsFirst f n best → IsFirst f (n + 1) (first_of o best)
  stays None None e h = below_more (λ i. f i ≡ None) n h (sym e)
  stays (Some b) None e h = ((h.0.0, omega (arith, h.0.1), h.0.2), below_more (λ i. IfSome (f i) (Precedes b)) n h.1 (subst (λ o. IfSome o (Precedes b)) e tt))
  stays None (Some a) e h = (
    (n, omega arith, sym e),
    below_more (λ i. IfSome (f i) (Precedes a)) n (λ i l. subst (λ o. IfSome o (Precedes a)) (sym (h i l)) tt) (subst (λ o. IfSome o (Precedes a)) e (itself a)),
  )
  stays (Some b) (Some a) e h = by_test (comes_first a b) refl
    where
      after : Precedes a b → (i : ℕ) (o : Option Candidate) → f i ≡ o → IfSome o (Precedes b) → IfSome o (Precedes a)
      after p i None q k = tt
      after p i (Some c) q k = onward a b c (coefficient_there n a (sym e)) (coefficient_there h.0.0 b h.0.2) (coefficient_there i c q) p k

      by_test : (t : Bool) → comes_first a b ≡ t → IsFirst f (n + 1) (if t then Some a else Some b)
      by_test true q =
          let p = by_test_true (a.reduced_cost * b.coefficient) (b.reduced_cost * a.coefficient) a.variable b.variable q in
          ((n, omega arith, sym e), below_more (λ i. IfSome (f i) (Precedes a)) n (λ i l. after p i (f i) refl (h.1 i l)) (subst (λ o. IfSome o (Precedes a)) e (itself a)))
      by_test false q =
          let p = by_test_false (a.reduced_cost * b.coefficient) (b.reduced_cost * a.coefficient) a.variable b.variable q in
          ((h.0.0, omega (arith, h.0.1), h.0.2), below_more (λ i. IfSome (f i) (Precedes b)) n h.1 (subst (λ o. IfSome o (Precedes b)) e p))

  pub first_more : (best : Option Candidate) → IsFirst f n best → IsFirst f (n + 1) (first_of (f n) best)
  first_more best h = stays best (f n) refl h

-- ---- it is one alone
-- g has at its places what f has at its own, each at the place of its variable
pub same_first_of : (f g : ℕ → Option Candidate) (n m : ℕ) → ((i : ℕ) → IfSome (f i) (λ b. b.variable ≡ i)) → ((i : ℕ) (b : Candidate) → f i ≡ Some b → (k : ℕ) × (k < m) × (g k ≡ f i))
    → ((k : ℕ) → k < m → (i : ℕ) × (i < n) × (f i ≡ g k)) → (a b : Option Candidate) → IsFirst g m a → IsFirst f n b → a ≡ b
same_first_of f g n m numbered into from None None h k = refl
same_first_of f g n m numbered into from (Some a) None h k =
    let i = from h.0.0 h.0.1 in
    let e : None ≡ Some a = sym (k i.0 i.1) ∙ i.2 ∙ h.0.2 in cc
same_first_of f g n m numbered into from None (Some b) h k =
    let i = into k.0.0 b k.0.2 in
    let e : None ≡ Some b = sym (h i.0 i.1) ∙ i.2 ∙ k.0.2 in cc
same_first_of f g n m numbered into from (Some a) (Some b) h k =
    let i = from h.0.0 h.0.1 in
    let j = into k.0.0 b k.0.2 in
    let at_a : f i.0 ≡ Some a = i.2 ∙ h.0.2 in
    let at_b : g j.0 ≡ Some b = j.2 ∙ k.0.2 in
    let number_a : a.variable ≡ i.0 = subst (λ o. IfSome o (λ b. b.variable ≡ i.0)) at_a (numbered i.0) in
    let number_b : b.variable ≡ k.0.0 = subst (λ o. IfSome o (λ b. b.variable ≡ k.0.0)) k.0.2 (numbered k.0.0) in
    let number : a.variable ≡ b.variable = antisymmetric a b (subst (λ o. IfSome o (Precedes a)) at_b (h.1 j.0 j.1)) (subst (λ o. IfSome o (Precedes b)) at_a (k.1 i.0 i.1)) in
    sym at_a ∙ ap f (sym number_a ∙ number ∙ number_b) ∙ k.0.2
