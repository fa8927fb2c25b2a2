-- Rows of a linear program by their entries: a sum over these is the sum over the whole row, since the other coefficients are 0.
use Rattle.std.proofs.Common.{◌≡◌, ℕ, zero, suc, ◌+◌, ◌<◌, ◌≤◌, arith, refl, ap, sym, ◌∙◌, subst, List, [], ◌∷◌, length, get_or, inl, inr}
use Rattle.std.specs.Prelude.{ℤ, pos, nat_abs, ◌+ℤ◌, ◌*ℤ◌, if◌then◌else◌}
use Rattle.std.proofs.lemmas.Int.{ints}
use Rattle.std.proofs.lemmas.Bool.{cases_eq, eq-eqb, ne_eqb}
use Rattle.integer_tableau.specs.Combined.{combined, combined_value, numerator_of, value_numerator}
use Rattle.integer_tableau.specs.Entries.{spread, RiseWithin, AreEntries, entry_size}
use Rattle.integer_tableau.specs.Numbers.{IsWithin, number_at, total_size}
use Rattle.integer_tableau.specs.Positions.{products}
use Rattle.integer_tableau.specs.declared.position.Position.{Position}
use Rattle.integer_tableau.specs.declared.position.Position.TheVariants.{InBasis}
use Rattle.integer_tableau.specs.declared.program_row.ProgramEntry.{ProgramEntry}

-- past the end
abbrev pub no_entry : ProgramEntry
no_entry = record { place = 0; number = pos 0 }

abbrev pub entry_at : List ProgramEntry → ℕ → ProgramEntry
entry_at es i = get_or es i no_entry

-- ---- sums
-- of coefficient times f at its place, of coefficients from place j on
abbrev pub sum_at : (ℕ → ℤ) → ℕ → List ℤ → ℤ
sum_at f j [] = pos 0
sum_at f j (c ∷ cs) = c *ℤ f j +ℤ sum_at f (suc j) cs

abbrev pub entry_sum : (ℕ → ℤ) → List ProgramEntry → ℤ
entry_sum f [] = pos 0
entry_sum f (e ∷ es) = e.number *ℤ f e.place +ℤ entry_sum f es

no_term : (x y : ℤ) → pos 0 *ℤ x +ℤ y ≡ y
no_term x y = omega (arith, ints)

-- ---- the whole row
pub entry_first : (j n : ℕ) (e : ProgramEntry) (es : List ProgramEntry) → e.place ≡ j → spread j (suc n) (e ∷ es) ≡ e.number ∷ spread (suc j) n es
entry_first j n e es p = ap (λ b. if b then e.number ∷ spread (suc j) n es else pos 0 ∷ spread (suc j) n (e ∷ es)) (eq-eqb e.place j p)

pub entry_later : (j n : ℕ) (e : ProgramEntry) (es : List ProgramEntry) → (e.place ≡ j → ⊥) → spread j (suc n) (e ∷ es) ≡ pos 0 ∷ spread (suc j) n (e ∷ es)
entry_later j n e es p = ap (λ b. if b then e.number ∷ spread (suc j) n es else pos 0 ∷ spread (suc j) n (e ∷ es)) (ne_eqb e.place j p)

pub length-spread : (j n : ℕ) (es : List ProgramEntry) → length (spread j n es) ≡ n
length-spread j zero es = refl
length-spread j (suc n) [] = omega (arith, length-spread (suc j) n [])
length-spread j (suc n) (e ∷ es) = elim (cases_eq e.place j) [
  | inl p ↦ omega (arith, ap length (entry_first j n e es p), length-spread (suc j) n es)
  | inr p ↦ omega (arith, ap length (entry_later j n e es p), length-spread (suc j) n (e ∷ es))
]

sum_is : (f : ℕ → ℤ) (j n w : ℕ) (es : List ProgramEntry) → j + n ≡ w → RiseWithin j w es → sum_at f j (spread j n es) ≡ entry_sum f es
sum_is f j zero w [] q r = refl
sum_is f j zero w (e ∷ es) q r = absurd (omega (arith, q, r.0, r.1))
sum_is f j (suc n) w [] q r = no_term (f j) (sum_at f (suc j) (spread (suc j) n [])) ∙ sum_is f (suc j) n w [] (omega (arith, q)) tt
sum_is f j (suc n) w (e ∷ es) q r = elim (cases_eq e.place j) [
  | inl p ↦ ap (sum_at f j) (entry_first j n e es p)
      ∙ (λ i. e.number *ℤ f (sym p i) +ℤ sum_is f (suc j) n w es (omega (arith, q)) (subst (λ k. RiseWithin (suc k) w es) p r.2) i)
  | inr p ↦ ap (sum_at f j) (entry_later j n e es p) ∙ no_term (f j) (sum_at f (suc j) (spread (suc j) n (e ∷ es)))
      ∙ sum_is f (suc j) n w (e ∷ es) (omega (arith, q)) (omega (arith, p, r.0), r.1, r.2)
]

size_is : (j n w : ℕ) (es : List ProgramEntry) → j + n ≡ w → RiseWithin j w es → total_size (spread j n es) ≡ entry_size es
size_is j zero w [] q r = refl
size_is j zero w (e ∷ es) q r = absurd (omega (arith, q, r.0, r.1))
size_is j (suc n) w [] q r = omega (arith, size_is (suc j) n w [] (omega (arith, q)) tt)
size_is j (suc n) w (e ∷ es) q r = elim (cases_eq e.place j) [
  | inl p ↦ ap total_size (entry_first j n e es p) ∙ ap (λ m. nat_abs e.number + m) (size_is (suc j) n w es (omega (arith, q)) (subst (λ k. RiseWithin (suc k) w es) p r.2))
  | inr p ↦ ap total_size (entry_later j n e es p) ∙ none (total_size (spread (suc j) n (e ∷ es))) ∙ size_is (suc j) n w (e ∷ es) (omega (arith, q)) (omega (arith, p, r.0), r.1, r.2)
]
  where
    none : (m : ℕ) → nat_abs (pos 0) + m ≡ m
    none m = omega arith

pub spread_within : (top j n : ℕ) (es : List ProgramEntry) → ((i : ℕ) → i < length es → nat_abs (entry_at es i).number ≤ top) → IsWithin top (spread j n es)
spread_within top j zero es h k = omega arith
spread_within top j (suc n) [] h zero = omega arith
spread_within top j (suc n) [] h (suc k) = spread_within top (suc j) n [] h k
spread_within top j (suc n) (e ∷ es) h zero = elim (cases_eq e.place j) [
  | inl p ↦ subst (λ xs. nat_abs (number_at xs 0) ≤ top) (sym (entry_first j n e es p)) (h 0 (omega arith))
  | inr p ↦ subst (λ xs. nat_abs (number_at xs 0) ≤ top) (sym (entry_later j n e es p)) (omega arith)
]
spread_within top j (suc n) (e ∷ es) h (suc k) = elim (cases_eq e.place j) [
  | inl p ↦ subst (λ xs. nat_abs (number_at xs (suc k)) ≤ top) (sym (entry_first j n e es p)) (spread_within top (suc j) n es (λ i l. h (suc i) (omega (arith, l))) k)
  | inr p ↦ subst (λ xs. nat_abs (number_at xs (suc k)) ≤ top) (sym (entry_later j n e es p)) (spread_within top (suc j) n (e ∷ es) h k)
]

place_below : (j n : ℕ) (es : List ProgramEntry) → RiseWithin j n es → (i : ℕ) → i < length es → (entry_at es i).place < n
place_below j n [] r i l = absurd (omega (arith, l))
place_below j n (e ∷ es) r zero l = r.1
place_below j n (e ∷ es) r (suc i) l = place_below (suc e.place) n es r.2 i (omega (arith, l))

module _ (cs : List ℤ) (es : List ProgramEntry) (are : AreEntries cs es) where
  pub whole_sum : (f : ℕ → ℤ) → entry_sum f es ≡ sum_at f 0 cs
  whole_sum f = sym (ap (sum_at f 0) are.numbers ∙ sum_is f 0 (length cs) (length cs) es (omega arith) are.rising)

  pub whole_size : entry_size es ≡ total_size cs
  whole_size = sym (ap total_size are.numbers ∙ size_is 0 (length cs) (length cs) es (omega arith) are.rising)

  pub whole_within : (top : ℕ) → ((i : ℕ) → i < length es → nat_abs (entry_at es i).number ≤ top) → IsWithin top cs
  whole_within top h = subst (IsWithin top) (sym are.numbers) (spread_within top 0 (length cs) es h)

pub are_entries : (width : ℕ) (es : List ProgramEntry) → RiseWithin 0 width es → AreEntries (spread 0 width es) es
are_entries width es r = record {
  rising = subst (λ n. RiseWithin 0 n es) (sym (length-spread 0 width es)) r;
  numbers = ap (λ n. spread 0 n es) (sym (length-spread 0 width es));
  within = λ i l. omega (arith, length-spread 0 width es, place_below 0 width es r i l);
}

-- ---- what is summed
combined_from : (f : ℕ → ℤ) (j d : ℕ) (cs : List ℤ) (ss : List Position) (ls : List (List ℤ)) (k : ℕ) → length cs ≤ length ss → length ls ≡ length cs
    → ((i : ℕ) → i < length cs → f (j + i) ≡ numerator_of d (get_or ls i []) (get_or ss i InBasis) k) → sum_at f j cs ≡ combined d cs ss ls k
combined_from f j d [] ss ls k m n h = refl
combined_from f j d (c ∷ cs) [] ls k m n h = absurd (omega (arith, m))
combined_from f j d (c ∷ cs) (s ∷ ss) [] k m n h = absurd (omega (arith, n))
combined_from f j d (c ∷ cs) (s ∷ ss) (l ∷ ls) k m n h =
    λ i. c *ℤ (ap f (let e : j ≡ j + 0 = omega arith in e) ∙ h 0 (omega arith)) i
    +ℤ combined_from f (suc j) d cs ss ls k (omega (arith, m)) (omega (arith, n)) (λ i l. ap f (let e : suc j + i ≡ j + suc i = omega arith in e) ∙ h (suc i) (omega (arith, l))) i

value_from : (f : ℕ → ℤ) (j : ℕ) (d : ℤ) (cs : List ℤ) (ss : List Position) (xs vs : List ℤ) → length cs ≤ length ss → length cs ≤ length xs → length vs ≡ length cs
    → ((i : ℕ) → i < length cs → f (j + i) ≡ value_numerator d (get_or ss i InBasis) (number_at xs i) (number_at vs i)) → sum_at f j cs ≡ combined_value d cs ss xs vs
value_from f j d [] ss xs vs m n o h = refl
value_from f j d (c ∷ cs) [] xs vs m n o h = absurd (omega (arith, m))
value_from f j d (c ∷ cs) (s ∷ ss) [] vs m n o h = absurd (omega (arith, n))
value_from f j d (c ∷ cs) (s ∷ ss) (x ∷ xs) [] m n o h = absurd (omega (arith, o))
value_from f j d (c ∷ cs) (s ∷ ss) (x ∷ xs) (v ∷ vs) m n o h =
    λ i. c *ℤ (ap f (let e : j ≡ j + 0 = omega arith in e) ∙ h 0 (omega arith)) i
    +ℤ value_from f (suc j) d cs ss xs vs (omega (arith, m)) (omega (arith, n)) (omega (arith, o)) (λ i l. ap f (let e : suc j + i ≡ j + suc i = omega arith in e) ∙ h (suc i) (omega (arith, l))) i

products_from : (f : ℕ → ℤ) (j : ℕ) (cs xs : List ℤ) → length xs ≡ length cs → ((i : ℕ) → i < length cs → f (j + i) ≡ number_at xs i) → sum_at f j cs ≡ products cs xs
products_from f j [] xs m h = refl
products_from f j (c ∷ cs) [] m h = absurd (omega (arith, m))
products_from f j (c ∷ cs) (x ∷ xs) m h =
    λ i. c *ℤ (ap f (let e : j ≡ j + 0 = omega arith in e) ∙ h 0 (omega arith)) i
    +ℤ products_from f (suc j) cs xs (omega (arith, m)) (λ i l. ap f (let e : suc j + i ≡ j + suc i = omega arith in e) ∙ h (suc i) (omega (arith, l))) i

-- what the column at each place says of the variable in column k
abbrev pub said_of : ℕ → List Position → List (List ℤ) → ℕ → ℕ → ℤ
said_of d ss ls k j = numerator_of d (get_or ls j []) (get_or ss j InBasis) k

-- the value at each place
abbrev pub value_over : ℤ → List Position → List ℤ → List ℤ → ℕ → ℤ
value_over d ss xs vs j = value_numerator d (get_or ss j InBasis) (number_at xs j) (number_at vs j)

from_zero : (f : ℕ → ℤ) (i : ℕ) → f (0 + i) ≡ f i
from_zero f i = ap f (let e : 0 + i ≡ i = omega arith in e)

module _ (cs : List ℤ) (es : List ProgramEntry) (are : AreEntries cs es) where
  pub combined_is : (d : ℕ) (ss : List Position) (ls : List (List ℤ)) (k : ℕ) → length cs ≤ length ss → length ls ≡ length cs → entry_sum (said_of d ss ls k) es ≡ combined d cs ss ls k
  combined_is d ss ls k m n = whole_sum cs es are (said_of d ss ls k) ∙ combined_from (said_of d ss ls k) 0 d cs ss ls k m n (λ i l. from_zero (said_of d ss ls k) i)

  pub value_is : (d : ℤ) (ss : List Position) (xs vs : List ℤ) → length cs ≤ length ss → length cs ≤ length xs → length vs ≡ length cs → entry_sum (value_over d ss xs vs) es ≡ combined_value d cs ss xs vs
  value_is d ss xs vs m n o = whole_sum cs es are (value_over d ss xs vs) ∙ value_from (value_over d ss xs vs) 0 d cs ss xs vs m n o (λ i l. from_zero (value_over d ss xs vs) i)

  pub products_are : (xs : List ℤ) → length xs ≡ length cs → entry_sum (number_at xs) es ≡ products cs xs
  products_are xs m = whole_sum cs es are (number_at xs) ∙ products_from (number_at xs) 0 cs xs m (λ i l. from_zero (number_at xs) i)
