-- Steps of the loops over the entries of a combination.
use Rattle.std.proofs.Common.{◌≡◌, ℕ, suc, ◌+◌, ◌*◌, ◌^◌, ◌<◌, ◌≤◌, arith, refl, ap, sym, ◌∙◌, subst, List, length, set, drop, drop-cons, true, false, inl, inr, get_or-set_same, get_or-set_other}
use Rattle.std.specs.Prelude.{ℤ, pos, nat_abs, nat_eq, ◌+ℤ◌, ◌*ℤ◌, ◌<ℤ◌, if◌then◌else◌}
use Rattle.std.proofs.Math.Nat.{mul-le-mul_left, mul-le-mul_right}
use Rattle.std.proofs.lemmas.Int.{ints, unsigned_abs-mul}
use Rattle.std.proofs.lemmas.Bool.{cases_eq}
use Rattle.std.proofs.lemmas.Bool.Decides.{nat_tests}
use Rattle.std.proofs.lemmas.List.{drop_all}
use Rattle.integer_tableau.proofs.EntrySums.{no_entry, entry_at, entry_sum}
use Rattle.integer_tableau.specs.Combined.{value_numerator}
use Rattle.integer_tableau.specs.Entries.{entry_size}
use Rattle.integer_tableau.specs.Numbers.{number_at}
use Rattle.integer_tableau.specs.declared.position.Position.{Position}
use Rattle.integer_tableau.specs.declared.position.Position.TheVariants.{InBasis, InColumn}
use Rattle.integer_tableau.specs.declared.program_row.ProgramEntry.{ProgramEntry}

-- ---- an entry more
pub sum_unfolds : (f : ℕ → ℤ) (es : List ProgramEntry) (i : ℕ) → i < length es → entry_sum f (drop i es) ≡ (entry_at es i).number *ℤ f (entry_at es i).place +ℤ entry_sum f (drop (i + 1) es)
sum_unfolds f es i l = ap (entry_sum f) (drop-cons es i no_entry l)
    ∙ ap (λ k. (entry_at es i).number *ℤ f (entry_at es i).place +ℤ entry_sum f (drop k es)) (let e : suc i ≡ i + 1 = omega arith in e)

pub size_unfolds : (es : List ProgramEntry) (i : ℕ) → i < length es → entry_size (drop i es) ≡ nat_abs (entry_at es i).number + entry_size (drop (i + 1) es)
size_unfolds es i l = ap entry_size (drop-cons es i no_entry l)
    ∙ ap (λ k. nat_abs (entry_at es i).number + entry_size (drop k es)) (let e : suc i ≡ i + 1 = omega arith in e)

-- nothing is added yet
pub none_added : (total rest : ℤ) → total ≡ pos 0 → total +ℤ rest ≡ rest
none_added total rest e = omega (arith, ints, e)

-- nothing more is to be added
pub all_added : (f : ℕ → ℤ) (es : List ProgramEntry) (i : ℕ) (total : ℤ) → length es ≤ i → total ≡ total +ℤ entry_sum f (drop i es)
all_added f es i total h = sym (ap (λ es. total +ℤ entry_sum f es) (drop_all i es h) ∙ none total)
  where
    none : (t : ℤ) → t +ℤ pos 0 ≡ t
    none t = omega (arith, ints)

-- so far a sum is `total`, and `rest` is to come, of coefficients of the size `left` together; each number is at most `most` in size
pub record IsSoFar (total rest all : ℤ) (left whole most : ℕ) : Type 0 where
  pub sum : total +ℤ rest ≡ all
  pub size : nat_abs total + most * left ≤ most * whole

pub at_first : (rest : ℤ) (left most : ℕ) → IsSoFar (pos 0) rest rest left left most
at_first rest left most = record { sum = none_added (pos 0) rest refl; size = omega arith }

pub fits_so_far : (total rest all : ℤ) (left whole most : ℕ) → IsSoFar total rest all left whole most → most * whole < 2 ^ 127 → nat_abs total < 2 ^ 127
fits_so_far total rest all left whole most h light = omega (arith, h.size, light)

next_term : (most : ℕ) (total p z x rest all : ℤ) (left whole : ℕ) → total +ℤ (z *ℤ x +ℤ rest) ≡ all → nat_abs total + most * (nat_abs z + left) ≤ most * whole
    → nat_abs x ≤ most → p ≡ z *ℤ x → IsSoFar (total +ℤ p) rest all left whole most
next_term most total p z x rest all left whole sum size small is = record {
  sum = assoc total p rest ∙ ap (λ q. total +ℤ (q +ℤ rest)) is ∙ sum;
  size = omega (arith, size, add_size total p, ap nat_abs is ∙ unsigned_abs-mul z x, mul-le-mul_right (nat_abs z) small);
}
  where
    assoc : (a b c : ℤ) → (a +ℤ b) +ℤ c ≡ a +ℤ (b +ℤ c)
    assoc a b c = omega (arith, ints)

    add_size : (a b : ℤ) → nat_abs (a +ℤ b) ≤ nat_abs a + nat_abs b
    add_size a b = omega (arith, ints)

pub next_entry : (most : ℕ) (f : ℕ → ℤ) (es : List ProgramEntry) (i : ℕ) (total p : ℤ) → i < length es → nat_abs (f (entry_at es i).place) ≤ most
    → IsSoFar total (entry_sum f (drop i es)) (entry_sum f es) (entry_size (drop i es)) (entry_size es) most → p ≡ (entry_at es i).number *ℤ f (entry_at es i).place
    → IsSoFar (total +ℤ p) (entry_sum f (drop (i + 1) es)) (entry_sum f es) (entry_size (drop (i + 1) es)) (entry_size es) most
next_entry most f es i total p l small h is =
    next_term most total p (entry_at es i).number (f (entry_at es i).place) (entry_sum f (drop (i + 1) es)) (entry_sum f es) (entry_size (drop (i + 1) es)) (entry_size es)
    (ap (λ z. total +ℤ z) (sym (sum_unfolds f es i l)) ∙ h.sum)
    (subst (λ n. nat_abs total + most * n ≤ most * entry_size es) (size_unfolds es i l) h.size) small is

-- a product more fits
pub product_fits : (total p z x : ℤ) (most : ℕ) → nat_abs total + most * nat_abs z < 2 ^ 126 → nat_abs x ≤ most → p ≡ z *ℤ x → nat_abs (total +ℤ p) < 2 ^ 127
product_fits total p z x most room small is = omega (arith, room, size total p, ap nat_abs is ∙ unsigned_abs-mul z x, mul-le-mul_right (nat_abs z) small)
  where
    size : (a b : ℤ) → nat_abs (a +ℤ b) ≤ nat_abs a + nat_abs b
    size a b = omega (arith, ints)

pub room_so_far : (es : List ProgramEntry) (i : ℕ) (total rest all : ℤ) (most : ℕ) → i < length es → IsSoFar total rest all (entry_size (drop i es)) (entry_size es) most → most * entry_size es < 2 ^ 126
    → nat_abs total + most * nat_abs (entry_at es i).number < 2 ^ 126
room_so_far es i total rest all most l h light =
    omega (arith, h.size, light, mul-le-mul_left most (let g : nat_abs (entry_at es i).number ≤ entry_size (drop i es) = omega (arith, size_unfolds es i l) in g))

-- the value of a column is small
pub value_size : (d : ℤ) (s : Position) (x v : ℤ) → nat_abs x * nat_abs d < 2 ^ 63 → nat_abs v ≤ 2 ^ 63 → nat_abs (value_numerator d s x v) ≤ 2 ^ 63
value_size d InBasis x v h l = l
value_size d (InColumn k) x v h l = omega (arith, unsigned_abs-mul x d, h)

-- a column is added to the sum
pub column_more : (f : ℕ → ℤ) (es : List ProgramEntry) (i : ℕ) (old new all : ℤ) → i < length es → old +ℤ entry_sum f (drop i es) ≡ all
    → new ≡ old +ℤ (entry_at es i).number *ℤ f (entry_at es i).place → new +ℤ entry_sum f (drop (i + 1) es) ≡ all
column_more f es i old new all l sum is =
    ap (λ z. z +ℤ entry_sum f (drop (i + 1) es)) is ∙ assoc old ((entry_at es i).number *ℤ f (entry_at es i).place) (entry_sum f (drop (i + 1) es))
    ∙ ap (λ z. old +ℤ z) (sym (sum_unfolds f es i l)) ∙ sum
  where
    assoc : (a b c : ℤ) → (a +ℤ b) +ℤ c ≡ a +ℤ (b +ℤ c)
    assoc a b c = omega (arith, ints)

-- ---- a column's product
-- a product is added to one number of the sum
pub product_more : (sum : List ℤ) (column k : ℕ) (next factor d : ℤ) → column < length sum → pos 0 <ℤ d → next ≡ number_at sum column +ℤ factor *ℤ d
    → number_at (set sum column next) k ≡ number_at sum k +ℤ factor *ℤ (if nat_eq k column then pos (nat_abs d) else pos 0)
product_more sum column k next factor d l o is = elim (cases_eq k column) [
  | inl p ↦ ap (number_at (set sum column next)) p ∙ get_or-set_same sum column next (pos 0) l ∙ is
      ∙ sym (λ i. number_at sum (p i) +ℤ factor *ℤ (ap (λ b. if b then pos (nat_abs d) else pos 0) (same p) ∙ size d o) i)
  | inr n ↦ get_or-set_other sum column k next (pos 0) n ∙ none (number_at sum k) factor
      ∙ ap (λ b. number_at sum k +ℤ factor *ℤ (if b then pos (nat_abs d) else pos 0)) (sym (other n))
]
  where
    same : k ≡ column → nat_eq k column ≡ true
    same p = grind (arith, nat_tests)

    other : (k ≡ column → ⊥) → nat_eq k column ≡ false
    other n = grind (arith, nat_tests)

    size : (d : ℤ) → pos 0 <ℤ d → pos (nat_abs d) ≡ d
    size d o = omega (arith, ints)

    none : (y f : ℤ) → y ≡ y +ℤ f *ℤ pos 0
    none y f = omega (arith, ints)
