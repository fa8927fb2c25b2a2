-- The list of the basic columns: what is in it, and what a pivot makes of it.
use Rattle.std.proofs.Common.{◌≡◌, ℕ, zero, suc, ◌+◌, ◌<◌, ◌≤◌, arith, refl, ap, sym, ◌∙◌, subst, List, [], ◌∷◌, length, get_or, set, drop, drop-cons, true, false, inl, inr, get_or-set_other}
use Rattle.std.specs.Prelude.{nat_lt, if◌then◌else◌}
use Rattle.std.specs.List.{insert, remove}
use Rattle.std.proofs.lemmas.Bool.{cases_lt}
use Rattle.std.proofs.lemmas.Bool.Decides.{nat_tests}
use Rattle.std.proofs.lemmas.List.{drop_all, length-set}
use Rattle.integer_tableau.specs.BasicColumns.{basic_exchanged, basic_from, count_below, with_column, without_column}
use Rattle.integer_tableau.specs.declared.position.Position.{Position}
use Rattle.integer_tableau.specs.declared.position.Position.TheVariants.{InBasis, InColumn}

-- ---- the basic columns after a pivot
at_least : (x i n : ℕ) (ss : List Position) → x ≤ i → count_below x (basic_from i n ss) ≡ 0
at_least x i zero ss l = refl
at_least x i (suc n) [] l = refl
at_least x i (suc n) (InBasis ∷ ss) l = ap (λ b. if b then suc (count_below x (basic_from (suc i) n ss)) else 0) (let e : nat_lt i x ≡ false = grind (arith, nat_tests) in e)
at_least x i (suc n) (InColumn k ∷ ss) l = at_least x (suc i) n ss (omega (arith, l))

one_below : (i x : ℕ) (ys : List ℕ) → i < x → count_below x (i ∷ ys) ≡ suc (count_below x ys)
one_below i x ys l = ap (λ b. if b then suc (count_below x ys) else 0) (let e : nat_lt i x ≡ true = grind (arith, nat_tests) in e)

pub column_inserted : (i n x k : ℕ) (ss : List Position) → x < n → x < length ss → get_or ss x InBasis ≡ InColumn k
    → insert (basic_from i n ss) (count_below (i + x) (basic_from i n ss)) (i + x) ≡ basic_from i n (set ss x InBasis)
column_inserted i zero x k ss l m e = absurd (omega (arith, l))
column_inserted i (suc n) x k [] l m e = absurd (omega (arith, m))
column_inserted i (suc n) zero k (InBasis ∷ ss) l m e = absurd (let no : InBasis ≡ InColumn k = e in cc)
column_inserted i (suc n) zero k (InColumn j ∷ ss) l m e =
    (let q : i + 0 ≡ i = omega arith in ap (λ x. insert (basic_from (suc i) n ss) (count_below x (basic_from (suc i) n ss)) x) q)
    ∙ ap (λ c. insert (basic_from (suc i) n ss) c i) (at_least i (suc i) n ss (omega arith))
column_inserted i (suc n) (suc x) k (InBasis ∷ ss) l m e =
    ap (λ c. insert (i ∷ basic_from (suc i) n ss) c (i + suc x)) (one_below i (i + suc x) (basic_from (suc i) n ss) (omega arith))
    ∙ ap (λ ys. i ∷ ys) (ap (λ x. insert (basic_from (suc i) n ss) (count_below x (basic_from (suc i) n ss)) x) (let q : i + suc x ≡ suc i + x = omega arith in q)
    ∙ column_inserted (suc i) n x k ss (omega (arith, l)) (omega (arith, m)) e)
column_inserted i (suc n) (suc x) k (InColumn j ∷ ss) l m e =
    ap (λ x. insert (basic_from (suc i) n ss) (count_below x (basic_from (suc i) n ss)) x) (let q : i + suc x ≡ suc i + x = omega arith in q)
    ∙ column_inserted (suc i) n x k ss (omega (arith, l)) (omega (arith, m)) e

pub column_removed : (i n x k : ℕ) (ss : List Position) → x < n → x < length ss → get_or ss x InBasis ≡ InBasis
    → remove (basic_from i n ss) (count_below (i + x) (basic_from i n ss)) ≡ basic_from i n (set ss x (InColumn k))
column_removed i zero x k ss l m e = absurd (omega (arith, l))
column_removed i (suc n) x k [] l m e = absurd (omega (arith, m))
column_removed i (suc n) zero k (InColumn j ∷ ss) l m e = absurd (let no : InColumn j ≡ InBasis = e in cc)
column_removed i (suc n) zero k (InBasis ∷ ss) l m e =
    ap (remove (i ∷ basic_from (suc i) n ss)) (at_least (i + 0) i (suc n) (InBasis ∷ ss) (omega arith))
column_removed i (suc n) (suc x) k (InBasis ∷ ss) l m e =
    ap (remove (i ∷ basic_from (suc i) n ss)) (one_below i (i + suc x) (basic_from (suc i) n ss) (omega arith))
    ∙ ap (λ ys. i ∷ ys) (ap (λ x. remove (basic_from (suc i) n ss) (count_below x (basic_from (suc i) n ss))) (let q : i + suc x ≡ suc i + x = omega arith in q)
    ∙ column_removed (suc i) n x k ss (omega (arith, l)) (omega (arith, m)) e)
column_removed i (suc n) (suc x) k (InColumn j ∷ ss) l m e =
    ap (λ x. remove (basic_from (suc i) n ss) (count_below x (basic_from (suc i) n ss))) (let q : i + suc x ≡ suc i + x = omega arith in q)
    ∙ column_removed (suc i) n x k ss (omega (arith, l)) (omega (arith, m)) e

pub column_there : (i n x : ℕ) (ss : List Position) → x < n → x < length ss → get_or ss x InBasis ≡ InBasis → count_below (i + x) (basic_from i n ss) < length (basic_from i n ss)
column_there i zero x ss l m e = absurd (omega (arith, l))
column_there i (suc n) x [] l m e = absurd (omega (arith, m))
column_there i (suc n) zero (InColumn j ∷ ss) l m e = absurd (let no : InColumn j ≡ InBasis = e in cc)
column_there i (suc n) zero (InBasis ∷ ss) l m e = omega (arith, at_least (i + 0) i (suc n) (InBasis ∷ ss) (omega arith))
column_there i (suc n) (suc x) (InBasis ∷ ss) l m e =
    omega (
      arith,
      one_below i (i + suc x) (basic_from (suc i) n ss) (omega arith),
      ap (λ x. count_below x (basic_from (suc i) n ss)) (let q : i + suc x ≡ suc i + x = omega arith in q),
      column_there (suc i) n x ss (omega (arith, l)) (omega (arith, m)) e,
    )
column_there i (suc n) (suc x) (InColumn j ∷ ss) l m e =
    omega (arith, ap (λ x. count_below x (basic_from (suc i) n ss)) (let q : i + suc x ≡ suc i + x = omega arith in q), column_there (suc i) n x ss (omega (arith, l)) (omega (arith, m)) e)

-- another variable isn't counted
pub row_set : (i n x : ℕ) (s : Position) (ss : List Position) → n ≤ x → basic_from i n (set ss x s) ≡ basic_from i n ss
row_set i zero x s ss l = refl
row_set i (suc n) x s [] l = refl
row_set i (suc n) zero s (t ∷ ss) l = absurd (omega (arith, l))
row_set i (suc n) (suc x) s (InBasis ∷ ss) l = ap (λ ys. i ∷ ys) (row_set (suc i) n x s ss (omega (arith, l)))
row_set i (suc n) (suc x) s (InColumn j ∷ ss) l = row_set (suc i) n x s ss (omega (arith, l))

-- ---- each is a column
pub column_within : (i n : ℕ) (ss : List Position) (p : ℕ) → p < length (basic_from i n ss) → get_or (basic_from i n ss) p 0 < i + n
column_within i zero ss p l = absurd (omega (arith, l))
column_within i (suc n) [] p l = absurd (omega (arith, l))
column_within i (suc n) (InBasis ∷ ss) zero l = omega arith
column_within i (suc n) (InBasis ∷ ss) (suc p) l = omega (arith, column_within (suc i) n ss p (omega (arith, l)))
column_within i (suc n) (InColumn j ∷ ss) p l = omega (arith, column_within (suc i) n ss p (omega (arith, l)))

-- ---- no basic column at the start
pub none_basic : (i n : ℕ) (ss : List Position) → ((v : ℕ) → v < n → v < length ss → get_or ss v InBasis ≡ InBasis → ⊥) → basic_from i n ss ≡ []
none_basic i zero ss h = refl
none_basic i (suc n) [] h = refl
none_basic i (suc n) (InBasis ∷ ss) h = absurd (h 0 (omega arith) (omega arith) refl)
none_basic i (suc n) (InColumn k ∷ ss) h = none_basic (suc i) n ss (λ v l m. h (suc v) (omega (arith, l)) (omega (arith, m)))

-- ---- a place among numbers that rise
pub below_more : (x i : ℕ) (ys : List ℕ) → i < length ys → get_or ys i 0 < x → count_below x (drop i ys) ≡ suc (count_below x (drop (i + 1) ys))
below_more x i ys l o = ap (count_below x) (drop-cons ys i 0 l) ∙ one_below (get_or ys i 0) x (drop (suc i) ys) o
    ∙ ap (λ k. suc (count_below x (drop k ys))) (let e : suc i ≡ i + 1 = omega arith in e)

pub below_none : (x i : ℕ) (ys : List ℕ) → i < length ys → x ≤ get_or ys i 0 → count_below x (drop i ys) ≡ 0
below_none x i ys l o = ap (count_below x) (drop-cons ys i 0 l)
    ∙ ap (λ b. if b then suc (count_below x (drop (suc i) ys)) else 0) (let e : nat_lt (get_or ys i 0) x ≡ false = grind (arith, nat_tests) in e)

pub below_end : (x i : ℕ) (ys : List ℕ) → length ys ≤ i → count_below x (drop i ys) ≡ 0
below_end x i ys l = ap (count_below x) (drop_all i ys l)

-- ---- the basic columns after an exchange
pub columns_exchanged : (n r c k j : ℕ) (ss : List Position) → n ≤ length ss → r < length ss → c < length ss → get_or ss r InBasis ≡ InBasis → get_or ss c InBasis ≡ InColumn k
    → basic_exchanged n r c (basic_from 0 n ss) ≡ basic_from 0 n (set (set ss r (InColumn j)) c InBasis)
columns_exchanged n r c k j ss l r_there c_there at_r at_c = ap (with_column n c) left ∙ entered
  where
    two : List Position
    two = set ss r (InColumn j)

    left : without_column n r (basic_from 0 n ss) ≡ basic_from 0 n two
    left = elim (cases_lt r n) [
      | inl o ↦ ap (λ b. if b then remove (basic_from 0 n ss) (count_below r (basic_from 0 n ss)) else basic_from 0 n ss) (let e : nat_lt r n ≡ true = grind (arith, nat_tests) in e)
          ∙ subst (λ x. remove (basic_from 0 n ss) (count_below x (basic_from 0 n ss)) ≡ basic_from 0 n two) (let q : 0 + r ≡ r = omega arith in q) (column_removed 0 n r j ss o r_there at_r)
      | inr o ↦ ap (λ b. if b then remove (basic_from 0 n ss) (count_below r (basic_from 0 n ss)) else basic_from 0 n ss) (let e : nat_lt r n ≡ false = grind (arith, nat_tests) in e)
          ∙ sym (row_set 0 n r (InColumn j) ss (omega (arith, o)))
    ]

    apart : c ≡ r → ⊥
    apart e = let no : InColumn k ≡ InBasis = sym at_c ∙ ap (λ v. get_or ss v InBasis) e ∙ at_r in cc

    entered : with_column n c (basic_from 0 n two) ≡ basic_from 0 n (set two c InBasis)
    entered = elim (cases_lt c n) [
      | inl o ↦ ap (λ b. if b then insert (basic_from 0 n two) (count_below c (basic_from 0 n two)) c else basic_from 0 n two) (let e : nat_lt c n ≡ true = grind (arith, nat_tests) in e)
          ∙ subst (λ x. insert (basic_from 0 n two) (count_below x (basic_from 0 n two)) x ≡ basic_from 0 n (set two c InBasis)) (let q : 0 + c ≡ c = omega arith in q)
          (column_inserted 0 n c k two o (omega (arith, c_there, length-set ss r (InColumn j))) (get_or-set_other ss r c (InColumn j) InBasis apart ∙ at_c))
      | inr o ↦ ap (λ b. if b then insert (basic_from 0 n two) (count_below c (basic_from 0 n two)) c else basic_from 0 n two) (let e : nat_lt c n ≡ false = grind (arith, nat_tests) in e)
          ∙ sym (row_set 0 n c InBasis two (omega (arith, o)))
    ]

-- ---- each basic column is there, and the numbers rise
pub column_of : (i n v : ℕ) (ss : List Position) → v < n → v < length ss → get_or ss v InBasis ≡ InBasis → (p : ℕ) × (p < length (basic_from i n ss)) × (get_or (basic_from i n ss) p 0 ≡ i + v)
column_of i zero v ss l m e = absurd (omega (arith, l))
column_of i (suc n) v [] l m e = absurd (omega (arith, m))
column_of i (suc n) zero (InBasis ∷ ss) l m e = (0, omega arith, omega arith)
column_of i (suc n) zero (InColumn k ∷ ss) l m e = absurd (let no : InColumn k ≡ InBasis = e in cc)
column_of i (suc n) (suc v) (InBasis ∷ ss) l m e = let h = column_of (suc i) n v ss (omega (arith, l)) (omega (arith, m)) e in (suc h.0, omega (arith, h.1), omega (arith, h.2))
column_of i (suc n) (suc v) (InColumn k ∷ ss) l m e = let h = column_of (suc i) n v ss (omega (arith, l)) (omega (arith, m)) e in (h.0, h.1, omega (arith, h.2))

column_from : (i n : ℕ) (ss : List Position) (p : ℕ) → p < length (basic_from i n ss) → i ≤ get_or (basic_from i n ss) p 0
column_from i zero ss p l = absurd (omega (arith, l))
column_from i (suc n) [] p l = absurd (omega (arith, l))
column_from i (suc n) (InBasis ∷ ss) zero l = omega arith
column_from i (suc n) (InBasis ∷ ss) (suc p) l = omega (arith, column_from (suc i) n ss p (omega (arith, l)))
column_from i (suc n) (InColumn k ∷ ss) p l = omega (arith, column_from (suc i) n ss p l)

pub columns_rise : (i n : ℕ) (ss : List Position) (p q : ℕ) → p < q → q < length (basic_from i n ss) → get_or (basic_from i n ss) p 0 < get_or (basic_from i n ss) q 0
columns_rise i zero ss p q o l = absurd (omega (arith, l))
columns_rise i (suc n) [] p q o l = absurd (omega (arith, l))
columns_rise i (suc n) (InBasis ∷ ss) p zero o l = absurd (omega (arith, o))
columns_rise i (suc n) (InBasis ∷ ss) zero (suc q) o l = omega (arith, column_from (suc i) n ss q (omega (arith, l)))
columns_rise i (suc n) (InBasis ∷ ss) (suc p) (suc q) o l = columns_rise (suc i) n ss p q (omega (arith, o)) (omega (arith, l))
columns_rise i (suc n) (InColumn k ∷ ss) p q o l = columns_rise (suc i) n ss p q o l
