-- Combinations by the lists of a dictionary that is kept: what the nonbasic columns say, and the sum over the basic ones with their rows.
use Rattle.std.proofs.Common.{◌≡◌, ◌≢◌, ℕ, zero, suc, ◌+◌, ◌-◌, ◌<◌, ◌≤◌, arith, refl, ap, sym, subst, ◌∙◌, List, [], ◌∷◌, length, get_or, set, take, replicate, drop, drop-cons, below_more, get_or-set_other, true, inl, inr}
use Rattle.std.specs.Prelude.{ℤ, pos, nat_abs, nat_eq, ◌+ℤ◌, ◌*ℤ◌, ◌<ℤ◌, if◌then◌else◌}
use Rattle.std.specs.Int.{w64, int_wrap}
use lib.IntN.{*ℤ_comm}
use Rattle.std.proofs.lemmas.Bool.{cases_eq, eq-eqb, ne_eqb}
use Rattle.std.proofs.lemmas.Int.{ints, int_wrap-add_same}
use Rattle.std.proofs.lemmas.List.{get_or_past}
use Rattle.integer_tableau.proofs.Arenas.{rising_once, row_there, rows_many}
use Rattle.integer_tableau.proofs.BasicColumns.{columns_rise}
use Rattle.integer_tableau.proofs.EntrySums.{entry_at, entry_first, entry_later}
use Rattle.integer_tableau.proofs.Lists.{each_more}
use Rattle.integer_tableau.proofs.LowSums.{row_from_low_numbers, wrapped_twice}
use Rattle.integer_tableau.specs.Arena.{basic_sum, flat_row, places_from, row_by, rows_by}
use Rattle.integer_tableau.specs.BasicColumns.{basic_from}
use Rattle.integer_tableau.specs.Combined.{combined, combined_row}
use Rattle.integer_tableau.specs.Entries.{AreEntries, RiseWithin, spread}
use Rattle.integer_tableau.specs.Exits.{IsOnceEach}
use Rattle.integer_tableau.specs.Numbers.{IsWithin, number_at}
use Rattle.integer_tableau.specs.Positions.{AreNonbasic}
use Rattle.integer_tableau.specs.Range.{size_limit}
use Rattle.integer_tableau.specs.declared.position.Position.{Position}
use Rattle.integer_tableau.specs.declared.position.Position.TheVariants.{InBasis, InColumn}
use Rattle.integer_tableau.specs.declared.program_row.ProgramEntry.{ProgramEntry}

-- ---- what the nonbasic columns say
-- of the variable in column k, each times its coefficient
abbrev nonbasic_sum : ℕ → ℕ → List ℤ → List Position → ℤ
nonbasic_sum d k [] ss = pos 0
nonbasic_sum d k (a ∷ cs) [] = pos 0
nonbasic_sum d k (a ∷ cs) (InBasis ∷ ss) = nonbasic_sum d k cs ss
nonbasic_sum d k (a ∷ cs) (InColumn m ∷ ss) = a *ℤ (if nat_eq k m then pos d else pos 0) +ℤ nonbasic_sum d k cs ss

no_term : (x y : ℤ) → x *ℤ pos 0 +ℤ y ≡ y
no_term x y = omega (arith, ints)

last_term : (x y : ℤ) → x *ℤ y +ℤ pos 0 ≡ y *ℤ x
last_term x y = none (x *ℤ y) ∙ *ℤ_comm x y
  where
    none : (z : ℤ) → z +ℤ pos 0 ≡ z
    none z = omega (arith, ints)

nothing_of : (x : ℤ) → pos 0 ≡ x *ℤ pos 0
nothing_of x = omega (arith, ints)

none_said : (d k : ℕ) (cs : List ℤ) (ss : List Position) → ((u : ℕ) → get_or ss u InBasis ≢ InColumn k) → nonbasic_sum d k cs ss ≡ pos 0
none_said d k [] ss h = refl
none_said d k (a ∷ cs) [] h = refl
none_said d k (a ∷ cs) (InBasis ∷ ss) h = none_said d k cs ss (λ u. h (suc u))
none_said d k (a ∷ cs) (InColumn m ∷ ss) h =
    ap (λ b. a *ℤ (if b then pos d else pos 0) +ℤ nonbasic_sum d k cs ss) (ne_eqb k m (λ e. h 0 (ap InColumn (sym e))))
    ∙ no_term a (nonbasic_sum d k cs ss) ∙ none_said d k cs ss (λ u. h (suc u))

-- the variable v of column k alone says something of it
said_of_one : (d k : ℕ) (cs : List ℤ) (ss : List Position) (v : ℕ) → get_or ss v InBasis ≡ InColumn k → ((u : ℕ) → get_or ss u InBasis ≡ InColumn k → u ≡ v)
    → nonbasic_sum d k cs ss ≡ pos d *ℤ number_at cs v
said_of_one d k [] ss v e one = nothing_of (pos d)
said_of_one d k (a ∷ cs) [] v e one = absurd (let no : InBasis ≡ InColumn k = e in cc)
said_of_one d k (a ∷ cs) (InBasis ∷ ss) zero e one = absurd (let no : InBasis ≡ InColumn k = e in cc)
said_of_one d k (a ∷ cs) (InColumn m ∷ ss) zero e one =
    (λ i. a *ℤ (if same i then pos d else pos 0) +ℤ none_said d k cs ss (λ u s. later u s) i) ∙ last_term a (pos d)
  where
    same : nat_eq k m ≡ true
    same = eq-eqb k m (let is : InColumn m ≡ InColumn k = e in cc)

    later : (u : ℕ) → get_or ss u InBasis ≢ InColumn k
    later u s = let q : suc u ≡ 0 = one (suc u) s in omega (arith, q)
said_of_one d k (a ∷ cs) (InBasis ∷ ss) (suc v) e one = said_of_one d k cs ss v e (λ u s. let q : suc u ≡ suc v = one (suc u) s in omega (arith, q))
said_of_one d k (a ∷ cs) (InColumn m ∷ ss) (suc v) e one =
    ap (λ b. a *ℤ (if b then pos d else pos 0) +ℤ nonbasic_sum d k cs ss) (ne_eqb k m other)
    ∙ no_term a (nonbasic_sum d k cs ss) ∙ said_of_one d k cs ss v e (λ u s. let q : suc u ≡ suc v = one (suc u) s in omega (arith, q))
  where
    other : k ≢ m
    other p = let q : 0 ≡ suc v = one 0 (ap InColumn (sym p)) in omega (arith, q)

-- ---- a combination splits
behind : (x y z : ℤ) → x +ℤ (y +ℤ z) ≡ y +ℤ (x +ℤ z)
behind x y z = omega (arith, ints)

before : (x y z : ℤ) → x +ℤ (y +ℤ z) ≡ (x +ℤ y) +ℤ z
before x y z = omega (arith, ints)

-- of columns from number j on, whose coefficients are those of `all` from there; the basic ones have the rows that stand there from place i on
module _ (d width k : ℕ) (all numerators : List ℤ) (row : ℕ → List ℤ) where
  split_from : (j i : ℕ) (cs : List ℤ) (ss : List Position) → length cs ≤ length ss → ((t : ℕ) → number_at cs t ≡ number_at all (j + t))
      → ((p : ℕ) → p < length (basic_from j (length cs) ss) → row (get_or (basic_from j (length cs) ss) p 0) ≡ flat_row width numerators (i + p))
      → combined d cs ss (places_from j (length cs) row) k ≡ nonbasic_sum d k cs ss +ℤ basic_sum width all numerators k i (basic_from j (length cs) ss)
  split_from j i [] ss l c h = refl
  split_from j i (a ∷ cs) [] l c h = absurd (omega (arith, l))
  split_from j i (a ∷ cs) (InBasis ∷ ss) l c h =
      (λ x. (c 0 ∙ ap (number_at all) (let q : j + 0 ≡ j = omega arith in q)) x *ℤ number_at ((h 0 (omega arith) ∙ ap (flat_row width numerators) (let q : i + 0 ≡ i = omega arith in q)) x) k
      +ℤ split_from (suc j) (suc i) cs ss (omega (arith, l)) (λ t. c (suc t) ∙ ap (number_at all) (let q : j + suc t ≡ suc j + t = omega arith in q))
      (λ p m. h (suc p) (omega (arith, m)) ∙ ap (flat_row width numerators) (let q : i + suc p ≡ suc i + p = omega arith in q)) x)
      ∙ behind (number_at all j *ℤ number_at (flat_row width numerators i) k) (nonbasic_sum d k cs ss) (basic_sum width all numerators k (suc i) (basic_from (suc j) (length cs) ss))
  split_from j i (a ∷ cs) (InColumn m ∷ ss) l c h =
      ap (λ z. a *ℤ (if nat_eq k m then pos d else pos 0) +ℤ z)
      (split_from (suc j) i cs ss (omega (arith, l)) (λ t. c (suc t) ∙ ap (number_at all) (let q : j + suc t ≡ suc j + t = omega arith in q)) h)
      ∙ before (a *ℤ (if nat_eq k m then pos d else pos 0)) (nonbasic_sum d k cs ss) (basic_sum width all numerators k i (basic_from (suc j) (length cs) ss))

-- the row of the basic column at place p
basic_row : (width : ℕ) (columns : List ℕ) (numerators : List ℤ) (j n : ℕ) (ss : List Position) → columns ≡ basic_from j n ss → (p : ℕ) → p < length columns
    → row_by width columns numerators (get_or columns p 0) ≡ flat_row width numerators p
basic_row width columns numerators j n ss is = row_there width columns numerators (subst IsOnceEach (sym is) (rising_once (basic_from j n ss) (columns_rise j n ss)))

-- what a combination has in column k: what the variable of that column says, and the sum over the basic columns
pub combined_splits : (d : ℕ) (cs numerators : List ℤ) (ss : List Position) (nonbasic columns : List ℕ) (k : ℕ) → AreNonbasic ss nonbasic → length cs ≤ length ss
    → columns ≡ basic_from 0 (length cs) ss → length cs ≡ length nonbasic → k < length nonbasic
    → combined d cs ss (rows_by (length nonbasic) columns numerators) k ≡ pos d *ℤ number_at cs (get_or nonbasic k 0) +ℤ basic_sum (length nonbasic) cs numerators k 0 columns
combined_splits d cs numerators ss nonbasic columns k are there is many l =
    ap (λ n. combined d cs ss (places_from 0 n (row_by (length nonbasic) columns numerators)) k) (sym many)
    ∙ split_from d (length nonbasic) k cs numerators (row_by (length nonbasic) columns numerators) 0 0 cs ss there (λ t. ap (number_at cs) (let q : t ≡ 0 + t = omega arith in q))
    (subst (λ (bs : List ℕ). (p : ℕ) → p < length bs → row_by (length nonbasic) columns numerators (get_or bs p 0) ≡ flat_row (length nonbasic) numerators (0 + p)) is
    (λ p m. basic_row (length nonbasic) columns numerators 0 (length cs) ss is p m ∙ ap (flat_row (length nonbasic) numerators) (let q : p ≡ 0 + p = omega arith in q)))
    ∙ (λ i. said_of_one d k cs ss (get_or nonbasic k 0) (are.there k l) (λ u s. sym (are.all u k s).1) i +ℤ basic_sum (length nonbasic) cs numerators k 0 (sym is i))

-- ---- the loops
-- what is said so far of the columns before i; nothing is said of the others
pub record IsSaidBefore (d : ℤ) (cs : List ℤ) (nonbasic : List ℕ) (i : ℕ) (sums : List ℤ) : Type 0 where
  pub done : (k : ℕ) → k < i → int_wrap w64 (number_at sums k) ≡ int_wrap w64 (d *ℤ number_at cs (get_or nonbasic k 0))
  pub left : (k : ℕ) → i ≤ k → number_at sums k ≡ pos 0

-- one column more
pub said_more : (d : ℤ) (cs : List ℤ) (nonbasic : List ℕ) (i : ℕ) (sums : List ℤ) (new : ℤ) → i < length sums → IsSaidBefore d cs nonbasic i sums
    → new ≡ int_wrap w64 (pos 0 +ℤ d *ℤ number_at cs (get_or nonbasic i 0)) → IsSaidBefore d cs nonbasic (i + 1) (set sums i new)
said_more d cs nonbasic i sums new l h is = record {
  done = each_more (λ k a b. int_wrap w64 b ≡ int_wrap w64 (d *ℤ number_at cs (get_or nonbasic k 0))) (pos 0) sums sums i new l h.done
      (ap (int_wrap w64) is ∙ wrapped_twice (pos 0 +ℤ d *ℤ number_at cs (get_or nonbasic i 0)) ∙ ap (int_wrap w64) (after_none (d *ℤ number_at cs (get_or nonbasic i 0))));
  left = λ k m. get_or-set_other sums i k new (pos 0) (let n : k ≢ i = omega (arith, m) in n) ∙ h.left k (omega (arith, m));
}
  where
    after_none : (z : ℤ) → pos 0 +ℤ z ≡ z
    after_none z = omega (arith, ints)

-- one more whose variable has no coefficient
pub said_nothing : (d : ℤ) (cs : List ℤ) (nonbasic : List ℕ) (i : ℕ) (sums : List ℤ) → length cs ≤ get_or nonbasic i 0 → IsSaidBefore d cs nonbasic i sums → IsSaidBefore d cs nonbasic (i + 1) sums
said_nothing d cs nonbasic i sums l h = record {
  done = below_more (λ k. int_wrap w64 (number_at sums k) ≡ int_wrap w64 (d *ℤ number_at cs (get_or nonbasic k 0))) i h.done
      (ap (int_wrap w64) (h.left i (omega arith) ∙ nothing_of d ∙ ap (λ z. d *ℤ z) (sym (get_or_past cs (get_or nonbasic i 0) (pos 0) l))));
  left = λ k m. h.left k (omega (arith, m));
}

-- a basic column is added
pub basic_more : (width k : ℕ) (cs numerators : List ℤ) (columns : List ℕ) (i : ℕ) (old new whole : ℤ) → i < length columns
    → int_wrap w64 (old +ℤ basic_sum width cs numerators k i (drop i columns)) ≡ int_wrap w64 whole
    → int_wrap w64 new ≡ int_wrap w64 (old +ℤ number_at cs (get_or columns i 0) *ℤ number_at (flat_row width numerators i) k)
    → int_wrap w64 (new +ℤ basic_sum width cs numerators k (i + 1) (drop (i + 1) columns)) ≡ int_wrap w64 whole
basic_more width k cs numerators columns i old new whole l sum is =
    let term = number_at cs (get_or columns i 0) *ℤ number_at (flat_row width numerators i) k in
    let rest = basic_sum width cs numerators k (i + 1) (drop (i + 1) columns) in
    int_wrap-add_same w64 new (old +ℤ term) rest is
    ∙ ap (int_wrap w64) (sym (before old term rest) ∙ ap (λ z. old +ℤ z)
    ((let q : i + 1 ≡ suc i = omega arith in ap (λ n. term +ℤ basic_sum width cs numerators k n (drop n columns)) q)
    ∙ sym (ap (basic_sum width cs numerators k i) (drop-cons columns i 0 l))))
    ∙ sum

-- ---- the row
pub row_from_kept : (d : ℤ) (cs numerators xs : List ℤ) (ss : List Position) (nonbasic columns : List ℕ) → AreNonbasic ss nonbasic → length cs ≤ length ss
    → columns ≡ basic_from 0 (length cs) ss → length cs ≡ length nonbasic → IsWithin (size_limit - 1) (combined_row (nat_abs d) ss (rows_by (length nonbasic) columns numerators) cs) → pos 0 <ℤ d
    → length xs ≡ length nonbasic → IsWithin (size_limit - 1) xs
    → ((k : ℕ) → k < length nonbasic → int_wrap w64 (number_at xs k) ≡ int_wrap w64 (d *ℤ number_at cs (get_or nonbasic k 0) +ℤ basic_sum (length nonbasic) cs numerators k 0 columns))
    → xs ≡ combined_row (nat_abs d) ss (rows_by (length nonbasic) columns numerators) cs
row_from_kept d cs numerators xs ss nonbasic columns are there is many small positive width within sums =
    row_from_low_numbers (nat_abs d) cs ss (rows_by (length nonbasic) columns numerators) xs (width ∙ sym (rows_many (length nonbasic) columns numerators)) within small
    (λ k l. sums k (omega (arith, l, width)) ∙ ap (int_wrap w64)
    (ap (λ z. z *ℤ number_at cs (get_or nonbasic k 0) +ℤ basic_sum (length nonbasic) cs numerators k 0 columns) (sym (size d positive))
    ∙ sym (combined_splits (nat_abs d) cs numerators ss nonbasic columns k are there is many (omega (arith, l, width)))))
  where
    size : (d : ℤ) → pos 0 <ℤ d → pos (nat_abs d) ≡ d
    size d o = omega (arith, ints)

-- ---- the coefficients of all columns
place_from : (j w : ℕ) (es : List ProgramEntry) → RiseWithin j w es → (i : ℕ) → i < length es → j ≤ (entry_at es i).place
place_from j w [] r i l = absurd (omega (arith, l))
place_from j w (e ∷ es) r zero l = r.0
place_from j w (e ∷ es) r (suc i) l = omega (arith, r.0, place_from (suc e.place) w es r.2 i (omega (arith, l)))

pub none_spread : (j n : ℕ) → replicate n (pos 0) ≡ spread j n []
none_spread j zero = refl
none_spread j (suc n) = ap (λ zs. pos 0 ∷ zs) (none_spread (suc j) n)

first_spread : (j n w x : ℕ) (e : ProgramEntry) (es : List ProgramEntry) → RiseWithin j w (e ∷ es) → x < n → e.place ≡ j + x → set (spread j n []) x e.number ≡ spread j n (e ∷ [])
first_spread j zero w x e es r l p = absurd (omega (arith, l))
first_spread j (suc n) w zero e es r l p = sym (entry_first j n e [] (omega (arith, p)))
first_spread j (suc n) w (suc x) e es r l p =
    ap (λ zs. pos 0 ∷ zs) (first_spread (suc j) n w x e es (omega (arith, p), r.1, r.2) (omega (arith, l)) (omega (arith, p)))
    ∙ sym (entry_later j n e [] (λ q. omega (arith, p, q)))

entry_spread : (j n w x i : ℕ) (es : List ProgramEntry) → RiseWithin j w es → i < length es → x < n → (entry_at es i).place ≡ j + x
    → set (spread j n (take i es)) x (entry_at es i).number ≡ spread j n (take (suc i) es)
entry_spread j n w x i [] r l m p = absurd (omega (arith, l))
entry_spread j n w x zero (e ∷ es) r l m p = first_spread j n w x e es r m p
entry_spread j zero w x (suc i) (e ∷ es) r l m p = absurd (omega (arith, m))
entry_spread j (suc n) w zero (suc i) (e ∷ es) r l m p = absurd (omega (arith, p, r.0, place_from (suc e.place) w es r.2 i (omega (arith, l))))
entry_spread j (suc n) w (suc x) (suc i) (e ∷ es) r l m p = elim (cases_eq e.place j) [
  | inl q ↦ ap (λ zs. set zs (suc x) (entry_at es i).number) (entry_first j n e (take i es) q)
      ∙ ap (λ zs. e.number ∷ zs) (entry_spread (suc j) n w x i es (subst (λ k. RiseWithin (suc k) w es) q r.2) (omega (arith, l)) (omega (arith, m)) (omega (arith, p)))
      ∙ sym (entry_first j n e (take (suc i) es) q)
  | inr q ↦ ap (λ zs. set zs (suc x) (entry_at es i).number) (entry_later j n e (take i es) q)
      ∙ ap (λ zs. pos 0 ∷ zs) (entry_spread (suc j) n w x (suc i) (e ∷ es) (omega (arith, r.0, q), r.1, r.2) l (omega (arith, m)) (omega (arith, p)))
      ∙ sym (entry_later j n e (take (suc i) es) q)
]

-- an entry more is put in its place
pub spread_more : (row : List ℤ) (es : List ProgramEntry) (i : ℕ) → AreEntries row es → i < length es
    → set (spread 0 (length row) (take i es)) (entry_at es i).place (entry_at es i).number ≡ spread 0 (length row) (take (i + 1) es)
spread_more row es i are l =
    entry_spread 0 (length row) (length row) (entry_at es i).place i es are.rising l (are.within i l) (omega arith)
    ∙ ap (λ n. spread 0 (length row) (take n es)) (let q : suc i ≡ i + 1 = omega arith in q)
