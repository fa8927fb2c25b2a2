-- Lists by places, pieces of lists, and rows and positions that are looked up by the numbers of variables.
use Rattle.std.proofs.Common.{◌≡◌, ◌≢◌, ℕ, zero, suc, ◌+◌, ◌-◌, ◌*◌, ◌<◌, ◌≤◌, arith, refl, ap, sym, subst, ◌∙◌, ◌⊎◌, inl, inr, true, false, Option, Some, None, List, [], ◌∷◌, ◌++◌, length, get_or, take, drop, set, replicate, ext_get_or, get_or-set_same, get_or-set_other}
use Rattle.std.specs.Prelude.{ℤ, pos, nat_abs, nat_eq, nat_lt, cond, slice_range}
use Rattle.std.specs.List.{position, position_or_len}
use Rattle.std.proofs.lemmas.Bool.{cases_eq, cases_lt}
use Rattle.std.proofs.lemmas.Bool.Decides.{nat_tests}
use Rattle.std.proofs.lemmas.List.{drop-drop, drop_at, get_or_past, get_or_push, get_or-append_right, get_or_append_left, length-set, get_or-take, length-take, length-take-le, length_push, same_lists, take-append-le, take-take, take_all, take_more}
use Rattle.std.proofs.lemmas.List.Edits.{get_or-between, length-between}
use Rattle.std.proofs.lemmas.List.Quantifiers.{position-Some}
use Rattle.std.proofs.lemmas.List.Sums.{fails_before_first, passes_at_first}
use Rattle.std.proofs.lemmas.Nat.{row_fits}
use Rattle.std.proofs.lemmas.Slice.{between_is}
use Rattle.integer_tableau.proofs.EnteringByEdge.{no_place, once_each, some_place}
use Rattle.integer_tableau.specs.Arena.{flat_row, flat_row_if_there, in_column, places_from, positions_by, row_by, rows_by}
use Rattle.integer_tableau.specs.Exits.{IsOnceEach}
use Rattle.integer_tableau.specs.Numbers.{IsWithin}
use Rattle.integer_tableau.specs.Positions.{AreNonbasic}
use Rattle.integer_tableau.specs.declared.position.Position.{Position}
use Rattle.integer_tableau.specs.declared.position.Position.TheVariants.{InBasis, InColumn}

-- ---- lists by places
module _ {A : Type 0} (f : ℕ → A) where
  pub length-places : (k n : ℕ) → length (places_from k n f) ≡ n
  length-places k zero = refl
  length-places k (suc n) = ap suc (length-places (suc k) n)

  pub get_or-places : (k n i : ℕ) (d : A) → i < n → get_or (places_from k n f) i d ≡ f (k + i)
  get_or-places k zero i d l = absurd (omega (arith, l))
  get_or-places k (suc n) zero d l = ap f (let q : k ≡ k + 0 = omega arith in q)
  get_or-places k (suc n) (suc i) d l = get_or-places (suc k) n i d (omega (arith, l)) ∙ ap f (let q : suc k + i ≡ k + suc i = omega arith in q)

  -- from the first one on
  pub place_at : (n i : ℕ) (d : A) → i < n → get_or (places_from 0 n f) i d ≡ f i
  place_at n i d l = get_or-places 0 n i d l ∙ ap f (let q : 0 + i ≡ i = omega arith in q)

  -- a list that has these values
  pub are_places : (xs : List A) (n : ℕ) (d : A) → length xs ≡ n → ((i : ℕ) → i < n → get_or xs i d ≡ f i) → xs ≡ places_from 0 n f
  are_places xs n d many each = ext_get_or d xs (places_from 0 n f) (many ∙ sym (length-places 0 n)) (λ i l. let m : i < n = omega (arith, l, many) in each i m ∙ sym (place_at n i d m))

-- where each is the same
pub places_constant : {A : Type 0} (a : A) (k n : ℕ) → places_from k n (λ i. a) ≡ replicate n a
places_constant a k zero = refl
places_constant a k (suc n) = ap (λ xs. a ∷ xs) (places_constant a (suc k) n)

-- ---- pieces of lists
module _ {A : Type 0} (xs : List A) where
  pub piece_many : (a n : ℕ) → a + n ≤ length xs → length (slice_range xs a (a + n)) ≡ n
  piece_many a n l = omega (arith, length-between xs a (a + n) l)

  -- a piece of a piece
  pub piece_of_piece : (a b i j : ℕ) → a + j ≤ b → slice_range (slice_range xs a b) i j ≡ slice_range xs (a + i) (a + j)
  piece_of_piece a b i j l =
      between_is (slice_range xs a b) i j
      ∙ ap (drop i) (take-take j (b - a) (drop a xs) (omega (arith, l)))
      ∙ sym (between_is (drop a xs) i j)
      ∙ (λ h. take (many h) (drop-drop i a xs h))
    where
      many : j - i ≡ (a + j) - (a + i)
      many = omega arith

  -- what is put behind a list leaves its pieces
  pub piece_of_front : (ys : List A) (i j : ℕ) → j ≤ length xs → slice_range (xs ++ ys) i j ≡ slice_range xs i j
  piece_of_front ys i j l = between_is (xs ++ ys) i j ∙ ap (drop i) (take-append-le j xs ys l) ∙ sym (between_is xs i j)

  -- and has its own behind them
  pub piece_behind : (ys : List A) (k i j : ℕ) → length xs ≡ k → slice_range (xs ++ ys) (k + i) (k + j) ≡ slice_range ys i j
  piece_behind ys k i j e = (λ h. take (many h) (sym (drop-drop i k (xs ++ ys)) h)) ∙ ap (λ zs. take (j - i) (drop i zs)) (drop_at xs ys k e)
    where
      many : (k + j) - (k + i) ≡ j - i
      many = omega arith

  -- of which the whole is one
  pub piece_behind_all : (ys : List A) (k n : ℕ) → length xs ≡ k → length ys ≡ n → slice_range (xs ++ ys) k (k + n) ≡ ys
  piece_behind_all ys k n e many = (λ h. take (long h) (drop_at xs ys k e h)) ∙ take_all n ys (omega (arith, many))
    where
      long : (k + n) - k ≡ n
      long = omega arith

-- ---- sizes of pieces
pub within_piece : (b i j : ℕ) (xs : List ℤ) → IsWithin b xs → IsWithin b (slice_range xs i j)
within_piece b i j xs w k = elim (cases_lt (i + k) j) [
  | inl l ↦ subst (λ z. nat_abs z ≤ b) (sym (get_or-between xs i j k (pos 0) l)) (w (i + k))
  | inr l ↦ subst (λ z. nat_abs z ≤ b) (sym (get_or_past (slice_range xs i j) k (pos 0) (omega (arith, l, length-take (j - i) (drop i xs))))) (omega arith)
]

pub within_weaker : (b c : ℕ) (xs : List ℤ) → b ≤ c → IsWithin b xs → IsWithin c xs
within_weaker b c xs l w k = omega (arith, l, w k)

pub within_append : (b : ℕ) (xs ys : List ℤ) → IsWithin b xs → IsWithin b ys → IsWithin b (xs ++ ys)
within_append b xs ys v w k = elim (cases_lt k (length xs)) [
  | inl l ↦ subst (λ z. nat_abs z ≤ b) (sym (get_or_append_left xs ys (pos 0) k l)) (v k)
  | inr l ↦ subst (λ z. nat_abs z ≤ b) (sym (get_or-append_right xs ys (length xs) k (pos 0) refl l)) (w (k - length xs))
]

-- ---- the place of a number in a list
number_at_place : (v n : ℕ) → nat_eq v n ≡ true → v ≡ n
number_at_place v n e = grind (arith, nat_tests)

tested : (n : ℕ) → nat_eq n n ≡ true
tested n = grind (arith, nat_tests)

apart : (v n : ℕ) → (v ≡ n → ⊥) → nat_eq v n ≡ false
apart v n e = grind (arith, nat_tests)

-- where each number stands once, it is found at its place
pub place_found : (vs : List ℕ) → IsOnceEach vs → (k : ℕ) → k < length vs → position (nat_eq (get_or vs k 0)) vs ≡ Some k
place_found vs once k l = sym (some_place (nat_eq (get_or vs k 0)) vs k 0 l (λ j m. apart (get_or vs k 0) (get_or vs j 0) (λ e. differ j m e)) (tested (get_or vs k 0)))
  where
    differ : (j : ℕ) → j < k → get_or vs k 0 ≡ get_or vs j 0 → ⊥
    differ j m e = let same : k ≡ j = once k j l (omega (arith, m, l)) e in omega (arith, m, same)

-- a number that doesn't stand there isn't found
pub place_missed : (vs : List ℕ) (v : ℕ) → ((k : ℕ) → k < length vs → get_or vs k 0 ≢ v) → position (nat_eq v) vs ≡ None
place_missed vs v none = sym (no_place (nat_eq v) vs (length vs) 0 (omega arith) (λ j m. apart v (get_or vs j 0) (λ e. none j m (sym e))))

-- one of the two holds of each number
abbrev pub StandsAt : List ℕ → ℕ → Type 0
StandsAt vs v = (k : ℕ) × (k < length vs) × (get_or vs k 0 ≡ v) × (position (nat_eq v) vs ≡ Some k)

abbrev pub IsMissing : List ℕ → ℕ → Type 0
IsMissing vs v = ((k : ℕ) → k < length vs → get_or vs k 0 ≢ v) × (position (nat_eq v) vs ≡ None)

pub place_or_none : (vs : List ℕ) (v : ℕ) → StandsAt vs v ⊎ IsMissing vs v
place_or_none vs v = elim (cases_lt i (length vs)) [
  | inl l ↦ inl (i, l, sym (number_at_place v (get_or vs i 0) (passes_at_first (nat_eq v) vs 0 l)), ap (λ t. cond t (Some i) None) (below i (length vs) l))
  | inr l ↦ inr (λ k m e. missed k (omega (arith, l, m)) e, ap (λ t. cond t (Some i) None) (not_below i (length vs) l))
]
  where
    i : ℕ
    i = position_or_len (nat_eq v) vs

    below : (m n : ℕ) → m < n → nat_lt m n ≡ true
    below m n l = grind (arith, nat_tests)

    not_below : (m n : ℕ) → n ≤ m → nat_lt m n ≡ false
    not_below m n l = grind (arith, nat_tests)

    missed : (k : ℕ) → k < i → get_or vs k 0 ≢ v
    missed k l e = let no : true ≡ false = sym (tested v) ∙ ap (nat_eq v) (sym e) ∙ fails_before_first (nat_eq v) vs k 0 l in cc

-- numbers that rise are there once each
pub rising_once : (vs : List ℕ) → ((p q : ℕ) → p < q → q < length vs → get_or vs p 0 < get_or vs q 0) → IsOnceEach vs
rising_once vs rise j k l m e = elim (cases_lt j k) [
  | inl o ↦ absurd (omega (arith, rise j k o m, e))
  | inr o ↦ elim (cases_lt k j) [
    | inl o ↦ absurd (omega (arith, rise k j o l, e))
    | inr p ↦ omega (arith, o, p)
  ]
]

-- ---- a list by the places of its places' numbers in another list: what it becomes where a number is put behind that
module _ {A : Type 0} (f : Option ℕ → A) where
  abbrev pub looked_up : ℕ → List ℕ → List A
  looked_up n vs = places_from 0 n (λ v. f (position (nat_eq v) vs))

  place_pushed : (vs : List ℕ) (v w : ℕ) → v ≢ w → position (nat_eq v) (vs ++ w ∷ []) ≡ position (nat_eq v) vs
  place_pushed vs v w ne = elim (place_or_none vs v) [
    | inl h ↦ sym (some_place (nat_eq v) (vs ++ w ∷ []) h.0 0 (omega (arith, h.1, length_push vs w))
        (λ j m. ap (nat_eq v) (get_or_append_left vs (w ∷ []) 0 j (omega (arith, h.1, m))) ∙ (position-Some (nat_eq v) vs h.0 0 h.3).2 j m)
        (ap (nat_eq v) (get_or_append_left vs (w ∷ []) 0 h.0 h.1 ∙ h.2) ∙ tested v)) ∙ sym h.3
    | inr h ↦ place_missed (vs ++ w ∷ []) v (λ k l e. elim (cases_lt k (length vs)) [
      | inl m ↦ h.0 k m (sym (get_or_append_left vs (w ∷ []) 0 k m) ∙ e)
      | inr m ↦ ne (sym e ∙ get_or_push vs w 0 k (omega (arith, l, m, length_push vs w)))
    ]) ∙ sym h.1
  ]

  place_of_last : (vs : List ℕ) (w : ℕ) → ((k : ℕ) → k < length vs → get_or vs k 0 ≢ w) → position (nat_eq w) (vs ++ w ∷ []) ≡ Some (length vs)
  place_of_last vs w new = sym (some_place (nat_eq w) (vs ++ w ∷ []) (length vs) 0 (omega (arith, length_push vs w))
      (λ j m. ap (nat_eq w) (get_or_append_left vs (w ∷ []) 0 j m) ∙ apart w (get_or vs j 0) (λ e. new j m (sym e)))
      (ap (nat_eq w) (get_or_push vs w 0 (length vs) refl) ∙ tested w))

  pub looked_up_more : (n : ℕ) (vs : List ℕ) (w : ℕ) → w < n → ((k : ℕ) → k < length vs → get_or vs k 0 ≢ w) → looked_up n (vs ++ w ∷ []) ≡ set (looked_up n vs) w (f (Some (length vs)))
  looked_up_more n vs w l new = same_lists _ _ (many (vs ++ w ∷ []) ∙ sym (length-set (looked_up n vs) w last ∙ many vs)) each
    where
      last : A
      last = f (Some (length vs))

      many : (us : List ℕ) → length (looked_up n us) ≡ n
      many us = length-places (λ v. f (position (nat_eq v) us)) 0 n

      at : (us : List ℕ) (k : ℕ) (d : A) → k < n → get_or (looked_up n us) k d ≡ f (position (nat_eq k) us)
      at us k d m = place_at (λ v. f (position (nat_eq v) us)) n k d m

      each : (k : ℕ) (d : A) → k < length (looked_up n (vs ++ w ∷ [])) → get_or (looked_up n (vs ++ w ∷ [])) k d ≡ get_or (set (looked_up n vs) w last) k d
      each k d m = let o : k < n = omega (arith, m, many (vs ++ w ∷ [])) in at (vs ++ w ∷ []) k d o ∙ elim (cases_eq k w) [
        | inl e ↦ ap (λ k. f (position (nat_eq k) (vs ++ w ∷ []))) e ∙ ap f (place_of_last vs w new)
            ∙ sym (ap (λ k. get_or (set (looked_up n vs) w last) k d) e ∙ get_or-set_same (looked_up n vs) w last d (omega (arith, l, many vs)))
        | inr ne ↦ ap f (place_pushed vs k w ne) ∙ sym (get_or-set_other (looked_up n vs) w k last d ne ∙ at vs k d o)
      ]

  -- a loop over that list, which writes each number's place at that number
  pub looked_up_next : (n : ℕ) (vs : List ℕ) (now : List A) (k : ℕ) → IsOnceEach vs → k < length vs → get_or vs k 0 < n → now ≡ looked_up n (take k vs) → set now (get_or vs k 0) (f (Some k)) ≡ looked_up n (take (k + 1) vs)
  looked_up_next n vs now k once l m e =
      (λ i. set (e i) (get_or vs k 0) (f (Some (sym many i))))
      ∙ sym (looked_up_more n (take k vs) (get_or vs k 0) m (λ j o q. differ j (omega (arith, o, many)) q))
      ∙ ap (looked_up n) (sym (take_more vs k 0 l))
    where
      many : length (take k vs) ≡ k
      many = length-take-le k vs (omega (arith, l))

      differ : (j : ℕ) → j < k → get_or (take k vs) j 0 ≢ get_or vs k 0
      differ j o q = let same : j ≡ k = once j k (omega (arith, o, l)) l (sym (get_or-take k vs j 0 o) ∙ q) in omega (arith, o, same)

-- ---- positions
module _ (n : ℕ) (nonbasic : List ℕ) where
  pub positions_many : length (positions_by n nonbasic) ≡ n
  positions_many = length-places (λ v. in_column (position (nat_eq v) nonbasic)) 0 n

  pub position_at : (v : ℕ) → v < n → get_or (positions_by n nonbasic) v InBasis ≡ in_column (position (nat_eq v) nonbasic)
  position_at v l = place_at (λ v. in_column (position (nat_eq v) nonbasic)) n v InBasis l

  -- none of a column
  pub position_missed : (v : ℕ) → ((k : ℕ) → k < length nonbasic → get_or nonbasic k 0 ≢ v) → get_or (positions_by n nonbasic) v InBasis ≡ InBasis
  position_missed v none = elim (cases_lt v n) [
    | inl l ↦ position_at v l ∙ ap in_column (place_missed nonbasic v none)
    | inr l ↦ get_or_past (positions_by n nonbasic) v InBasis (omega (arith, l, positions_many))
  ]

  module _ (once : IsOnceEach nonbasic) (there : (k : ℕ) → k < length nonbasic → get_or nonbasic k 0 < n) where
    pub position_there : (k : ℕ) → k < length nonbasic → get_or (positions_by n nonbasic) (get_or nonbasic k 0) InBasis ≡ InColumn k
    position_there k l = position_at (get_or nonbasic k 0) (there k l) ∙ ap in_column (place_found nonbasic once k l)

    -- so that they are those of the list
    pub positions_are_nonbasic : AreNonbasic (positions_by n nonbasic) nonbasic
    positions_are_nonbasic = record {
      there = position_there;
      all = λ v k e. elim (cases_lt v n) [
        | inl l ↦ elim (place_or_none nonbasic v) [
          | inl h ↦ let same : InColumn h.0 ≡ InColumn k = sym (ap in_column h.3) ∙ sym (position_at v l) ∙ e in
              let q : h.0 ≡ k = cc in
              (subst (λ j. j < length nonbasic) q h.1, ap (λ j. get_or nonbasic j 0) (sym q) ∙ h.2)
          | inr h ↦ absurd (let no : InBasis ≡ InColumn k = sym (ap in_column h.1) ∙ sym (position_at v l) ∙ e in cc)
        ]
        | inr l ↦ absurd (let no : InBasis ≡ InColumn k = sym (get_or_past (positions_by n nonbasic) v InBasis (omega (arith, l, positions_many))) ∙ e in cc)
      ];
    }

-- they are known by the variables of the columns
pub positions_are : (n : ℕ) (ss : List Position) (nonbasic : List ℕ) → length ss ≡ n → AreNonbasic ss nonbasic → positions_by n nonbasic ≡ ss
positions_are n ss nonbasic many are = ext_get_or InBasis (positions_by n nonbasic) ss (positions_many n nonbasic ∙ sym many)
    (λ v l. position_at n nonbasic v (omega (arith, l, positions_many n nonbasic)) ∙ by v (get_or ss v InBasis) refl)
  where
    by : (v : ℕ) (s : Position) → get_or ss v InBasis ≡ s → in_column (position (nat_eq v) nonbasic) ≡ s
    by v InBasis e = ap in_column (place_missed nonbasic v (λ k l q. let no : InColumn k ≡ InBasis = sym (are.there k l) ∙ ap (λ u. get_or ss u InBasis) q ∙ e in cc))
    by v (InColumn k) e =
        let a = are.all v k e in
        ap in_column (subst (λ u. position (nat_eq u) nonbasic ≡ Some k) a.1 (place_found nonbasic (once_each ss nonbasic are) k a.0))

-- ---- rows
module _ (width : ℕ) where
  flat_within : (p n : ℕ) → p < n → p * width + width ≤ n * width
  flat_within p n l = row_fits p width n width l (omega arith)

  -- rows that are put behind others
  pub flat_front : (n p : ℕ) (xs ys : List ℤ) → length xs ≡ n * width → p < n → flat_row width (xs ++ ys) p ≡ flat_row width xs p
  flat_front n p xs ys e l = piece_of_front xs ys (p * width) (p * width + width) (omega (arith, e, flat_within p n l))

  pub flat_behind : (n : ℕ) (xs ys : List ℤ) → length xs ≡ n * width → length ys ≡ width → flat_row width (xs ++ ys) n ≡ ys
  flat_behind n xs ys e f = piece_behind_all xs ys (n * width) width e f

  -- the row at a place is that of a piece
  pub flat_of_piece : (from n p : ℕ) (xs : List ℤ) → p < n → flat_row width (slice_range xs from (from + n * width)) p ≡ slice_range xs (from + p * width) (from + p * width + width)
  flat_of_piece from n p xs l = piece_of_piece xs from (from + n * width) (p * width) (p * width + width) (omega (arith, flat_within p n l)) ∙ ap (slice_range xs (from + p * width)) (let q : from + (p * width + width) ≡ from + p * width + width = omega arith in q)

  pub flat_many : (n p : ℕ) (xs : List ℤ) → length xs ≡ n * width → p < n → length (flat_row width xs p) ≡ width
  flat_many n p xs e l = piece_many xs (p * width) width (omega (arith, e, flat_within p n l))

  module _ (columns : List ℕ) (numerators : List ℤ) where
    pub rows_many : length (rows_by width columns numerators) ≡ width
    rows_many = length-places (row_by width columns numerators) 0 width

    pub row_at : (v : ℕ) → v < width → get_or (rows_by width columns numerators) v [] ≡ row_by width columns numerators v
    row_at v l = place_at (row_by width columns numerators) width v [] l

    -- the row of the column at a place, and none of another column
    pub row_there : IsOnceEach columns → (p : ℕ) → p < length columns → row_by width columns numerators (get_or columns p 0) ≡ flat_row width numerators p
    row_there once p l = ap (flat_row_if_there width numerators) (place_found columns once p l)

    pub row_missed : (v : ℕ) → ((p : ℕ) → p < length columns → get_or columns p 0 ≢ v) → row_by width columns numerators v ≡ []
    row_missed v none = ap (flat_row_if_there width numerators) (place_missed columns v none)

  pub no_rows : (numerators : List ℤ) → rows_by width [] numerators ≡ replicate width []
  no_rows numerators = places_constant [] 0 width
