-- The dictionary behind a turn, by its pieces: the positions, the basic columns and the rows.
use Rattle.std.proofs.Common.{◌≡◌, ◌≢◌, ℕ, zero, suc, ◌+◌, ◌-◌, ◌*◌, ◌<◌, ◌≤◌, arith, refl, ap, sym, ◌∙◌, subst, inl, inr, List, [], ◌∷◌, ◌++◌, length, get_or, set, map, append_assoc, length-append}
use Rattle.std.specs.Prelude.{ℤ, pos, nat_abs, slice_range, All}
use Rattle.std.proofs.lemmas.Bool.{cases_lt}
use Rattle.std.proofs.lemmas.List.{append-nil, get_or_append_left, get_or_past, length-map, length-set, map-append}
use Rattle.std.proofs.lemmas.List.Edits.{get_or-between}
use Rattle.std.proofs.lemmas.List.Elements.{All-from_get_or, All-get_or, All-push, All-weaker}
use Rattle.integer_tableau.proofs.Apart.{entering_basic, leaving_there, nonbasic_after, other_stays}
use Rattle.integer_tableau.proofs.Arenas.{flat_many, piece_behind_all, piece_many, piece_of_front, piece_of_piece, positions_are, positions_many, rising_once, row_at, row_missed, row_there, rows_many, within_piece}
use Rattle.integer_tableau.proofs.BasicColumns.{column_of, column_there, columns_exchanged, columns_rise}
use Rattle.integer_tableau.proofs.Exchanges.{positions_exchanged}
use Rattle.integer_tableau.proofs.KeptViews.{kept_is}
use Rattle.integer_tableau.proofs.ListedRows.{none_stays}
use Rattle.integer_tableau.specs.Arena.{AreMadeRows, flat_row, positions_by, row_by, rows_by}
use Rattle.integer_tableau.specs.BasicColumns.{basic_exchanged, basic_from, count_below}
use Rattle.integer_tableau.specs.Numbers.{IsWithin, number_at}
use Rattle.integer_tableau.specs.Kept.{IsDictionaryBehind, IsInLists, IsKept, KeptDictionary, costs_of, kept_at, kept_in, rows_of}
use Rattle.integer_tableau.specs.Positions.{AreNonbasic}
use Rattle.integer_tableau.specs.Range.{size_limit}
use Rattle.integer_tableau.specs.Substitution.{IsSubstitutedIfFull, IsSubstitutedRow}
use Rattle.integer_tableau.specs.declared.dictionary.Dictionary.{Dictionary}
use Rattle.integer_tableau.specs.declared.position.Position.{Position}
use Rattle.integer_tableau.specs.declared.position.Position.TheVariants.{InBasis, InColumn}
use Rattle.integer_tableau.specs.declared.request.Turn.{Turn}

-- ---- the rows of basic columns
-- each of them is basic
pub column_basic : (i n : ℕ) (ss : List Position) (p : ℕ) → p < length (basic_from i n ss) → (v : ℕ) × (get_or (basic_from i n ss) p 0 ≡ i + v) × (v < n) × (get_or ss v InBasis ≡ InBasis)
column_basic i zero ss p l = absurd (omega (arith, l))
column_basic i (suc n) [] p l = absurd (omega (arith, l))
column_basic i (suc n) (InBasis ∷ ss) zero l = (0, omega arith, omega arith, refl)
column_basic i (suc n) (InBasis ∷ ss) (suc p) l = let h = column_basic (suc i) n ss p (omega (arith, l)) in (suc h.0, omega (arith, h.1), omega (arith, h.2), h.3)
column_basic i (suc n) (InColumn k ∷ ss) p l = let h = column_basic (suc i) n ss p l in (suc h.0, omega (arith, h.1), omega (arith, h.2), h.3)

-- those of n columns
module _ (n : ℕ) (ss : List Position) (columns : List ℕ) (are : columns ≡ basic_from 0 n ss) where
  pub are_basic : (p : ℕ) → p < length columns → (get_or columns p 0 < n) × (get_or ss (get_or columns p 0) InBasis ≡ InBasis)
  are_basic p l =
      let h = column_basic 0 n ss p (subst (λ js. p < length js) are l) in
      let e : get_or columns p 0 ≡ h.0 = ap (λ js. get_or js p 0) are ∙ h.1 ∙ (let q : 0 + h.0 ≡ h.0 = omega arith in q) in
      (omega (arith, e, h.2), ap (λ v. get_or ss v InBasis) e ∙ h.3)

  pub they_rise : (p q : ℕ) → p < q → q < length columns → get_or columns p 0 < get_or columns q 0
  they_rise = subst (λ js. (p q : ℕ) → p < q → q < length js → get_or js p 0 < get_or js q 0) (sym are) (columns_rise 0 n ss)

  pub is_listed : (v : ℕ) → v < n → v < length ss → get_or ss v InBasis ≡ InBasis → (p : ℕ) × (p < length columns) × (get_or columns p 0 ≡ v)
  is_listed v l m e =
      subst (λ js. (p : ℕ) × (p < length js) × (get_or js p 0 ≡ v)) (sym are)
      (let h = column_of 0 n v ss l m e in (h.0, h.1, h.2 ∙ (let q : 0 + v ≡ v = omega arith in q)))

  module _ (width : ℕ) (numbers : List ℤ) where
    pub row_listed : (p : ℕ) → p < length columns → row_by width columns numbers (get_or columns p 0) ≡ flat_row width numbers p
    row_listed p l = row_there width columns numbers (rising_once columns they_rise) p l

    pub row_unlisted : (v j : ℕ) → get_or ss v InBasis ≡ InColumn j → row_by width columns numbers v ≡ []
    row_unlisted v j e = row_missed width columns numbers v (λ p l q. let no : InColumn j ≡ InBasis = sym e ∙ ap (λ u. get_or ss u InBasis) (sym q) ∙ (are_basic p l).1 in cc)

-- the sizes of rows that stand one behind another, by each
pub within_rows : (most width n : ℕ) (xs : List ℤ) → ((p : ℕ) → p < n → IsWithin most (flat_row width xs p)) → (i : ℕ) → i < n * width → nat_abs (number_at xs i) ≤ most
within_rows most width zero xs h i l = absurd (let q : zero * width ≡ 0 = omega arith in omega (arith, l, q))
within_rows most width (suc n) xs h i l = elim (cases_lt i (n * width)) [
  | inl m ↦ within_rows most width n xs (λ p o. h p (omega (arith, o))) i m
  | inr m ↦
      let q : suc n * width ≡ n * width + width = omega arith in
      let at : number_at (flat_row width xs n) (i - n * width) ≡ number_at xs i =
      get_or-between xs (n * width) (n * width + width) (i - n * width) (pos 0) (omega (arith, l, m, q)) ∙ ap (number_at xs) (let s : n * width + (i - n * width) ≡ i = omega (arith, m) in s) in
      omega (arith, ap nat_abs at, h n (omega arith) (i - n * width))
]

-- ---- the dictionary
-- one by its pieces
abbrev pub of_pieces : ℕ → ℕ → List ℕ → List ℕ → List ℤ → List ℤ → ℤ → ℕ → ℕ → KeptDictionary
of_pieces variables width js vs numbers costs d first count = record {
  positions = positions_by variables vs;
  nonbasic = vs;
  basic_columns = js;
  rows = rows_by width js numbers;
  reduced_costs = costs;
  denominator = d;
  first_exit = first;
  exits = count;
}

module _ (variables width : ℕ) (js vs : List ℕ) (w : Turn) (many : width ≤ variables) (r_there : w.leaving < variables) (c_there : w.entering < variables)
    (at_r : get_or (positions_by variables vs) w.leaving InBasis ≡ InBasis) (at_c : get_or (positions_by variables vs) w.entering InBasis ≡ InColumn w.column)
    (nonbasic : AreNonbasic (positions_by variables vs) vs) (columns : length vs ≡ width) (basic : js ≡ basic_from 0 width (positions_by variables vs)) where
  abbrev ss : List Position
  ss = positions_by variables vs

  abbrev new_ss : List Position
  new_ss = positions_exchanged w.leaving w.entering w.column (positions_by variables vs)

  long : length (positions_by variables vs) ≡ variables
  long = positions_many variables vs

  new_long : length new_ss ≡ variables
  new_long = length-set (set ss w.leaving (InColumn w.column)) w.entering InBasis ∙ length-set ss w.leaving (InColumn w.column) ∙ long

  rs : w.leaving < length ss
  rs = omega (arith, r_there, long)

  cs : w.entering < length ss
  cs = omega (arith, c_there, long)

  pub column_within : w.column < width
  column_within = omega (arith, (nonbasic.all w.entering w.column at_c).0, columns)

  -- the leaving column is listed
  pub leaving_listed : w.leaving < width → count_below w.leaving js < length js
  leaving_listed l =
      subst (λ js. count_below w.leaving js < length js) (sym basic)
      (subst (λ x. count_below x (basic_from 0 width ss) < length (basic_from 0 width ss)) (let q : 0 + w.leaving ≡ w.leaving = omega arith in q) (column_there 0 width w.leaving ss l rs at_r))

  -- the new positions
  positions_behind : positions_by variables (set vs w.column w.leaving) ≡ new_ss
  positions_behind = positions_are variables new_ss (set vs w.column w.leaving) new_long (nonbasic_after ss w.leaving w.entering w.column at_c at_r cs rs vs nonbasic)

  -- the new basic columns
  module _ (new_js : List ℕ) (exchanged : new_js ≡ basic_exchanged width w.leaving w.entering js) where
    pub new_basic : new_js ≡ basic_from 0 width new_ss
    new_basic = exchanged ∙ ap (basic_exchanged width w.leaving w.entering) basic ∙ columns_exchanged width w.leaving w.entering w.column w.column ss (omega (arith, many, long)) rs cs at_r at_c

    apart : (v : ℕ) → get_or new_ss v InBasis ≡ InBasis → v ≢ w.leaving
    apart v e q = let no : InBasis ≡ InColumn w.column = sym e ∙ ap (λ u. get_or new_ss u InBasis) q ∙ leaving_there ss w.leaving w.entering w.column at_c at_r cs rs in cc

    -- each but the entering one was basic before
    pub known : (p : ℕ) → p < length new_js → get_or new_js p 0 ≢ w.entering → (q : ℕ) × (q < length js) × (get_or js q 0 ≡ get_or new_js p 0)
    known p l n =
        let v = get_or new_js p 0 in
        let b = are_basic width new_ss new_js new_basic p l in
        is_listed width ss js basic v b.0 (omega (arith, b.0, many, long)) (sym (other_stays ss w.leaving w.entering w.column at_c at_r cs rs v (apart v b.1) n) ∙ b.1)

    module _ (numbers costs : List ℤ) (d e : ℤ) (first count : ℕ) (solved made new_costs : List ℤ) (solved_long : length solved ≡ width)
        (rows : AreMadeRows d e w.column w.entering width solved (row_by width js numbers) new_js made) (new_costs_are : IsSubstitutedRow d e w.column solved costs new_costs) where
      abbrev old_rows : List (List ℤ)
      old_rows = rows_by width js numbers

      abbrev new_rows : List (List ℤ)
      new_rows = rows_by width new_js made

      put : w.entering < width → get_or new_rows w.entering [] ≡ solved
      put l =
          let z = is_listed width new_ss new_js new_basic w.entering l (omega (arith, c_there, new_long)) (entering_basic ss w.leaving w.entering w.column at_c at_r cs rs) in
          row_at width new_js made w.entering l
          ∙ subst (λ v. row_by width new_js made v ≡ flat_row width made z.0) z.2 (row_listed width new_ss new_js new_basic width made z.0 z.1)
          ∙ rows.put z.0 z.1 z.2

      by_position : (v : ℕ) (s : Position) → get_or ss v InBasis ≡ s → v < width → v ≢ w.entering → v ≢ w.leaving → IsSubstitutedIfFull d e w.column solved (row_by width js numbers v) (row_by width new_js made v)
      by_position v (InColumn k) at l n m =
          let old = row_unlisted width ss js basic width numbers v k at in
          let new = row_unlisted width new_ss new_js new_basic width made v k (other_stays ss w.leaving w.entering w.column at_c at_r cs rs v m n ∙ at) in
          none_stays d e w.column solved (row_by width js numbers v) (row_by width new_js made v) (omega (arith, column_within, solved_long)) (ap length old) (new ∙ sym old)
      by_position v InBasis at l n m =
          let z = is_listed width new_ss new_js new_basic v l (omega (arith, l, many, new_long)) (other_stays ss w.leaving w.entering w.column at_c at_r cs rs v m n ∙ at) in
          let new = subst (λ v. row_by width new_js made v ≡ flat_row width made z.0) z.2 (row_listed width new_ss new_js new_basic width made z.0 z.1) in
          let h = rows.others z.0 z.1 (λ q. n (sym z.2 ∙ q)) in
          let r = subst (λ v. IsSubstitutedRow d e w.column solved (row_by width js numbers v) (flat_row width made z.0)) z.2 h in
          record {
            full = λ _. subst (IsSubstitutedRow d e w.column solved (row_by width js numbers v)) (sym new) r;
            other = λ o. absurd (o (sym r.width ∙ flat_many width (length new_js) z.0 made rows.count z.1 ∙ sym solved_long));
          }

      left : get_or new_rows w.leaving [] ≡ []
      left = elim (cases_lt w.leaving width) [
        | inl l ↦ row_at width new_js made w.leaving l ∙ row_unlisted width new_ss new_js new_basic width made w.leaving w.column (leaving_there ss w.leaving w.entering w.column at_c at_r cs rs)
        | inr l ↦ get_or_past new_rows w.leaving [] (omega (arith, l, rows_many width new_js made))
      ]

      pub is_behind : IsDictionaryBehind (of_pieces variables width js vs numbers costs d first count) w solved e (of_pieces variables width new_js (set vs w.column w.leaving) made new_costs e 0 0)
      is_behind = record {
        positions = positions_behind;
        nonbasic = refl;
        basic_columns = exchanged ∙ ap (λ n. basic_exchanged n w.leaving w.entering js) (sym (rows_many width js numbers));
        count = rows_many width new_js made ∙ sym (rows_many width js numbers);
        put = λ l. put (omega (arith, l, rows_many width js numbers));
        others = λ v l n m.
            let o : v < width = omega (arith, l, rows_many width js numbers) in
            subst (λ row. IsSubstitutedIfFull d e w.column solved row (get_or new_rows v [])) (sym (row_at width js numbers v o))
            (subst (IsSubstitutedIfFull d e w.column solved (row_by width js numbers v)) (sym (row_at width new_js made v o)) (by_position v (get_or ss v InBasis) refl o n m));
        left = left;
        costs = new_costs_are;
        denominator = refl;
        first_exit = refl;
        exits = refl;
      }

-- ---- lists that grow
abbrev pub Grows : {A : Type 0} → List A → List A → Type 0
Grows {A} xs ys = (more : List A) × (ys ≡ xs ++ more)

pub grows_none : {A : Type 0} (xs : List A) → Grows xs xs
grows_none xs = ([], sym (append-nil xs))

module _ {A : Type 0} (xs ys : List A) (g : Grows xs ys) where
  longer : length xs ≤ length ys
  longer = omega (arith, ap length g.1, length-append xs g.0)

  stays : (i j : ℕ) → j ≤ length xs → slice_range ys i j ≡ slice_range xs i j
  stays i j l = ap (λ zs. slice_range zs i j) g.1 ∙ piece_of_front xs g.0 i j l

pub grows_on : {A : Type 0} (xs ys zs : List A) → Grows xs ys → Grows ys zs → Grows xs zs
grows_on xs ys zs g h = (g.0 ++ h.0, h.1 ∙ ap (λ us. us ++ h.0) g.1 ∙ append_assoc xs g.0 h.0)

-- the rows and the reduced costs of one
module _ (width : ℕ) (ns : List ℤ) (own : Dictionary) where
  pub rows_within : IsWithin own.size (slice_range ns own.numerators (own.numerators + own.count * width + width)) → IsWithin own.size (rows_of width ns own)
  rows_within w =
      subst (IsWithin own.size)
      (piece_of_piece ns own.numerators (own.numerators + own.count * width + width) 0 (own.count * width) (omega arith)
      ∙ ap (λ a. slice_range ns a (own.numerators + own.count * width)) (let q : own.numerators + 0 ≡ own.numerators = omega arith in q))
      (within_piece own.size 0 (own.count * width) (slice_range ns own.numerators (own.numerators + own.count * width + width)) w)

  costs_within : IsWithin own.size (slice_range ns own.numerators (own.numerators + own.count * width + width)) → IsWithin own.size (costs_of width ns own)
  costs_within w =
      subst (IsWithin own.size)
      (piece_of_piece ns own.numerators (own.numerators + own.count * width + width) (own.count * width) (own.count * width + width) (omega arith)
      ∙ ap (slice_range ns (own.numerators + own.count * width)) (let q : own.numerators + (own.count * width + width) ≡ own.numerators + own.count * width + width = omega arith in q))
      (within_piece own.size (own.count * width) (own.count * width + width) (slice_range ns own.numerators (own.numerators + own.count * width + width)) w)

  module _ (new_ns : List ℤ) (g : Grows ns new_ns) (there : own.numerators + own.count * width + width ≤ length ns) (n : ℕ) (n_is : n ≡ width) where
    pub costs_stay : slice_range new_ns (own.numerators + own.count * n) (own.numerators + own.count * n + width) ≡ costs_of width ns own
    costs_stay = (λ i. slice_range new_ns (own.numerators + own.count * n_is i) (own.numerators + own.count * n_is i + width))
        ∙ stays ns new_ns g (own.numerators + own.count * width) (own.numerators + own.count * width + width) there

    pub costs_still_within : IsWithin own.size (slice_range ns own.numerators (own.numerators + own.count * width + width)) → IsWithin own.size (slice_range new_ns (own.numerators + own.count * n) (own.numerators + own.count * n + width))
    costs_still_within w = subst (IsWithin own.size) (sym costs_stay) (costs_within w)

-- the dictionaries stay
module _ (variables width : ℕ) (ns new_ns : List ℤ) (bs new_bs vs new_vs : List ℕ) (g : Grows ns new_ns) (h : Grows bs new_bs) (k : Grows vs new_vs) where
  still_in_lists : (d : Dictionary) → IsInLists width ns bs vs d → IsInLists width new_ns new_bs new_vs d
  still_in_lists d i = record {
    numerators_there = omega (arith, i.numerators_there, longer ns new_ns g);
    basic_there = omega (arith, i.basic_there, longer bs new_bs h);
    nonbasic_there = omega (arith, i.nonbasic_there, longer vs new_vs k);
    within = subst (IsWithin d.size) (sym (stays ns new_ns g d.numerators (d.numerators + d.count * width + width) i.numerators_there)) i.within;
  }

  still_kept : (d : Dictionary) → IsInLists width ns bs vs d → kept_in variables width new_ns new_bs new_vs d ≡ kept_in variables width ns bs vs d
  still_kept d i =
      let there : d.numerators + d.count * width ≤ length ns = omega (arith, i.numerators_there) in
      let rows = stays ns new_ns g d.numerators (d.numerators + d.count * width) there in
      let costs = stays ns new_ns g (d.numerators + d.count * width) (d.numerators + d.count * width + width) i.numerators_there in
      let columns = stays bs new_bs h d.basic_columns (d.basic_columns + d.count) i.basic_there in
      let nonbasic = stays vs new_vs k d.nonbasic (d.nonbasic + width) i.nonbasic_there in
      λ t. of_pieces variables width (columns t) (nonbasic t) (rows t) (costs t) d.divisor.number d.first_exit d.exits

  pub all_in_lists : (ds : List Dictionary) → All (IsInLists width ns bs vs) ds → All (IsInLists width new_ns new_bs new_vs) ds
  all_in_lists ds = All-weaker (IsInLists width ns bs vs) (IsInLists width new_ns new_bs new_vs) still_in_lists ds

  pub all_kept : (ds : List Dictionary) → All (IsInLists width ns bs vs) ds → map (kept_in variables width new_ns new_bs new_vs) ds ≡ map (kept_in variables width ns bs vs) ds
  all_kept [] a = refl
  all_kept (d ∷ ds) a = λ t. still_kept d (All-get_or (IsInLists width ns bs vs) (d ∷ ds) 0 d (omega arith) a) t
      ∷ all_kept ds (All-from_get_or (IsInLists width ns bs vs) ds d (λ i l. All-get_or (IsInLists width ns bs vs) (d ∷ ds) (suc i) d (omega (arith, l)) a)) t

-- ---- one that is put in behind the others
pub record IsPushed (width : ℕ) (ns new_ns : List ℤ) (bs new_bs vs new_vs js us : List ℕ) (made costs : List ℤ) (e : ℤ) (x : Dictionary) : Type 0 where
  pub numerators : new_ns ≡ ns ++ made ++ costs
  pub numerators_from : x.numerators ≡ length ns
  pub made_many : length made ≡ length js * width
  pub costs_many : length costs ≡ width
  pub basic : new_bs ≡ bs ++ js
  pub basic_from : x.basic_columns ≡ length bs
  pub count : x.count ≡ length js
  pub nonbasic : new_vs ≡ vs ++ us
  pub nonbasic_from : x.nonbasic ≡ length vs
  pub nonbasic_many : length us ≡ width
  pub size : IsWithin x.size (made ++ costs)
  pub denominator : x.divisor.number ≡ e
  pub first_exit : x.first_exit ≡ 0
  pub exits : x.exits ≡ 0

module _ (variables width : ℕ) (ns new_ns : List ℤ) (bs new_bs vs new_vs js us : List ℕ) (made costs : List ℤ) (e : ℤ) (x : Dictionary) (f : IsPushed width ns new_ns bs new_bs vs new_vs js us made costs e x) where
  rows_end : x.count * width ≡ length made
  rows_end = ap (λ n. n * width) f.count ∙ sym f.made_many

  costs_from : x.numerators + x.count * width ≡ length (ns ++ made)
  costs_from = omega (arith, rows_end, f.numerators_from, length-append ns made)

  rows_are : slice_range new_ns x.numerators (x.numerators + x.count * width) ≡ made
  rows_are = (λ t. slice_range (f.numerators t) (f.numerators_from t) (f.numerators_from t + rows_end t))
      ∙ piece_of_front (ns ++ made) costs (length ns) (length ns + length made) (omega (arith, length-append ns made))
      ∙ piece_behind_all ns made (length ns) (length made) refl refl

  costs_are : slice_range new_ns (x.numerators + x.count * width) (x.numerators + x.count * width + width) ≡ costs
  costs_are = (λ t. slice_range (f.numerators t) (costs_from t) (costs_from t + width)) ∙ piece_behind_all (ns ++ made) costs (length (ns ++ made)) width refl f.costs_many

  all_are : slice_range new_ns x.numerators (x.numerators + x.count * width + width) ≡ made ++ costs
  all_are =
      let end : x.numerators + x.count * width + width ≡ length ns + length (made ++ costs) = omega (arith, rows_end, f.numerators_from, f.costs_many, length-append made costs) in
      (λ t. slice_range (f.numerators t) (f.numerators_from t) (end t)) ∙ ap (λ zs. slice_range zs (length ns) (length ns + length (made ++ costs))) (append_assoc ns made costs)
      ∙ piece_behind_all ns (made ++ costs) (length ns) (length (made ++ costs)) refl refl

  basic_are : slice_range new_bs x.basic_columns (x.basic_columns + x.count) ≡ js
  basic_are = (λ t. slice_range (f.basic t) (f.basic_from t) (f.basic_from t + f.count t)) ∙ piece_behind_all bs js (length bs) (length js) refl refl

  nonbasic_are : slice_range new_vs x.nonbasic (x.nonbasic + width) ≡ us
  nonbasic_are = (λ t. slice_range (f.nonbasic t) (f.nonbasic_from t) (f.nonbasic_from t + width)) ∙ piece_behind_all vs us (length vs) width refl f.nonbasic_many

  pushed_in_lists : IsInLists width new_ns new_bs new_vs x
  pushed_in_lists = record {
    numerators_there = omega (arith, costs_from, f.costs_many, ap length f.numerators, length-append (ns ++ made) costs);
    basic_there = omega (arith, f.basic_from, f.count, ap length f.basic, length-append bs js);
    nonbasic_there = omega (arith, f.nonbasic_from, f.nonbasic_many, ap length f.nonbasic, length-append vs us);
    within = subst (IsWithin x.size) (sym all_are) f.size;
  }

  pushed_kept : kept_in variables width new_ns new_bs new_vs x ≡ of_pieces variables width js us made costs e 0 0
  pushed_kept = λ t. of_pieces variables width (basic_are t) (nonbasic_are t) (rows_are t) (costs_are t) (f.denominator t) (f.first_exit t) (f.exits t)

  numerators_grow : Grows ns new_ns
  numerators_grow = (made ++ costs, f.numerators ∙ append_assoc ns made costs)

  pub lists_pushed : (ds new_ds : List Dictionary) → new_ds ≡ ds ++ x ∷ [] → All (IsInLists width ns bs vs) ds → All (IsInLists width new_ns new_bs new_vs) new_ds
  lists_pushed ds new_ds added a = subst (All (IsInLists width new_ns new_bs new_vs)) (sym added)
      (All-push (IsInLists width new_ns new_bs new_vs) ds x (all_in_lists variables width ns new_ns bs new_bs vs new_vs numerators_grow (js, f.basic) (us, f.nonbasic) ds a) pushed_in_lists)

  pub kept_pushed : (ds new_ds : List Dictionary) → new_ds ≡ ds ++ x ∷ [] → All (IsInLists width ns bs vs) ds
      → map (kept_in variables width new_ns new_bs new_vs) new_ds ≡ map (kept_in variables width ns bs vs) ds ++ of_pieces variables width js us made costs e 0 0 ∷ []
  kept_pushed ds new_ds added a = ap (map (kept_in variables width new_ns new_bs new_vs)) added ∙ map-append (kept_in variables width new_ns new_bs new_vs) ds (x ∷ [])
      ∙ (λ t. all_kept variables width ns new_ns bs new_bs vs new_vs numerators_grow (js, f.basic) (us, f.nonbasic) ds a t ++ pushed_kept t ∷ [])

-- ---- that at a place
module _ (variables width : ℕ) (ns : List ℤ) (bs vs : List ℕ) (ds : List Dictionary) (all : List KeptDictionary) (e : map (kept_in variables width ns bs vs) ds ≡ all) (place : ℕ) (there : place < length all)
    (own : Dictionary) (at : own ≡ get_or ds place own) where
  there_is : place < length ds
  there_is = omega (arith, there, ap length e, length-map ds (kept_in variables width ns bs vs))

  pub own_is : kept_at all place ≡ kept_in variables width ns bs vs own
  own_is = ap (λ ks. kept_at ks place) (sym e) ∙ kept_is variables width ns bs vs ds place own there_is at

  pub own_in_lists : All (IsInLists width ns bs vs) ds → IsInLists width ns bs vs own
  own_in_lists a = subst (IsInLists width ns bs vs) (sym at) (All-get_or (IsInLists width ns bs vs) ds place own there_is a)

-- ---- the dictionary before a turn
pub record IsBefore (variables width : ℕ) (ns : List ℤ) (bs vs : List ℕ) (own : Dictionary) (w : Turn) (solved : List ℤ) : Type 0 where
  pub ps : List (List ℤ)
  pub weight : ℕ
  pub costs : List ℤ
  pub kept : IsKept ps weight costs (kept_in variables width ns bs vs own)
  pub leaving_there : w.leaving < length (positions_by variables (slice_range vs own.nonbasic (own.nonbasic + width)))
  pub entering_there : w.entering < length (positions_by variables (slice_range vs own.nonbasic (own.nonbasic + width)))
  pub leaving : get_or (positions_by variables (slice_range vs own.nonbasic (own.nonbasic + width))) w.leaving InBasis ≡ InBasis
  pub entering : get_or (positions_by variables (slice_range vs own.nonbasic (own.nonbasic + width))) w.entering InBasis ≡ InColumn w.column
  pub same_width : length solved ≡ length (rows_by width (slice_range bs own.basic_columns (own.basic_columns + own.count)) (rows_of width ns own))

pub before_of : (variables width : ℕ) (ns : List ℤ) (bs vs : List ℕ) (own : Dictionary) (w : Turn) (solved : List ℤ) (k : KeptDictionary) → k ≡ kept_in variables width ns bs vs own
    → ((ps : List (List ℤ)) × (weight : ℕ) × (costs : List ℤ) × IsKept ps weight costs k) → w.leaving < length k.positions → w.entering < length k.positions
    → get_or k.positions w.leaving InBasis ≡ InBasis → get_or k.positions w.entering InBasis ≡ InColumn w.column → length solved ≡ length k.rows → IsBefore variables width ns bs vs own w solved
before_of variables width ns bs vs own w solved k e kept l m at_r at_c same = record {
  ps = kept.0;
  weight = kept.1;
  costs = kept.2;
  kept = subst (IsKept kept.0 kept.1 kept.2) e kept.3;
  leaving_there = subst (λ (k : KeptDictionary). w.leaving < length k.positions) e l;
  entering_there = subst (λ (k : KeptDictionary). w.entering < length k.positions) e m;
  leaving = subst (λ (k : KeptDictionary). get_or k.positions w.leaving InBasis ≡ InBasis) e at_r;
  entering = subst (λ (k : KeptDictionary). get_or k.positions w.entering InBasis ≡ InColumn w.column) e at_c;
  same_width = subst (λ (k : KeptDictionary). length solved ≡ length k.rows) e same;
}

module _ (variables width : ℕ) (ns : List ℤ) (bs vs : List ℕ) (own : Dictionary) (w : Turn) (solved : List ℤ) (b : IsBefore variables width ns bs vs own w solved) (i : IsInLists width ns bs vs own) where
  abbrev js : List ℕ
  js = slice_range bs own.basic_columns (own.basic_columns + own.count)

  abbrev us : List ℕ
  us = slice_range vs own.nonbasic (own.nonbasic + width)

  abbrev numbers : List ℤ
  numbers = slice_range ns own.numerators (own.numerators + own.count * width)

  width_is : length (rows_by width js numbers) ≡ width
  width_is = rows_many width js numbers

  pub solved_long : length solved ≡ width
  solved_long = b.same_width ∙ width_is

  js_long : length js ≡ own.count
  js_long = piece_many bs own.basic_columns own.count i.basic_there

  js_are : js ≡ basic_from 0 width (positions_by variables us)
  js_are = b.kept.basic ∙ ap (λ n. basic_from 0 n (positions_by variables us)) width_is

  fewer : width ≤ variables
  fewer = omega (arith, b.kept.stored.compact.variables, width_is, positions_many variables us)

  r_is_there : w.leaving < variables
  r_is_there = omega (arith, b.leaving_there, positions_many variables us)

  c_is_there : w.entering < variables
  c_is_there = omega (arith, b.entering_there, positions_many variables us)

  columns_many : length us ≡ width
  columns_many = b.kept.columns ∙ width_is

  pub turn_listed : w.leaving < width → count_below w.leaving js < length js
  turn_listed = leaving_listed variables width js us w fewer r_is_there c_is_there b.leaving b.entering b.kept.nonbasic columns_many js_are

  pub turn_column : w.column < width
  turn_column = column_within variables width js us w fewer r_is_there c_is_there b.leaving b.entering b.kept.nonbasic columns_many js_are

  pub turn_rises : (p q : ℕ) → p < q → q < length js → get_or js p 0 < get_or js q 0
  turn_rises = they_rise width (positions_by variables us) js js_are

  pub turn_known : (new_js : List ℕ) → new_js ≡ basic_exchanged width w.leaving w.entering js → (p : ℕ) → p < length new_js → get_or new_js p 0 ≢ w.entering → (q : ℕ) × (q < length js) × (get_or js q 0 ≡ get_or new_js p 0)
  turn_known = known variables width js us w fewer r_is_there c_is_there b.leaving b.entering b.kept.nonbasic columns_many js_are

  -- the numbers of its rows are small
  row_small : (p : ℕ) → p < own.count → IsWithin (size_limit - 1) (flat_row width numbers p)
  row_small p l =
      let m : p < length js = omega (arith, l, js_long) in
      let v = get_or js p 0 in
      let there = (are_basic width (positions_by variables us) js js_are p m).0 in
      subst (IsWithin (size_limit - 1)) (row_at width js numbers v there ∙ row_listed width (positions_by variables us) js js_are width numbers p m)
      (subst (IsWithin (size_limit - 1)) (get_or_append_left (rows_by width js numbers) _ [] v (omega (arith, there, width_is))) (b.kept.stored.compact.rows_within v))

  pub rows_small : IsWithin (size_limit - 1) numbers
  rows_small k = elim (cases_lt k (length numbers)) [
    | inl l ↦ within_rows (size_limit - 1) width own.count numbers row_small k (omega (arith, l, piece_many ns own.numerators (own.count * width) (omega (arith, i.numerators_there))))
    | inr l ↦ let q : nat_abs (number_at numbers k) ≡ 0 = ap nat_abs (get_or_past numbers k (pos 0) l) in omega (arith, q)
  ]

  pub costs_small : IsWithin (size_limit - 1) (costs_of width ns own)
  costs_small = b.kept.stored.compact.costs_within

  pub behind : (new_js : List ℕ) (e : ℤ) (made new_costs : List ℤ) → new_js ≡ basic_exchanged width w.leaving w.entering js
      → AreMadeRows own.divisor.number e w.column w.entering width solved (row_by width js numbers) new_js made → IsSubstitutedRow own.divisor.number e w.column solved (costs_of width ns own) new_costs
      → IsDictionaryBehind (kept_in variables width ns bs vs own) w solved e (of_pieces variables width new_js (set us w.column w.leaving) made new_costs e 0 0)
  behind new_js e made new_costs exchanged rows costs_are =
      is_behind variables width js us w fewer r_is_there c_is_there b.leaving b.entering b.kept.nonbasic columns_many js_are new_js exchanged numbers (costs_of width ns own) own.divisor.number e own.first_exit own.exits
      solved made new_costs solved_long rows costs_are
