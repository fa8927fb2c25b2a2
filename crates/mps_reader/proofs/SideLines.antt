-- Lemmas: the tables of RHS and RANGES after the lines before.
use Rattle.std.specs.Prelude.{◌≡◌, ℕ, ◌+◌, ◌&&◌, Bool, true, false, not, nat_le, if◌then◌else◌, cond, ◌<◌, ◌==◌, List, ◌∷◌, ◌++◌, map, Option, Some, None, is_some, length, zero, suc, ◌≢◌, []}
use Rattle.std.specs.Option.{option_map, option_or, unwrap_or}
use Rattle.std.specs.Str.{bytes_eq}
use Rattle.std.proofs.Common.{refl, sym, ap, ◌∙◌, arith, append-nil, get_or, set}
use Rattle.std.proofs.lemmas.List.{get_or-set_other, get_or-set_same, length-map}
use Rattle.std.proofs.lemmas.List.Sums.{sum_by-append}
use Rattle.fraction.specs.Rational.{ℚ}
use Rattle.mps_lines.specs.Lines.{Line}
use denote.Ref.{Bor}
use Rattle.mps_reader.specs.Faults.{◌<|>◌, when, is_counted, is_ranged, counted, count_ranged, side_number_fault, sides_fault, side_line_fault, differs, side_fault}
use Rattle.mps_reader.specs.Lemmas.Named.{bytes_flip, value_under_push, same_text}
use Rattle.mps_reader.specs.RowsSoFar.{IsRowAt}
use Rattle.mps_reader.proofs.RowsSoFar.{or_none, row_gives, row_set}
use Rattle.mps_reader.specs.Sections.{pairs_of, sides, sides_of, side_set, set_of_sides, with_sides}
use Rattle.mps_reader.specs.SideTable.{Gives}
use Rattle.mps_reader.specs.Tables.{Stops, table, texts}
use Rattle.mps_reader.proofs.TableLemmas.{length-table}
use Rattle.mps_reader.specs.Words.{value_under}
use Rattle.mps_reader.specs.declared.kinds.Kind.{Kind}
use Rattle.mps_reader.specs.declared.kinds.Kind.TheVariants as kind
use Rattle.mps_reader.specs.declared.kinds.RowType.{RowType}
use Rattle.mps_reader.specs.declared.kinds.Stop.{Stop}
use Rattle.mps_reader.specs.declared.kinds.Stop.TheVariants as stop
use Rattle.mps_reader.specs.declared.sides.Sides.{Sides}
use Rattle.mps_reader.specs.SideLines.{number_for, side_so_far, HasSides, some_sides_fault}
use Rattle.problem.specs.Limits.{most_rows}

-- ---- no row
pub none_so_far : (rows : List (List ℕ × RowType)) (i : ℕ) → get_or (map (side_so_far []) rows) i None ≡ None
none_so_far [] i = refl
none_so_far (r ∷ rows) zero = refl
none_so_far (r ∷ rows) (suc i) = none_so_far rows i

-- before its first line a section says the same of any rows
pub sides_none : (ranged : Bool) (rows new : List (List ℕ × RowType)) (st : Sides) → HasSides ranged rows st [] → HasSides ranged new st []
sides_none ranged rows new st h = record { numbers = λ i. h.numbers i ∙ none_so_far rows i ∙ sym (none_so_far new i); count = h.count }

-- ---- one more row
too_many : (ranged counts : Bool) (m n : ℕ) → (ranged ≡ true → m ≡ n) → (ranged && counts && nat_le most_rows m) ≡ (ranged && counts && nat_le most_rows n)
too_many true counts m n h = ap (λ k. counts && nat_le most_rows k) (h refl)
too_many false counts m n h = refl

and_assoc : (a b c : Bool) → ((a && b) && c) ≡ (a && b && c)
and_assoc true b c = refl
and_assoc false b c = refl

-- a row that isn't known is at fault
pub unknown_row : (ranged : Bool) (rows : List (List ℕ × RowType)) (before : List (List ℕ × List ℕ)) (pair : List ℕ × List ℕ) → None ≡ value_under rows pair.0 → side_fault ranged rows before pair ≡ Some kind.UnknownRow
unknown_row ranged rows before pair n =
    λ j. when (not (is_some (sym n j))) kind.UnknownRow <|> when (is_some (value_under before pair.0)) kind.Duplicate
    <|> when (ranged && is_ranged rows pair.0 && nat_le most_rows (counted rows + count_ranged rows before)) kind.TooMany <|> side_number_fault pair.1

-- a row without a fault is new in its section
fine_is_new : (ranged : Bool) (rows : List (List ℕ × RowType)) (before : List (List ℕ × List ℕ)) (pair : List ℕ × List ℕ) → side_fault ranged rows before pair ≡ None → value_under before pair.0 ≡ None
fine_is_new ranged rows before pair f =
    by (not (is_some (value_under rows pair.0))) (value_under before pair.0) (when (ranged && is_ranged rows pair.0 && nat_le most_rows (counted rows + count_ranged rows before)) kind.TooMany <|> side_number_fault pair.1) f
  where
    by : (u : Bool) (o : Option (List ℕ)) (rest : Option Kind) → (when u kind.UnknownRow <|> when (is_some o) kind.Duplicate <|> rest) ≡ None → o ≡ None
    by true o rest f = cc
    by false None rest f = refl
    by false (Some v) rest f = cc

is_some_map : {A B : Type 0} (f : A → B) (o : Option A) → is_some (option_map f o) ≡ is_some o
is_some_map f None = refl
is_some_map f (Some a) = refl

module _ (ranged : Bool) (es : List (Bor (List ℕ) × RowType)) (st : Sides) (before : List (List ℕ × List ℕ)) (h : HasSides ranged (table es) st before) (pair : List ℕ × List ℕ)
    (i : ℕ) (r : IsRowAt es pair.0 i) (type : RowType) (t : value_under (table es) pair.0 ≡ Some type) where
  -- whether the row stands among those before
  given_is : is_some (get_or st.numbers i None) ≡ is_some (value_under before pair.0)
  given_is = ap is_some (h.numbers i)
      ∙ row_gives pair.0 (side_so_far before) is_some (is_some (value_under before pair.0)) (λ r b. is_some_map (number_for r.1) (value_under before r.0) ∙ ap (λ n. is_some (value_under before n)) (sym (same_text pair.0 r.0 b)))
      es i None r.at r.within

  ranged_is : is_ranged (table es) pair.0 ≡ is_counted type
  ranged_is = ap (λ o. unwrap_or (option_map is_counted o) false) t

  -- the row's fault, by what the table says of it and how many rows there are
  fault_by : (count : ℕ) → count ≡ counted (table es) → side_fault ranged (table es) before pair
      ≡ (when (is_some (get_or st.numbers i None)) kind.Duplicate <|> when ((ranged && is_counted type) && nat_le most_rows (count + st.ranged)) kind.TooMany <|> side_number_fault pair.1)
  fault_by count e =
      let m : (ranged && is_ranged (table es) pair.0 && nat_le most_rows (counted (table es) + count_ranged (table es) before)) ≡ ((ranged && is_counted type) && nat_le most_rows (count + st.ranged)) =
      ap (λ b. ranged && b && nat_le most_rows (counted (table es) + count_ranged (table es) before)) ranged_is
      ∙ sym (too_many ranged (is_counted type) (count + st.ranged) (counted (table es) + count_ranged (table es) before) (λ r. (λ j. e j + h.count r j)))
      ∙ sym (and_assoc ranged (is_counted type) (nat_le most_rows (count + st.ranged))) in
      λ j. when (not (is_some (t j))) kind.UnknownRow <|> when (sym given_is j) kind.Duplicate <|> when (m j) kind.TooMany <|> side_number_fault pair.1

  -- the same, by what the line has found
  pub fault_found : (count : ℕ) → count ≡ counted (table es) → (o : Option ℚ) → o ≡ get_or st.numbers i None → (twice full : Bool) → twice ≡ (ranged && is_counted type) → full ≡ (twice && nat_le most_rows (count + st.ranged))
      → side_fault ranged (table es) before pair ≡ (when (is_some o) kind.Duplicate <|> when full kind.TooMany <|> side_number_fault pair.1)
  fault_found count e o n twice full b f =
      let m : ((ranged && is_counted type) && nat_le most_rows (count + st.ranged)) ≡ full = ap (λ b. b && nat_le most_rows (count + st.ranged)) (sym b) ∙ sym f in
      fault_by count e ∙ (λ j. when (is_some (sym n j)) kind.Duplicate <|> when (m j) kind.TooMany <|> side_number_fault pair.1)

  counted_push : count_ranged (table es) (before ++ pair ∷ []) ≡ count_ranged (table es) before + (if is_ranged (table es) pair.0 then 1 else 0)
  counted_push = omega (arith, sum_by-append (λ p. cond (is_ranged (table es) p.0) 1 0) before (pair ∷ []))

  abbrev q : ℚ
  q = number_for type pair.1

  -- the row has its number then, and the others have theirs
  own_number : value_under before pair.0 ≡ None → (r : List ℕ × RowType) → bytes_eq pair.0 r.0 ≡ true → Some type ≡ Some r.1 → Some q ≡ side_so_far (before ++ pair ∷ []) r
  own_number n r b k =
      let s : type ≡ r.1 = cc in
      let f : bytes_eq r.0 pair.0 ≡ true = bytes_flip r.0 pair.0 ∙ b in
      let m : value_under before r.0 ≡ None = ap (value_under before) (sym (same_text pair.0 r.0 b)) ∙ n in
      (λ j. Some (number_for (s j) pair.1))
      ∙ sym (ap (option_map (number_for r.1)) (value_under_push before pair.0 pair.1 r.0 ∙ (λ j. option_or (m j) (cond (f j) (Some pair.1) None))))

  other_number : (r : List ℕ × RowType) → bytes_eq pair.0 r.0 ≡ false → side_so_far before r ≡ side_so_far (before ++ pair ∷ []) r
  other_number r b =
      let f : bytes_eq r.0 pair.0 ≡ false = bytes_flip r.0 pair.0 ∙ b in
      sym (ap (option_map (number_for r.1)) (value_under_push before pair.0 pair.1 r.0 ∙ ap (λ b. option_or (value_under before r.0) (cond b (Some pair.1) None)) f ∙ or_none (value_under before r.0)))

  sides_more : value_under before pair.0 ≡ None → (new : Sides) → Gives st.numbers new.numbers i q → new.ranged ≡ st.ranged + (if ranged && is_counted type then 1 else 0)
      → HasSides ranged (table es) new (before ++ pair ∷ [])
  sides_more n new g u = record {
    numbers = λ j. g j ∙ by j (j == i) refl ∙ ap (λ os. get_or os j None)
        (row_set pair.0 (Some type) (side_so_far before) (side_so_far (before ++ pair ∷ [])) (λ o. Some q) (own_number n) other_number es i None r t);
    count = λ e. u ∙ (λ j. h.count e j + (if e j && sym ranged_is j then 1 else 0)) ∙ sym counted_push;
  }
    where
      xs : List (Option ℚ)
      xs = map (side_so_far before) (table es)

      within : i < length xs
      within = omega (arith, r.within, length-map (table es) (side_so_far before), length-table es)

      by : (j : ℕ) (b : Bool) → (j == i) ≡ b → (if b then Some q else get_or st.numbers j None) ≡ get_or (set xs i (Some q)) j None
      by j true k = let e : j ≡ i = grind (arith, k) in sym ((λ m. get_or (set xs i (Some q)) (e m) None) ∙ get_or-set_same xs i (Some q) None within)
      by j false k = h.numbers j ∙ sym (get_or-set_other xs i j (Some q) None (λ e. let c : (j == i) ≡ true = grind (arith, e) in cc))

  -- the row is taken, and counts once more or not
  pub row_taken : side_fault ranged (table es) before pair ≡ None → (new : Sides) → Gives st.numbers new.numbers i q → (more : Bool) → (ranged && is_counted type) ≡ more → new.ranged ≡ st.ranged + (if more then 1 else 0)
      → ((side_fault ranged (table es) before pair <|> None) ≡ None) × HasSides ranged (table es) new (before ++ pair ∷ [])
  row_taken n new g more b u = (ap (λ o. o <|> None) n, sides_more (fine_is_new ranged (table es) before pair n) new g (u ∙ ap (λ b. st.ranged + (if b then 1 else 0)) (sym b)))

-- two faults, the first of which stands alone before
pub stops_before : (t : Stop) (a b : Option Kind) → Stops t (a <|> None) → Stops t (a <|> b)
stops_before (stop.Fault k) None b h = cc
stops_before (stop.Fault k) (Some j) b h = h
stops_before stop.Memory a b h = tt

-- what a line says, by its rows and its set
pub record IsSideLine (ranged : Bool) (rows : List (List ℕ × RowType)) (earlier : List Line) (fields : List (List ℕ)) (found : Option Kind) (pairs : Option (List (List ℕ × List ℕ))) (set : Option (List ℕ)) : Type 0 where
  pub judged : side_line_fault ranged rows earlier (sides fields) ≡ found
  pub more : with_sides (sides fields) (sides_of earlier) ≡ sides_of earlier ++ unwrap_or pairs []
  pub named_is : set_of_sides (sides fields) (side_set earlier) ≡ set

no_set : (set : Option (List ℕ)) → differs set None ≡ false
no_set None = refl
no_set (Some a) = refl

module _ (ranged : Bool) (rows : List (List ℕ × RowType)) (earlier : List Line) where
  abbrev pub IsPlainLine : List (List ℕ) → Type 0
  IsPlainLine fields = IsSideLine ranged rows earlier fields (some_sides_fault ranged rows (sides_of earlier) (pairs_of fields)) (pairs_of fields) (side_set earlier)

  plain_none : (fields : List (List ℕ)) → sides fields ≡ None → pairs_of fields ≡ None → IsPlainLine fields
  plain_none fields h k = record {
    judged = ap (side_line_fault ranged rows earlier) h ∙ sym (ap (some_sides_fault ranged rows (sides_of earlier)) k);
    more = ap (λ s. with_sides s (sides_of earlier)) h ∙ sym (append-nil (sides_of earlier)) ∙ sym (ap (λ p. sides_of earlier ++ unwrap_or p []) k);
    named_is = ap (λ s. set_of_sides s (side_set earlier)) h;
  }

  plain_some : (fields : List (List ℕ)) (pairs : List (List ℕ × List ℕ)) → sides fields ≡ Some (None, pairs) → pairs_of fields ≡ Some pairs → IsPlainLine fields
  plain_some fields pairs h k = record {
    judged = ap (side_line_fault ranged rows earlier) h ∙ ap (λ (b : Bool). when b kind.ManySets <|> sides_fault ranged rows (sides_of earlier) pairs) (no_set (side_set earlier))
        ∙ sym (ap (some_sides_fault ranged rows (sides_of earlier)) k);
    more = ap (λ s. with_sides s (sides_of earlier)) h ∙ sym (ap (λ p. sides_of earlier ++ unwrap_or p []) k);
    named_is = ap (λ s. set_of_sides s (side_set earlier)) h;
  }

  pub plain_line : (fields : List (Bor (List ℕ))) → length fields ≢ 3 → length fields ≢ 5 → IsPlainLine (texts fields)
  plain_line [] h k = plain_none [] refl refl
  plain_line (a ∷ []) h k = plain_none (texts (a ∷ [])) refl refl
  plain_line (a ∷ b ∷ []) h k = plain_some (texts (a ∷ b ∷ [])) _ refl refl
  plain_line (a ∷ b ∷ c ∷ []) h k = absurd (h refl)
  plain_line (a ∷ b ∷ c ∷ d ∷ []) h k = plain_some (texts (a ∷ b ∷ c ∷ d ∷ [])) _ refl refl
  plain_line (a ∷ b ∷ c ∷ d ∷ e ∷ []) h k = absurd (k refl)
  plain_line (a ∷ b ∷ c ∷ d ∷ e ∷ f ∷ fields) h k = plain_none (texts (a ∷ b ∷ c ∷ d ∷ e ∷ f ∷ fields)) refl refl
