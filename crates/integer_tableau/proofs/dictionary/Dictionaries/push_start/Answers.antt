use Rattle.std.proofs.Common.{◌≡◌, ◌+◌, ◌*◌, ◌++◌, ◌∷◌, ◌∙◌, [], refl, sym, ap, subst, arith, ℕ, List, length, get_or, map, replicate}
use Rattle.std.specs.Prelude.{ℤ, pos, slice_range, All}
use Rattle.std.specs.List.{range_with_len}
use Rattle.std.proofs.lemmas.List.{length-append, length-map, nil_from_length}
use Rattle.std.proofs.lemmas.List.Elements.{All-nil, All-push}
use Rattle.std.proofs.lemmas.List.FromFn.{get_or-range_with_len, length-range_with_len}
use Rattle.integer_tableau.proofs.Arenas.{no_rows, piece_behind_all}
use Rattle.integer_tableau.proofs.KeptViews.{start_positions_are}
use Rattle.integer_tableau.specs.Arena.{positions_by, rows_by}
use Rattle.integer_tableau.specs.Kept.{IsInLists, IsNewStart, KeptDictionaries, KeptDictionary, kept_in, rows_of}
use Rattle.integer_tableau.specs.Numbers.{IsWithin}
use Rattle.integer_tableau.specs.Start.{columns_from}
use Rattle.integer_tableau.specs.declared.dictionary.Dictionary.{Dictionary}
use Rattle.integer_tableau.specs.declared.position.Position.TheVariants.{InBasis}
use Rattle.integer_tableau.proofs.dictionary.Dictionaries.push_start.Goals as goal
use Rattle.integer_tableau.proofs.dictionary.Dictionaries.push_start.Goals.{In_ok-push}

-- the first dictionary's numbers are put behind what was in the lists
record IsFirst (width : ℕ) (costs ns : List ℤ) (vs : List ℕ) (x : Dictionary) : Type 0 where
  width_is : width ≡ length costs
  old_numerators : List ℤ
  numerators : ns ≡ old_numerators ++ costs
  numerators_from : x.numerators ≡ length old_numerators
  old_nonbasic : List ℕ
  nonbasic : vs ≡ old_nonbasic ++ range_with_len 0 width
  nonbasic_from : x.nonbasic ≡ length old_nonbasic
  basic_from : x.basic_columns ≡ 0
  count : x.count ≡ 0
  size : IsWithin x.size costs
  denominator : x.divisor.number ≡ pos 1
  first_exit : x.first_exit ≡ 0
  exits : x.exits ≡ 0

module _ (width : ℕ) (costs ns : List ℤ) (bs vs : List ℕ) (x : Dictionary) (f : IsFirst width costs ns vs x) where
  no_row : x.count * width ≡ 0
  no_row = omega (arith, ap (λ n. n * width) f.count)

  costs_from : x.numerators + x.count * width ≡ length f.old_numerators
  costs_from = omega (arith, no_row, f.numerators_from)

  costs_are : slice_range ns (x.numerators + x.count * width) (x.numerators + x.count * width + width) ≡ costs
  costs_are = (λ i. slice_range (f.numerators i) (costs_from i) (costs_from i + width)) ∙ piece_behind_all f.old_numerators costs (length f.old_numerators) width refl (sym f.width_is)

  all_are : slice_range ns x.numerators (x.numerators + x.count * width + width) ≡ costs
  all_are = ap (λ n. slice_range ns n (x.numerators + x.count * width + width)) (let q : x.numerators ≡ x.numerators + x.count * width = omega (arith, no_row) in q) ∙ costs_are

  nonbasic_are : slice_range vs x.nonbasic (x.nonbasic + width) ≡ range_with_len 0 width
  nonbasic_are = (λ i. slice_range (f.nonbasic i) (f.nonbasic_from i) (f.nonbasic_from i + width))
      ∙ piece_behind_all f.old_nonbasic (range_with_len 0 width) (length f.old_nonbasic) width refl (length-range_with_len 0 width)

  basic_are : slice_range bs x.basic_columns (x.basic_columns + x.count) ≡ []
  basic_are = λ i. slice_range bs (f.basic_from i) (f.basic_from i + f.count i)

  is_in_lists : IsInLists width ns bs vs x
  is_in_lists = record {
    numerators_there = omega (arith, costs_from, ap length f.numerators, length-append f.old_numerators costs, f.width_is);
    basic_there = omega (arith, f.basic_from, f.count);
    nonbasic_there = omega (arith, ap length f.nonbasic, length-append f.old_nonbasic (range_with_len 0 width), length-range_with_len 0 width, f.nonbasic_from);
    within = subst (IsWithin x.size) (sym all_are) f.size;
  }

  is_start : (variables rows : ℕ) → variables ≡ width + rows → (ps : List (List ℤ)) → length ps ≡ rows → IsNewStart ps costs (kept_in variables width ns bs vs x)
  is_start variables rows many ps rows_are = record {
    start = record {
      positions = (λ i. positions_by (many i) (nonbasic_are i))
          ∙ start_positions_are width rows (range_with_len 0 width) (length-range_with_len 0 width) (λ k l. let q : 0 + k ≡ k = omega arith in get_or-range_with_len 0 width k 0 l ∙ q)
          ∙ (λ i. columns_from 0 (f.width_is i) ++ replicate (sym rows_are i) InBasis);
      rows = ap (λ columns. rows_by width columns (rows_of width ns x)) basic_are ∙ no_rows width (rows_of width ns x) ∙ ap (λ n. replicate n []) f.width_is;
      reduced_costs = costs_are;
      denominator = f.denominator;
    };
    columns = ap length nonbasic_are ∙ length-range_with_len 0 width ∙ f.width_is;
    nonbasic = λ k l. let q : 0 + k ≡ k = omega arith in ap (λ vs. get_or vs k 0) nonbasic_are ∙ get_or-range_with_len 0 width k 0 (omega (arith, l, f.width_is)) ∙ q;
    basic_columns = basic_are;
    first_exit = f.first_exit;
    exits = f.exits;
  }

-- before it there are none
none_before : (f : Dictionary → KeptDictionary) (ds : List Dictionary) (old : List KeptDictionary) → map f ds ≡ old → old ≡ [] → ds ≡ []
none_before f ds old e none = nil_from_length ds (sym (length-map ds f) ∙ ap length (e ∙ none))

all_of_none : {A : Type 0} (P : A → Type 0) (xs : List A) → xs ≡ [] → All P xs
all_of_none P xs e = subst (All P) (sym e) (All-nil P)

all_of_one : {A : Type 0} (P : A → Type 0) (xs : List A) (x : A) → xs ≡ x ∷ [] → P x → All P xs
all_of_one P xs x e p = subst (All P) (sym e) (All-push P [] x (All-nil P) p)

pub invariant_of-self : goal.invariant_of-self
invariant_of-self c =
    let none = none_before _ _ _ (ap (λ (k : KeptDictionaries). k.all) c.self.view_is) c.requires.empty in
    all_of_none (IsInLists c.width-self-inside.result c.extend_from_slice.new.self.items c.self.inside.basic_columns.items c.self.inside.nonbasic.items) c.self.inside.all.items none

pub returns-in_err-extend_from_slice-clause-start : goal.returns-in_err-extend_from_slice-clause-start
returns-in_err-extend_from_slice-clause-start c ps e =
    let none = none_before _ _ _ (ap (λ (k : KeptDictionaries). k.all) c.self.view_is) c.requires.empty in
    let view = kept_in (c.width.result + c.args.rows) c.width-self-inside.result c.extend_from_slice.new.self.items c.self.inside.basic_columns.items c.self.inside.nonbasic.items in
    all_of_none (IsNewStart ps c.args.costs.now) (map view c.self.inside.all.items) (ap (map view) none)

pub invariant_of-self-in_err-push_numbers : goal.invariant_of-self-in_err-push_numbers
invariant_of-self-in_err-push_numbers c =
    let none = none_before _ _ _ (ap (λ (k : KeptDictionaries). k.all) c.self.view_is) c.requires.empty in
    all_of_none (IsInLists c.width-self-inside.result c.extend_from_slice.new.self.items c.self.inside.basic_columns.items c.push_numbers.new.list.items) c.self.inside.all.items none

pub returns-in_err-push_numbers-clause-start : goal.returns-in_err-push_numbers-clause-start
returns-in_err-push_numbers-clause-start c ps e =
    let none = none_before _ _ _ (ap (λ (k : KeptDictionaries). k.all) c.self.view_is) c.requires.empty in
    let view = kept_in (c.width.result + c.args.rows) c.width-self-inside.result c.extend_from_slice.new.self.items c.self.inside.basic_columns.items c.push_numbers.new.list.items in
    all_of_none (IsNewStart ps c.args.costs.now) (map view c.self.inside.all.items) (ap (map view) none)

pub invariant_of-self-in_err-push : goal.invariant_of-self-in_err-push
invariant_of-self-in_err-push c =
    let none = none_before _ _ _ (ap (λ (k : KeptDictionaries). k.all) c.self.view_is) c.requires.empty in
    let same : c.push.new.self.items ≡ c.self.inside.all.items = c.in_err-push.ensures.items in
    all_of_none (IsInLists c.width-self-inside.result c.extend_from_slice.new.self.items c.self.inside.basic_columns.items c.push_numbers.new.list.items) c.push.new.self.items (same ∙ none)

pub returns-in_err-push-clause-start : goal.returns-in_err-push-clause-start
returns-in_err-push-clause-start c ps e =
    let none = none_before _ _ _ (ap (λ (k : KeptDictionaries). k.all) c.self.view_is) c.requires.empty in
    let same : c.push.new.self.items ≡ c.self.inside.all.items = c.in_err-push.ensures.items in
    let view = kept_in (c.width.result + c.args.rows) c.width-self-inside.result c.extend_from_slice.new.self.items c.self.inside.basic_columns.items c.push_numbers.new.list.items in
    all_of_none (IsNewStart ps c.args.costs.now) (map view c.push.new.self.items) (ap (map view) (same ∙ none))

-- where it is put in
module _ (c : In_ok-push) where
  abbrev made : Dictionary
  made = record {
    numerators = c.len-numerators.result;
    nonbasic = c.len-nonbasic.result;
    basic_columns = 0;
    count = 0;
    size = c.bound.result;
    divisor = c.make.result;
    hash = 0;
    first_exit = 0;
    exits = 0;
  }

  abbrev width : ℕ
  width = c.width-self-inside.result

  abbrev numerators_now : List ℤ
  numerators_now = c.extend_from_slice.new.self.items

  abbrev nonbasic_now : List ℕ
  nonbasic_now = c.push_numbers.new.list.items

  abbrev view : Dictionary → KeptDictionary
  view = kept_in (c.width.result + c.args.rows) width numerators_now c.self.inside.basic_columns.items nonbasic_now

  is_first : IsFirst width c.args.costs.now numerators_now nonbasic_now made
  is_first = record {
    width_is = c.width-self-inside.ensures;
    old_numerators = c.self.inside.numerators.items;
    numerators = c.in_ok-extend_from_slice.ensures.items ∙ ap (λ (xs : List ℤ). c.self.inside.numerators.items ++ xs) c.numerators.ensures;
    numerators_from = omega (arith, c.len-numerators.ensures, c.self.inside.numerators.ok.0);
    old_nonbasic = c.self.inside.nonbasic.items;
    nonbasic = c.in_ok-push_numbers.ensures;
    nonbasic_from = omega (arith, c.len-nonbasic.ensures, c.self.inside.nonbasic.ok.0);
    basic_from = refl;
    count = refl;
    size = c.bound.ensures;
    denominator = c.make.ensures;
    first_exit = refl;
    exits = refl;
  }

  one_now : c.push.new.self.items ≡ made ∷ []
  one_now =
      let pushed : c.push.new.self.items ≡ c.self.inside.all.items ++ made ∷ [] = c.in_ok-push.ensures.items in
      pushed ∙ ap (λ (ds : List Dictionary). ds ++ made ∷ []) (none_before _ _ _ (ap (λ (k : KeptDictionaries). k.all) c.self.view_is) c.requires.empty)

pub invariant_of-self-2 : goal.invariant_of-self-2
invariant_of-self-2 c =
    all_of_one (IsInLists (width c) (numerators_now c) c.self.inside.basic_columns.items (nonbasic_now c)) c.push.new.self.items (made c) (one_now c)
    (is_in_lists (width c) c.args.costs.now (numerators_now c) c.self.inside.basic_columns.items (nonbasic_now c) (made c) (is_first c))

pub returns-clause-count : goal.returns-clause-count
returns-clause-count c = ap (λ (ds : List Dictionary). length (map (view c) ds)) (one_now c)

pub returns-clause-start : goal.returns-clause-start
returns-clause-start c ps rows_are =
    all_of_one (IsNewStart ps c.args.costs.now) (map (view c) c.push.new.self.items) (view c (made c)) (ap (map (view c)) (one_now c))
    (is_start (width c) c.args.costs.now (numerators_now c) c.self.inside.basic_columns.items (nonbasic_now c) (made c) (is_first c) (c.width.result + c.args.rows) c.args.rows
    (ap (λ n. n + c.args.rows) (c.width.ensures ∙ sym c.width-self-inside.ensures)) ps rows_are)
