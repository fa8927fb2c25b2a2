-- What is kept for a linear program is kept for the linear program with further rows.
use Rattle.std.proofs.Common.{◌≡◌, ◌≢◌, ℕ, zero, suc, ◌+◌, ◌*◌, ◌<◌, ◌≤◌, arith, refl, ap, sym, subst, ◌∙◌, inl, inr, List, [], ◌∷◌, ◌++◌, length, get_or, take, map, replicate, append_assoc}
use Rattle.std.specs.Prelude.{ℤ, pos, nat_abs, All, slice_range}
use Rattle.std.proofs.lemmas.Bool.{cases_lt}
use Rattle.std.proofs.lemmas.List.{get_or-append-add, get_or-map, get_or_past, length-append, length-map, length-replicate}
use Rattle.std.proofs.lemmas.List.Elements.{All-from_get_or, All-get_or, All-map, All-nil, All-push, All-tail, All-weaker}
use Rattle.integer_tableau.proofs.Arenas.{positions_are, positions_many, rows_many, within_weaker}
use Rattle.integer_tableau.proofs.Behind.{rows_within}
use Rattle.integer_tableau.proofs.Combining.{combination_small}
use Rattle.integer_tableau.proofs.ExitViews.{kept_inside, view_inside}
use Rattle.integer_tableau.proofs.FurtherRows.{longer_basic, longer_many, longer_nonbasic, longer_position, row_stays, stored_longer}
use Rattle.integer_tableau.proofs.KeptSizes.{rows_each}
use Rattle.integer_tableau.specs.Arena.{positions_by}
use Rattle.integer_tableau.specs.Exits.{AreFirstEdges}
use Rattle.integer_tableau.specs.IntegerDictionary.{ArePositionsBehind}
use Rattle.integer_tableau.specs.IntegerProgram.{CanStart}
use Rattle.integer_tableau.specs.Kept.{AreKept, HasExits, IsExitOf, IsInLists, IsKept, IsStartDictionary, KeptDictionaries, KeptDictionary, Leads, dictionary_in, edges_of, kept_at, kept_in, rows_of}
use Rattle.integer_tableau.specs.Numbers.{IsWithin, total_size}
use Rattle.integer_tableau.specs.Positions.{AreNonbasic}
use Rattle.integer_tableau.specs.Range.{size_limit}
use Rattle.integer_tableau.specs.Start.{columns_from}
use Rattle.integer_tableau.specs.declared.dictionary.Dictionaries.TheInside.{Inside}
use Rattle.integer_tableau.specs.declared.dictionary.Dictionary.{Dictionary}
use Rattle.integer_tableau.specs.declared.exits.Edge.{Edge}
use Rattle.integer_tableau.specs.declared.exits.Exit.{Exit}
use Rattle.integer_tableau.specs.declared.integer_bounds.IntegerBounds.{IntegerBounds}
use Rattle.integer_tableau.specs.declared.position.Position.{Position}
use Rattle.integer_tableau.specs.declared.position.Position.TheVariants.{InBasis}

-- ---- sizes
-- no number of the rows is greater, and not the denominator
abbrev pub IsWithinSize : ℕ → KeptDictionary → Type 0
IsWithinSize size d = (nat_abs d.denominator ≤ size) × ((v : ℕ) → v < length d.rows → IsWithin size (get_or d.rows v []))

-- one of nothing
abbrev nothing : KeptDictionary
nothing = record { positions = []; nonbasic = []; basic_columns = []; rows = []; reduced_costs = []; denominator = pos 0; first_exit = 0; exits = 0 }

pub each_within_size : (ds : List KeptDictionary) (size : ℕ) → ((p : ℕ) → p < length ds → nat_abs (kept_at ds p).denominator ≤ size)
    → ((p : ℕ) → p < length ds → (v : ℕ) → v < length (kept_at ds p).rows → IsWithin size (get_or (kept_at ds p).rows v [])) → All (IsWithinSize size) ds
each_within_size ds size denominators rows = All-from_get_or (IsWithinSize size) ds nothing (λ p l. (denominators p l, rows p l))

pub all_within_size : (i : Inside) (k : KeptDictionaries) → view_inside i ≡ k → All (IsInLists i.width i.numerators.items i.basic_columns.items i.nonbasic.items) i.all.items → (size : ℕ)
    → All (λ (d : Dictionary). (d.size ≤ size) × (nat_abs d.divisor.number ≤ size)) i.all.items → All (IsWithinSize size) k.all
all_within_size i k is there size small =
    subst (λ (k : KeptDictionaries). All (IsWithinSize size) k.all) is (All-map (IsWithinSize size) (kept_inside i) i.all.items (λ p d l. one (get_or i.all.items p d) (there p d l) (small p d l)))
  where
    one : (d : Dictionary) → IsInLists i.width i.numerators.items i.basic_columns.items i.nonbasic.items d → (d.size ≤ size) × (nat_abs d.divisor.number ≤ size) → IsWithinSize size (kept_inside i d)
    one d h s = (s.1, λ v l. rows_each size i.width _ (rows_of i.width i.numerators.items d) (within_weaker d.size size (rows_of i.width i.numerators.items d) s.0 (rows_within i.width i.numerators.items d h.within)) v l)

-- ---- one dictionary
-- with n more variables, which are basic
abbrev longer_kept : ℕ → KeptDictionary → KeptDictionary
longer_kept n d = record d { positions = d.positions ++ replicate n InBasis }

replicate_both : {A : Type 0} (a b : ℕ) (x : A) → replicate a x ++ replicate b x ≡ replicate (a + b) x
replicate_both zero b x = ap (λ n. replicate n x) (let q : b ≡ 0 + b = omega arith in q)
replicate_both (suc a) b x = ap (λ xs. x ∷ xs) (replicate_both a b x) ∙ ap (λ n. replicate n x) (let q : suc (a + b) ≡ suc a + b = omega arith in q)

behind_longer : (r c n : ℕ) (old new : List Position) → ArePositionsBehind r c old new → ArePositionsBehind r c (old ++ replicate n InBasis) (new ++ replicate n InBasis)
behind_longer r c n old new h = record {
  count = longer_many new n ∙ ap (λ k. k + n) h.count ∙ sym (longer_many old n);
  leaving_there = omega (arith, h.leaving_there, longer_many old n);
  entering_there = omega (arith, h.entering_there, longer_many old n);
  left = λ e. h.left (sym (longer_position new n r) ∙ e);
  entered = longer_position new n c ∙ h.entered;
  to = λ v l m o e. longer_position new n v ∙ to v m o (sym (longer_position old n v) ∙ e);
  back = λ v l m o e. longer_position old n v ∙ back v m o (sym (longer_position new n v) ∙ e);
}
  where
    to : (v : ℕ) → v ≢ r → v ≢ c → get_or old v InBasis ≡ InBasis → get_or new v InBasis ≡ InBasis
    to v m o e = elim (cases_lt v (length old)) [
      | inl l ↦ h.to v l m o e
      | inr l ↦ get_or_past new v InBasis (omega (arith, l, h.count))
    ]

    back : (v : ℕ) → v ≢ r → v ≢ c → get_or new v InBasis ≡ InBasis → get_or old v InBasis ≡ InBasis
    back v m o e = elim (cases_lt v (length old)) [
      | inl l ↦ h.back v l m o e
      | inr l ↦ get_or_past old v InBasis l
    ]

module _ (ps further : List (List ℤ)) (weight weight' : ℕ) (costs : List ℤ) (bounds : List IntegerBounds) (ready : CanStart (ps ++ further) weight' costs bounds) where
  abbrev more : ℕ
  more = length further

  light : (j : ℕ) → j < more → total_size (get_or further j []) ≤ weight'
  light j l = subst (λ a. total_size a ≤ weight') (get_or-append-add ps further j []) (ready.weights (length ps + j) (omega (arith, l, length-append ps further)))

  kept_longer : (d : KeptDictionary) → length d.rows ≡ length costs → (size : ℕ) → IsWithinSize size d → weight' * size < size_limit → IsKept ps weight costs d → IsKept (ps ++ further) weight' costs (longer_kept more d)
  kept_longer d wide size within fits h = record {
    stored = stored_longer ps further (dictionary_in d) h.stored.compact.variables weight weight' costs bounds ready wide h.stored.compact
        (λ j l. combination_small (nat_abs d.denominator) weight' (get_or further j []) d.positions d.rows (light j l) (size, within.0, within.1, fits)) h.stored.dictionary;
    positive = h.positive;
    nonbasic = longer_nonbasic d.positions more d.nonbasic h.nonbasic;
    columns = h.columns;
    basic = h.basic ∙ sym (longer_basic 0 (length d.rows) d.positions (replicate more InBasis) (omega (arith, h.stored.compact.variables)));
  }

  start_longer : (d : KeptDictionary) → IsStartDictionary ps costs d → IsStartDictionary (ps ++ further) costs (longer_kept more d)
  start_longer d s = record {
    positions =
        ap (λ ss. ss ++ replicate more InBasis) s.positions ∙ append_assoc (columns_from 0 (length costs)) (replicate (length ps) InBasis) (replicate more InBasis)
        ∙ ap (λ ss. columns_from 0 (length costs) ++ ss) (replicate_both (length ps) more InBasis ∙ ap (λ n. replicate n InBasis) (sym (length-append ps further)));
    rows = s.rows;
    reduced_costs = s.reduced_costs;
    denominator = s.denominator;
  }

  first_longer : (ds : List KeptDictionary) → All (IsStartDictionary ps costs) (take 1 ds) → All (IsStartDictionary (ps ++ further) costs) (take 1 (map (longer_kept more) ds))
  first_longer [] a = All-nil (IsStartDictionary (ps ++ further) costs)
  first_longer (d ∷ ds) a = All-push (IsStartDictionary (ps ++ further) costs) [] (longer_kept more d) (All-nil (IsStartDictionary (ps ++ further) costs)) (start_longer d (a 0 d (omega arith)))

  exit_longer : (es : List Edge) (d : KeptDictionary) (x : Exit) → IsKept ps weight costs d → IsExitOf ps es d x → IsExitOf (ps ++ further) es (longer_kept more d) x
  exit_longer es d x kept h = record {
    there = omega (arith, h.there, longer_many d.positions more);
    basic = longer_position d.positions more x.variable ∙ h.basic;
    within = h.within;
    edges = subst (λ row. AreFirstEdges d.nonbasic d.reduced_costs row (edges_of es x)) (sym (row_stays ps further (dictionary_in d) kept.stored.compact.variables x.variable h.there)) h.edges;
    own = h.own;
  }

  -- ---- all of them
  module _ (k : KeptDictionaries) (h : AreKept ps weight costs k) (wide : All (λ (d : KeptDictionary). length d.rows ≡ length costs) k.all) (size : ℕ) (within : All (IsWithinSize size) k.all) (fits : weight' * size < size_limit) where
    abbrev now : List KeptDictionary
    now = map (longer_kept more) k.all

    now_many : length now ≡ length k.all
    now_many = length-map k.all (longer_kept more)

    now_at : (p : ℕ) → p < length k.all → kept_at now p ≡ longer_kept more (kept_at k.all p)
    now_at p l = get_or-map (longer_kept more) k.all p _ _ l

    exits_stay : (p : ℕ) → p < length k.all → HasExits k.exits p (kept_at now p)
    exits_stay p l = let x = h.has_exits p l in subst (HasExits k.exits p) (sym (now_at p l)) record { within = x.within; own = x.own }

    leads_longer : (e : Edge) → Leads k.all e → Leads now e
    leads_longer e lead t =
        let a = lead t in
        let there : e.from < length k.all = from_there a.1 in
        let old : KeptDictionary = kept_at k.all e.from in
        let target : KeptDictionary = kept_at k.all e.target in (
          omega (arith, a.0, now_many),
          subst (λ (ss : List Position). ArePositionsBehind e.leaving e.entering ss (kept_at now e.target).positions) (sym (ap (λ (d : KeptDictionary). d.positions) (now_at e.from there)))
              (subst (λ (ss : List Position). ArePositionsBehind e.leaving e.entering (old.positions ++ replicate more InBasis) ss) (sym (ap (λ (d : KeptDictionary). d.positions) (now_at e.target a.0)))
              (behind_longer e.leaving e.entering more old.positions target.positions a.1)),
        )
      where
        from_there : ArePositionsBehind e.leaving e.entering (kept_at k.all e.from).positions (kept_at k.all e.target).positions → e.from < length k.all
        from_there b = elim (cases_lt e.from (length k.all)) [
          | inl l ↦ l
          | inr l ↦ absurd (omega (arith, b.leaving_there, ap (λ (d : KeptDictionary). length d.positions) (get_or_past k.all e.from nothing l)))
        ]

    pub are_longer : (variables : ℕ) → AreKept (ps ++ further) weight' costs (record { variables = variables; width = k.width; all = map (longer_kept (length further)) k.all; exits = k.exits; edges = k.edges })
    are_longer variables = record {
      each = All-map (IsKept (ps ++ further) weight' costs) (longer_kept more) k.all (λ p d l. kept_longer (get_or k.all p d) (wide p d l) size (within p d l) fits (h.each p d l));
      first = first_longer k.all h.first;
      has_exits = λ p l. exits_stay p (omega (arith, l, now_many));
      exits = All-weaker (λ (x : Exit). (x.from < length k.all) × IsExitOf ps k.edges (kept_at k.all x.from) x) (λ (x : Exit). (x.from < length now) × IsExitOf (ps ++ further) k.edges (kept_at now x.from) x)
          (λ x n. (
            omega (arith, n.0, now_many),
            subst (λ d. IsExitOf (ps ++ further) k.edges d x) (sym (now_at x.from n.0))
                (exit_longer k.edges (kept_at k.all x.from) x (All-get_or (IsKept ps weight costs) k.all x.from _ n.0 h.each) n.1),
          )) k.exits h.exits;
      leads = All-weaker (Leads k.all) (Leads now) leads_longer k.edges h.leads;
    }

-- ---- by the lists that they share
module _ (i : Inside) (n : ℕ) where
  abbrev more_inside : Dictionary → KeptDictionary
  more_inside d = kept_in (i.variables + n) i.width i.numerators.items i.basic_columns.items i.nonbasic.items d

  one_longer : (d : Dictionary) → AreNonbasic (kept_inside i d).positions (kept_inside i d).nonbasic → more_inside d ≡ longer_kept n (kept_inside i d)
  one_longer d h = λ j. record (kept_inside i d) { positions = same j }
    where
      vs : List ℕ
      vs = slice_range i.nonbasic.items d.nonbasic (d.nonbasic + i.width)

      same : positions_by (i.variables + n) (slice_range i.nonbasic.items d.nonbasic (d.nonbasic + i.width)) ≡ positions_by i.variables (slice_range i.nonbasic.items d.nonbasic (d.nonbasic + i.width)) ++ replicate n InBasis
      same = positions_are (i.variables + n) ((kept_inside i d).positions ++ replicate n InBasis) (kept_inside i d).nonbasic
          (longer_many (kept_inside i d).positions n ∙ ap (λ k. k + n) (positions_many i.variables (kept_inside i d).nonbasic)) (longer_nonbasic (kept_inside i d).positions n (kept_inside i d).nonbasic h)

  views_longer : (ds : List Dictionary) → All (λ (d : KeptDictionary). AreNonbasic d.positions d.nonbasic) (map (kept_inside i) ds) → map more_inside ds ≡ map (longer_kept n) (map (kept_inside i) ds)
  views_longer [] a = refl
  views_longer (d ∷ ds) a = λ j. one_longer d (a 0 (kept_inside i d) (omega arith)) j ∷ views_longer ds (All-tail (λ (d : KeptDictionary). AreNonbasic d.positions d.nonbasic) (kept_inside i d) (map (kept_inside i) ds) a) j

-- the first one tells how wide all are
width_is : (ps : List (List ℤ)) (costs : List ℤ) (i : Inside) (ds : List Dictionary) → All (IsStartDictionary ps costs) (take 1 (map (kept_inside i) ds)) → 0 < length ds → i.width ≡ length costs
width_is ps costs i [] a l = absurd (omega (arith, l))
width_is ps costs i (d ∷ ds) a l =
    let s : IsStartDictionary ps costs (kept_inside i d) = a 0 (kept_inside i d) (omega arith) in
    sym (rows_many i.width (kept_inside i d).basic_columns (rows_of i.width i.numerators.items d)) ∙ ap length s.rows ∙ length-replicate (length costs) []

pub further_kept : (i : Inside) (k : KeptDictionaries) → view_inside i ≡ k → (ps further : List (List ℤ)) (weight weight' : ℕ) (costs : List ℤ) (bounds : List IntegerBounds) (size variables : ℕ)
    → AreKept ps weight costs k → CanStart (ps ++ further) weight' costs bounds → All (IsWithinSize size) k.all → weight' * size < size_limit → variables ≡ i.variables + length further
    → AreKept (ps ++ further) weight' costs (record { variables = variables; width = i.width; all = map (kept_in variables i.width i.numerators.items i.basic_columns.items i.nonbasic.items) i.all.items; exits = i.exits.items; edges = i.edges.items })
further_kept i k is ps further weight weight' costs bounds size variables kept ready within fits many =
    subst (λ v. AreKept (ps ++ further) weight' costs (record {
      variables = v;
      width = i.width;
      all = map (kept_in v i.width i.numerators.items i.basic_columns.items i.nonbasic.items) i.all.items;
      exits = i.exits.items;
      edges = i.edges.items;
    })) (sym many) (subst (λ ds. AreKept (ps ++ further) weight' costs (record { variables = i.variables + length further; width = i.width; all = ds; exits = i.exits.items; edges = i.edges.items }))
    (sym (views_longer i (length further) i.all.items (All-weaker (IsKept ps weight costs) (λ (d : KeptDictionary). AreNonbasic d.positions d.nonbasic) (λ d h. h.nonbasic) (view_inside i).all h.each)))
    (are_longer ps further weight weight' costs bounds ready (view_inside i) h wide size (subst (λ (k : KeptDictionaries). All (IsWithinSize size) k.all) (sym is) within) fits (i.variables + length further)))
  where
    h : AreKept ps weight costs (view_inside i)
    h = subst (AreKept ps weight costs) (sym is) kept

    wide : All (λ (d : KeptDictionary). length d.rows ≡ length costs) (map (kept_inside i) i.all.items)
    wide = All-map (λ (d : KeptDictionary). length d.rows ≡ length costs) (kept_inside i) i.all.items
        (λ p d l. rows_many i.width (kept_inside i (get_or i.all.items p d)).basic_columns (rows_of i.width i.numerators.items (get_or i.all.items p d)) ∙ width_is ps costs i i.all.items h.first (omega (arith, l)))
