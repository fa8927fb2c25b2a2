-- The dictionary at the start is one to keep, whatever the bounds are: it is that of the start at which each bound is 0.
use Rattle.std.proofs.Common.{◌≡◌, ℕ, zero, suc, ◌+◌, ◌≤◌, ◌<◌, arith, refl, ap, sym, ◌∙◌, subst, Bool, false, Some, None, List, [], ◌++◌, length, get_or, replicate}
use Rattle.std.specs.Prelude.{ℤ, pos, map, ◌<ℤ◌, All, slice_range}
use Rattle.std.proofs.lemmas.Int.{ints}
use Rattle.std.proofs.lemmas.List.{get_or-map, length-map, length-replicate}
use Rattle.std.proofs.lemmas.List.Elements.{All-get_or, All-nil, All-take, All-weaker}
use Rattle.fraction.specs.Rational.{whole}
use Rattle.tableau.specs.Leaving.{unbounded}
use Rattle.tableau.specs.WellFormed.{IsBoxed, IsWellFormed}
use Rattle.integer_tableau.proofs.StartFromCode.{start_basic_are, start_compact, start_is, start_nonbasic_are}
use Rattle.integer_tableau.proofs.StartStored.{start_stored}
use Rattle.integer_tableau.specs.BasicColumns.{basic_from}
use Rattle.integer_tableau.specs.Combined.{bound_size, total_bound_size}
use Rattle.integer_tableau.specs.IntegerDictionary.{IsStored, program_of}
use Rattle.integer_tableau.specs.IntegerProgram.{fraction_program, CanStart}
use Rattle.integer_tableau.specs.IntegerTableau.{IntegerTableau, fraction_bounds, of_parts}
use Rattle.integer_tableau.specs.Kept.{AreKept, HasExits, IsExitOf, IsKept, IsNewStart, IsStartDictionary, KeptDictionaries, KeptDictionary, Leads, dictionary_in, kept_at}
use Rattle.integer_tableau.specs.Positions.{AreNonbasic}
use Rattle.integer_tableau.specs.Start.{is_negative, start_numbers}
use Rattle.integer_tableau.specs.declared.exits.Exit.{Exit}
use Rattle.integer_tableau.specs.declared.integer_bounds.IntegerBounds.{IntegerBounds}

-- ---- bounds of which each is 0
abbrev fixed : IntegerBounds
fixed = record { lower = Some (pos 0); upper = Some (pos 0) }

fixed_size : (k j : ℕ) → bound_size (get_or (replicate k fixed) j (record { lower = None; upper = None })) ≤ 0
fixed_size zero j = omega arith
fixed_size (suc k) zero = omega arith
fixed_size (suc k) (suc j) = fixed_size k j

fixed_total : (k : ℕ) → total_bound_size (replicate k fixed) ≡ 0
fixed_total zero = refl
fixed_total (suc k) = omega (arith, fixed_total k)

fixed_boxed : (k j : ℕ) → j < k → IsBoxed (get_or (map fraction_bounds (replicate k fixed)) j unbounded)
fixed_boxed zero j l = absurd (omega arith)
fixed_boxed (suc k) zero l = record { low = whole (pos 0); high = whole (pos 0); lower = refl; upper = refl }
fixed_boxed (suc k) (suc j) l = fixed_boxed k j (omega arith)

-- ---- a linear program that can start can do so with these
module _ (ps : List (List ℤ)) (weight : ℕ) (costs : List ℤ) (bounds : List IntegerBounds) (ready : CanStart ps weight costs bounds) where
  abbrev n : ℕ
  n = length costs

  abbrev m : ℕ
  m = length ps

  abbrev none : List IntegerBounds
  none = replicate (n + m) fixed

  abbrev numbers : List ℕ
  numbers = replicate m 0

  ready_fixed : CanStart ps weight costs none
  ready_fixed = record {
    rows_full = ready.rows_full;
    bounds_there = length-replicate (n + m) fixed;
    rows_within = ready.rows_within;
    costs_within = ready.costs_within;
    weights = ready.weights;
    light = ready.light;
  }

  row_full : (i : ℕ) → i < length (map (map whole) ps) → length (get_or (map (map whole) ps) i []) ≡ length (map whole costs)
  row_full i l =
      let b : i < length ps = omega (arith, l, length-map ps (map whole)) in
      ap length (get_or-map (map whole) ps i [] [] b) ∙ length-map (get_or ps i []) whole ∙ ready.rows_full i b ∙ sym (length-map costs whole)

  formed : IsWellFormed (fraction_program ps costs none numbers)
  formed = record {
    rows = row_full;
    bounds = length-map none fraction_bounds ∙ length-replicate (n + m) fixed ∙ (λ i. sym (length-map costs whole) i + sym (length-map ps (map whole)) i);
    columns = λ j l. fixed_boxed (n + m) j (omega (arith, l, length-map costs whole));
    numbers = length-replicate m 0 ∙ sym (length-map ps (map whole));
  }

  -- its dictionary there is the one at the start
  module _ (d : KeptDictionary) (s : IsStartDictionary ps costs d) where
    abbrev at_upper : List Bool
    at_upper = map is_negative costs ++ replicate m false

    abbrev xs : List ℤ
    xs = start_numbers costs none ++ replicate m (pos 0)

    abbrev values : List ℤ
    values = replicate n (pos 0)

    abbrev first : IntegerTableau
    first = of_parts none d.positions at_upper xs d.rows d.reduced_costs values d.denominator 0

    stored : IsStored ps weight (program_of ps costs) (dictionary_in d)
    stored = start_stored ps weight 0 costs none numbers first
        (start_compact ps weight 0 costs none ready_fixed (λ j l. fixed_size (n + m) j) (omega arith) (omega (arith, fixed_total (n + m)))
        d.positions at_upper xs d.rows d.reduced_costs values d.denominator ps s.positions refl refl s.rows s.reduced_costs refl s.denominator refl)
        formed
        (start_is ps weight 0 costs none ready_fixed (λ j l. fixed_size (n + m) j) (omega arith) (omega (arith, fixed_total (n + m)))
        d.positions at_upper xs d.rows d.reduced_costs values d.denominator ps s.positions refl refl s.rows s.reduced_costs refl s.denominator refl numbers)

    pub start_kept : AreNonbasic d.positions d.nonbasic → length d.nonbasic ≡ length d.rows → d.basic_columns ≡ basic_from 0 (length d.rows) d.positions
        → IsKept ps weight costs d
    start_kept nonbasic columns basic = record {
      stored = stored;
      positive = subst (λ z. pos 0 <ℤ z) (sym s.denominator) (omega (arith, ints));
      nonbasic = nonbasic;
      columns = columns;
      basic = basic;
    }

-- ---- lists of dictionaries
pub none_kept : (ps : List (List ℤ)) (weight : ℕ) (costs : List ℤ) (k : KeptDictionaries) → k.all ≡ [] → k.exits ≡ [] → k.edges ≡ [] → AreKept ps weight costs k
none_kept ps weight costs k all exits edges = record {
  each = subst (All (IsKept ps weight costs)) (sym all) (All-nil (IsKept ps weight costs));
  first = All-take (IsStartDictionary ps costs) 1 k.all (subst (All (IsStartDictionary ps costs)) (sym all) (All-nil (IsStartDictionary ps costs)));
  has_exits = λ p l. absurd (omega (arith, l, ap length all));
  exits = subst (All (λ (x : Exit). (x.from < length k.all) × IsExitOf ps k.edges (kept_at k.all x.from) x)) (sym exits) (All-nil (λ (x : Exit). (x.from < length k.all) × IsExitOf ps k.edges (kept_at k.all x.from) x));
  leads = subst (All (Leads k.all)) (sym edges) (All-nil (Leads k.all));
}

-- that at the start, which was just made, is one to keep
new_kept : (ps : List (List ℤ)) (weight : ℕ) (costs : List ℤ) (bounds : List IntegerBounds) → CanStart ps weight costs bounds → (d : KeptDictionary) → IsNewStart ps costs d → IsKept ps weight costs d
new_kept ps weight costs bounds ready d h =
    let many : length d.rows ≡ length costs = ap length h.start.rows ∙ length-replicate (length costs) [] in
    start_kept ps weight costs bounds ready d h.start (start_nonbasic_are (length costs) (length ps) d.positions d.nonbasic h.start.positions h.columns h.nonbasic) (h.columns ∙ sym many)
    (h.basic_columns ∙ start_basic_are (length costs) (length ps) (length d.rows) d.positions h.start.positions many)

has_none : (xs : List Exit) (p : ℕ) (d : KeptDictionary) → d.first_exit ≡ 0 → d.exits ≡ 0 → HasExits xs p d
has_none xs p d first exits = record {
  within = omega (arith, first, exits);
  own = subst (All (λ (x : Exit). x.from ≡ p)) (λ i. slice_range xs (sym first i) (sym first i + sym exits i)) (All-nil (λ (x : Exit). x.from ≡ p));
}

-- each of them is that at the start, which was just made
pub new_starts_kept : (ps : List (List ℤ)) (weight : ℕ) (costs : List ℤ) (bounds : List IntegerBounds) → CanStart ps weight costs bounds → (k : KeptDictionaries)
    → All (IsNewStart ps costs) k.all → k.exits ≡ [] → k.edges ≡ [] → AreKept ps weight costs k
new_starts_kept ps weight costs bounds ready k all exits edges = record {
  each = All-weaker (IsNewStart ps costs) (IsKept ps weight costs) (new_kept ps weight costs bounds ready) k.all all;
  first = All-take (IsStartDictionary ps costs) 1 k.all (All-weaker (IsNewStart ps costs) (IsStartDictionary ps costs) (λ d h. h.start) k.all all);
  has_exits = λ p l. let h : IsNewStart ps costs (kept_at k.all p) = All-get_or (IsNewStart ps costs) k.all p _ l all in has_none k.exits p (kept_at k.all p) h.first_exit h.exits;
  exits = subst (All (λ (x : Exit). (x.from < length k.all) × IsExitOf ps k.edges (kept_at k.all x.from) x)) (sym exits) (All-nil (λ (x : Exit). (x.from < length k.all) × IsExitOf ps k.edges (kept_at k.all x.from) x));
  leads = subst (All (Leads k.all)) (sym edges) (All-nil (Leads k.all));
}
