-- A solution that has taken a turn, at the dictionary of the basis behind it: it is where the pivot of its tableau leads.
use Rattle.std.proofs.Common.{◌≡◌, ◌≢◌, ℕ, ◌*◌, ◌<◌, ◌^◌, arith, ap, sym, ◌∙◌, subst, Some, None, List, [], length, get_or, set, inl, inr, get_or-set_other, get_or-set_same}
use Rattle.std.specs.Prelude.{ℤ, pos, nat_abs, ◌-ℤ◌, ◌*ℤ◌}
use mathlib.Core.Logic.{inr as steps_to}
use Rattle.std.proofs.lemmas.Bool.{cases_eq, cases_lt}
use Rattle.std.proofs.lemmas.List.{get_or-map, get_or_past, length-set}
use Rattle.std.proofs.lemmas.List.Elements.{All-get_or}
use Rattle.fraction.specs.Rational.{frac}
use Rattle.tableau.specs.Leaving.{unbounded, violated_bound, violation}
use Rattle.tableau.specs.Lemmas.Places.{pivot_there}
use Rattle.tableau.specs.Place.{IsPivotThere}
use Rattle.tableau.specs.Run.{after_pivot, step_at}
use Rattle.tableau.specs.Tableau.{Tableau, bounds_of, value_of}
use Rattle.integer_tableau.proofs.BoundedValues.{exchanged_total}
use Rattle.integer_tableau.proofs.ColumnSums.{column_sums}
use Rattle.integer_tableau.proofs.ExactPivots.{get_or-values}
use Rattle.integer_tableau.proofs.Exchanges.{nonbasic_values_exchanged, positions_exchanged}
use Rattle.integer_tableau.proofs.MadeKept.{made_pivot}
use Rattle.integer_tableau.proofs.StoredSteps.{size_of, step_is}
use Rattle.integer_tableau.specs.Combined.{IsCompact, expanded, expanded_values}
use Rattle.integer_tableau.specs.Consistent.{IsConsistent}
use Rattle.integer_tableau.specs.Exits.{are_free, edge_at}
use Rattle.integer_tableau.specs.IntegerDictionary.{ArePositionsBehind, IntegerDictionary, program_of}
use Rattle.integer_tableau.specs.IntegerTableau.{IntegerTableau, fraction_bounds, of_parts, value}
use Rattle.integer_tableau.specs.Kept.{AreKept, HaveSameBasis, IsAt, IsKept, KeptDictionaries, KeptDictionary, dictionary_in, Leads, kept_at, row_in, tableau_at, view_of}
use Rattle.integer_tableau.specs.Numbers.{number_at, total_size}
use Rattle.integer_tableau.specs.Pivot.{AreSubstitutedValues, IsPivoted}
use Rattle.integer_tableau.specs.Range.{size_limit}
use Rattle.integer_tableau.specs.StoredRun.{IsMove, IsOfEdge, IsTurning, dictionary_at, view_with}
use Rattle.integer_tableau.specs.Substitution.{quotient_numerator}
use Rattle.integer_tableau.specs.declared.integer_bounds.IntegerBounds.{IntegerBounds}
use Rattle.integer_tableau.specs.declared.basic_solution.BasicSolution.{BasicSolution}
use Rattle.integer_tableau.specs.declared.position.Position.{Position}
use Rattle.integer_tableau.specs.declared.position.Position.TheVariants.{InBasis, InColumn}
use Rattle.integer_tableau.specs.declared.request.Turn.{Turn}

-- ---- bases: ss are the positions of the solution before the turn, ts those of its dictionary, us those of the dictionary behind
module _ (ss ts us : List Position) (r c k : ℕ) (h : HaveSameBasis ss ts) (at_r : get_or ts r InBasis ≡ InBasis) (at_c : get_or ts c InBasis ≡ InColumn k) (r_there : r < length ts) (c_there : c < length ts) where
  abbrev after : List Position
  after = positions_exchanged r c k ss

  apart : r ≢ c
  apart e = let f : InBasis ≡ InColumn k = sym at_r ∙ ap (λ v. get_or ts v InBasis) e ∙ at_c in cc

  as_many : length after ≡ length ts
  as_many = length-set (set ss r (InColumn k)) c InBasis ∙ length-set ss r (InColumn k) ∙ h.count

  stays : (v : ℕ) → v ≢ r → v ≢ c → get_or after v InBasis ≡ get_or ss v InBasis
  stays v m n = get_or-set_other (set ss r (InColumn k)) c v InBasis InBasis n ∙ get_or-set_other ss r v (InColumn k) InBasis m

  entered : get_or after c InBasis ≡ InBasis
  entered = get_or-set_same (set ss r (InColumn k)) c InBasis InBasis (omega (arith, c_there, h.count, length-set ss r (InColumn k)))

  left : get_or after r InBasis ≡ InColumn k
  left = get_or-set_other (set ss r (InColumn k)) c r InBasis InBasis apart ∙ get_or-set_same ss r (InColumn k) InBasis (omega (arith, r_there, h.count))

  pub behind_same : HaveSameBasis after us → ArePositionsBehind r c ts us
  behind_same g = record {
    count = sym g.count ∙ as_many;
    leaving_there = r_there;
    entering_there = c_there;
    left = λ e. let f : InColumn k ≡ InBasis = sym left ∙ g.back r e in cc;
    entered = g.to c entered;
    to = λ v l m n e. g.to v (stays v m n ∙ h.back v e);
    back = λ v l m n e. h.to v (sym (stays v m n) ∙ g.back v e);
  }

  pub same_behind : ArePositionsBehind r c ts us → HaveSameBasis after us
  same_behind b = record { count = as_many ∙ sym b.count; to = to; back = back }
    where
      to : (v : ℕ) → get_or after v InBasis ≡ InBasis → get_or us v InBasis ≡ InBasis
      to v e = elim (cases_eq v c) [
        | inl q ↦ ap (λ v. get_or us v InBasis) q ∙ b.entered
        | inr n ↦ elim (cases_eq v r) [
          | inl q ↦ absurd (let f : InColumn k ≡ InBasis = sym left ∙ ap (λ v. get_or after v InBasis) (sym q) ∙ e in cc)
          | inr m ↦ elim (cases_lt v (length ts)) [
            | inl l ↦ b.to v l m n (h.to v (sym (stays v m n) ∙ e))
            | inr l ↦ get_or_past us v InBasis (omega (arith, l, b.count))
          ]
        ]
      ]

      back : (v : ℕ) → get_or us v InBasis ≡ InBasis → get_or after v InBasis ≡ InBasis
      back v e = elim (cases_eq v c) [
        | inl q ↦ ap (λ v. get_or after v InBasis) q ∙ entered
        | inr n ↦ elim (cases_eq v r) [
          | inl q ↦ absurd (b.left (ap (λ v. get_or us v InBasis) (sym q) ∙ e))
          | inr m ↦ elim (cases_lt v (length ts)) [
            | inl l ↦ stays v m n ∙ h.back v (b.back v l m n e)
            | inr l ↦ get_or_past after v InBasis (omega (arith, l, as_many))
          ]
        ]
      ]

-- ---- a solution that has taken a turn
module _ (ps : List (List ℤ)) (weight : ℕ) (k : KeptDictionaries) (p : ℕ) (n : BasicSolution) (w : Turn) (size : ℤ) (m : BasicSolution) (t : IsTurning ps weight k p n w size m) where
  abbrev d : KeptDictionary
  d = kept_at k.all p

  abbrev before : IntegerTableau
  before = tableau_at d n

  abbrev view : Tableau
  view = view_of [] ps d n

  cons : IsConsistent (expanded ps before)
  cons = t.at.compact.consistent

  abbrev none : IntegerBounds
  none = record { lower = None; upper = None }

  turn_apart : w.leaving ≢ w.entering
  turn_apart e = let f : InBasis ≡ InColumn w.column = sym t.turn.basic ∙ ap (λ v. get_or d.positions v InBasis) e ∙ t.turn.column in cc

  pub turn_there : IsPivotThere view w.leaving w.entering
  turn_there = pivot_there _ view w.leaving w.entering (size_of ps weight n.reach before [] t.at.compact) t.turn.place

  -- the variable that leaves, as the tableau of fractions has it
  abbrev turn_value : ℤ
  turn_value = number_at (expanded_values before.denominator ps d.positions n.nonbasic_values.items n.values.items) w.leaving

  value_there : value_of view w.leaving ≡ frac turn_value before.denominator
  value_there =
      get_or-values before.denominator d.positions n.nonbasic_values.items (expanded_values before.denominator ps d.positions n.nonbasic_values.items n.values.items) w.leaving cons.nonbasic_values cons.values t.turn.leaving
      ∙ ap (λ s. value before.denominator s (number_at n.nonbasic_values.items w.leaving) turn_value) t.turn.basic

  direction_there : violation (bounds_of view w.leaving) (value_of view w.leaving) ≡ Some w.direction
  direction_there = ap (violation (bounds_of view w.leaving)) value_there ∙ t.turn.direction

  -- the nonbasic values after it are small
  total_after : total_size (nonbasic_values_exchanged w.leaving w.entering t.bound n.nonbasic_values.items) < size_limit
  total_after =
      let many : length n.nonbasic_values.items ≡ length d.positions = cons.nonbasic_values in
      exchanged_total n.bounds.items n.nonbasic_values.items w.leaving w.entering w.direction t.bound (omega (arith, t.turn.leaving, many)) (omega (arith, t.turn.entering, many)) turn_apart
      (ap (violated_bound w.direction) (sym (get_or-map fraction_bounds n.bounds.items w.leaving none unbounded (omega (arith, t.turn.leaving, cons.bounds)))) ∙ t.turned.there.bound)
      (λ v l. t.at.compact.bounded v (omega (arith, l, many))) (many ∙ sym cons.bounds) t.at.compact.room

  -- ---- to a dictionary of the basis behind it
  module _ (costs : List ℤ) (e : KeptDictionary) (kept : IsKept ps weight costs d) (kept_behind : IsKept ps weight costs e) (same : e.denominator ≡ size) (behind : ArePositionsBehind w.leaving w.entering d.positions e.positions) where
    columns : length e.rows ≡ length d.rows
    columns = omega (arith, behind.count, kept.stored.compact.variables, kept_behind.stored.compact.variables)

    denominator_is : nat_abs e.denominator ≡ nat_abs w.coefficient
    denominator_is = ap nat_abs (same ∙ t.size_is)

    size_is : size ≡ pos (nat_abs e.denominator)
    size_is = t.size_is ∙ ap pos (sym denominator_is)

    values : AreSubstitutedValues w.entering w.column (pos before.denominator) (pos (nat_abs e.denominator)) (number_at n.nonbasic_values.items w.entering)
        (quotient_numerator (number_at (row_in ps d w.leaving) w.column) (turn_value -ℤ number_at (row_in ps d w.leaving) w.column *ℤ number_at n.nonbasic_values.items w.entering -ℤ pos before.denominator *ℤ t.bound))
        (length d.rows) d.rows n.values.items m.values.items
    values = subst (λ (T : Type 0). T) (λ i. AreSubstitutedValues w.entering w.column (pos before.denominator) (size_is i) (number_at n.nonbasic_values.items w.entering)
        (quotient_numerator (t.turn.coefficient i) (turn_value -ℤ t.turn.coefficient i *ℤ number_at n.nonbasic_values.items w.entering -ℤ pos before.denominator *ℤ t.bound))
        (length d.rows) d.rows n.values.items m.values.items) t.turned.values

    pub turned_pivot : IsPivoted ps weight n.reach w.leaving w.entering before (tableau_at e m)
    turned_pivot =
        subst (IsPivoted ps weight n.reach w.leaving w.entering before)
        (λ i. of_parts (sym t.turned.bounds i) e.positions (sym t.turned.at_upper i) (sym t.turned.nonbasic_values i) e.rows e.reduced_costs m.values.items e.denominator (sym t.turned.pivots i))
        (step_is ps weight n.reach (program_of ps costs) before (dictionary_in e) w.leaving w.entering w.direction t.bound m.values.items t.at.compact kept.stored kept_behind.stored
        t.turn.leaving t.turn.entering turn_there direction_there t.turned.there.bound record { columns = columns; positions = behind }
        (column_sums ps weight n.reach (program_of ps costs) before (dictionary_in e) w.leaving w.entering w.column t.bound m.values.items t.at.compact kept.stored kept_behind.stored
        record { columns = columns; positions = behind } t.turn.basic t.turn.column total_after (denominator_is ∙ ap nat_abs t.turn.coefficient) values)
        (subst (λ z. n.reach * nat_abs z < 2 ^ 63) (sym same) t.near))

  -- ---- what a pivot of the turn is
  pub behind_at : (e : KeptDictionary) → IsPivoted ps weight n.reach w.leaving w.entering before (tableau_at e m) → ArePositionsBehind w.leaving w.entering d.positions e.positions → IsAt ps weight e m
  behind_at e h behind = record {
    compact = subst (λ r. IsCompact ps weight r (tableau_at e m)) (sym t.turned.reach) h.compact;
    basis = subst (λ ss. HaveSameBasis ss e.positions) (sym t.turned.positions)
        (same_behind n.positions.items d.positions e.positions w.leaving w.entering w.column t.at.basis t.turn.basic t.turn.column t.turn.leaving t.turn.entering behind);
    sums = t.turned.sums;
    free = t.turned.free ∙ t.at.free ∙ ap are_free (sym t.turned.bounds);
  }

  pub pivot_moves : (after : KeptDictionaries) (q : ℕ) → q < length after.all → IsPivoted ps weight n.reach w.leaving w.entering before (tableau_at (kept_at after.all q) m)
      → ArePositionsBehind w.leaving w.entering d.positions (kept_at after.all q).positions → IsMove ps weight (dictionary_at k p) n after q m
  pivot_moves after q l h behind = record {
    there = l;
    at = behind_at (kept_at after.all q) h behind;
    counted = t.turned.pivots;
    step = λ numbers. ap (step_at (view_with numbers ps (dictionary_at k p) n)) t.turn.place
        ∙ ap (after_pivot (view_with numbers ps (dictionary_at k p) n)) (made_pivot ps weight d (kept_at after.all q) n m w.leaving w.entering h numbers);
  }

  -- to one that is kept
  pub turn_moves : (costs : List ℤ) (q : ℕ) → q < length k.all → IsKept ps weight costs d → IsKept ps weight costs (kept_at k.all q) → (kept_at k.all q).denominator ≡ size
      → ArePositionsBehind w.leaving w.entering d.positions (kept_at k.all q).positions → IsMove ps weight (dictionary_at k p) n k q m
  turn_moves costs q l kept kept_behind same behind = pivot_moves k q l (turned_pivot costs (kept_at k.all q) kept kept_behind same behind) behind

  -- that of the solution's basis is that behind
  pub found_behind : (e : KeptDictionary) → HaveSameBasis m.positions.items e.positions → ArePositionsBehind w.leaving w.entering d.positions e.positions
  found_behind e h = behind_same n.positions.items d.positions e.positions w.leaving w.entering w.column t.at.basis t.turn.basic t.turn.column t.turn.leaving t.turn.entering
      (subst (λ ss. HaveSameBasis ss e.positions) t.turned.positions h)

-- ---- what is noted of the dictionaries doesn't matter
pub move_stays : (ps : List (List ℤ)) (weight : ℕ) (d : IntegerDictionary) (n : BasicSolution) (k l : KeptDictionaries) (q : ℕ) (m : BasicSolution) → l.all ≡ k.all → IsMove ps weight d n k q m → IsMove ps weight d n l q m
move_stays ps weight d n k l q m e h = record {
  there = subst (λ ds. q < length ds) (sym e) h.there;
  at = subst (λ ds. IsAt ps weight (kept_at ds q) m) (sym e) h.at;
  counted = h.counted;
  step = λ numbers. h.step numbers ∙ ap (λ ds. steps_to (view_with numbers ps (dictionary_in (kept_at ds q)) m)) (sym e);
}

-- ---- where an edge leads
pub kept_of : (ps : List (List ℤ)) (weight : ℕ) (costs : List ℤ) (k : KeptDictionaries) (p : ℕ) → p < length k.all → AreKept ps weight costs k → IsKept ps weight costs (kept_at k.all p)
kept_of ps weight costs k p l h = All-get_or (IsKept ps weight costs) k.all p _ l h.each

pub edge_leads : (ps : List (List ℤ)) (weight : ℕ) (costs : List ℤ) (k : KeptDictionaries) (p : ℕ) (w : Turn) → AreKept ps weight costs k → IsOfEdge k p w → 0 < w.target
    → (w.target < length k.all) × ArePositionsBehind w.leaving w.entering (kept_at k.all p).positions (kept_at k.all w.target).positions
edge_leads ps weight costs k p w h o l =
    subst (λ (T : Type 0). T) (λ i. (o.target i < length k.all) × ArePositionsBehind (o.leaving i) (o.entering i) (kept_at k.all (o.from i)).positions (kept_at k.all (o.target i)).positions)
    (All-get_or (Leads k.all) k.edges w.edge _ o.there h.leads (subst (λ t. 0 < t) (sym o.target) l))

-- a target of the basis behind it can be noted
pub noted_leads : (k l : KeptDictionaries) (p : ℕ) (w : Turn) (q : ℕ) → IsOfEdge k p w → l.edges ≡ k.edges → kept_at l.all p ≡ kept_at k.all p → q < length l.all
    → ArePositionsBehind w.leaving w.entering (kept_at k.all p).positions (kept_at l.all q).positions → Leads l.all (record (edge_at l.edges w.edge) { target = q })
noted_leads k l p w q o edges same there h positive = (
  there,
  subst (λ (T : Type 0). T) (λ i. ArePositionsBehind (leaving i) (entering i) (from i).positions (kept_at l.all q).positions) h,
)
  where
    leaving : w.leaving ≡ (edge_at l.edges w.edge).leaving
    leaving = sym (ap (λ es. (edge_at es w.edge).leaving) edges ∙ o.leaving)

    entering : w.entering ≡ (edge_at l.edges w.edge).entering
    entering = sym (ap (λ es. (edge_at es w.edge).entering) edges ∙ o.entering)

    from : kept_at k.all p ≡ kept_at l.all (edge_at l.edges w.edge).from
    from = sym same ∙ ap (kept_at l.all) (sym (ap (λ es. (edge_at es w.edge).from) edges ∙ o.from))
