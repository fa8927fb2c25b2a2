use Rattle.std.proofs.Common.{◌≡◌, ◌<◌, ◌≤◌, ◌+◌, ◌-◌, ◌∙◌, ◌++◌, ℕ, ℤ, List, Some, None, length, map, set, arith, ap, refl, sym, subst, All}
use Rattle.integer_tableau.proofs.ExitViews.{exit_is, view_inside}
use Rattle.integer_tableau.proofs.ExitsFurther.{further_exit, further_taken}
use Rattle.integer_tableau.proofs.ExitsKept.{IsNoted, edges_grown, exit_changed, noted_one}
use Rattle.integer_tableau.specs.Entering.{entering_by_numerators}
use Rattle.integer_tableau.specs.Exits.{AreEdgesTo, IsEdge, edge_at}
use Rattle.integer_tableau.specs.Kept.{AreKept, IsExitOf, IsTaken, KeptDictionaries, KeptDictionary, Leads, dictionary_in, edges_of, exit_at, kept_at, row_in}
use Rattle.integer_tableau.specs.RankedColumns.{edge_of}
use Rattle.integer_tableau.specs.declared.entering.Candidate.{Candidate}
use Rattle.integer_tableau.specs.declared.exits.Edge.{Edge}
use Rattle.integer_tableau.specs.declared.exits.Exit.{Exit}
use Rattle.integer_tableau.specs.declared.basic_solution.BasicSolution.{BasicSolution}
use Rattle.integer_tableau.specs.declared.ranked_column.RankedColumn.{RankedColumn}
use Rattle.tableau.specs.declared.bounds.Direction.{Direction}
use Rattle.integer_tableau.proofs.dictionary.Dictionaries.further_edge.Goals as goal
use Rattle.integer_tableau.proofs.dictionary.Dictionaries.further_edge.Goals.{After-len}

-- only edges are put behind the others
with_more : (ps : List (List ℤ)) (weight : ℕ) (costs : List ℤ) (k : KeptDictionaries) (es : List Edge) → (more : List Edge) × (es ≡ k.edges ++ more) × ((ds : List KeptDictionary) → All (Leads ds) k.edges → All (Leads ds) more)
    → AreKept ps weight costs k → AreKept ps weight costs (record k { edges = es })
with_more ps weight costs k es stay h = subst (λ es. AreKept ps weight costs (record k { edges = es })) (sym stay.1) (edges_grown ps weight costs k h stay.0 (stay.2 k.all h.leads))

pub returns-in_err-self-inside-clause-kept : goal.returns-in_err-self-inside-clause-kept
returns-in_err-self-inside-clause-kept c = λ ps weight costs row_is h.
    with_more ps weight costs (view_inside c.self.inside) c.lengthen.new.edges.items c.lengthen.ensures.stay (subst (AreKept ps weight costs) (sym c.self.view_is) h)

-- what is found of the exit at a place
abbrev IsFurther : KeptDictionaries → ℕ → ℕ → BasicSolution → Direction → List ℤ → List RankedColumn → Type 0
IsFurther k place exit n w row cs =
    (best : Candidate) × (entering_by_numerators 0 w None (kept_at k.all place).positions n.at_upper.items n.bounds.items (kept_at k.all place).reduced_costs row ≡ Some best)
    × AreEdgesTo (kept_at k.all place).nonbasic (kept_at k.all place).reduced_costs row best (edges_of k.edges (exit_at k.exits exit) ++ map (edge_of place (exit_at k.exits exit).variable) cs)

module _ (c : After-len) where
  abbrev old : KeptDictionaries
  old = view_inside c.self.inside

  abbrev x : Exit
  x = exit_at old.exits c.args.exit

  abbrev y : Exit
  y = c.in_ok-self-inside.field-0

  found : IsFurther c.args.self.now c.args.place c.args.exit c.args.solution.now c.args.direction c.args.row.now c.rank_further.new.columns.items
  found = c.in_ok-rank_further.ensures.some c.if-not-branch.false

  further : IsFurther old c.args.place c.args.exit c.args.solution.now c.args.direction c.args.row.now c.rank_further.new.columns.items
  further = subst (λ k. IsFurther k c.args.place c.args.exit c.args.solution.now c.args.direction c.args.row.now c.rank_further.new.columns.items) (sym c.self.view_is) found

  exit_there : c.args.exit < length old.exits
  exit_there = subst (λ (k : KeptDictionaries). c.args.exit < length k.exits) (sym c.self.view_is) c.requires.there

  from : x.from ≡ c.args.place
  from = ap (λ (k : KeptDictionaries). (exit_at k.exits c.args.exit).from) c.self.view_is ∙ c.requires.from

  at : c.index.result.now ≡ x
  at = exit_is c.self.inside old c.args.exit c.index.result.now refl exit_there c.index.ensures

  edges : edges_of c.lengthen.new.edges.items y ≡ edges_of old.edges x ++ map (edge_of x.from x.variable) c.rank_further.new.columns.items
  edges = c.in_ok-self-inside.ensures.edges ∙ (λ i. edges_of old.edges (at i) ++ map (edge_of (at i).from (at i).variable) (c.deref.ensures.value i))

  from_is : y.from ≡ x.from
  from_is = c.in_ok-self-inside.ensures.exit.0 ∙ ap (λ (x : Exit). x.from) at

  variable_is : y.variable ≡ x.variable
  variable_is = c.in_ok-self-inside.ensures.exit.1 ∙ ap (λ (x : Exit). x.variable) at

  to : AreEdgesTo (kept_at old.all c.args.place).nonbasic (kept_at old.all c.args.place).reduced_costs c.args.row.now further.0 (edges_of old.edges x ++ map (edge_of x.from x.variable) c.rank_further.new.columns.items)
  to = subst (λ p. AreEdgesTo (kept_at old.all c.args.place).nonbasic (kept_at old.all c.args.place).reduced_costs c.args.row.now further.0 (edges_of old.edges x ++ map (edge_of p x.variable) c.rank_further.new.columns.items)) (sym from) further.2

  -- the rows by which they are kept
  module _ (ps : List (List ℤ)) (weight : ℕ) (costs : List ℤ) (row_is : c.args.row.now ≡ row_in ps (kept_at c.args.self.now.all c.args.place) (exit_at c.args.self.now.exits c.args.exit).variable)
      (h : AreKept ps weight costs c.args.self.now) where
    kept : AreKept ps weight costs old
    kept = subst (AreKept ps weight costs) (sym c.self.view_is) h

    is : IsExitOf ps old.edges (kept_at old.all c.args.place) x
    is = subst (λ p. IsExitOf ps old.edges (kept_at old.all p) x) from (noted_one ps weight costs old kept c.args.exit exit_there).1

    place_there : c.args.place < length old.all
    place_there = subst (λ (k : KeptDictionaries). c.args.place < length k.all) (sym c.self.view_is) c.requires.place_there

    row : c.args.row.now ≡ row_in ps (kept_at old.all c.args.place) x.variable
    row = subst (λ (k : KeptDictionaries). c.args.row.now ≡ row_in ps (kept_at k.all c.args.place) (exit_at k.exits c.args.exit).variable) (sym c.self.view_is) row_is

    noted : IsNoted ps c.lengthen.new.edges.items old.all y
    noted =
        let place : y.from ≡ c.args.place = from_is ∙ from in (
          omega (arith, place, place_there),
          subst (λ p. IsExitOf ps c.lengthen.new.edges.items (kept_at old.all p) y) (sym place)
              (further_exit ps old.edges c.lengthen.new.edges.items (kept_at old.all c.args.place) x y c.rank_further.new.columns.items c.args.row.now row further.0 is from_is variable_is
              c.in_ok-self-inside.ensures.exit.2 edges to),
        )

    after : AreKept ps weight costs (record old { exits = set old.exits c.args.exit y; edges = c.lengthen.new.edges.items })
    after = exit_changed ps weight costs (record old { edges = c.lengthen.new.edges.items }) (with_more ps weight costs old c.lengthen.new.edges.items c.lengthen.ensures.stay kept) c.args.exit y exit_there from_is noted

    taken : IsTaken ps c.lengthen.new.edges.items c.args.place (kept_at old.all c.args.place) c.args.solution.now x.variable c.args.direction (Some (length c.lengthen.new.edges.items - 1))
    taken = further_taken ps old.edges c.lengthen.new.edges.items (kept_at old.all c.args.place) x y c.rank_further.new.columns.items c.args.row.now row further.0 is from_is variable_is
        c.in_ok-self-inside.ensures.exit.2 edges to c.args.place c.args.solution.now c.args.direction from further.1

pub returns-clause-kept : goal.returns-clause-kept
returns-clause-kept c = λ ps weight costs row_is h. after c ps weight costs row_is h

-- by other rows by which the leaving row is the same
by_others : (ps qs : List (List ℤ)) (es : List Edge) (p : ℕ) (d : KeptDictionary) (n : BasicSolution) (variable : ℕ) (w : Direction) (e : ℕ) → row_in ps d variable ≡ row_in qs d variable
    → IsTaken ps es p d n variable w (Some e) → IsTaken qs es p d n variable w (Some e)
by_others ps qs es p d n variable w e same t = record {
  enters = ap (entering_by_numerators 0 w None d.positions n.at_upper.items n.bounds.items d.reduced_costs) (sym same) ∙ t.enters;
  within = t.within;
  own = (t.own.0, t.own.1, subst (λ row. IsEdge d.nonbasic row (edge_at es e)) same t.own.2);
}

pub returns-clause-taken : goal.returns-clause-taken
returns-clause-taken c = λ ps row_is.
    let k = c.requires.kept in
    let d : KeptDictionary = kept_at (old c).all c.args.place in
    let es = c.lengthen.new.edges.items in
    let named : (x c).variable ≡ (exit_at c.args.self.now.exits c.args.exit).variable = ap (λ (k : KeptDictionaries). (exit_at k.exits c.args.exit).variable) c.self.view_is in
    let here = subst (λ (k : KeptDictionaries). c.args.row.now ≡ row_in ps (kept_at k.all c.args.place) (exit_at k.exits c.args.exit).variable) (sym c.self.view_is) row_is in
    let many : length es - 1 ≡ c.len.result - 1 = omega (arith, c.len.ensures, c.lengthen.new.edges.ok.0) in
    subst (λ e. IsTaken ps es c.args.place d c.args.solution.now (exit_at c.args.self.now.exits c.args.exit).variable c.args.direction (Some e)) many
    (subst (λ v. IsTaken ps es c.args.place d c.args.solution.now v c.args.direction (Some (length es - 1))) named
    (by_others k.0 ps es c.args.place d c.args.solution.now (x c).variable c.args.direction (length es - 1) (sym (row c k.0 k.1 k.2 k.4 k.3) ∙ here) (taken c k.0 k.1 k.2 k.4 k.3)))

pub rank_further-requires-clause-kept : goal.rank_further-requires-clause-kept
rank_further-requires-clause-kept c = c.requires.kept

pub rank_further-requires-clause-place_there : goal.rank_further-requires-clause-place_there
rank_further-requires-clause-place_there c = c.requires.place_there

pub rank_further-requires-clause-there : goal.rank_further-requires-clause-there
rank_further-requires-clause-there c = c.requires.there

pub rank_further-requires-clause-from : goal.rank_further-requires-clause-from
rank_further-requires-clause-from c = c.requires.from

pub rank_further-requires-clause-at_upper_there : goal.rank_further-requires-clause-at_upper_there
rank_further-requires-clause-at_upper_there c = c.requires.at_upper_there

pub rank_further-requires-clause-bounds_there : goal.rank_further-requires-clause-bounds_there
rank_further-requires-clause-bounds_there c = c.requires.bounds_there

pub rank_further-requires-clause-none : goal.rank_further-requires-clause-none
rank_further-requires-clause-none c = c.requires.none

pub returns-in_err-rank_further-clause-kept : goal.returns-in_err-rank_further-clause-kept
returns-in_err-rank_further-clause-kept c = λ ps weight costs row_is h. h

pub returns-then-not-branch-clause-kept : goal.returns-then-not-branch-clause-kept
returns-then-not-branch-clause-kept c = λ ps weight costs row_is h. h

pub returns-in_err-rank_further-clause-same : goal.returns-in_err-rank_further-clause-same
returns-in_err-rank_further-clause-same c = refl

pub returns-then-not-branch-clause-same : goal.returns-then-not-branch-clause-same
returns-then-not-branch-clause-same c = refl

pub returns-then-not-branch-clause-taken : goal.returns-then-not-branch-clause-taken
returns-then-not-branch-clause-taken c = λ ps row_is.
    let d : KeptDictionary = kept_at c.args.self.now.all c.args.place in
    let n = c.args.solution.now in
    record {
      enters = ap (entering_by_numerators 0 c.args.direction None d.positions n.at_upper.items n.bounds.items d.reduced_costs) (sym row_is) ∙ c.in_ok-rank_further.ensures.none c.if-not-branch.true;
      within = tt;
      own = tt;
    }

pub index-requires : goal.index-requires
index-requires c = omega (arith, c.requires.there, ap (λ (k : KeptDictionaries). length k.exits) c.self.view_is, c.self.inside.exits.ok.0)

pub lengthen-requires : goal.lengthen-requires
lengthen-requires c =
    let k = c.requires.kept in
    let old : KeptDictionaries = view_inside c.self.inside in
    let there : c.args.exit < length old.exits = subst (λ (k : KeptDictionaries). c.args.exit < length k.exits) (sym c.self.view_is) c.requires.there in
    let within = (noted_one k.0 k.1 k.2 old (subst (AreKept k.0 k.1 k.2) (sym c.self.view_is) k.3) c.args.exit there).1.within in
    subst (λ (x : Exit). x.first + x.count ≤ length old.edges) (sym (exit_is c.self.inside old c.args.exit c.index.result.now refl there c.index.ensures)) within

pub invariant_of-self : goal.invariant_of-self
invariant_of-self c = c.self.invariant

pub returns-in_err-self-inside-clause-same : goal.returns-in_err-self-inside-clause-same
returns-in_err-self-inside-clause-same c = ap (λ (k : KeptDictionaries). map dictionary_in k.all) c.self.view_is

pub index_mut-requires : goal.index_mut-requires
index_mut-requires c = omega (arith, c.requires.there, ap (λ (k : KeptDictionaries). length k.exits) c.self.view_is, c.self.inside.exits.ok.0)

pub invariant_of-self-2 : goal.invariant_of-self-2
invariant_of-self-2 c = c.self.invariant

pub returns-clause-same : goal.returns-clause-same
returns-clause-same c = ap (λ (k : KeptDictionaries). map dictionary_in k.all) c.self.view_is

pub overflow_sub-result : goal.overflow_sub-result
overflow_sub-result c =
    let k = c.requires.kept in
    omega (arith, (taken c k.0 k.1 k.2 k.4 k.3).within, c.len.ensures, c.lengthen.new.edges.ok.0)
