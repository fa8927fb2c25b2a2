use Rattle.std.proofs.Common.{◌≡◌, ◌<◌, ◌+◌, ◌-◌, ◌∙◌, ℕ, ℤ, Bool, Option, List, false, Some, None, length, ap, refl, sym, subst}
use Rattle.std.specs.Option.{IfNone, IfSome}
use Rattle.std.specs.Prelude.{slice_index_or, slice_range}
use Rattle.integer_tableau.proofs.DroppedColumns.{noted_stay}
use Rattle.integer_tableau.proofs.ExitViews.{exit_is}
use Rattle.integer_tableau.proofs.ExitsKept.{kept_one, noted_one}
use Rattle.integer_tableau.proofs.FurtherEdges.{extended}
use Rattle.integer_tableau.specs.Entering.{entering_by_numerators}
use Rattle.integer_tableau.specs.Exits.{AreFirstEdges, candidate_by, column_candidate, edge_at, is_behind, is_between, variable_enters}
use Rattle.integer_tableau.specs.Kept.{IsExitOf, KeptDictionaries, KeptDictionary, edges_of, exit_at, kept_at}
use Rattle.integer_tableau.specs.Numbers.{number_at}
use Rattle.integer_tableau.specs.Positions.{AreNonbasic}
use Rattle.integer_tableau.specs.RankedColumns.{AreRanked}
use Rattle.integer_tableau.specs.declared.entering.Candidate.{Candidate}
use Rattle.integer_tableau.specs.declared.exits.Exit.{Exit}
use Rattle.integer_tableau.specs.declared.integer_bounds.IntegerBounds.{IntegerBounds}
use Rattle.integer_tableau.specs.declared.position.Position.{Position}
use Rattle.tableau.specs.declared.bounds.Direction.{Direction}
use Rattle.integer_tableau.proofs.dictionary.Dictionaries.rank_further.Goals as goal
use Rattle.integer_tableau.proofs.dictionary.Dictionaries.rank_further.Goals.{After-deref-3, After-sort_unstable}

module _ (c : After-deref-3) where
  abbrev d : KeptDictionary
  d = kept_at c.args.self.now.all c.args.place

  abbrev x : Exit
  x = exit_at c.args.self.now.exits c.args.exit

  -- the dictionary is one to keep, and the exit one of it
  are : AreNonbasic d.positions d.nonbasic
  are = let k = c.requires.kept in (kept_one k.0 k.1 k.2 c.args.self.now k.3 c.args.place c.requires.place_there).nonbasic

  is : IsExitOf c.requires.kept.0 c.args.self.now.edges d x
  is =
      let k = c.requires.kept in
      subst (λ p. IsExitOf k.0 c.args.self.now.edges (kept_at c.args.self.now.all p) x) c.requires.from (noted_one k.0 k.1 k.2 c.args.self.now k.3 c.args.exit c.requires.there).1

  first : AreFirstEdges d.nonbasic d.reduced_costs c.args.row.now (edges_of c.args.self.now.edges x)
  first = subst (λ row. AreFirstEdges d.nonbasic d.reduced_costs row (edges_of c.args.self.now.edges x)) (sym c.requires.kept.4) (is).edges

  -- the edges that are noted
  noted : c.index-noted.result.now ≡ x
  noted = exit_is c.self.inside c.args.self.now c.args.exit c.index-noted.result.now c.self.view_is c.requires.there c.index-noted.ensures

  edges : slice_range c.deref.result.now c.index-noted.result.now.first (c.index-noted.result.now.first + c.index-noted.result.now.count) ≡ edges_of c.args.self.now.edges x
  edges = λ i. slice_range ((c.deref.ensures.value ∙ ap (λ (k : KeptDictionaries). k.edges) c.self.view_is) i) (noted i).first ((noted i).first + (noted i).count)

  last_is : IfSome c.last_candidate-last.result (λ (b : Candidate). (0 < length (edges_of c.args.self.now.edges x)) × (b ≡ candidate_by d.reduced_costs (edge_at (edges_of c.args.self.now.edges x) (length (edges_of c.args.self.now.edges x) - 1))))
  last_is =
      subst (λ costs. IfSome c.last_candidate-last.result (λ (b : Candidate). (0 < length (edges_of c.args.self.now.edges x)) × (b ≡ candidate_by costs (edge_at (edges_of c.args.self.now.edges x) (length (edges_of c.args.self.now.edges x) - 1)))))
      c.reduced_costs-costs.ensures.value
      (subst (λ es. IfSome c.last_candidate-last.result (λ (b : Candidate). (0 < length es) × (b ≡ candidate_by c.reduced_costs-costs.result.now (edge_at es (length es - 1))))) edges c.last_candidate-last.ensures.some)

-- what doesn't come behind the last candidate may not enter
abbrev NotedStay : Direction → List Bool → List IntegerBounds → List ℕ → List ℤ → List ℤ → Option Candidate → Type 0
NotedStay w us bs nonbasic costs row last =
    (k : ℕ) → k < length nonbasic → is_behind last (column_candidate nonbasic costs row k) ≡ false → variable_enters w us bs (slice_index_or nonbasic k 0) (number_at row k) ≡ false

pub rank_to_best-requires-clause-noted : goal.rank_to_best-requires-clause-noted
rank_to_best-requires-clause-noted c =
    let a = c.args in
    let b = (goal.at.rank_to_best-requires-clause-noted c).After-deref-3 in
    let last = c.last_candidate-last.result in
    let stay : NotedStay a.direction a.solution.now.at_upper.items a.solution.now.bounds.items (d b).nonbasic (d b).reduced_costs a.row.now last =
    noted_stay a.direction a.solution.now.at_upper.items a.solution.now.bounds.items (d b).nonbasic (d b).reduced_costs a.row.now (edges_of a.self.now.edges (x b)) last (first b) (last_is b) (λ q l. c.requires.none q _ l) in
    subst (λ us. NotedStay a.direction us c.deref-3.result.now c.nonbasic-nonbasic.result.now c.reduced_costs-costs.result.now a.row.now last) (sym c.deref-2.ensures.value)
    (subst (λ bs. NotedStay a.direction a.solution.now.at_upper.items bs c.nonbasic-nonbasic.result.now c.reduced_costs-costs.result.now a.row.now last) (sym c.deref-3.ensures.value)
    (subst (λ ns. NotedStay a.direction a.solution.now.at_upper.items a.solution.now.bounds.items ns c.reduced_costs-costs.result.now a.row.now last) (sym c.nonbasic-nonbasic.ensures.value)
    (subst (λ costs. NotedStay a.direction a.solution.now.at_upper.items a.solution.now.bounds.items (d b).nonbasic costs a.row.now last) (sym c.reduced_costs-costs.ensures.value) stay)))

module _ (c : After-sort_unstable) where
  abbrev b : After-deref-3
  b = (goal.at.returns-clause-some c).After-deref-3

  -- the best candidate and the columns up to it
  found : (best : Candidate) × ((ss : List Position) → AreNonbasic ss c.nonbasic-nonbasic.result.now → length c.deref-2.result.now ≡ length ss
      → entering_by_numerators 0 c.args.direction None ss c.deref-2.result.now c.deref-3.result.now c.reduced_costs-costs.result.now c.args.row.now ≡ Some best)
      × AreRanked c.nonbasic-nonbasic.result.now c.reduced_costs-costs.result.now c.args.row.now (λ k. is_between c.last_candidate-last.result best (column_candidate c.nonbasic-nonbasic.result.now c.reduced_costs-costs.result.now c.args.row.now k))
      (length c.nonbasic-nonbasic.result.now) c.rank_to_best.new.columns.items
  found = c.in_ok-rank_to_best.ensures.some c.if-not-branch.false

  enters : entering_by_numerators 0 c.args.direction None (d b).positions c.args.solution.now.at_upper.items c.args.solution.now.bounds.items (d b).reduced_costs c.args.row.now ≡ Some found.0
  enters =
      sym (λ i. entering_by_numerators 0 c.args.direction None (d b).positions (c.deref-2.ensures.value i) (c.deref-3.ensures.value i) (c.reduced_costs-costs.ensures.value i) c.args.row.now)
      ∙ found.1 (d b).positions (subst (AreNonbasic (d b).positions) (sym c.nonbasic-nonbasic.ensures.value) (are b)) (ap length c.deref-2.ensures.value ∙ c.requires.at_upper_there)

  ranked : AreRanked (d b).nonbasic (d b).reduced_costs c.args.row.now (λ k. is_between c.last_candidate-last.result found.0 (column_candidate (d b).nonbasic (d b).reduced_costs c.args.row.now k)) (length (d b).nonbasic) c.rank_to_best.new.columns.items
  ranked =
      let last = c.last_candidate-last.result in
      let best = found.0 in
      let row = c.args.row.now in
      let ns = c.nonbasic-nonbasic.result.now in
      let cs = c.rank_to_best.new.columns.items in
      subst (λ ns. AreRanked ns (d b).reduced_costs row (λ k. is_between last best (column_candidate ns (d b).reduced_costs row k)) (length ns) cs) c.nonbasic-nonbasic.ensures.value
      (subst (λ costs. AreRanked ns costs row (λ k. is_between last best (column_candidate ns costs row k)) (length ns) cs) c.reduced_costs-costs.ensures.value found.2)

pub returns-clause-some : goal.returns-clause-some
returns-clause-some c = λ some.
    let a = c.args in
    let es = edges_of a.self.now.edges (x (b c)) in
    let best = (found c).0 in (
      best,
      enters c,
      extended a.place (x (b c)).variable a.direction (d (b c)).positions a.solution.now.at_upper.items a.solution.now.bounds.items (d (b c)).nonbasic (d (b c)).reduced_costs a.row.now es _ c.last_candidate-last.result best
          (are (b c)) c.requires.at_upper_there (c.requires.bounds_there ∙ c.requires.at_upper_there) (first (b c)) (λ q l. c.requires.none q _ l) (enters c)
          (subst (λ es. IfNone c.last_candidate-last.result (length es ≡ 0)) (edges (b c)) c.last_candidate-last.ensures.none) (last_is (b c))
          c.rank_to_best.new.columns.items c.sort_unstable.new.self.items (ranked c) c.sort_unstable.ensures.permutation c.sort_unstable.ensures.sorted refl,
    )
