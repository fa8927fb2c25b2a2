-- An exit of which further edges are noted, up to that of the variable that enters.
use Rattle.std.proofs.Common.{◌≡◌, ℕ, ◌+◌, ◌-◌, ◌<◌, arith, refl, ap, sym, subst, ◌∙◌, List, ◌++◌, Some, None, length, get_or, map, All}
use Rattle.std.specs.Prelude.{ℤ}
use Rattle.std.proofs.lemmas.List.Elements.{All-append, All-map}
use Rattle.integer_tableau.proofs.Arenas.{piece_many}
use Rattle.integer_tableau.proofs.ExitPieces.{get_or-piece}
use Rattle.integer_tableau.specs.Entering.{entering_by_numerators}
use Rattle.integer_tableau.specs.Exits.{AreEdgesTo, AreFirstEdges, IsEdge, candidate_by, edge_at}
use Rattle.integer_tableau.specs.Kept.{IsExitOf, IsTaken, KeptDictionary, edges_of, row_in}
use Rattle.integer_tableau.specs.RankedColumns.{edge_of}
use Rattle.integer_tableau.specs.declared.entering.Candidate.{Candidate}
use Rattle.integer_tableau.specs.declared.exits.Edge.{Edge}
use Rattle.integer_tableau.specs.declared.exits.Exit.{Exit}
use Rattle.integer_tableau.specs.declared.basic_solution.BasicSolution.{BasicSolution}
use Rattle.integer_tableau.specs.declared.position.Position.TheVariants.{InBasis}
use Rattle.integer_tableau.specs.declared.ranked_column.RankedColumn.{RankedColumn}
use Rattle.tableau.specs.declared.bounds.Direction.{Direction}

-- an edge of the exit of this variable of the dictionary at this place
abbrev IsOwn : ℕ → ℕ → Edge → Type 0
IsOwn from leaving e = (e.from ≡ from) × (e.leaving ≡ leaving)

own_made : (from leaving : ℕ) (cs : List RankedColumn) → All (IsOwn from leaving) (map (edge_of from leaving) cs)
own_made from leaving cs = All-map (IsOwn from leaving) (edge_of from leaving) cs (λ k d l. (refl, refl))

-- x before and y after
module _ (ps : List (List ℤ)) (es new : List Edge) (d : KeptDictionary) (x y : Exit) (cs : List RankedColumn) (row : List ℤ) (row_is : row ≡ row_in ps d x.variable) (best : Candidate)
    (is : IsExitOf ps es d x) (from : y.from ≡ x.from) (variable : y.variable ≡ x.variable) (last : y.first + y.count ≡ length new)
    (edges : edges_of new y ≡ edges_of es x ++ map (edge_of x.from x.variable) cs)
    (to : AreEdgesTo d.nonbasic d.reduced_costs row best (edges_of es x ++ map (edge_of x.from x.variable) cs)) where
  abbrev now : List Edge
  now = edges_of new y

  to_now : AreEdgesTo d.nonbasic d.reduced_costs row best now
  to_now = subst (AreEdgesTo d.nonbasic d.reduced_costs row best) (sym edges) to

  own_now : All (IsOwn x.from x.variable) now
  own_now = subst (All (IsOwn x.from x.variable)) (sym edges) (All-append (IsOwn x.from x.variable) (edges_of es x) (map (edge_of x.from x.variable) cs) is.own (own_made x.from x.variable cs))

  pub further_exit : IsExitOf ps new d y
  further_exit = record {
    there = subst (λ v. v < length d.positions) (sym variable) is.there;
    basic = ap (λ v. get_or d.positions v InBasis) variable ∙ is.basic;
    within = omega (arith, last);
    edges = subst (λ v. AreFirstEdges d.nonbasic d.reduced_costs (row_in ps d v) now) (sym variable) (subst (λ row. AreFirstEdges d.nonbasic d.reduced_costs row now) row_is to_now.first);
    own = subst (λ v. All (IsOwn y.from v) now) (sym variable) (subst (λ p. All (IsOwn p x.variable) now) (sym from) own_now);
  }

  many : length now ≡ y.count
  many = piece_many new y.first y.count (omega (arith, last))

  there : length now - 1 < length now
  there = omega (arith, to_now.some)

  last_at : edge_at now (length now - 1) ≡ edge_at new (length new - 1)
  last_at =
      let q : y.first + (length now - 1) ≡ length new - 1 = omega (arith, many, to_now.some, last) in
      get_or-piece new y.first y.count (length now - 1) _ (omega (arith, many, to_now.some)) ∙ ap (edge_at new) q

  pub further_taken : (p : ℕ) (n : BasicSolution) (w : Direction) → x.from ≡ p → entering_by_numerators 0 w None d.positions n.at_upper.items n.bounds.items d.reduced_costs row ≡ Some best
      → IsTaken ps new p d n x.variable w (Some (length new - 1))
  further_taken p n w place e = record {
    enters = ap (entering_by_numerators 0 w None d.positions n.at_upper.items n.bounds.items d.reduced_costs) (sym row_is) ∙ e ∙ ap Some (sym to_now.last ∙ ap (candidate_by d.reduced_costs) last_at);
    within = omega (arith, many, to_now.some, last);
    own = (
      ap (λ (e : Edge). e.from) (sym last_at) ∙ (own_now (length now - 1) _ there).0 ∙ place,
      ap (λ (e : Edge). e.leaving) (sym last_at) ∙ (own_now (length now - 1) _ there).1,
      subst (IsEdge d.nonbasic (row_in ps d x.variable)) last_at (subst (λ row. IsEdge d.nonbasic row (edge_at now (length now - 1))) row_is (to_now.first.each (length now - 1) there)),
    );
  }
