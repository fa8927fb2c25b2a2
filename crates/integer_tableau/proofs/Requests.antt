-- What a solution asks for, by what is noted of its dictionary.
use Rattle.std.proofs.Common.{◌≡◌, ℕ, suc, ◌+◌, ◌<◌, arith, refl, ap, sym, ◌∙◌, subst, Bool, true, false, Option, Some, None, List, [], ◌∷◌, length, get_or, map, All}
use Rattle.std.specs.Prelude.{ℤ, nat_abs}
use Rattle.std.specs.List.{position}
use Rattle.std.specs.Option.{option_map}
use Rattle.std.proofs.lemmas.List.{get_or-map, length-map}
use Rattle.std.proofs.lemmas.List.Elements.{All-from_get_or, All-get_or}
use Rattle.std.proofs.lemmas.List.Quantifiers.{position-Some}
use Rattle.fraction.specs.Rational.{frac}
use Rattle.tableau.specs.Leaving.{found_or, unbounded, violation}
use Rattle.tableau.specs.Place.{place}
use Rattle.tableau.specs.Tableau.{Tableau}
use Rattle.tableau.specs.declared.bounds.Direction.{Direction}
use Rattle.tableau.specs.declared.place.Place.TheVariants.{Done, NoColumn, Pivot}
use Rattle.integer_tableau.proofs.Arenas.{piece_many}
use Rattle.integer_tableau.proofs.EnteringByColumn.{variable_there}
use Rattle.integer_tableau.proofs.EnteringByEdge.{first_may}
use Rattle.integer_tableau.proofs.ExitPieces.{get_or-piece}
use Rattle.integer_tableau.proofs.ExitsKept.{kept_one, noted_one}
use Rattle.integer_tableau.proofs.FromCode.{chosen_from_code, place_from_code, statuses_as_many}
use Rattle.integer_tableau.proofs.Violations.{leaving_there}
use Rattle.integer_tableau.specs.Combined.{IsCompact, expanded_rows, expanded_values}
use Rattle.integer_tableau.specs.Entering.{entering_by_numerators}
use Rattle.integer_tableau.specs.Exits.{IsEdge, candidate_by, edge_at, edge_enters}
use Rattle.integer_tableau.specs.IntegerDictionary.{IntegerDictionary}
use Rattle.integer_tableau.specs.IntegerTableau.{IntegerTableau, fraction_bounds}
use Rattle.integer_tableau.specs.Kept.{AreKept, HaveSameBasis, HaveSameDictionaries, IsAt, IsExitOf, IsTaken, KeptDictionaries, KeptDictionary, dictionary_in, edges_of, exit_at, kept_at, row_in, tableau_at}
use Rattle.integer_tableau.specs.Leaving.{leaving_by_numerators}
use Rattle.integer_tableau.specs.Numbers.{number_at}
use Rattle.integer_tableau.specs.Place.{place_of_candidate}
use Rattle.integer_tableau.specs.StoredRun.{IsLastPlace, IsSolutionOf, IsOfEdge, IsTurnAt, dictionary_at, tableau_with, turn_of, view_with}
use Rattle.integer_tableau.specs.declared.exits.Edge.{Edge}
use Rattle.integer_tableau.specs.declared.exits.Exit.{Exit}
use Rattle.integer_tableau.specs.declared.integer_bounds.IntegerBounds.{IntegerBounds}
use Rattle.integer_tableau.specs.declared.basic_solution.BasicSolution.{BasicSolution}
use Rattle.integer_tableau.specs.declared.position.Position.{Position}
use Rattle.integer_tableau.specs.declared.position.Position.TheVariants.{InBasis, InColumn}
use Rattle.integer_tableau.specs.declared.request.Turn.{Turn}

-- ---- the same dictionaries
pub as_many : (k l : KeptDictionaries) → HaveSameDictionaries k l → length k.all ≡ length l.all
as_many k l same = sym (length-map k.all dictionary_in) ∙ ap length same ∙ length-map l.all dictionary_in

-- the places stay
pub same_places : (k l : KeptDictionaries) (p : ℕ) → HaveSameDictionaries k l → p < length l.all → dictionary_at k p ≡ dictionary_at l p
same_places k l p same there =
    sym (get_or-map dictionary_in k.all p _ (dictionary_in (kept_at [] p)) (omega (arith, there, as_many k l same)))
    ∙ ap (λ ms. get_or ms p (dictionary_in (kept_at [] p))) same
    ∙ get_or-map dictionary_in l.all p _ (dictionary_in (kept_at [] p)) there

-- whoever is at the one is at the other
pub at_same : (ps : List (List ℤ)) (weight : ℕ) (d e : KeptDictionary) (n : BasicSolution) → dictionary_in d ≡ dictionary_in e → IsAt ps weight d n → IsAt ps weight e n
at_same ps weight d e n same h = record {
  compact = subst (λ (m : IntegerDictionary). IsCompact ps weight n.reach (tableau_with m n)) same h.compact;
  basis = subst (λ (m : IntegerDictionary). HaveSameBasis n.positions.items m.positions) same h.basis;
  sums = h.sums;
  free = h.free;
}

-- the row of a variable
pub same_row : (ps : List (List ℤ)) (d e : KeptDictionary) (v : ℕ) → dictionary_in e ≡ dictionary_in d → row_in ps e v ≡ row_in ps d v
same_row ps d e v same = ap (λ (m : IntegerDictionary). get_or (expanded_rows m.denominator ps m.positions m.rows) v []) same

-- ---- one of the dictionaries that are kept
pub solution_of : (ps : List (List ℤ)) (weight : ℕ) (costs : List ℤ) (k : KeptDictionaries) (p : ℕ) (n : BasicSolution) → p < length k.all → AreKept ps weight costs k → IsAt ps weight (kept_at k.all p) n
    → IsSolutionOf ps (kept_at k.all p) n
solution_of ps weight costs k p n l are at = record { weight = weight; costs = costs; kept = kept_one ps weight costs k are p l; at = at }

-- an exit of it
pub exit_there : (ps : List (List ℤ)) (weight : ℕ) (costs : List ℤ) (k : KeptDictionaries) (x p : ℕ) → x < length k.exits → AreKept ps weight costs k → (exit_at k.exits x).from ≡ p
    → IsExitOf ps k.edges (kept_at k.all p) (exit_at k.exits x)
exit_there ps weight costs k x p l are from = subst (λ p. IsExitOf ps k.edges (kept_at k.all p) (exit_at k.exits x)) from (noted_one ps weight costs k are x l).1

-- ---- the direction in which a variable has to go
direction_there : (d i : ℕ) (ss : List Position) (bs : List IntegerBounds) (vs : List ℤ) (l : ℕ × Direction) → leaving_by_numerators d i ss bs vs ≡ Some l
    → (k : ℕ) × (l.0 ≡ i + k) × (violation (get_or (map fraction_bounds bs) k unbounded) (frac (number_at vs k) d) ≡ Some l.1)
direction_there d i [] bs vs l e = cc
direction_there d i (s ∷ ss) [] vs l e = cc
direction_there d i (s ∷ ss) (b ∷ bs) [] l e = cc
direction_there d i (InColumn k ∷ ss) (b ∷ bs) (v ∷ vs) l e = let h = direction_there d (i + 1) ss bs vs l e in (suc h.0, omega (arith, h.1), h.2)
direction_there d i (InBasis ∷ ss) (b ∷ bs) (v ∷ vs) l e = by_test (violation (fraction_bounds b) (frac v d)) refl (λ e. direction_there d (i + 1) ss bs vs l e) e
  where
    by_test : (o : Option Direction) → violation (fraction_bounds b) (frac v d) ≡ o
        → (leaving_by_numerators d (i + 1) ss bs vs ≡ Some l → (k : ℕ) × (l.0 ≡ i + 1 + k) × (violation (get_or (map fraction_bounds bs) k unbounded) (frac (number_at vs k) d) ≡ Some l.1))
        → found_or i o (leaving_by_numerators d (i + 1) ss bs vs) ≡ Some l
        → (k : ℕ) × (l.0 ≡ i + k) × (violation (get_or (fraction_bounds b ∷ map fraction_bounds bs) k unbounded) (frac (number_at (v ∷ vs) k) d) ≡ Some l.1)
    by_test None q later e = let h = later e in (suc h.0, omega (arith, h.1), h.2)
    by_test (Some w) q later e =
        let g : (i, w) ≡ l = cc in
        (0, (let f : l.0 ≡ i = sym (ap (λ (l : ℕ × Direction). l.0) g) in omega (arith, f)), q ∙ ap (λ (l : ℕ × Direction). Some l.1) g)

-- ---- the edges of an exit
module _ (ps : List (List ℤ)) (es : List Edge) (d : KeptDictionary) (n : BasicSolution) (h : IsSolutionOf ps d n) (x : Exit) (noted : IsExitOf ps es d x) where
  abbrev own : List Edge
  own = edges_of es x

  many_bounds : length n.bounds.items ≡ length n.at_upper.items
  many_bounds = h.at.compact.consistent.bounds ∙ sym h.at.compact.consistent.at_upper

  pub entering_there : All (λ (e : Edge). e.entering < length n.at_upper.items) own
  entering_there = All-from_get_or (λ (e : Edge). e.entering < length n.at_upper.items) own (edge_at [] 0)
      (λ i l. let e = noted.edges.each i l in omega (arith, e.entering, variable_there d.positions d.nonbasic h.kept.nonbasic (edge_at own i).column e.there, h.at.compact.consistent.at_upper))

  -- the first one whose variable may enter is taken
  pub first_taken : (direction : Direction) (p i e : ℕ) → position (edge_enters direction n.at_upper.items n.bounds.items) own ≡ Some i → e ≡ x.first + i → e < length es → x.from ≡ p
      → IsTaken ps es p d n x.variable direction (Some e)
  first_taken direction p i e first e_is there from = record {
    enters = first_may direction d.positions n.at_upper.items n.bounds.items d.nonbasic d.reduced_costs (row_in ps d x.variable) own h.kept.nonbasic h.at.compact.consistent.at_upper h.at.compact.consistent.bounds noted.edges
        i may.0 may.1 may.2 ∙ ap (λ (e : Edge). Some (candidate_by d.reduced_costs e)) same;
    within = there;
    own = (
      ap (λ (e : Edge). e.from) (sym same) ∙ mine.0 ∙ from,
      ap (λ (e : Edge). e.leaving) (sym same) ∙ mine.1,
      subst (IsEdge d.nonbasic (row_in ps d x.variable)) same (noted.edges.each i may.0),
    );
  }
    where
      may : (i < length own) × (edge_enters direction n.at_upper.items n.bounds.items (edge_at own i) ≡ true) × ((k : ℕ) → k < i → edge_enters direction n.at_upper.items n.bounds.items (edge_at own k) ≡ false)
      may = position-Some (edge_enters direction n.at_upper.items n.bounds.items) own i (edge_at [] 0) first

      same : edge_at own i ≡ edge_at es e
      same = get_or-piece es x.first x.count i (edge_at [] 0) (omega (arith, may.0, piece_many es x.first x.count noted.within)) ∙ ap (edge_at es) (sym e_is)

      mine : ((edge_at own i).from ≡ x.from) × ((edge_at own i).leaving ≡ x.variable)
      mine = All-get_or (λ (e : Edge). (e.from ≡ x.from) × (e.leaving ≡ x.variable)) own i (edge_at [] 0) may.0 noted.own

-- ---- a solution at its dictionary
module _ (ps : List (List ℤ)) (d : KeptDictionary) (n : BasicSolution) (h : IsSolutionOf ps d n) where
  abbrev w : IntegerTableau
  w = tableau_at d n

  abbrev view : Tableau
  view = view_with [] ps (dictionary_in d) n

  abbrev values : List ℤ
  values = expanded_values w.denominator ps w.positions w.nonbasic_values w.values

  statuses_many : length w.positions ≡ length view.statuses
  statuses_many = statuses_as_many (length w.rows) [] ps h.weight n.reach w view h.at.compact refl

  -- the run is done
  pub done_there : (o : Option (ℕ × Direction)) → o ≡ None → o ≡ leaving_by_numerators w.denominator 0 w.positions w.bounds values → IsLastPlace view Done
  done_there o none found = record {
    place = place_from_code (length w.rows) [] ps h.weight n.reach w view h.at.compact refl None (sym none ∙ found);
    within = tt;
    exact = λ q. cc;
    other = λ r c q. cc;
  }

  -- a leaving variable is basic
  pub leaving_is_basic : (l : ℕ × Direction) → Some l ≡ leaving_by_numerators w.denominator 0 w.positions w.bounds values → (l.0 < length d.positions) × (get_or d.positions l.0 InBasis ≡ InBasis)
  leaving_is_basic l found =
      let b = leaving_there w.denominator 0 w.positions w.bounds values l (sym found) in
      let r : l.0 ≡ b.0 = omega (arith, b.1) in
      (omega (arith, r, b.2), ap (λ v. get_or w.positions v InBasis) r ∙ b.3)

  -- ---- by an edge
  module _ (es : List Edge) (p variable : ℕ) (direction : Direction) (found : leaving_by_numerators w.denominator 0 w.positions w.bounds values ≡ Some (variable, direction)) where
    chosen : place_of_candidate variable (entering_by_numerators 0 direction None w.positions w.at_upper w.bounds w.reduced_costs (row_in ps d variable)) ≡ place view
    chosen = chosen_from_code (length w.rows) [] ps h.weight n.reach w view h.at.compact refl (variable, direction) (sym found)

    entered : (o : Option ℕ) → IsTaken ps es p d n variable direction o → place_of_candidate variable (option_map (λ e. candidate_by d.reduced_costs (edge_at es e)) o) ≡ place view
    entered o taken = ap (place_of_candidate variable) (sym taken.enters) ∙ chosen

    basic : (variable < length d.positions) × (get_or d.positions variable InBasis ≡ InBasis)
    basic = leaving_is_basic (variable, direction) (sym found)

    -- no variable may enter
    pub stops_there : IsTaken ps es p d n variable direction None → IsLastPlace view (NoColumn variable)
    stops_there taken = record {
      place = entered None taken;
      within = omega (arith, basic.0, statuses_many);
      exact = λ q. cc;
      other = λ r c q. cc;
    }

    -- the variable of an edge enters
    module _ (e : ℕ) (made : Bool) (taken : IsTaken ps es p d n variable direction (Some e)) where
      abbrev edge : Edge
      edge = edge_at es e

      row_is : row_in ps d variable ≡ row_in ps d edge.leaving
      row_is = ap (row_in ps d) (sym taken.own.1)

      pub goes_there : IsTurnAt ps (dictionary_in d) n (turn_of direction edge e made)
      goes_there =
          let own = taken.own.2 in
          let way = direction_there w.denominator 0 w.positions w.bounds values (variable, direction) found in
          let at : edge.leaving ≡ way.0 = omega (arith, taken.own.1, way.1) in
          record {
            place = sym (entered (Some e) taken) ∙ ap (λ v. Pivot v edge.entering) (sym taken.own.1);
            leaving = omega (arith, taken.own.1, basic.0);
            basic = ap (λ v. get_or d.positions v InBasis) taken.own.1 ∙ basic.1;
            entering = omega (arith, own.entering, variable_there d.positions d.nonbasic h.kept.nonbasic edge.column own.there);
            column = ap (λ v. get_or d.positions v InBasis) own.entering ∙ h.kept.nonbasic.there edge.column own.there;
            coefficient = own.coefficient ∙ ap (λ row. number_at row edge.column) row_is;
            direction = (λ i. violation (get_or (map fraction_bounds n.bounds.items) (at i) unbounded) (frac (number_at values (at i)) w.denominator)) ∙ way.2;
          }

-- it is that of an edge of this dictionary
pub turn_of_edge : (ps : List (List ℤ)) (k : KeptDictionaries) (p : ℕ) (d : KeptDictionary) (n : BasicSolution) (variable : ℕ) (direction : Direction) (e : ℕ) (made : Bool)
    → IsTaken ps k.edges p d n variable direction (Some e) → IsOfEdge k p (turn_of direction (edge_at k.edges e) e made)
turn_of_edge ps k p d n variable direction e made taken = record { there = taken.within; from = taken.own.0; leaving = refl; entering = refl; target = refl }

-- the leaving row is that of the variable
pub turn_row : (ps : List (List ℤ)) (es : List Edge) (p : ℕ) (d : KeptDictionary) (n : BasicSolution) (variable : ℕ) (direction : Direction) (e : ℕ) (row : List ℤ)
    → IsTaken ps es p d n variable direction (Some e) → row ≡ row_in ps d variable → row ≡ row_in ps d (edge_at es e).leaving
turn_row ps es p d n variable direction e row taken is = is ∙ ap (row_in ps d) (sym taken.own.1)

-- ---- something was noted of the dictionaries
-- the variable that leaves is the same
pub same_leaving_at : (ps : List (List ℤ)) (d e : KeptDictionary) (n : BasicSolution) (o : Option (ℕ × Direction)) → dictionary_in e ≡ dictionary_in d
    → leaving_by_numerators (nat_abs d.denominator) 0 d.positions n.bounds.items (expanded_values (nat_abs d.denominator) ps d.positions n.nonbasic_values.items n.values.items) ≡ o
    → leaving_by_numerators (nat_abs e.denominator) 0 e.positions n.bounds.items (expanded_values (nat_abs e.denominator) ps e.positions n.nonbasic_values.items n.values.items) ≡ o
same_leaving_at ps d e n o same h =
    subst (λ (m : IntegerDictionary). leaving_by_numerators m.denominator 0 m.positions n.bounds.items (expanded_values m.denominator ps m.positions n.nonbasic_values.items n.values.items) ≡ o) (sym same) h

-- k are the dictionaries before, l those after it
module _ (ps : List (List ℤ)) (weight : ℕ) (costs : List ℤ) (k l : KeptDictionaries) (p : ℕ) (n : BasicSolution) (there : p < length k.all) (at : IsAt ps weight (kept_at k.all p) n)
    (same : HaveSameDictionaries l k) (are : AreKept ps weight costs l) where
  abbrev old : KeptDictionary
  old = kept_at k.all p

  abbrev new : KeptDictionary
  new = kept_at l.all p

  pub is_same : dictionary_in new ≡ dictionary_in old
  is_same = same_places l k p same there

  solution : IsSolutionOf ps new n
  solution = solution_of ps weight costs l p n (omega (arith, there, as_many l k same)) are (at_same ps weight old new n (sym is_same) at)

  module _ (variable : ℕ) (direction : Direction)
      (found : leaving_by_numerators (nat_abs old.denominator) 0 old.positions n.bounds.items (expanded_values (nat_abs old.denominator) ps old.positions n.nonbasic_values.items n.values.items) ≡ Some (variable, direction)) where
    abbrev is_found : leaving_by_numerators (nat_abs new.denominator) 0 new.positions n.bounds.items (expanded_values (nat_abs new.denominator) ps new.positions n.nonbasic_values.items n.values.items) ≡ Some (variable, direction)
    is_found = same_leaving_at ps old new n (Some (variable, direction)) is_same found

    pub goes_by : (o : Option ℕ) (e : ℕ) (made : Bool) (t : Turn) → IsTaken ps l.edges p new n variable direction o → o ≡ Some e → t ≡ turn_of direction (edge_at l.edges e) e made → IsTurnAt ps (dictionary_in old) n t
    goes_by o e made t taken some turn =
        subst (λ (m : IntegerDictionary). IsTurnAt ps m n t) is_same
        (subst (IsTurnAt ps (dictionary_in new) n) (sym turn)
        (goes_there ps new n solution l.edges p variable direction is_found e made (subst (IsTaken ps l.edges p new n variable direction) some taken)))

    pub stops_by : (o : Option ℕ) → IsTaken ps l.edges p new n variable direction o → o ≡ None → IsLastPlace (view_with [] ps (dictionary_in old) n) (NoColumn variable)
    stops_by o taken none =
        subst (λ (m : IntegerDictionary). IsLastPlace (view_with [] ps m n) (NoColumn variable)) is_same
        (stops_there ps new n solution l.edges p variable direction is_found (subst (IsTaken ps l.edges p new n variable direction) none taken))
