-- Steps and runs by dictionaries that are kept.
use Rattle.std.specs.Prelude.{◌≡◌, ◌≢◌, ◌<◌, ◌≤◌, ◌+◌, ◌*◌, ◌^◌, ◌-ℤ◌, ◌*ℤ◌, ℕ, ℤ, pos, nat_abs, Bool, false, true, List, [], length, map, slice_index_or, slice_set, Some}
use mathlib.Core.Logic.{inr}
use Rattle.fraction.specs.Rational.{frac}
use Rattle.tableau.specs.Leaving.{unbounded, violation}
use Rattle.tableau.specs.Place.{PlaceIsWithin, place}
use Rattle.tableau.specs.LinearProgram.{LinearProgram}
use Rattle.tableau.specs.Run.{EndsAs, RunEnd, run_from, step_at}
use Rattle.tableau.specs.Start.{started}
use Rattle.tableau.specs.Tableau.{Tableau}
use Rattle.tableau.specs.declared.bounds.Direction.{Direction}
use Rattle.tableau.specs.declared.place.Place.{Place}
use Rattle.tableau.specs.declared.place.Place.TheVariants.{Cramped, Pivot}
use Rattle.integer_tableau.specs.Combined.{expanded, expanded_rows, expanded_values}
use Rattle.integer_tableau.specs.Exits.{edge_at}
use Rattle.integer_tableau.specs.IntegerDictionary.{IntegerDictionary, at_solution}
use Rattle.integer_tableau.specs.IntegerTableau.{IntegerTableau, fraction_bounds, tableau_of}
use Rattle.integer_tableau.specs.Kept.{HaveSameDictionaries, IsAt, IsKept, KeptDictionaries, KeptDictionary, dictionary_in, kept_at, row_in}
use Rattle.integer_tableau.specs.Numbers.{number_at}
use Rattle.integer_tableau.specs.Pivot.{AreSubstitutedValues, IsPivotOf, is_upper}
use Rattle.integer_tableau.specs.RowSums.{AreRowSums}
use Rattle.integer_tableau.specs.Substitution.{quotient_numerator}
use Rattle.integer_tableau.specs.declared.exits.Edge.{Edge}
use Rattle.integer_tableau.specs.declared.basic_solution.BasicSolution.{BasicSolution}
use Rattle.integer_tableau.specs.declared.position.Position.TheVariants.{InBasis, InColumn}
use Rattle.integer_tableau.specs.declared.request.Request.{Request}
use Rattle.integer_tableau.specs.declared.request.Request.TheVariants.{Stops, Goes, Unknown}
use Rattle.integer_tableau.specs.declared.request.Turn.{Turn}
use Rattle.integer_tableau.specs.declared.run.IntegerRunEnd.{IntegerRunEnd}
use Rattle.integer_tableau.specs.declared.stored_run.Step.{Step}
use Rattle.integer_tableau.specs.declared.stored_run.Step.TheVariants.{Ended, Moved, Closed, GivenUp}
use Rattle.integer_tableau.specs.declared.stored_run.StoredEnd.{StoredEnd}
use Rattle.integer_tableau.specs.declared.stored_run.StoredEnd.TheVariants.{Kept, Alone}

-- ---- dictionaries by their places
-- what the basis fixes of the dictionary at a place
abbrev pub dictionary_at : KeptDictionaries → ℕ → IntegerDictionary
dictionary_at k p = dictionary_in (kept_at k.all p)

-- the tableau of a solution with such a dictionary, on whole numbers
abbrev pub tableau_with : IntegerDictionary → BasicSolution → IntegerTableau
tableau_with m n = at_solution m n.bounds.items n.at_upper.items n.nonbasic_values.items n.values.items n.pivots

-- as a tableau of fractions, by the rows of the linear program and the numbers that name them
abbrev pub view_with : List ℕ → List (List ℤ) → IntegerDictionary → BasicSolution → Tableau
view_with numbers ps m n = tableau_of (length m.rows) numbers (expanded ps (tableau_with m n))

-- the turn of an edge at a place, for which the leaving row was made or not
abbrev pub turn_of : Direction → Edge → ℕ → Bool → Turn
turn_of w e p made = record { leaving = e.leaving; direction = w; entering = e.entering; column = e.column; coefficient = e.coefficient; edge = p; target = e.target; row_made = made }

-- a solution at a dictionary of a linear program of these rows
pub record IsSolutionOf (ps : List (List ℤ)) (d : KeptDictionary) (n : BasicSolution) : Type 0 where
  pub weight : ℕ
  pub costs : List ℤ
  pub kept : IsKept ps weight costs d
  pub at : IsAt ps weight d n

-- ---- what a solution asks for
-- a tableau asks for this place, which is no pivot
pub record IsLastPlace (t : Tableau) (p : Place) : Type 0 where
  pub place : p ≡ place t
  pub within : PlaceIsWithin (length t.statuses) p
  pub exact : p ≢ Cramped
  pub other : (r c : ℕ) → p ≢ Pivot r c

-- a solution at a dictionary asks for the pivot of these variables, of which the entering one has this column and coefficient
pub record IsTurnAt (ps : List (List ℤ)) (d : IntegerDictionary) (n : BasicSolution) (w : Turn) : Type 0 where
  pub place : place (view_with [] ps d n) ≡ Pivot w.leaving w.entering
  pub leaving : w.leaving < length d.positions
  pub basic : slice_index_or d.positions w.leaving InBasis ≡ InBasis
  pub entering : w.entering < length d.positions
  pub column : slice_index_or d.positions w.entering InBasis ≡ InColumn w.column
  pub coefficient : w.coefficient ≡ number_at (slice_index_or (expanded_rows d.denominator ps d.positions d.rows) w.leaving []) w.column
  pub direction : violation (slice_index_or (map fraction_bounds n.bounds.items) w.leaving unbounded) (frac (number_at (expanded_values d.denominator ps d.positions n.nonbasic_values.items n.values.items) w.leaving) d.denominator) ≡ Some w.direction

-- it is that of an edge of the dictionary at this place
pub record IsOfEdge (k : KeptDictionaries) (p : ℕ) (w : Turn) : Type 0 where
  pub there : w.edge < length k.edges
  pub from : (edge_at k.edges w.edge).from ≡ p
  pub leaving : (edge_at k.edges w.edge).leaving ≡ w.leaving
  pub entering : (edge_at k.edges w.edge).entering ≡ w.entering
  pub target : (edge_at k.edges w.edge).target ≡ w.target

-- a solution at a dictionary asks for this, as far as it is known
abbrev pub IsRequestAt : List (List ℤ) → IntegerDictionary → BasicSolution → Request → Type 0
IsRequestAt ps d n (Stops p) = IsLastPlace (view_with [] ps d n) p
IsRequestAt ps d n (Goes w) = IsTurnAt ps d n w
IsRequestAt ps d n Unknown = Unit {0}

-- where it asks for a turn, that is one of an edge
abbrev pub HasEdge : KeptDictionaries → ℕ → Request → Type 0
HasEdge k p (Stops l) = Unit {0}
HasEdge k p (Goes w) = IsOfEdge k p w
HasEdge k p Unknown = Unit {0}

-- the leaving row of a turn, where it was made
abbrev pub HasTurnRow : List (List ℤ) → KeptDictionary → List ℤ → Turn → Type 0
HasTurnRow ps d row w = w.row_made ≡ true → row ≡ row_in ps d w.leaving

-- that of a request
abbrev pub HasRow : List (List ℤ) → KeptDictionary → List ℤ → Request → Type 0
HasRow ps d row (Stops l) = Unit {0}
HasRow ps d row (Goes w) = HasTurnRow ps d row w
HasRow ps d row Unknown = Unit {0}

-- ---- steps
-- what a turn makes of a solution at a dictionary, whatever the dictionary behind it is
pub record IsTurned (ps : List (List ℤ)) (d : IntegerDictionary) (n : BasicSolution) (w : Turn) (size bound : ℤ) (m : BasicSolution) : Type 0 where
  pub there : IsPivotOf n.bounds.items d.positions (slice_index_or (expanded_rows d.denominator ps d.positions d.rows) w.leaving [])
      (number_at (expanded_values d.denominator ps d.positions n.nonbasic_values.items n.values.items) w.leaving) d.denominator w.leaving w.entering w.column w.direction bound
  pub values : AreSubstitutedValues w.entering w.column (pos d.denominator) size (number_at n.nonbasic_values.items w.entering)
      (quotient_numerator w.coefficient (number_at (expanded_values d.denominator ps d.positions n.nonbasic_values.items n.values.items) w.leaving -ℤ w.coefficient *ℤ number_at n.nonbasic_values.items w.entering -ℤ pos d.denominator *ℤ bound))
      (length d.rows) d.rows n.values.items m.values.items
  pub nonbasic_values : m.nonbasic_values.items ≡ slice_set (slice_set n.nonbasic_values.items w.leaving bound) w.entering (pos 0)
  pub positions : m.positions.items ≡ slice_set (slice_set n.positions.items w.leaving (InColumn w.column)) w.entering InBasis
  pub at_upper : m.at_upper.items ≡ slice_set (slice_set n.at_upper.items w.leaving (is_upper w.direction)) w.entering false
  pub sums : AreRowSums ps m.positions.items m.nonbasic_values.items m.row_sums.items
  pub bounds : m.bounds.items ≡ n.bounds.items
  pub free : m.free.items ≡ n.free.items
  pub reach : m.reach ≡ n.reach
  pub pivots : m.pivots ≡ n.pivots + 1

-- a solution that was n at the dictionary of this place has taken a turn, and is m
pub record IsTurning (ps : List (List ℤ)) (weight : ℕ) (k : KeptDictionaries) (p : ℕ) (n : BasicSolution) (w : Turn) (size : ℤ) (m : BasicSolution) : Type 0 where
  pub at : IsAt ps weight (kept_at k.all p) n
  pub turn : IsTurnAt ps (dictionary_at k p) n w
  pub size_is : size ≡ pos (nat_abs w.coefficient)
  pub some : 0 < nat_abs w.coefficient
  pub near : n.reach * nat_abs size < 2 ^ 63
  pub bound : ℤ
  pub turned : IsTurned ps (dictionary_at k p) n w size bound m

-- nothing that matters has changed
pub record IsUnmoved (old new : KeptDictionaries) (n m : BasicSolution) : Type 0 where
  pub dictionaries : HaveSameDictionaries new old
  pub solution : m ≡ n

-- a solution goes from a dictionary to that at this place by the pivot that its tableau asks for
pub record IsMove (ps : List (List ℤ)) (weight : ℕ) (d : IntegerDictionary) (n : BasicSolution) (k : KeptDictionaries) (q : ℕ) (m : BasicSolution) : Type 0 where
  pub there : q < length k.all
  pub at : IsAt ps weight (kept_at k.all q) m
  pub counted : m.pivots ≡ n.pivots + 1
  pub step : (numbers : List ℕ) → step_at (view_with numbers ps d n) (place (view_with numbers ps d n)) ≡ inr (view_with numbers ps (dictionary_at k q) m)

-- what comes of a solution at the dictionary of this place
abbrev pub IsStep : List (List ℤ) → ℕ → KeptDictionaries → ℕ → BasicSolution → KeptDictionaries → BasicSolution → Step → Type 0
IsStep ps weight old p n new m (Ended l) = IsUnmoved old new n m × IsLastPlace (view_with [] ps (dictionary_at old p) n) l
IsStep ps weight old p n new m (Moved q) = IsMove ps weight (dictionary_at old p) n new q m
IsStep ps weight old p n new m Closed = IsUnmoved old new n m
IsStep ps weight old p n new m GivenUp = Unit {0}

-- ---- ends
-- a run of at most so many pivots ended so, with this tableau
pub record IsEndWithin (cap : ℕ) (e : RunEnd) (x : IntegerRunEnd) : Type 0 where
  pub ends : EndsAs e x.place x.tableau
  pub within : PlaceIsWithin (length x.tableau.statuses) x.place
  pub exact : x.place ≢ Cramped
  pub capped : x.tableau.pivots ≤ cap

-- it ended at this last place, with a solution at the dictionary of this place
pub record IsKeptEnd (numbers : List ℕ) (ps : List (List ℤ)) (weight : ℕ) (k : KeptDictionaries) (cap : ℕ) (e : RunEnd) (l : Place) (p : ℕ) (n : BasicSolution) : Type 0 where
  pub there : p < length k.all
  pub at : IsAt ps weight (kept_at k.all p) n
  pub ends : EndsAs e l (view_with numbers ps (dictionary_at k p) n)
  pub within : PlaceIsWithin (length (view_with numbers ps (dictionary_at k p) n).statuses) l
  pub exact : l ≢ Cramped
  pub capped : n.pivots ≤ cap

-- it ended so by these dictionaries, or went on without them
abbrev pub IsStoredEnd : List ℕ → List (List ℤ) → ℕ → KeptDictionaries → ℕ → RunEnd → StoredEnd → Type 0
IsStoredEnd numbers ps weight k cap e (Kept l p n) = IsKeptEnd numbers ps weight k cap e l p n
IsStoredEnd numbers ps weight k cap e (Alone x) = IsEndWithin cap e x

-- the run of a linear program of these rows from the start
pub record IsStoredRun (numbers : List ℕ) (ps : List (List ℤ)) (weight : ℕ) (k : KeptDictionaries) (p : LinearProgram) (cap : ℕ) (x : StoredEnd) : Type 0 where
  pub start : Tableau
  pub starts : started p ≡ Some start
  pub ends : IsStoredEnd numbers ps weight k cap (run_from cap start) x
