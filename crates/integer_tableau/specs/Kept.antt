-- Dictionaries that are kept from one run to the next, and what each solution has beside its dictionary.
use Rattle.std.specs.Prelude.{◌≡◌, ◌≢◌, ◌<◌, ◌≤◌, ◌<ℤ◌, ◌+◌, ◌*◌, ◌-◌, ◌++◌, ℕ, ℤ, pos, nat_abs, List, [], length, map, replicate, slice_index_or, slice_range, slice_set, take, All, IfSome, None, Option, Some}
use Rattle.std.specs.Option.{option_map}
use Rattle.tableau.specs.Start.{started}
use Rattle.tableau.specs.Tableau.{Tableau}
use Rattle.tableau.specs.declared.bounds.Direction.{Direction}
use Rattle.integer_tableau.specs.Arena.{positions_by, rows_by}
use Rattle.integer_tableau.specs.BasicColumns.{basic_exchanged, basic_from}
use Rattle.integer_tableau.specs.Combined.{IsCompact, combined_row, expanded, expanded_rows}
use Rattle.integer_tableau.specs.Entering.{entering_by_numerators}
use Rattle.integer_tableau.specs.Exits.{AreFirstEdges, IsEdge, are_free, candidate_by, edge_at}
use Rattle.integer_tableau.specs.IntegerDictionary.{ArePositionsBehind, IntegerDictionary, IsStored, program_of}
use Rattle.integer_tableau.specs.IntegerProgram.{fraction_program, CanStart}
use Rattle.integer_tableau.specs.IntegerTableau.{IntegerTableau, of_parts, tableau_of}
use Rattle.integer_tableau.specs.Numbers.{IsWithin}
use Rattle.integer_tableau.specs.Positions.{AreNonbasic}
use Rattle.integer_tableau.specs.Range.{size_limit}
use Rattle.integer_tableau.specs.RowSums.{AreColumnsOf, AreColumnSums, AreRowSums}
use Rattle.integer_tableau.specs.Start.{columns_from}
use Rattle.integer_tableau.specs.Substitution.{IsSubstitutedIfFull, IsSubstitutedRow}
use Rattle.integer_tableau.specs.declared.coefficient_columns.CoefficientColumns.{CoefficientColumns}
use Rattle.integer_tableau.specs.declared.dictionary.Dictionary.{Dictionary}
use Rattle.integer_tableau.specs.declared.exits.Edge.{Edge}
use Rattle.integer_tableau.specs.declared.exits.Exit.{Exit}
use Rattle.integer_tableau.specs.declared.integer_bounds.IntegerBounds.{IntegerBounds}
use Rattle.integer_tableau.specs.declared.basic_solution.BasicSolution.{BasicSolution}
use Rattle.integer_tableau.specs.declared.position.Position.{Position}
use Rattle.integer_tableau.specs.declared.position.Position.TheVariants.{InBasis, InColumn}
use Rattle.integer_tableau.specs.declared.request.Turn.{Turn}
use Rattle.integer_tableau.specs.declared.start_sums.StartSums.{StartSums}

-- ---- dictionaries
-- what contracts see of one: what a basis fixes, and where what is noted of it stands
pub record KeptDictionary : Type 0 where
  pub positions : List Position
  pub nonbasic : List ℕ
  pub basic_columns : List ℕ
  pub rows : List (List ℤ)
  pub reduced_costs : List ℤ
  pub denominator : ℤ
  pub first_exit : ℕ
  pub exits : ℕ

-- all that are kept, and what is noted of them
pub record KeptDictionaries : Type 0 where
  pub variables : ℕ
  pub width : ℕ
  pub all : List KeptDictionary
  pub exits : List Exit
  pub edges : List Edge

-- its rows, those of the basic columns one behind another
abbrev pub rows_of : ℕ → List ℤ → Dictionary → List ℤ
rows_of width numerators d = slice_range numerators d.numerators (d.numerators + d.count * width)

-- its reduced costs, which stand behind its rows
abbrev pub costs_of : ℕ → List ℤ → Dictionary → List ℤ
costs_of width numerators d = slice_range numerators (d.numerators + d.count * width) (d.numerators + d.count * width + width)

-- in lists that it shares with others, of a linear program of so many variables and columns
abbrev pub kept_in : ℕ → ℕ → List ℤ → List ℕ → List ℕ → Dictionary → KeptDictionary
kept_in variables width numerators basic nonbasic d = record {
  positions = positions_by variables (slice_range nonbasic d.nonbasic (d.nonbasic + width));
  nonbasic = slice_range nonbasic d.nonbasic (d.nonbasic + width);
  basic_columns = slice_range basic d.basic_columns (d.basic_columns + d.count);
  rows = rows_by width (slice_range basic d.basic_columns (d.basic_columns + d.count)) (rows_of width numerators d);
  reduced_costs = costs_of width numerators d;
  denominator = d.divisor.number;
  first_exit = d.first_exit;
  exits = d.exits;
}

-- its numbers are there, and small
pub record IsInLists (width : ℕ) (numerators : List ℤ) (basic nonbasic : List ℕ) (d : Dictionary) : Type 0 where
  pub numerators_there : d.numerators + d.count * width + width ≤ length numerators
  pub basic_there : d.basic_columns + d.count ≤ length basic
  pub nonbasic_there : d.nonbasic + width ≤ length nonbasic
  pub within : IsWithin d.size (slice_range numerators d.numerators (d.numerators + d.count * width + width))

-- one of them; past the end, one of nothing
abbrev pub kept_at : List KeptDictionary → ℕ → KeptDictionary
kept_at ds p = slice_index_or ds p record { positions = []; nonbasic = []; basic_columns = []; rows = []; reduced_costs = []; denominator = pos 0; first_exit = 0; exits = 0 }

-- the exits of one
abbrev pub exits_of : List Exit → KeptDictionary → List Exit
exits_of xs d = slice_range xs d.first_exit (d.first_exit + d.exits)

-- one of them; past the end, one of nothing
abbrev pub exit_at : List Exit → ℕ → Exit
exit_at xs p = slice_index_or xs p record { from = 0; variable = 0; first = 0; count = 0 }

-- the edges of an exit
abbrev pub edges_of : List Edge → Exit → List Edge
edges_of es x = slice_range es x.first (x.first + x.count)

-- what a basis fixes of it
abbrev pub dictionary_in : KeptDictionary → IntegerDictionary
dictionary_in d = record { positions = d.positions; rows = d.rows; reduced_costs = d.reduced_costs; denominator = nat_abs d.denominator }

-- the row of a variable
abbrev pub row_in : List (List ℤ) → KeptDictionary → ℕ → List ℤ
row_in ps d v = slice_index_or (expanded_rows (nat_abs d.denominator) ps d.positions d.rows) v []

-- ---- basic solutions
-- by both the same variables are basic, though nonbasic ones may have other columns
pub record HaveSameBasis (ss ts : List Position) : Type 0 where
  pub count : length ss ≡ length ts
  pub to : (v : ℕ) → slice_index_or ss v InBasis ≡ InBasis → slice_index_or ts v InBasis ≡ InBasis
  pub back : (v : ℕ) → slice_index_or ts v InBasis ≡ InBasis → slice_index_or ss v InBasis ≡ InBasis

-- the tableau of a solution at a dictionary, on whole numbers
abbrev pub tableau_at : KeptDictionary → BasicSolution → IntegerTableau
tableau_at d n = of_parts n.bounds.items d.positions n.at_upper.items n.nonbasic_values.items d.rows d.reduced_costs n.values.items d.denominator n.pivots

-- as a tableau of fractions, by the rows of the linear program and the numbers that name them
abbrev pub view_of : List ℕ → List (List ℤ) → KeptDictionary → BasicSolution → Tableau
view_of numbers ps d n = tableau_of (length d.rows) numbers (expanded ps (tableau_at d n))

-- what each solution at a dictionary holds
pub record IsAt (ps : List (List ℤ)) (weight : ℕ) (d : KeptDictionary) (n : BasicSolution) : Type 0 where
  pub compact : IsCompact ps weight n.reach (tableau_at d n)
  pub basis : HaveSameBasis n.positions.items d.positions
  pub sums : AreRowSums ps n.positions.items n.nonbasic_values.items n.row_sums.items
  pub free : n.free.items ≡ are_free n.bounds.items

-- ---- exits
-- the edges of an exit are the first ones of its variable's row
pub record IsExitOf (ps : List (List ℤ)) (es : List Edge) (d : KeptDictionary) (x : Exit) : Type 0 where
  pub there : x.variable < length d.positions
  pub basic : slice_index_or d.positions x.variable InBasis ≡ InBasis
  pub within : x.first + x.count ≤ length es
  pub edges : AreFirstEdges d.nonbasic d.reduced_costs (row_in ps d x.variable) (edges_of es x)
  pub own : All (λ (e : Edge). (e.from ≡ x.from) × (e.leaving ≡ x.variable)) (edges_of es x)

-- the place of the edge that is taken at a solution where this variable leaves in this direction, none where it can't leave
pub record IsTaken (ps : List (List ℤ)) (es : List Edge) (p : ℕ) (d : KeptDictionary) (n : BasicSolution) (variable : ℕ) (direction : Direction) (place : Option ℕ) : Type 0 where
  pub enters : entering_by_numerators 0 direction None d.positions n.at_upper.items n.bounds.items d.reduced_costs (row_in ps d variable)
      ≡ option_map (λ e. candidate_by d.reduced_costs (edge_at es e)) place
  pub within : IfSome place (λ e. e < length es)
  pub own : IfSome place (λ e. ((edge_at es e).from ≡ p) × ((edge_at es e).leaving ≡ variable) × IsEdge d.nonbasic (row_in ps d variable) (edge_at es e))

-- an edge whose target is noted leads to the dictionary of the basis behind it
abbrev pub Leads : List KeptDictionary → Edge → Type 0
Leads ds e = 0 < e.target → (e.target < length ds) × ArePositionsBehind e.leaving e.entering (kept_at ds e.from).positions (kept_at ds e.target).positions

-- ---- all of them
-- a dictionary of the linear program of these rows and costs
pub record IsKept (ps : List (List ℤ)) (weight : ℕ) (costs : List ℤ) (d : KeptDictionary) : Type 0 where
  pub stored : IsStored ps weight (program_of ps costs) (dictionary_in d)
  pub positive : pos 0 <ℤ d.denominator
  pub nonbasic : AreNonbasic d.positions d.nonbasic
  pub columns : length d.nonbasic ≡ length d.rows
  pub basic : d.basic_columns ≡ basic_from 0 (length d.rows) d.positions

-- the exits of the dictionary at a place
pub record HasExits (xs : List Exit) (p : ℕ) (d : KeptDictionary) : Type 0 where
  pub within : d.first_exit + d.exits ≤ length xs
  pub own : All (λ (x : Exit). x.from ≡ p) (exits_of xs d)

-- that of the basis of the rows' values
pub record IsStartDictionary (ps : List (List ℤ)) (costs : List ℤ) (d : KeptDictionary) : Type 0 where
  pub positions : d.positions ≡ columns_from 0 (length costs) ++ replicate (length ps) InBasis
  pub rows : d.rows ≡ replicate (length costs) []
  pub reduced_costs : d.reduced_costs ≡ costs
  pub denominator : d.denominator ≡ pos 1

-- it was just made, and nothing is noted of it
pub record IsNewStart (ps : List (List ℤ)) (costs : List ℤ) (d : KeptDictionary) : Type 0 where
  pub start : IsStartDictionary ps costs d
  pub columns : length d.nonbasic ≡ length costs
  pub nonbasic : (k : ℕ) → k < length costs → slice_index_or d.nonbasic k 0 ≡ k
  pub basic_columns : d.basic_columns ≡ []
  pub first_exit : d.first_exit ≡ 0
  pub exits : d.exits ≡ 0

-- what each linear program of these costs and bounds has beside its dictionary at the start; where columns and sums are kept, they are its own
pub record IsStartSolution (columns : Option CoefficientColumns) (start_sums : StartSums) (costs : List ℤ) (bounds : List IntegerBounds) (n : BasicSolution) : Type 0 where
  pub at : (ps : List (List ℤ)) (weight : ℕ) (d : KeptDictionary) → IfSome columns (AreColumnsOf ps) → AreColumnSums ps start_sums.values.items start_sums.sums.items
      → CanStart ps weight costs bounds → IsStartDictionary ps costs d → IsAt ps weight d n
  pub started : (ps : List (List ℤ)) (weight : ℕ) (numbers : List ℕ) (d : KeptDictionary) → CanStart ps weight costs bounds → IsStartDictionary ps costs d
      → started (fraction_program ps costs bounds numbers) ≡ Some (view_of numbers ps d n)
  pub pivots : n.pivots ≡ 0

-- the dictionaries of one linear program, of which the first is that at the start. What holds of exits and edges is said of each by itself, so that it
-- doesn't matter where they stand
pub record AreKept (ps : List (List ℤ)) (weight : ℕ) (costs : List ℤ) (k : KeptDictionaries) : Type 0 where
  pub each : All (IsKept ps weight costs) k.all
  pub first : All (IsStartDictionary ps costs) (take 1 k.all)
  pub has_exits : (p : ℕ) → p < length k.all → HasExits k.exits p (kept_at k.all p)
  pub exits : All (λ (x : Exit). (x.from < length k.all) × IsExitOf ps k.edges (kept_at k.all x.from) x) k.exits
  pub leads : All (Leads k.all) k.edges

-- ---- what changes
-- the same dictionaries, whatever is noted of them
abbrev pub HaveSameDictionaries : KeptDictionaries → KeptDictionaries → Type 0
HaveSameDictionaries k l = map dictionary_in k.all ≡ map dictionary_in l.all

-- the combinations that are basic have small numbers
abbrev pub AreCombinationsSmall : List (List ℤ) → KeptDictionary → Type 0
AreCombinationsSmall ps d =
    (i : ℕ) → i < length ps → slice_index_or d.positions (length d.rows + i) InBasis ≡ InBasis → IsWithin (size_limit - 1) (combined_row (nat_abs d.denominator) d.positions d.rows (slice_index_or ps i []))

-- e is what a turn makes of d by the solved row, but for the sizes of combinations
pub record IsDictionaryBehind (d : KeptDictionary) (w : Turn) (solved : List ℤ) (size : ℤ) (e : KeptDictionary) : Type 0 where
  pub positions : e.positions ≡ slice_set (slice_set d.positions w.leaving (InColumn w.column)) w.entering InBasis
  pub nonbasic : e.nonbasic ≡ slice_set d.nonbasic w.column w.leaving
  pub basic_columns : e.basic_columns ≡ basic_exchanged (length d.rows) w.leaving w.entering d.basic_columns
  pub count : length e.rows ≡ length d.rows
  pub put : w.entering < length d.rows → slice_index_or e.rows w.entering [] ≡ solved
  pub others : (v : ℕ) → v < length d.rows → v ≢ w.entering → v ≢ w.leaving → IsSubstitutedIfFull d.denominator size w.column solved (slice_index_or d.rows v []) (slice_index_or e.rows v [])
  pub left : slice_index_or e.rows w.leaving [] ≡ []
  pub costs : IsSubstitutedRow d.denominator size w.column solved d.reduced_costs e.reduced_costs
  pub denominator : e.denominator ≡ size
  pub first_exit : e.first_exit ≡ 0
  pub exits : e.exits ≡ 0
