-- A dictionary on whole numbers: the part of a tableau that its basis fixes, whatever bounds and values are.
use Rattle.std.specs.Prelude.{◌≡◌, ◌≢◌, ℕ, ◌+◌, ◌-◌, ◌<◌, ◌≤◌, ℤ, pos, Bool, false, List, [], length, map, slice_index_or, slice_set}
use Rattle.tableau.specs.declared.bounds.Direction.{Direction}
use Rattle.tableau.specs.LinearProgram.{LinearProgram}
use Rattle.tableau.specs.Tableau.{Tableau}
use Rattle.integer_tableau.specs.Combined.{combined, expanded, expanded_rows, numerator_of}
use Rattle.integer_tableau.specs.Consistent.{row_width}
use Rattle.integer_tableau.specs.Dictionary.{IsDictionaryOf}
use Rattle.integer_tableau.specs.IntegerProgram.{fraction_program}
use Rattle.integer_tableau.specs.IntegerTableau.{IntegerTableau, tableau_of}
use Rattle.integer_tableau.specs.Numbers.{IsWithin, number_at, total_size}
use Rattle.integer_tableau.specs.Range.{size_limit}
use Rattle.integer_tableau.specs.Pivot.{is_upper}
use Rattle.integer_tableau.specs.Positions.{IsColumnOf, sum_over}
use Rattle.integer_tableau.specs.declared.integer_bounds.IntegerBounds.{IntegerBounds}
use Rattle.integer_tableau.specs.declared.position.Position.{Position}
use Rattle.integer_tableau.specs.declared.position.Position.TheVariants.{InBasis, InColumn}

-- as a tableau has them: the positions, the rows of the columns and the reduced costs over the denominator
pub record IntegerDictionary : Type 0 where
  pub positions : List Position
  pub rows : List (List ℤ)
  pub reduced_costs : List ℤ
  pub denominator : ℕ

-- the position of a variable
abbrev pub position_of : IntegerDictionary → ℕ → Position
position_of m v = slice_index_or m.positions v InBasis

-- that of a tableau
abbrev pub dictionary_of : IntegerTableau → IntegerDictionary
dictionary_of t = record { positions = t.positions; rows = t.rows; reduced_costs = t.reduced_costs; denominator = t.denominator }

-- with what a tableau has of its own: bounds, at which of them each variable is, and values
abbrev pub at_solution : IntegerDictionary → List IntegerBounds → List Bool → List ℤ → List ℤ → ℕ → IntegerTableau
at_solution m bounds at_upper nonbasic_values values pivots = record {
  bounds = bounds;
  positions = m.positions;
  at_upper = at_upper;
  nonbasic_values = nonbasic_values;
  rows = m.rows;
  reduced_costs = m.reduced_costs;
  values = values;
  denominator = m.denominator;
  pivots = pivots;
}

-- as a tableau of fractions, of which only the basis, the rows and the reduced costs say something
abbrev pub fraction_dictionary : List (List ℤ) → IntegerDictionary → Tableau
fraction_dictionary ps m = tableau_of (length m.rows) [] (expanded ps (at_solution m [] (map (λ s. false) m.positions) [] [] 0))

-- ---- what holds of one
-- what a tableau that keeps rows of columns holds by its dictionary alone (`IsCompact`)
pub record IsCompactDictionary (ps : List (List ℤ)) (weight : ℕ) (m : IntegerDictionary) : Type 0 where
  pub positive : 0 < m.denominator
  pub denominator_small : m.denominator < size_limit
  pub costs : length m.reduced_costs ≡ length m.rows
  pub variables : length m.positions ≡ length m.rows + length ps
  pub full : (i : ℕ) → i < length ps → length (slice_index_or ps i []) ≡ length m.rows
  pub alone : (v k : ℕ) → position_of m v ≡ InColumn k → IsColumnOf m.positions v k
  pub within : (v k : ℕ) → position_of m v ≡ InColumn k → k < length m.rows
  pub widths : (v : ℕ) → v < length m.positions → length (slice_index_or (expanded_rows m.denominator ps m.positions m.rows) v []) ≡ row_width (length m.rows) (position_of m v)
  pub units : (i k : ℕ) → i < length ps → position_of m (length m.rows + i) ≡ InColumn k
      → (j : ℕ) → combined m.denominator (slice_index_or ps i []) m.positions m.rows j ≡ numerator_of m.denominator [] (InColumn k) j
  pub weights : (i : ℕ) → i < length ps → total_size (slice_index_or ps i []) ≤ weight
  pub light : weight < size_limit
  pub rows_within : (v : ℕ) → IsWithin (size_limit - 1) (slice_index_or (expanded_rows m.denominator ps m.positions m.rows) v [])
  pub costs_within : IsWithin (size_limit - 1) m.reduced_costs

-- the linear program of these rows and costs; the bounds are no part of a dictionary
abbrev pub program_of : List (List ℤ) → List ℤ → LinearProgram
program_of ps costs = fraction_program ps costs [] []

-- a dictionary of this linear program, in small numbers, as a run keeps it
pub record IsStored (ps : List (List ℤ)) (weight : ℕ) (p : LinearProgram) (m : IntegerDictionary) : Type 0 where
  pub compact : IsCompactDictionary ps weight m
  pub dictionary : IsDictionaryOf (length m.positions) p (fraction_dictionary ps m)

-- two dictionaries of one linear program
abbrev pub AreOfOneProgram : List (List ℤ) → ℕ → IntegerDictionary → IntegerDictionary → Type 0
AreOfOneProgram ps weight t m = (p : LinearProgram) × IsStored ps weight p t × IsStored ps weight p m

-- the columns' values are the sums over their rows
abbrev pub AreColumnSums : IntegerDictionary → List ℤ → List ℤ → Type 0
AreColumnSums m nonbasic_values values =
    (length values ≡ length m.rows)
    × ((j : ℕ) → j < length m.rows → position_of m j ≡ InBasis → number_at values j ≡ sum_over m.positions (slice_index_or m.rows j []) nonbasic_values)

-- ---- a step
-- by the new positions the same variables are basic as by the old ones, but that r isn't and c is
pub record ArePositionsBehind (r c : ℕ) (old new : List Position) : Type 0 where
  pub count : length new ≡ length old
  pub leaving_there : r < length old
  pub entering_there : c < length old
  pub left : slice_index_or new r InBasis ≢ InBasis
  pub entered : slice_index_or new c InBasis ≡ InBasis
  pub to : (v : ℕ) → v < length old → v ≢ r → v ≢ c → slice_index_or old v InBasis ≡ InBasis → slice_index_or new v InBasis ≡ InBasis
  pub back : (v : ℕ) → v < length old → v ≢ r → v ≢ c → slice_index_or new v InBasis ≡ InBasis → slice_index_or old v InBasis ≡ InBasis

-- the dictionary m has the basis behind that of t
pub record IsBehind (r c : ℕ) (t m : IntegerDictionary) : Type 0 where
  pub columns : length m.rows ≡ length t.rows
  pub positions : ArePositionsBehind r c t.positions m.positions

-- the tableau that a step leads to: r goes to the bound b in this direction, and c comes into the basis, whose dictionary is m
abbrev pub stepped : ℕ → ℕ → Direction → ℤ → IntegerDictionary → List ℤ → IntegerTableau → IntegerTableau
stepped r c w b m values t = at_solution m t.bounds (slice_set (slice_set t.at_upper r (is_upper w)) c false) (slice_set (slice_set t.nonbasic_values r b) c (pos 0)) values (t.pivots + 1)
