-- What a separation promises.
use Rattle.std.specs.Prelude.{◌≡◌, ◌<◌, ◌≤◌, ℕ, List, [], length, slice_index_or, All, Some}
use Rattle.problem.specs.declared.row.Sense.TheVariants.{G}
use Rattle.problem.specs.declared.row.Row.{Row}
use Rattle.problem.specs.Linear.{Multipliers, Point}
use Rattle.problem.specs.Rising.{AreRising, AreNonzero}
use Rattle.problem.specs.Rows.{Satisfies}
use Rattle.problem.specs.Problem.{Problem}
use Rattle.problem.specs.Feasible.{IsFeasible}
use Rattle.cert_rows.specs.Validity.{IsCombination}
use Rattle.derivation_book.specs.declared.cut.Cut.{Cut}
use Rattle.derivation_book.specs.Known.{known_lines}
use Rattle.derivation_book.specs.Rounded.{rounded_row}
use Rattle.derivation_book.specs.Cuts.{AreCutsOf}
use Rattle.tableau.specs.Tableau.{Tableau}
use Rattle.dual_simplex.specs.Relaxation.{RationalPoint, SatisfiesRow}
use Rattle.gomory_cuts.specs.Separation.{most_separated, separation}

-- rising numbers of known rows with multipliers of the right signs, none of them 0; they have a rounded row, which the point violates
pub record IsSeparating (p : Problem) (cuts : List Cut) (x : RationalPoint) (m : Multipliers) : Type 0 where
  pub row : Row
  pub rounded : rounded_row p cuts m ≡ Some row
  pub violated : SatisfiesRow x row → ⊥
  pub combined : IsCombination (known_lines p cuts) G m
  pub rising : AreRising m
  pub nonzero : AreNonzero m

-- no two are the same
abbrev pub AreDifferent : List Multipliers → Type 0
AreDifferent ms = (i j : ℕ) → i < j → j < length ms → slice_index_or ms i [] ≡ slice_index_or ms j [] → ⊥

-- cuts that each shut out the point, no two of them the same
pub record IsSeparation (p : Problem) (cuts : List Cut) (x : RationalPoint) (ms : List Multipliers) : Type 0 where
  pub each : All (IsSeparating p cuts x) ms
  pub different : AreDifferent ms
  pub few : length ms ≤ most_separated

-- of each tableau and each point
abbrev pub SeparationsSeparate : Type 0
SeparationsSeparate = (p : Problem) (cuts : List Cut) (t : Tableau) (x : RationalPoint) → IsSeparation p cuts x (separation p cuts t x)

-- a rounded row over cuts of the problem holds at each feasible point
abbrev pub RoundedRowsHold : Problem → List Cut → Type 0
RoundedRowsHold p cuts = AreCutsOf p cuts → (mult : Multipliers) (r : Row) → rounded_row p cuts mult ≡ Some r → (x : Point) → IsFeasible p x → Satisfies x r
