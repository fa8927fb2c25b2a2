-- When a proof closes a node of this box.
use Rattle.std.specs.Prelude.{◌≡◌, ◌⊎◌, ◌<◌, ◌≤◌, ℕ, pos, ◌<ℤ◌, int_lt, Bool, true, false, not, IsTrue, ◌&&◌, ◌||◌, nat_lt, nat_le, nat_eq, List, [], length, All, slice_get, Option, Some, None}
use Rattle.std.specs.List.{list_all}
use Rattle.std.specs.Ordering.{is_le}
use Rattle.fraction.specs.Rational.{ℚ, whole, ceil, ◌≤ℚ◌}
use Rattle.fraction.specs.Order.{◌<ℚ◌}
use Rattle.fraction.specs.Checked.{compare}
use Rattle.problem_box.specs.declared.span.Span.{Span}
use Rattle.problem.specs.declared.row.Sense.TheVariants.{G}
use Rattle.problem.specs.Problem.{Problem}
use Rattle.problem.specs.Directions.{aim}
use Rattle.problem.specs.Feasible.{HasWholeObjective}
use Rattle.cert_rows.specs.Validity.{IsCombination}
use Rattle.node_events.specs.declared.proof.Proof.{Proof}
use Rattle.node_events.specs.declared.proof.Proof.TheVariants.{Empty, Refute, Bound}
use Rattle.derivation_book.specs.declared.cut.Cut.{Cut}
use Rattle.derivation_book.specs.Known.{known_lines, first_cut}
use Rattle.derivation_book.specs.Rounded.{is_usable}
use Rattle.derivation_book.specs.Price.{price}
use Rattle.problem.specs.Linear.{Multipliers}

-- ---- the meaning
-- the number of a row of the problem or of a cut, where it is known
abbrev pub NamesRowOrCut : Problem → ℕ → Type 0
NamesRowOrCut p i = (i < length p.rows) ⊎ (first_cut p ≤ i)

-- the multipliers name rows and cuts that are known, and have the right signs
pub record AreProofMultipliers (p : Problem) (cs : List Cut) (mult : Multipliers) : Type 0 where
  pub names : All (λ m. NamesRowOrCut p m.0) mult
  pub combined : IsCombination (known_lines p cs) G mult

-- no point of the box satisfies them: the zero target has a price above 0
pub record IsRefuting (p : Problem) (cs : List Cut) (box : List Span) (mult : Multipliers) : Type 0 where
  pub multipliers : AreProofMultipliers p cs mult
  pub value : ℚ
  pub priced : price p cs box [] mult ≡ Some value
  pub above : whole (pos 0) <ℚ value

-- a bound rounded up, or as it is
abbrev pub rounded_if : Bool → ℚ → ℚ
rounded_if true v = whole (ceil v)
rounded_if false v = v

-- no point of the box is below the cutoff: the aim's price reaches it, rounded up only where the objective is whole
pub record IsBounding (p : Problem) (cs : List Cut) (box : List Span) (cutoff : Option ℚ) (mult : Multipliers) (rounded : Bool) : Type 0 where
  pub multipliers : AreProofMultipliers p cs mult
  pub whole_objective : IsTrue rounded → HasWholeObjective p
  pub limit : ℚ
  pub limited : cutoff ≡ Some limit
  pub value : ℚ
  pub priced : price p cs box (aim p) mult ≡ Some value
  pub reached : limit ≤ℚ rounded_if rounded value

-- the bounds of the column cross
pub record IsCrossed (box : List Span) (j : ℕ) : Type 0 where
  pub span : Span
  pub there : slice_get box j ≡ Some span
  pub crossed : span.hi <ℤ span.lo

-- the proof closes a node of this box, while points have to be better than the cutoff
abbrev pub IsLegalProof : Problem → List Cut → List Span → Option ℚ → Proof → Type 0
IsLegalProof p cs box cutoff (Empty column) = IsCrossed box column
IsLegalProof p cs box cutoff (Refute mult) = IsRefuting p cs box mult
IsLegalProof p cs box cutoff (Bound mult rounded) = IsBounding p cs box cutoff mult rounded

-- a cutoff that is there and not above another one; every one is below none
abbrev pub IsAtMost : Option ℚ → Option ℚ → Type 0
IsAtMost lower None = Unit {0}
IsAtMost None (Some z) = ⊥
IsAtMost (Some y) (Some z) = y ≤ℚ z

-- ---- the test
-- the number of a row or of a cut, and of no bound
abbrev pub names_row_or_cut : Problem → ℕ → Bool
names_row_or_cut p i = nat_lt i (length p.rows) || nat_le (first_cut p) i

-- the multiplier of a row or a cut that is there, with the right sign for a G row
abbrev pub is_proof_multiplier : Problem → List Cut → ℕ × ℚ → Bool
is_proof_multiplier p cs m = names_row_or_cut p m.0 && is_usable (known_lines p cs) m

-- there is a value, and it is above 0
abbrev pub is_above_zero : Option ℚ → Bool
is_above_zero None = false
is_above_zero (Some v) = int_lt (pos 0) v.num

-- a combination without columns whose price over the box is above 0: no point of the box satisfies the rows
abbrev pub is_refuting : Problem → List Cut → List Span → Multipliers → Bool
is_refuting p cs box mult = list_all (is_proof_multiplier p cs) mult && is_above_zero (price p cs box [] mult)

-- each coefficient of the objective is a whole number
abbrev pub has_whole_objective : Problem → Bool
has_whole_objective p = list_all (λ t. nat_eq t.1.den 1) (aim p)

-- a bound is rounded up only where the objective is whole
abbrev pub may_round : Problem → Bool → Bool
may_round p rounded = not rounded || has_whole_objective p

-- the price, rounded up where that is allowed, is there and reaches the cutoff
abbrev pub reaches : Option ℚ → Bool → Option ℚ → Bool
reaches None rounded v = false
reaches (Some z) rounded None = false
reaches (Some z) rounded (Some v) = is_le (compare z (rounded_if rounded v))

-- a combination for the aim, which is the objective that a search minimises, whose price over the box reaches the cutoff
abbrev pub is_bounding : Problem → List Cut → List Span → Option ℚ → Multipliers → Bool → Bool
is_bounding p cs box cutoff mult rounded =
    list_all (is_proof_multiplier p cs) mult && may_round p rounded && reaches cutoff rounded (price p cs box (aim p) mult)

-- the span is there and has no number
abbrev pub has_crossed : Option Span → Bool
has_crossed None = false
has_crossed (Some s) = int_lt s.hi s.lo

-- the proof closes a node of this box, as a test
abbrev pub is_legal_proof : Problem → List Cut → List Span → Option ℚ → Proof → Bool
is_legal_proof p cs box cutoff (Empty column) = has_crossed (slice_get box column)
is_legal_proof p cs box cutoff (Refute mult) = is_refuting p cs box mult
is_legal_proof p cs box cutoff (Bound mult rounded) = is_bounding p cs box cutoff mult rounded
