-- Sizes under which no operation is cramped on a tableau that is read with scales.
use Rattle.std.specs.Prelude.{◌≡◌, ◌<◌, ◌*◌, ℕ, zero, suc, ℤ, List, map, ◌⊎◌}
use mathlib.Core.Logic.{inl, inr}
use Rattle.fraction.specs.Rational.{ℚ, whole}
use Rattle.tableau.specs.Elimination.{entry}
use Rattle.tableau.specs.Tableau.{Tableau, row_of}
use Rattle.tableau.specs.Place.{place}
use Rattle.tableau.specs.Run.{RunEnd, step_at}
use Rattle.integer_tableau.specs.Numbers.{total_size}
use Rattle.integer_tableau.specs.Range.{size_limit}
use Rattle.integer_tableau.specs.Small.{IsOver}
use Rattle.integer_tableau.specs.Scales.{Scales}

-- each number is a multiple of 1/d; numerators and denominators stay small where they are read with scales
pub record IsSmallAt (d : ℕ) (σ : Scales) (s : ℕ) (t : Tableau) : Type 0 where
  pub positive : 0 < d
  pub denominators : (i : ℕ) → (0 < σ i) × (d * σ i < size_limit)
  pub cost_denominator : (0 < s) × (d * s < size_limit)
  pub rows : (i j : ℕ) → IsOver d (σ j) (entry (row_of t i) j)
  pub costs : (j : ℕ) → IsOver d (σ j) (entry t.reduced_costs j)
  pub numbers : List ℤ
  pub point : t.nonbasic_values ≡ map whole numbers
  pub total : total_size numbers < size_limit

-- over some denominator
pub record IsSmall (σ : Scales) (s : ℕ) (t : Tableau) : Type 0 where
  pub denominator : ℕ
  pub at_denominator : IsSmallAt denominator σ s t

-- ---- runs
-- where a run goes on, its next tableau has property P
abbrev pub IfGoesOn : (Tableau → Type 0) → RunEnd ⊎ Tableau → Type 0
IfGoesOn P (inl e) = Unit {0}
IfGoesOn P (inr u) = P u

-- so is each tableau of a run
abbrev pub RunIsSmall : Scales → ℕ → ℕ → Tableau → Type 0
RunIsSmall σ s zero t = IsSmall σ s t
RunIsSmall σ s (suc cap) t = IsSmall σ s t × IfGoesOn (RunIsSmall σ s cap) (step_at t (place t))

-- ---- numbers of a row
-- each is a multiple of 1/d, where d and the numerators are small even k times
pub record AreSmallTimes (k : ℕ) (xs : List ℚ) : Type 0 where
  pub denominator : ℕ
  pub positive : 0 < denominator
  pub small : denominator * k < size_limit
  pub numbers : (j : ℕ) → IsOver denominator k (entry xs j)
