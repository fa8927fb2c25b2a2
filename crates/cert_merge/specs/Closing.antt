-- How a node is closed: a combination of rows and cuts, filled up by bounds of the node's box.
use Rattle.std.specs.Prelude.{◌≡◌, ℕ, ◌+◌, ◌<◌, pos, int_lt, nat_lt, if◌then◌else◌, List, [], ◌∷◌, length, All}
use Rattle.fraction.specs.Rational.{ℚ}
use Rattle.problem_box.specs.declared.span.Span.{Span}
use Rattle.problem.specs.Linear.{Terms, Multipliers}
use Rattle.cert_rows.specs.Lines.{CertLine, row_at}
use Rattle.cert_rows.specs.Combination.{combined_terms}
use Rattle.cert_rows.specs.Validity.{lower_row, upper_row}
use Rattle.derivation_book.specs.Rounded.{is_zero}
use Rattle.derivation_book.specs.Price.{reduced_cost}

-- the lines that state a column's bounds
pub record BoundSource : Type 0 where
  pub lower : ℕ
  pub upper : ℕ

-- line `lower` is `x_j >= lo` and line `upper` is `x_j <= hi`
pub record StatesBounds (ls : List CertLine) (j : ℕ) (s : Span) (o : BoundSource) : Type 0 where
  pub lower_there : o.lower < length ls
  pub upper_there : o.upper < length ls
  pub lower : row_at ls o.lower ≡ lower_row j s
  pub upper : row_at ls o.upper ≡ upper_row j s

-- for each column from j on
abbrev pub AreSources : List CertLine → ℕ → List Span → List BoundSource → Type 0
AreSources ls j [] [] = Unit {0}
AreSources ls j [] (o ∷ os) = ⊥
AreSources ls j (s ∷ ss) [] = ⊥
AreSources ls j (s ∷ ss) (o ∷ os) = StatesBounds ls j s o × AreSources ls (j + 1) ss os

-- what is left of each column goes to the line of its lower bound where it is above 0, to that of its upper bound where it is below 0
abbrev pub bound_multipliers : (ℕ → ℚ) → ℕ → List BoundSource → Multipliers
bound_multipliers r j [] = []
bound_multipliers r j (o ∷ os) =
    if is_zero (r j) then bound_multipliers r (j + 1) os
    else (if int_lt (pos 0) (r j).num then o.lower else o.upper, r j) ∷ bound_multipliers r (j + 1) os

-- a multiplier put into rising order
abbrev pub placed : ℕ × ℚ → Multipliers → Multipliers
placed m [] = m ∷ []
placed m (k ∷ ks) = if nat_lt m.0 k.0 then m ∷ k ∷ ks else k ∷ placed m ks

-- multipliers put among others that rise, one by one
abbrev pub all_placed : Multipliers → Multipliers → Multipliers
all_placed [] ks = ks
all_placed (m ∷ ms) ks = placed m (all_placed ms ks)

-- the multipliers of a closed node: those of its proof, and the bound multipliers
abbrev pub closing_multipliers : List CertLine → Terms → Multipliers → List BoundSource → Multipliers
closing_multipliers ls target mult os = all_placed (bound_multipliers (reduced_cost target (combined_terms ls mult)) 0 os) mult

-- the terms name columns below n
abbrev pub AreBelow : ℕ → Terms → Type 0
AreBelow n ts = All (λ t. t.0 < n) ts
