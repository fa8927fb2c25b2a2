-- Rows by their coefficients that aren't 0. Of what stands here `LinearProgram::entries` alone is public.
use Rattle.std.specs.Prelude.{◌≡◌, ℕ, ◌+◌, pos, negsuc, nat_lt, nat_eq, [], ◌∷◌, All, if◌then◌else◌}
use Rattle.std.specs.Ordering.{int_eq}
use Rattle.fraction.specs.Rational.{ℚ, whole}
use Rattle.fraction.specs.Fits.{FitsFraction}
use Rattle.problem.specs.Linear.{Terms}
use Rattle.tableau.specs.Elimination.{Coefficients, zero_ℚ}
use Rattle.tableau.specs.LinearProgram.{coefficients_from}

-- an entry is a variable with its coefficient; one whose coefficient is 0 is left out
abbrev pub with_entry : ℕ → ℚ → Terms → Terms
with_entry j t others = if int_eq t.num (pos 0) then others else (j, t) ∷ others

-- the entries of a row that begins with variable j
abbrev pub nonzeros : ℕ → Coefficients → Terms
nonzeros j [] = []
nonzeros j (t ∷ ts) = with_entry j t (nonzeros (j + 1) ts)

-- the number of the entry fits
abbrev pub HasFraction : ℕ × ℚ → Type 0
HasFraction e = FitsFraction e.1

-- the entries are those of a row of this width, by rising variable
pub record IsSparse (width : ℕ) (es : Terms) : Type 0 where
  pub entries : es ≡ nonzeros 0 (coefficients_from 0 width es)
  pub fractions : All HasFraction es

-- ---- some of the entries
-- the terms of variables below a width, but those whose coefficient is 0
abbrev pub kept_below : ℕ → Terms → Terms
kept_below w [] = []
kept_below w (t ∷ ts) = if nat_lt t.0 w then with_entry t.0 t.1 (kept_below w ts) else kept_below w ts

-- but that of variable c
abbrev pub without : ℕ → Terms → Terms
without c [] = []
without c (e ∷ es) = if nat_eq e.0 c then without c es else e ∷ without c es

-- those before variable k, and those from it on
abbrev pub before_variable : ℕ → Terms → Terms
before_variable k [] = []
before_variable k (e ∷ es) = if nat_lt e.0 k then e ∷ before_variable k es else []

-- the entries of the variables from k on
abbrev pub from_variable : ℕ → Terms → Terms
from_variable k [] = []
from_variable k (e ∷ es) = if nat_lt e.0 k then from_variable k es else e ∷ es

-- the coefficient of the first entry, if this is of variable c
abbrev pub first_coefficient : ℕ → Terms → ℚ
first_coefficient c [] = zero_ℚ
first_coefficient c (e ∷ es) = if nat_eq e.0 c then e.1 else zero_ℚ

-- the coefficient -1 of variable r, if the row has that variable
abbrev pub own_entry : ℕ → ℕ → Terms
own_entry width r = if nat_lt r width then (r, whole (negsuc 0)) ∷ [] else []
