-- Terms in rising order of their columns, without zeros.
use Rattle.std.specs.Prelude.{◌≡◌, ◌≤◌, ℕ, suc, pos, [], ◌∷◌, All}
use Rattle.fraction.specs.Rational.{whole}
use Rattle.problem.specs.Linear.{Terms}

-- the columns rise, and the first is at least k
abbrev pub RiseFrom : ℕ → Terms → Type 0
RiseFrom k [] = Unit {0}
RiseFrom k (t ∷ ts) = (k ≤ t.0) × RiseFrom (suc t.0) ts

-- the columns rise
abbrev pub AreRising : Terms → Type 0
AreRising ts = RiseFrom 0 ts

-- no coefficient is zero
abbrev pub AreNonzero : Terms → Type 0
AreNonzero ts = All (λ t. t.1 ≡ whole (pos 0) → ⊥) ts
