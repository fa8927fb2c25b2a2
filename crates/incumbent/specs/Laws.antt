-- What incumbents promise.
use Rattle.std.specs.Prelude.{Option, IsSomeAnd}
use Rattle.fraction.specs.Rational.{ℚ, ◌≤ℚ◌}
use Rattle.problem.specs.Problem.{Problem}
use Rattle.incumbent.specs.declared.best.Best.{Best}
use Rattle.incumbent.specs.Offers.{cutoff_of, IsImprovement, offered}
use Rattle.problem.specs.Linear.{Point}

-- there is a cutoff, and the bound is at least it
abbrev pub Reaches : ℚ → Option ℚ → Type 0
Reaches v c = IsSomeAnd c (λ z. z ≤ℚ v)

-- a bound that reaches the cutoff reaches that of each better point
abbrev pub OffersKeepReaching : Type 0
OffersKeepReaching =
    (p : Problem) (i : Option Best) (x : Point) (v : ℚ) → IsImprovement p i x → Reaches v (cutoff_of i) → Reaches v (cutoff_of (offered p x))
