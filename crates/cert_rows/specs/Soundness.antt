-- What a valid certificate claims is true.
use Rattle.std.specs.Prelude.{Any}
use Rattle.fraction.specs.Rational.{ℚ, ◌≤ℚ◌}
use Rattle.problem.specs.declared.objective_sense.ObjectiveSense.{ObjectiveSense}
use Rattle.problem.specs.declared.objective_sense.ObjectiveSense.TheVariants.{Minimise, Maximise}
use Rattle.problem.specs.Problem.{Problem}
use Rattle.problem.specs.Feasible.{IsFeasible, objective_at}
use Rattle.cert_rows.specs.declared.certificate.Cert.{Cert}
use Rattle.problem.specs.Linear.{Point}

-- ---- the claim
-- no feasible point is below lb, and a listed one is at most ub
pub record IsBetween (p : Problem) (c : Cert) (lb ub : ℚ) : Type 0 where
  pub below : (x : Point) → IsFeasible p x → lb ≤ℚ objective_at p x
  pub listed : Any (λ x. IsFeasible p x × (objective_at p x ≤ℚ ub)) c.points

-- no feasible point is above ub, and a listed one is at least lb
pub record IsBetweenMaximised (p : Problem) (c : Cert) (lb ub : ℚ) : Type 0 where
  pub above : (x : Point) → IsFeasible p x → objective_at p x ≤ℚ ub
  pub listed : Any (λ x. IsFeasible p x × (lb ≤ℚ objective_at p x)) c.points

-- the one where the objective is minimised, the other where it is maximised
abbrev pub IsInRange : ObjectiveSense → Problem → Cert → ℚ → ℚ → Type 0
IsInRange Minimise p c lb ub = IsBetween p c lb ub
IsInRange Maximise p c lb ub = IsBetweenMaximised p c lb ub
