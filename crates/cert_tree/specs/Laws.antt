-- What the certificates of finished searches promise.
use Rattle.std.specs.Prelude.{◌≡◌, ◌↔◌, List, [], ◌∷◌}
use Rattle.fraction.specs.Rational.{ℚ}
use Rattle.problem.specs.Linear.{Point}
use Rattle.problem.specs.Problem.{Problem}
use Rattle.problem.specs.Feasible.{objective_at}
use Rattle.problem.specs.Best.{IsBest, IsVoid}
use Rattle.cert_rows.specs.declared.certificate.Goal.{Goal}
use Rattle.cert_rows.specs.declared.certificate.Goal.TheVariants.{Infeas, Range}
use Rattle.cert_rows.specs.Validity.{IsValid}
use Rattle.event_core.specs.declared.entry.Entry.{Entry}
use Rattle.cert_merge.specs.Endings.{IsFinished}
use Rattle.cert_merge.specs.Merged.{merged}

-- the certificate of a finished search is valid
abbrev pub MergedIsValid : Problem → Type 0
MergedIsValid p = (es : List Entry) → IsFinished p es → IsValid p (merged p es)

-- one point is listed, which is a best one, and its objective is both ends of the range
pub record ListsBest (p : Problem) (points : List Point) (lb ub : ℚ) : Type 0 where
  pub point : Point
  pub listed : points ≡ point ∷ []
  pub best : IsBest p point
  pub lower : lb ≡ objective_at p point
  pub upper : ub ≡ objective_at p point

-- what is claimed is true: no point is feasible, or a best one is listed
abbrev pub IsTrueClaim : Problem → List Point → Goal → Type 0
IsTrueClaim p points Infeas = IsVoid p
IsTrueClaim p points (Range lb ub) = ListsBest p points lb ub

-- so it is in the certificate of a finished search
abbrev pub MergedIsTrue : Problem → Type 0
MergedIsTrue p = (es : List Entry) → IsFinished p es → IsTrueClaim p (merged p es).points (merged p es).claim

-- infeasibility is claimed exactly where no point is feasible
abbrev pub InfeasibilityIsExact : Problem → Type 0
InfeasibilityIsExact p = (es : List Entry) → IsFinished p es → (IsVoid p ↔ ((merged p es).claim ≡ Infeas))
