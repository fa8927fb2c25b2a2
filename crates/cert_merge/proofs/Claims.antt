-- Claims of valid certificates.
use Rattle.std.proofs.Common.{subst}
use Rattle.problem.specs.Problem.{Problem}
use Rattle.cert_rows.specs.declared.certificate.Cert.{Cert}
use Rattle.cert_rows.specs.Lemmas.Soundness.{ClaimHolds, claim_holds}
use Rattle.cert_merge.specs.Laws.{InfeasibilityHolds, RangeHolds}

pub infeasibility : (p : Problem) (c : Cert) → InfeasibilityHolds p c
infeasibility p c v e = subst (ClaimHolds p c) e (claim_holds p c v)

pub range : (p : Problem) (c : Cert) → RangeHolds p c
range p c lb ub v e = subst (ClaimHolds p c) e (claim_holds p c v)
