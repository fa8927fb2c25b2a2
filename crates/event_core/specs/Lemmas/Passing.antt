-- Lemmas: what an admitted event has passed.
use Rattle.std.specs.Prelude.{◌≡◌, ◌<◌, ℕ, ℤ, Bool, true, false, not, ◌||◌, nat_lt, List, length, Option, Some, None, slice_get, refl}
use Rattle.std.proofs.lemmas.Bool.{ltb-true}
use Rattle.fraction.specs.Rational.{ℚ}
use Rattle.problem.specs.declared.row.Row.{Row}
use Rattle.problem.specs.Limits.{most_cuts}
use Rattle.node_events.specs.declared.proof.Proof.{Proof}
use Rattle.node_events.specs.declared.reason.Reason.{Reason}
use Rattle.derivation_book.specs.Rounded.{rounded_row}
use Rattle.derivation_book.specs.Legal.{is_legal_proof}
use Rattle.incumbent.specs.Offers.{is_better}
use Rattle.event_core.specs.declared.admit.Admit.{Admit}
use Rattle.event_core.specs.declared.admit.Admit.TheVariants.{Yes, NotOpen, NotYours, BadCut, BadPoint, NotBetter, BadSplit, BadReason, BadProof, Full}
use Rattle.event_core.specs.States.{State, box_of, cutoff, is_open}
use Rattle.event_core.specs.Holds.{is_held, is_busy, is_yours}
use Rattle.event_core.specs.Feasibility.{is_feasible}
use Rattle.event_core.specs.Splits.{has_both, is_reason}
use Rattle.event_core.specs.Judging.{checked, has_row, judged_claim, judged_release, judged_cut, judged_offer, judged_split, judged_close}
use Rattle.problem.specs.Directions.{aim_at}

-- the test holds, and the rest passes too
pub record Passes (b : Bool) (next : Admit) : Type 0 where
  pub holds : b ≡ true
  pub rest : next ≡ Yes

pub passes : (b : Bool) (refusal rest : Admit) → (refusal ≡ Yes → ⊥) → checked b refusal rest ≡ Yes → Passes b rest
passes true refusal rest n e = record { holds = refl; rest = e }
passes false refusal rest n e = absurd (n e)

-- and the other way round
pub passing : (b : Bool) (refusal rest : Admit) → b ≡ true → rest ≡ Yes → checked b refusal rest ≡ Yes
passing true refusal rest e h = h
passing false refusal rest e h = cc

pub record IsPassedClaim (s : State) (w : Option ℕ) (i : ℕ) : Type 0 where
  pub opened : is_open s i ≡ true
  pub unheld : not (is_held s i || is_busy s w) ≡ true

pub claim_passed : (s : State) (w : Option ℕ) (i : ℕ) → judged_claim s w i ≡ Yes → IsPassedClaim s w i
claim_passed s w i e =
    let a = passes (is_open s i) NotOpen _ (λ q. cc) e in
    let b = passes (not (is_held s i || is_busy s w)) NotYours Yes (λ q. cc) a.rest in
    record { opened = a.holds; unheld = b.holds }

pub record IsPassedRelease (s : State) (w : Option ℕ) (i : ℕ) : Type 0 where
  pub opened : is_open s i ≡ true
  pub yours : is_yours s w i ≡ true

pub release_passed : (s : State) (w : Option ℕ) (i : ℕ) → judged_release s w i ≡ Yes → IsPassedRelease s w i
release_passed s w i e =
    let a = passes (is_open s i) NotOpen _ (λ q. cc) e in
    let b = passes (is_yours s w i) NotYours Yes (λ q. cc) a.rest in
    record { opened = a.holds; yours = b.holds }

pub record IsPassedCut (s : State) (mult : List (ℕ × ℚ)) : Type 0 where
  pub few : length s.cuts < most_cuts
  pub row : Row
  pub rounded : rounded_row s.problem s.cuts mult ≡ Some row

pub row_there : (o : Option Row) → has_row o ≡ true → (r : Row) × (o ≡ Some r)
row_there None e = cc
row_there (Some r) e = (r, refl)

pub cut_passed : (s : State) (mult : List (ℕ × ℚ)) → judged_cut s mult ≡ Yes → IsPassedCut s mult
cut_passed s mult e =
    let a = passes (nat_lt (length s.cuts) most_cuts) Full _ (λ q. cc) e in
    let b = passes (has_row (rounded_row s.problem s.cuts mult)) BadCut Yes (λ q. cc) a.rest in
    let r = row_there (rounded_row s.problem s.cuts mult) b.holds in
    record { few = ltb-true _ _ a.holds; row = r.0; rounded = r.1 }

pub record IsPassedOffer (s : State) (x : List ℤ) : Type 0 where
  pub feasible : is_feasible s.problem x ≡ true
  pub better : is_better s.incumbent (aim_at s.problem x) ≡ true

pub offer_passed : (s : State) (x : List ℤ) → judged_offer s x ≡ Yes → IsPassedOffer s x
offer_passed s x e =
    let a = passes (is_feasible s.problem x) BadPoint _ (λ q. cc) e in
    let b = passes (is_better s.incumbent (aim_at s.problem x)) NotBetter Yes (λ q. cc) a.rest in
    record { feasible = a.holds; better = b.holds }

pub record IsPassedSplit (s : State) (w : Option ℕ) (i j : ℕ) (b : ℤ) (r : Reason) : Type 0 where
  pub opened : is_open s i ≡ true
  pub yours : is_yours s w i ≡ true
  pub both : has_both (slice_get (box_of s i) j) b ≡ true
  pub reason : is_reason s.problem s.cuts (box_of s i) (cutoff s) j b r ≡ true

pub split_passed : (s : State) (w : Option ℕ) (i j : ℕ) (b : ℤ) (r : Reason) → judged_split s w i j b r ≡ Yes → IsPassedSplit s w i j b r
split_passed s w i j b r e =
    let k = passes (is_open s i) NotOpen _ (λ q. cc) e in
    let l = passes (is_yours s w i) NotYours _ (λ q. cc) k.rest in
    let m = passes (has_both (slice_get (box_of s i) j) b) BadSplit _ (λ q. cc) l.rest in
    let n = passes (is_reason s.problem s.cuts (box_of s i) (cutoff s) j b r) BadReason Yes (λ q. cc) m.rest in
    record { opened = k.holds; yours = l.holds; both = m.holds; reason = n.holds }

pub record IsPassedClose (s : State) (w : Option ℕ) (i : ℕ) (proof : Proof) : Type 0 where
  pub opened : is_open s i ≡ true
  pub yours : is_yours s w i ≡ true
  pub legal : is_legal_proof s.problem s.cuts (box_of s i) (cutoff s) proof ≡ true

pub close_passed : (s : State) (w : Option ℕ) (i : ℕ) (proof : Proof) → judged_close s w i proof ≡ Yes → IsPassedClose s w i proof
close_passed s w i proof e =
    let k = passes (is_open s i) NotOpen _ (λ q. cc) e in
    let l = passes (is_yours s w i) NotYours _ (λ q. cc) k.rest in
    let m = passes (is_legal_proof s.problem s.cuts (box_of s i) (cutoff s) proof) BadProof Yes (λ q. cc) l.rest in
    record { opened = k.holds; yours = l.holds; legal = m.holds }
