-- What the types of the code say of an event's parts. Each event that a program holds meets it.
use Rattle.std.specs.Prelude.{◌≢◌, ℕ, suc, ◌<◌, ◌≤◌, ◌^◌, pos, [], ◌∷◌}
use Rattle.std.specs.Int.{w64}
use Rattle.std.specs.List.{AllByRecursion}
use Rattle.std.specs.Int.RustNames.{FitsSigned}
use Rattle.fraction.specs.Rational.{ℚ, whole}
use Rattle.fraction.specs.Fits.{FitsFraction}
use Rattle.problem.specs.Linear.{Multipliers, Point}
use Rattle.node_events.specs.declared.event.Event.{Event}
use Rattle.node_events.specs.declared.event.Event.TheVariants.{Claim, Release, Cut, Offer, Split, Close}
use Rattle.node_events.specs.declared.reason.Reason.{Reason}
use Rattle.node_events.specs.declared.reason.Reason.TheVariants.{Fractional, Cramped, Stalled}
use Rattle.node_events.specs.declared.proof.Proof.{Proof}
use Rattle.node_events.specs.declared.proof.Proof.TheVariants.{Empty, Refute, Bound}

-- the number fits into 32 bits
abbrev pub FitsU32 : ℕ → Type 0
FitsU32 n = n < 2 ^ 32

-- a row from the least one on, and a factor that isn't 0
pub record IsFactor (least : ℕ) (m : ℕ × ℚ) : Type 0 where
  pub rises : least ≤ m.0
  pub row : FitsU32 m.0
  pub nonzero : m.1 ≢ whole (pos 0)
  pub factor : FitsFraction m.1

-- the rows rise from the least one on, and no factor is 0
abbrev pub AreFactors : ℕ → Multipliers → Type 0
AreFactors least [] = Unit {0}
AreFactors least (m ∷ ms) = IsFactor least m × AreFactors (suc m.0) ms

-- factors that fit, of rows whose numbers rise
abbrev pub IsMult : Multipliers → Type 0
IsMult ms = AreFactors 0 ms

-- each number fits into 64 bits
abbrev pub IsPoint : Point → Type 0
IsPoint point = AllByRecursion (λ z. FitsSigned w64 z) point

-- its numbers fit their types
abbrev pub IsReason : Reason → Type 0
IsReason (Fractional cuts point) = FitsU32 cuts × AllByRecursion FitsFraction point
IsReason (Cramped cuts pivots) = FitsU32 cuts × FitsU32 pivots
IsReason (Stalled cuts) = FitsU32 cuts

-- its numbers fit their types
abbrev pub IsProof : Proof → Type 0
IsProof (Refute mult) = IsMult mult
IsProof (Bound mult rounded) = IsMult mult
IsProof (Empty column) = FitsU32 column

-- its numbers fit their types
abbrev pub IsEvent : Event → Type 0
IsEvent (Claim node) = FitsU32 node
IsEvent (Release node) = FitsU32 node
IsEvent (Cut mult) = IsMult mult
IsEvent (Offer point) = IsPoint point
IsEvent (Split node column bound reason) = FitsU32 node × FitsU32 column × FitsSigned w64 bound × IsReason reason
IsEvent (Close node proof) = FitsU32 node × IsProof proof
