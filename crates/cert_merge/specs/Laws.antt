-- What certificates promise.
use Rattle.std.specs.Prelude.{◌≡◌, List, ◌<◌, ◌-◌, [], length, All, slice_index_or, Option, Some, None, ℕ}
use Rattle.fraction.specs.Rational.{ℚ}
use Rattle.problem.specs.Problem.{Problem}
use Rattle.problem.specs.Best.{IsVoid}
use Rattle.cert_rows.specs.declared.certificate.Goal.TheVariants.{Infeas, Range}
use Rattle.cert_rows.specs.declared.certificate.Cert.{Cert}
use Rattle.cert_rows.specs.Validity.{IsValid, IsCombination, AllFollow, with_derived}
use Rattle.cert_rows.specs.Soundness.{IsInRange}
use Rattle.problem_box.specs.declared.span.Span.{Span}
use Rattle.problem.specs.declared.row.Sense.TheVariants.{G}
use Rattle.problem.specs.declared.row.Row.{Row}
use Rattle.cert_rows.specs.Lines.{CertLine}
use Rattle.cert_rows.specs.Combination.{combined_terms, combined_rhs}
use Rattle.cert_rows.specs.Domination.{Dominates}
use Rattle.problem.specs.Linear.{Terms, Multipliers, SameCoefficients}
use Rattle.problem.specs.Rising.{AreRising, AreNonzero}
use Rattle.cert_rows.specs.declared.line.CertRow.{CertRow}
use Rattle.cert_rows.specs.declared.line.Why.{Why}
use Rattle.cert_rows.specs.declared.line.Why.TheVariants.{Asm, Lin, Rnd, Uns}
use Rattle.node_events.specs.declared.proof.Proof.{Proof}
use Rattle.node_events.specs.declared.proof.Proof.TheVariants.{Empty, Refute, Bound}
use Rattle.node_events.specs.declared.event.Event.{Event}
use Rattle.derivation_book.specs.Price.{exact_price}
use Rattle.event_core.specs.declared.entry.Entry.{Entry}
use Rattle.cert_merge.specs.Closing.{BoundSource, AreSources, AreBelow, closing_multipliers}
use Rattle.cert_merge.specs.Endings.{IsFinished}
use Rattle.cert_merge.specs.Merged.{merged}
use Rattle.cert_merge.specs.Tree.{NodeLine, derived_of, AreNodeLines, paths_with, IsConcluded}
use Rattle.event_core.specs.Frames.{closed_by, cut_by}

-- where a valid certificate claims infeasibility, no point is feasible
abbrev pub InfeasibilityHolds : Problem → Cert → Type 0
InfeasibilityHolds p c = IsValid p c → c.claim ≡ Infeas → IsVoid p

-- where it claims a range, no feasible point is below it and a listed one isn't above; where the objective is maximised, none is above it and a listed
-- one isn't below
abbrev pub RangeHolds : Problem → Cert → Type 0
RangeHolds p c = (lb ub : ℚ) → IsValid p c → c.claim ≡ Range lb ub → IsInRange p.sense p c lb ub

-- the multipliers combine to the target, with the price as right side
pub record Closes (ls : List CertLine) (target : Terms) (p : ℚ) (ms : Multipliers) : Type 0 where
  pub combined : IsCombination ls G ms
  pub terms : SameCoefficients (combined_terms ls ms) target
  pub rhs : combined_rhs ls ms ≡ p

-- the multipliers of a closed node give its target and its price
abbrev pub ClosingsClose : Type 0
ClosingsClose =
    (ls : List CertLine) (target : Terms) (mult : Multipliers) (ss : List Span) (os : List BoundSource)
    → AreSources ls 0 ss os → IsCombination ls G mult → AreBelow (length ss) target → AreBelow (length ss) (combined_terms ls mult)
    → Closes ls target (exact_price ls target mult ss) (closing_multipliers ls target mult os)

-- the lines of a finished tree follow, and the last one dominates the goal and assumes nothing
abbrev pub FinishedTreesFollow : Type 0
FinishedTreesFollow =
    (ls : List CertLine) (goal : Row) → Dominates goal goal → (ns : List NodeLine) → AreNodeLines ls goal [] ns
    → 0 < length (paths_with [] ns) → slice_index_or (paths_with [] ns) (length (paths_with [] ns) - 1) [] ≡ []
    → AllFollow ls (derived_of ns) × IsConcluded (with_derived ls (derived_of ns)) goal

-- ---- multipliers in order
-- the numbers rise, and no multiplier is 0
abbrev pub AreOrdered : Multipliers → Type 0
AreOrdered mult = AreRising mult × AreNonzero mult

-- the multipliers of a reason, if it has any
abbrev pub ReasonIsOrdered : Why → Type 0
ReasonIsOrdered Asm = Unit {0}
ReasonIsOrdered (Lin mult) = AreOrdered mult
ReasonIsOrdered (Rnd mult) = AreOrdered mult
ReasonIsOrdered (Uns i1 l1 i2 l2) = Unit {0}

-- those of a proof
abbrev pub ProofIsOrdered : Proof → Type 0
ProofIsOrdered (Empty column) = Unit {0}
ProofIsOrdered (Refute mult) = AreOrdered mult
ProofIsOrdered (Bound mult rounded) = AreOrdered mult

-- those of a cut, if there is one
abbrev pub CutIsOrdered : Option Multipliers → Type 0
CutIsOrdered None = Unit {0}
CutIsOrdered (Some mult) = AreOrdered mult

-- those of the proof of a closed node, if there is one
abbrev pub ClosingIsOrdered : Option (ℕ × Proof) → Type 0
ClosingIsOrdered None = Unit {0}
ClosingIsOrdered (Some c) = ProofIsOrdered c.1

-- those of an event
abbrev pub EventIsOrdered : Event → Type 0
EventIsOrdered e = CutIsOrdered (cut_by e) × ClosingIsOrdered (closed_by e)

-- the multipliers of each line are in order, where those of the events are
abbrev pub MergedIsOrdered : Problem → Type 0
MergedIsOrdered p =
    (es : List Entry) → IsFinished p es → All (λ (e : Entry). EventIsOrdered e.event) es → All (λ (d : CertRow × Why). ReasonIsOrdered d.1) (merged p es).lines
