-- The limit on cuts is kept.
use Rattle.std.specs.Prelude.{◌≤◌, ◌+◌, ◌-◌, max, ℕ, List, length, take, refl}
use Rattle.std.proofs.Common.{arith}
use Rattle.std.proofs.lemmas.List.{length-take}
use Rattle.problem_box.specs.declared.span.Span.{Span}
use Rattle.problem.specs.Linear.{Multipliers}
use Rattle.event_core.specs.States.{State}
use Rattle.expand.specs.declared.finding.Finding.{Finding}
use Rattle.expand.specs.declared.finding.Finding.TheVariants.{Cuts, Shut, Whole, Solved, Loose}
use Rattle.expand.specs.declared.settlement.Settlement.{Settlement}
use Rattle.expand.specs.declared.settlement.Settlement.TheVariants.{Separated, Closed, Improved, Branched}
use Rattle.expand.specs.Settling.{settled}
use Rattle.expand.specs.Lemmas.Rooms.{IsNotSeparated, without_cuts}
use Rattle.core_search.specs.Deciding.{KeepsToLimit}

-- ---- what is to be made
no_cuts_fit : (limit : ℕ) (s : State) (g : Settlement) → IsNotSeparated g → KeepsToLimit limit s g
no_cuts_fit limit s (Separated mults) n = absurd (n mults refl)
no_cuts_fit limit s (Closed proof) n = tt
no_cuts_fit limit s (Improved x proof) n = tt
no_cuts_fit limit s (Branched b) n = tt

room_left : (limit made more : ℕ) → more ≤ limit - made → made + more ≤ max limit made
room_left limit made more h = grind arith

first_fit : (limit : ℕ) (s : State) (mults : List Multipliers) → length s.cuts + length (take (limit - length s.cuts) mults) ≤ max limit (length s.cuts)
first_fit limit s mults =
    let n = length-take (limit - length s.cuts) mults in
    room_left limit (length s.cuts) (length (take (limit - length s.cuts) mults)) (grind (arith, n))

pub settled_fits : (limit : ℕ) (s : State) (box : List Span) (f : Finding) → KeepsToLimit limit s (settled s box limit f)
settled_fits limit s box (Cuts mults) = first_fit limit s mults
settled_fits limit s box (Shut proof) = tt
settled_fits limit s box (Whole x) = no_cuts_fit limit s _ (without_cuts s box limit (Whole x) (λ mults e. cc))
settled_fits limit s box (Solved k x mult v column) = no_cuts_fit limit s _ (without_cuts s box limit (Solved k x mult v column) (λ mults e. cc))
settled_fits limit s box (Loose reason j b) = no_cuts_fit limit s _ (without_cuts s box limit (Loose reason j b) (λ mults e. cc))

-- one after the other
