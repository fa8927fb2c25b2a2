-- Cuts that the worker makes together.
use Rattle.std.specs.Prelude.{◌≡◌, ◌≤◌, ◌+◌, ℕ, false, List, [], ◌∷◌, length, map, Option, Some, None, refl}
use Rattle.std.proofs.Common.{arith}
use Rattle.problem.specs.declared.row.Row.{Row}
use Rattle.problem.specs.Linear.{Multipliers}
use Rattle.node_events.specs.declared.event.Event.TheVariants.{Cut}
use Rattle.derivation_book.specs.Rounded.{rounded_row}
use Rattle.event_core.specs.States.{State}
use Rattle.event_core.specs.After.{after, after_cut}
use Rattle.event_core.specs.Histories.{state_from}
use Rattle.event_core.specs.Lemmas.Frames.{cuts_after}
use Rattle.expand.specs.Laws.{entries_of}
use Rattle.node_pool.specs.Halting.{spends}
use Rattle.core_search.specs.Deciding.{IsSameButCuts}
use Rattle.core_search.proofs.Stepping.{joined_cuts}

-- the state after these cuts
abbrev pub after_cuts : State → List Multipliers → State
after_cuts s mults = state_from s (entries_of 0 (map Cut mults))

cut_same : (s : State) (mult : Multipliers) (o : Option Row) → IsSameButCuts s (after_cut s mult o)
cut_same s mult None = refl
cut_same s mult (Some r) = refl

pub cuts_same : (s : State) (mults : List Multipliers) → IsSameButCuts s (after_cuts s mults)
cuts_same s [] = refl
cuts_same s (m ∷ ms) =
    let t : State = after s (Some 0) (Cut m) in
    joined_cuts s t (after_cuts t ms) (cut_same s m (rounded_row s.problem s.cuts m)) (cuts_same t ms)

pub cuts_few : (s : State) (mults : List Multipliers) → length (after_cuts s mults).cuts ≤ length s.cuts + length mults
cuts_few s [] = omega arith
cuts_few s (m ∷ ms) = omega (arith, (cuts_after s (Some 0) (Cut m)).1, cuts_few (after s (Some 0) (Cut m)) ms)

-- they split no node
pub cuts_unspent : (budget nodes : ℕ) (mults : List Multipliers) → spends budget nodes (map Cut mults) ≡ false
cuts_unspent budget nodes [] = refl
cuts_unspent budget nodes (m ∷ ms) = cuts_unspent budget nodes ms
