-- Lists that begin with an older one: what they have of its state.
use Rattle.std.specs.Prelude.{◌≡◌, true, List, ◌++◌}
use Rattle.std.proofs.Common.{sym, ap, ◌∙◌, subst, append_assoc}
use Rattle.problem.specs.Problem.{Problem}
use Rattle.derivation_book.specs.declared.cut.Cut.{Cut as MadeCut}
use Rattle.event_core.specs.States.{State}
use Rattle.event_core.specs.Histories.{state_from, AreLegalFrom}
use Rattle.event_core.specs.Lemmas.Running.{from-problem}
use Rattle.worker_gate.specs.declared.entry.PoolEntry.{PoolEntry}
use Rattle.worker_gate.specs.Entries.{is_opened, opening_in, events_in, state_in}
use Rattle.worker_gate.specs.Legal.{IsLegalList}
use Rattle.worker_gate.specs.Lemmas.Lists.{opening-append, state-append}
use Rattle.worker_gate.specs.Lemmas.Staying.{legal_behind}
use Rattle.crew.specs.Lists.{IsFront}
use Rattle.crew.specs.declared.worker.Worker.{Worker}
use Rattle.crew.specs.Workers.{HasFirst, Knows}
use Rattle.event_core.specs.Lemmas.Frames.{cuts_from}

pub front_on : (a b c : List PoolEntry) → IsFront a b → IsFront b c → IsFront a c
front_on a b c ab bc = (ab.0 ++ bc.0, bc.1 ∙ (ap (λ (l : List PoolEntry). l ++ bc.0) ab.1 ∙ append_assoc a ab.0 bc.0))

-- ---- more cuts
-- cuts that stand first in a state whose cuts stand first in another
first_on : (cs : List MadeCut) (s t : State) → HasFirst cs s → HasFirst s.cuts t → HasFirst cs t
first_on cs s t h k = (h.0 ++ k.0, k.1 ∙ (ap (λ (l : List MadeCut). l ++ k.0) h.1 ∙ append_assoc cs h.0 k.0))

-- ---- what a longer list has of the first one
module _ (a b : List PoolEntry) (front : IsFront a b) (opened : is_opened a ≡ true) where
  pub front_opening : opening_in b ≡ opening_in a
  front_opening = ap opening_in front.1 ∙ opening-append a front.0 opened

  pub front_state : state_in b ≡ state_from (state_in a) (events_in front.0)
  front_state = ap state_in front.1 ∙ state-append a front.0 opened

  pub front_legal : IsLegalList b → AreLegalFrom (state_in a) (events_in front.0)
  front_legal legal = legal_behind a front.0 opened (subst IsLegalList front.1 legal)

  pub front_problem : (state_in b).problem ≡ (state_in a).problem
  front_problem = ap (λ (s : State). s.problem) front_state ∙ from-problem (state_in a) (events_in front.0)

  pub front_first : (cs : List MadeCut) → HasFirst cs (state_in a) → HasFirst cs (state_in b)
  front_first cs h = first_on cs (state_in a) (state_in b) h (subst (λ (s : State). HasFirst (state_in a).cuts s) (sym front_state) (cuts_from (state_in a) (events_in front.0)))

  pub front_knows : (p : Problem) (w : Worker) → Knows p w (state_in a) → Knows p w (state_in b)
  front_knows p w k = record { problem = front_problem ∙ k.problem; first = front_first w.book.cuts k.first; prepared = k.prepared }
