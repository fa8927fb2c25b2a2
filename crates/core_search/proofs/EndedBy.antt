-- How a search ends by a fault.
use Rattle.std.specs.Prelude.{◌≡◌, ℕ, refl}
use Rattle.event_core.specs.States.{State}
use Rattle.event_core.specs.Laws.{unheld}
use Rattle.node_pool.specs.declared.answers.CommitFault.{CommitFault}
use Rattle.node_pool.specs.declared.answers.CommitFault.TheVariants as fault
use Rattle.core_search.specs.Pools.{ending_of}
use Rattle.core_search.specs.Processing.{IsEnding, IsExhausted}
use Rattle.core_search.proofs.Stepping.{exhausted_unheld}

pub ended_by : (budget : ℕ) (f : CommitFault) (s t : State) → (f ≡ fault.Budget → IsExhausted budget s) → t ≡ unheld s → IsEnding budget (ending_of f) t
ended_by budget fault.Disk s t h e = tt
ended_by budget fault.Budget s t h e = exhausted_unheld budget s t e (h refl)
ended_by budget fault.Memory s t h e = tt
ended_by budget fault.Halted s t h e = tt
