use Rattle.std.proofs.Common.{◌≡◌, subst}
use Rattle.event_core.specs.Histories.{state_of}
use Rattle.event_core.specs.Rooms.{Recorded}
use Rattle.solve_top.proofs.beginning.pool_is_ready.Goals as goal

pub returns : goal.returns
returns g c = record {
  budget = c.requires.budget;
  few = c.history_holds.ensures.few;
  unheld = c.requires.unheld;
  sound = c.requires.sound;
  read = c.requires.read;
  state = subst (λ (r : Recorded). r.state ≡ state_of r.state.problem r.history) c.state.ensures c.conditions_hold.ensures.state;
}
