use Rattle.std.proofs.Common.{subst}
use Rattle.event_core.specs.Rooms.{Recorded}
use Rattle.event_core.specs.Sound.{IsSound}
use Rattle.event_core.proofs.Applying.{sound_history}
use Rattle.event_core.proofs.state.State.conditions_hold.Goals as goal

pub returns-clause-sound : goal.returns-clause-sound
returns-clause-sound c = subst (λ (v : Recorded). IsSound v.state) c.self.view_is (sound_history c.self.inside.parts.state c.self.inside.history.items c.self.invariant.0 c.self.invariant.1)
