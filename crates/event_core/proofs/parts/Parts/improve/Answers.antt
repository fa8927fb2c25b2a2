use Rattle.std.proofs.Common.{sym, subst}
use Rattle.incumbent.specs.Offers.{IsIncumbentOf}
use Rattle.event_core.specs.Rooms.{Standing}
use Rattle.event_core.proofs.parts.Parts.improve.Goals as goal

pub offer-taken-requires : goal.offer-taken-requires
offer-taken-requires c = subst (λ (v : Standing). IsIncumbentOf v.state.problem v.state.incumbent) (sym c.self.view_is) c.requires.kept
