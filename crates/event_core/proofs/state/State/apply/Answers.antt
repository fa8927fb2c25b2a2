use Rattle.std.proofs.Common.{◌≡◌, ◌+◌, ◌-◌, sym, subst, arith, List}
use Rattle.std.specs.Prelude.{vec_len}
use Rattle.std.specs.Vec.{vec_capacity}
use Rattle.event_core.specs.declared.entry.Entry.{Entry}
use Rattle.event_core.specs.Histories.{IsLegal}
use Rattle.event_core.specs.Rooms.{Recorded, HasEntryRoom}
use Rattle.event_core.proofs.Applying.{IsHistoryOf, sound_history, entries_fit, more_history}
use Rattle.event_core.proofs.state.State.apply.Goals as goal

pub change-requires-clause-sound : goal.change-requires-clause-sound
change-requires-clause-sound c = sound_history c.self.inside.parts.state c.self.inside.history.items c.self.invariant.0 c.self.invariant.1

pub invariant_of-self : goal.invariant_of-self
invariant_of-self c =
    let s = c.self.inside.parts.state in
    let n = vec_capacity c.self.inside.history - vec_len c.self.inside.history in
    let m = vec_capacity c.push_reserved.new.self - vec_len c.push_reserved.new.self in
    let legal : IsLegal s c.args.worker c.args.event = subst (λ (v : Recorded). IsLegal v.state c.args.worker c.args.event) (sym c.self.view_is) c.requires.legal in
    let entries : HasEntryRoom s n c.args.event = subst (λ (v : Recorded). HasEntryRoom v.state v.entries c.args.event) (sym c.self.view_is) c.requires.ready.entries in
    let fits = entries_fit s c.args.worker c.args.event n legal entries c.self.invariant.2 in
    let one : m + 1 ≡ n = omega (arith, fits, c.push_reserved.ensures.len, c.push_reserved.ensures.capacity) in
    let h = more_history s c.change.new.self.state c.self.inside.history.items c.args.worker c.args.event n m c.self.invariant.0 c.self.invariant.1 c.self.invariant.2 legal entries c.change.ensures.state one in
    let k = subst (λ (es : List Entry). IsHistoryOf c.change.new.self.state es m) (sym c.push_reserved.ensures.items) h in
    (k.state, k.legal, k.room)
