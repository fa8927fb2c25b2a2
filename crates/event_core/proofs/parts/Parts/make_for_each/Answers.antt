use Rattle.std.proofs.Common.{◌≡◌, ◌∙◌, ◌-◌, ap, subst, arith, List, take, length, vec_len, vec_capacity}
use Rattle.derivation_book.specs.declared.cut.Cut.{Cut}
use Rattle.event_core.specs.Rooms.{Rooms, Standing, KeepsRooms}
use Rattle.event_core.specs.States.{State}
use Rattle.event_core.proofs.parts.Parts.make_for_each.Goals as goal

pub returns-clause-same : goal.returns-clause-same
returns-clause-same c =
    let a = c.self.inside in
    let cuts : c.truncate.new.self.cuts ≡ a.book.cuts = c.truncate.ensures.cuts ∙ ap (λ n. take n c.made_over-made.new.book.cuts) c.len-count.ensures ∙ c.made_over-made.ensures.begun in
    let with : List Cut → State = λ cs. record { problem = a.problem; nodes = a.tree.nodes; ended = a.ended.items; cuts = cs; incumbent = a.incumbent; holds = a.holds.items } in
    ap with cuts ∙ ap (λ (v : Standing). v.state) c.self.view_is

pub returns-clause-kept : goal.returns-clause-kept
returns-clause-kept c =
    let a = c.self.inside in
    let cuts : c.truncate.new.self.cuts ≡ a.book.cuts = c.truncate.ensures.cuts ∙ ap (λ n. take n c.made_over-made.new.book.cuts) c.len-count.ensures ∙ c.made_over-made.ensures.begun in
    let size = ap (λ (cs : List Cut). length cs) cuts in
    let room : Rooms = record { splits = a.tree.room; nodes = vec_capacity a.ended - vec_len a.ended; cuts = c.truncate.new.self.room; holds = vec_capacity a.holds - vec_len a.holds } in
    subst (λ (v : Standing). KeepsRooms v.room room) c.self.view_is
    (record { splits = omega arith; nodes = omega arith; cuts = omega (arith, size, c.made_over-made.ensures.room, c.truncate.ensures.room); holds = omega arith })
