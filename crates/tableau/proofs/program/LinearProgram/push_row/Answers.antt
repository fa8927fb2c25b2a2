use Rattle.std.proofs.Common.{ap, ◌∙◌, subst, sym, length, ◌+◌, ◌*◌, ◌^◌, ◌<◌}
use Rattle.tableau.specs.LinearProgram.{LinearProgram}
use Rattle.tableau.specs.Lemmas.Started.{length-coefficients}
use Rattle.tableau.proofs.Programming.{longer, still_wide, bounds_kept, numbers_kept, room_kept}
use Rattle.tableau.proofs.program.LinearProgram.push_row.Goals as goal

pub invariant_of-self-2 : goal.invariant_of-self-2
invariant_of-self-2 c =
    let n = length c.self.inside.costs in
    let rows = longer c.self.inside.rows.items c.reserve.new.self.items c.push_reserved.new.self.items _ c.reserve.ensures.items c.push_reserved.ensures.items in
    let bounds = longer c.self.inside.bounds.items c.reserve-2.new.self.items c.push_reserved-2.new.self.items _ c.reserve-2.ensures.items c.push_reserved-2.ensures.items in
    let numbers = longer c.self.inside.numbers.items c.reserve-3.new.self.items c.push_reserved-3.new.self.items _ c.reserve-3.ensures.items c.push_reserved-3.ensures.items in (
      bounds_kept n (length c.self.inside.rows.items) _ (length c.self.inside.bounds.items) _ c.self.invariant.0 rows bounds,
      numbers_kept (length c.self.inside.rows.items) _ (length c.self.inside.numbers.items) _ c.self.invariant.1 rows numbers,
      still_wide n c.self.inside.rows.items c.reserve.new.self.items c.push_reserved.new.self.items c.in_ok-coefficients.coefficients c.self.invariant.2
          (ap length c.in_ok-coefficients.ensures ∙ length-coefficients 0 c.width.result c.args.row.now.terms ∙ c.width.ensures) c.reserve.ensures.items c.push_reserved.ensures.items,
      room_kept n (length c.self.inside.rows.items) _ rows (subst (λ (p : LinearProgram). length p.rows + 1 + 2 * length p.costs < 2 ^ 32) (sym c.self.view_is) c.requires.room),
    )
