use Rattle.std.proofs.Common.{sym, ap, ◌∙◌, arith, ◌+◌, drop}
use Rattle.std.specs.Prelude.{◌&&◌}
use Rattle.event_core.specs.Relaxed.{lies_in_box}
use Rattle.event_core.specs.Lemmas.Reasons.{box_from, other_length, past_all}
use Rattle.event_core.proofs.relaxed.lies_in_box.Goals as goal

pub returns-then-len : goal.returns-then-len
returns-then-len c = other_length c.args.area.now c.args.point.now (λ e. c.if-len.true (c.len.ensures ∙ e ∙ sym c.len-2.ensures))

pub returns-then-not-lies_in : goal.returns-then-not-lies_in
returns-then-not-lies_in c =
    let rest = lies_in_box (drop (c.loop-column.column + 1) c.args.area.now) (drop (c.loop-column.column + 1) c.args.point.now) in
    sym (ap (λ b. b && rest) (sym c.lies_in.ensures ∙ c.if-not-lies_in.true))
    ∙ sym (box_from c.args.area.now c.args.point.now c.loop-column.column c.span-span.result c.get-number.result c.span-span.ensures c.get-number.ensures)
    ∙ c.loop-column.invariant

pub loop-column-preserved : goal.loop-column-preserved
loop-column-preserved c =
    let rest = lies_in_box (drop (c.loop-column.column + 1) c.args.area.now) (drop (c.loop-column.column + 1) c.args.point.now) in
    sym (ap (λ b. b && rest) (sym c.lies_in.ensures ∙ c.if-not-lies_in.false))
    ∙ sym (box_from c.args.area.now c.args.point.now c.loop-column.column c.span-span.result c.get-number.result c.span-span.ensures c.get-number.ensures)
    ∙ c.loop-column.invariant

pub returns : goal.returns
returns c = sym (sym c.loop-column.invariant ∙ past_all c.args.area.now c.args.point.now c.loop-column.column (omega arith) (omega arith))
