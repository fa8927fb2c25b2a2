use Rattle.std.proofs.Common.{None, refl, subst, sym, arith}
use Rattle.mps_reader.proofs.State.{pairs_four, pairs_none, pairs_two}
use Rattle.mps_reader.specs.SideLines.{TakesRows}
use Rattle.mps_reader.specs.Tables.{table}
use Rattle.mps_reader.proofs.sides.Sides.take_pairs.Goals as goal

pub returns-in_default-clause-rows : goal.returns-in_default-clause-rows
returns-in_default-clause-rows g c before h = (tt, rw (pairs_none c.args.pairs.now (omega arith) (omega arith)) refl)

pub returns-in_default-clause-group : goal.returns-in_default-clause-group
returns-in_default-clause-group g c = tt

pub returns-in_default-2-clause-rows : goal.returns-in_default-2-clause-rows
returns-in_default-2-clause-rows g c before h = (tt, rw (pairs_none c.args.pairs.now (omega arith) (omega arith)) refl)

pub returns-in_default-2-clause-group : goal.returns-in_default-2-clause-group
returns-in_default-2-clause-group g c = tt

pub returns-in_default-3-clause-rows : goal.returns-in_default-3-clause-rows
returns-in_default-3-clause-rows g c before h = (tt, rw (pairs_none c.args.pairs.now (omega arith) (omega arith)) refl)

pub returns-in_default-3-clause-group : goal.returns-in_default-3-clause-group
returns-in_default-3-clause-group g c = tt

pub returns-in-len2-clause-rows : goal.returns-in-len2-clause-rows
returns-in-len2-clause-rows g c =
    subst (λ ps. TakesRows c.args.are_ranges (table c.args.rows.now.entries) None ps c.args.self.now c.take.new.self c.take.result)
    (sym (pairs_two c.args.pairs.now c.in-len2.len_at_least c.in-len2.len_below)) c.take.ensures.rows

pub returns-in-len2-clause-group : goal.returns-in-len2-clause-group
returns-in-len2-clause-group g c = c.take.ensures.group

pub returns-in-len4-clause-rows : goal.returns-in-len4-clause-rows
returns-in-len4-clause-rows g c =
    subst (λ ps. TakesRows c.args.are_ranges (table c.args.rows.now.entries) None ps c.args.self.now c.take_two.new.self c.take_two.result)
    (sym (pairs_four c.args.pairs.now c.in-len4.len_at_least c.in-len4.len_below)) c.take_two.ensures.rows

pub returns-in-len4-clause-group : goal.returns-in-len4-clause-group
returns-in-len4-clause-group g c = c.take_two.ensures.group

pub slice_bounds-take-end : goal.slice_bounds-take-end
slice_bounds-take-end g c = refl

pub slice_bounds-take-end-in-len2 : goal.slice_bounds-take-end-in-len2
slice_bounds-take-end-in-len2 g c = refl

pub slice_bounds-take_two-end : goal.slice_bounds-take_two-end
slice_bounds-take_two-end g c = refl

pub slice_bounds-take_two-end-in-len4 : goal.slice_bounds-take_two-end-in-len4
slice_bounds-take_two-end-in-len4 g c = refl

pub slice_bounds-take_two-end-in-len4-2 : goal.slice_bounds-take_two-end-in-len4-2
slice_bounds-take_two-end-in-len4-2 g c = refl

pub slice_bounds-take_two-end-in-len4-3 : goal.slice_bounds-take_two-end-in-len4-3
slice_bounds-take_two-end-in-len4-3 g c = refl
