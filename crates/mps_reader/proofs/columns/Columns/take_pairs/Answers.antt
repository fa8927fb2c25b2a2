use Rattle.std.proofs.Common.{◌≡◌, Option, Some, None, refl, arith}
use Rattle.mps_reader.proofs.State.{pairs_four, pairs_none, pairs_two}
use Rattle.mps_reader.specs.Faults.{◌<|>◌}
use Rattle.mps_reader.specs.declared.kinds.Kind.{Kind}
use Rattle.mps_reader.proofs.columns.Columns.take_pairs.Goals as goal

or_none : (o : Option Kind) → (o <|> None) ≡ o
or_none (Some k) = refl
or_none None = refl

pub returns-in-len2-clause-ok : goal.returns-in-len2-clause-ok
returns-in-len2-clause-ok g c entries h = rw (pairs_two c.args.rest.now c.in-len2.len_at_least c.in-len2.len_below, or_none) (c.take.ensures.ok entries h)

pub returns-in-len2-clause-err : goal.returns-in-len2-clause-err
returns-in-len2-clause-err g c entries h = rw (pairs_two c.args.rest.now c.in-len2.len_at_least c.in-len2.len_below, or_none) (c.take.ensures.err entries h)

pub returns-in-len4-clause-ok : goal.returns-in-len4-clause-ok
returns-in-len4-clause-ok g c entries h = rw (pairs_four c.args.rest.now c.in-len4.len_at_least c.in-len4.len_below) (c.take_two.ensures.ok entries h)

pub returns-in-len4-clause-err : goal.returns-in-len4-clause-err
returns-in-len4-clause-err g c entries h = rw (pairs_four c.args.rest.now c.in-len4.len_at_least c.in-len4.len_below) (c.take_two.ensures.err entries h)

pub returns-in_default-clause-err : goal.returns-in_default-clause-err
returns-in_default-clause-err g c entries h = rw (pairs_none c.args.rest.now (omega arith) (omega arith)) refl

pub returns-in_default-2-clause-err : goal.returns-in_default-2-clause-err
returns-in_default-2-clause-err g c entries h = rw (pairs_none c.args.rest.now (omega arith) (omega arith)) refl

pub returns-in_default-3-clause-err : goal.returns-in_default-3-clause-err
returns-in_default-3-clause-err g c entries h = rw (pairs_none c.args.rest.now (omega arith) (omega arith)) refl

pub returns-in_default-clause-ok : goal.returns-in_default-clause-ok
returns-in_default-clause-ok g c entries h = tt

pub returns-in_default-2-clause-ok : goal.returns-in_default-2-clause-ok
returns-in_default-2-clause-ok g c entries h = tt

pub returns-in_default-3-clause-ok : goal.returns-in_default-3-clause-ok
returns-in_default-3-clause-ok g c entries h = tt

pub slice_bounds-take-end : goal.slice_bounds-take-end
slice_bounds-take-end g c = refl

pub slice_bounds-take-end-in-len2 : goal.slice_bounds-take-end-in-len2
slice_bounds-take-end-in-len2 g c = refl

pub slice_bounds-take_two-end : goal.slice_bounds-take_two-end
slice_bounds-take_two-end g c = refl

pub slice_bounds-take_two-end-in-len4 : goal.slice_bounds-take_two-end-in-len4
slice_bounds-take_two-end-in-len4 g c = refl

pub slice_bounds-take_two-end-in-len4-2 : goal.slice_bounds-take_two-end-in-len4-2
slice_bounds-take_two-end-in-len4-2 g c = refl

pub slice_bounds-take_two-end-in-len4-3 : goal.slice_bounds-take_two-end-in-len4-3
slice_bounds-take_two-end-in-len4-3 g c = refl
