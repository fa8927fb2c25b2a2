use Rattle.std.proofs.Common.{◌≤◌, [], nat_abs, subst, ◌∙◌, get_or, w64, to_z, of_z}
use Rattle.std.proofs.lemmas.List.{get_or_default}
use Rattle.integer_tableau.specs.Combined.{combined}
use Rattle.integer_tableau.proofs.Combining.{combined_row_within}
use Rattle.integer_tableau.proofs.SmallTimes.{one_past}
use Rattle.integer_tableau.proofs.limits.limit_by_each.Goals as goal

pub loop-i-preserved : goal.loop-i-preserved
loop-i-preserved c =
    let i = c.loop-i.i in
    let d = nat_abs (to_z w64 (of_z w64 c.args.denominator)) in
    let ps = c.args.program_rows.now in
    let ss = c.args.positions.now in
    let rows = c.args.rows.now in
    let limit = c.in_ok-limit.limit in
    one_past i c.loop-i.limit limit d ps ss rows c.args.reduced_costs.now c.in_ok-limit.ensures.more
    (λ e. combined_row_within d limit (get_or ps i []) ss rows (λ k.
    subst (λ cs. nat_abs (combined d cs ss rows k) ≤ limit)
    (c.index-program_rows-i.is ∙ get_or_default ps i c.index-program_rows-i.result [] c.loop-i-test.true)
    (c.in_ok-limit.ensures.within e k)))
    c.loop-i.invariant
