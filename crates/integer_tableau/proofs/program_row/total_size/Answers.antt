use Rattle.std.proofs.Common.{rules, ◌∙◌, ap, nat_abs}
use Rattle.std.specs.Int.{w64}
use mir.Val.{SFits}
use Rattle.std.proofs.lemmas.Int.{to_z-of_z}
use Rattle.integer_tableau.proofs.EntrySums.{entry_at}
use Rattle.integer_tableau.proofs.Lists.{entry_size_more}
use Rattle.integer_tableau.proofs.program_row.total_size.Goals as goal

pub loop-entry-preserved : goal.loop-entry-preserved
loop-entry-preserved c =
    let es = c.args.entries.now in
    let i = c.loop-entry.entry-index in
    let f : SFits w64 (entry_at es i).number = search rules in
    entry_size_more es i c.loop-entry.total c.in_ok-total.total c.unsigned_abs.result c.loop-entry-test.true c.loop-entry.invariant
    (c.unsigned_abs.ensures.value ∙ ap nat_abs (to_z-of_z w64 (entry_at es i).number f)) c.in_ok-total.ensures.1
